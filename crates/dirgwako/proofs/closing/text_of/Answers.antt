use Rattle.std.proofs.Common.{ℕ, Result, Ok, Err, ⊎_elim, inl, inr}
use Rattle.expo_text.specs.Scraped.{Scraped}
use Rattle.scrape_http.specs.declared.source.NoScrape.{NoScrape}
use Rattle.scrape_http.specs.declared.source.NoScrape.TheVariants as none
use Rattle.scrape_server.proofs.Askings.{asks_within}
use Rattle.dirgwako.specs.declared.printing.TextFault.{TextFault}
use Rattle.dirgwako.specs.declared.printing.TextFault.TheVariants.{NoMemory, Contended}
use Rattle.dirgwako.specs.Printing.{IsTextFault}
use Rattle.dirgwako.proofs.closing.text_of.Goals as goal

pub returns-in-Ok-clause-text : goal.returns-in-Ok-clause-text
returns-in-Ok-clause-text g c =
    let asked = c.in-Ok.ensures.text in
    (asked.0, asks_within g.X.MakesScrapes.made (λ s. s.state) g.X.MakesScrapes.again _ _ (Ok asked.0) asked.1, asked.2)

-- why a source that wraps another has no text is why that one has none
fault_within : {S T : Type 0} (made : T → T → Result Scraped NoScrape → Type 0) (inner : S → T) (again : ℕ)
    (before after : S) (fault : TextFault) → IsTextFault (λ a b r. made (inner a) (inner b) r) again before after fault
    → IsTextFault made again (inner before) (inner after) fault
fault_within made inner again before after Contended is = asks_within made inner again before after (Err none.Contended) is
fault_within made inner again before after NoMemory is = ⊎_elim
    (λ h. inl (asks_within made inner again before after (Err none.NoMemory) h))
    (λ t. inr (t.0, asks_within made inner again before after (Ok t.0) t.1))
    is

pub returns-in-Err-clause-fault : goal.returns-in-Err-clause-fault
returns-in-Err-clause-fault g c =
    fault_within g.X.MakesScrapes.made (λ s. s.state) g.X.MakesScrapes.again _ c.text_from-made.new.source c.in-Err.fault
    c.in-Err.ensures.fault
