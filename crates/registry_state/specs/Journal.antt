-- The journal: what was registered, what was made and what was scraped, in order.
use Rattle.std.specs.Prelude.{ℕ, zero, suc, ◌-◌, List, [], ◌∷◌, length}
use Rattle.metric_desc.specs.Desc.{Descriptor}
use Rattle.register_rule.specs.declared.view.Answer.{Answer}

-- a change of what is scraped, as contracts see it (a `NotedChange` is what the journal keeps of it, with shared texts): a family
-- was registered; or a child of these label values was made of the family of this number, and this slot counts for it
pub data RegistryChange : Type 0 where
  Registered : (desc : Descriptor) → RegistryChange
  ChildMade : (family : ℕ) → (values : List (List ℕ)) → (slot : ℕ) → RegistryChange

-- one entry of the journal: what was registered or made, or the answer of the scan that a scrape was made by (expo_text's
-- `Scraped` is the scrape that it gave)
pub data Entry : Type 0 where
  Changed : (change : RegistryChange) → Entry
  Scraped : (answer : Answer) → Entry

-- the changes of a journal
abbrev pub changes : List Entry → List RegistryChange
changes [] = []
changes (Changed change ∷ entries) = change ∷ changes entries
changes (Scraped answer ∷ entries) = changes entries

-- its kept scrapes, from the oldest: of each the source's answer, a vector and totals, which is read out as a `Snapshot`; what
-- the call gave of it, the families and their numbers (a `Scrape`), is not kept
abbrev pub scrapes : List Entry → List Answer
scrapes [] = []
scrapes (Changed change ∷ entries) = scrapes entries
scrapes (Scraped answer ∷ entries) = answer ∷ scrapes entries

-- a journal without its oldest scrape
abbrev pub without_oldest : List Entry → List Entry
without_oldest [] = []
without_oldest (Changed change ∷ entries) = Changed change ∷ without_oldest entries
without_oldest (Scraped answer ∷ entries) = entries

-- a journal without its n oldest scrapes
abbrev pub without : ℕ → List Entry → List Entry
without zero journal = journal
without (suc n) journal = without n (without_oldest journal)

-- a journal without the oldest scrapes that are over the window
abbrev pub within : (window : ℕ) → List Entry → List Entry
within window journal = without (length (scrapes journal) - window) journal
