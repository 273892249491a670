-- Scrapes that nobody is given.
use Rattle.std.proofs.Common.{◌≡◌, ℕ, zero, List, refl, map}
use Rattle.std.specs.Prelude.{Result, Ok, Err}
use Rattle.std.proofs.lemmas.List.Sorted.{IsPermutation-refl}
use Rattle.expo_text.specs.Scraped.{Scraped}
use Rattle.register_rule.specs.declared.view.Answer.{Answer}
use Rattle.registry_state.specs.Replay.{Family}
use Rattle.registry_state.specs.Shown.{family_shown, IsShown}
use Rattle.scrape_http.specs.declared.source.NoScrape.{NoScrape}
use Rattle.scrape_server.specs.Again.{AsksAgain}
use Rattle.scrape_server.proofs.Askings.{at_last}
use Rattle.scrape_page.specs.Unshown.{Unshown}

-- the scrape of these families at an answer, in their order
abbrev pub shown_of : (c h : ℕ) → List Family → Answer → Scraped
shown_of c h families answer = record { vector = answer.vector; families = map (family_shown c h answer.totals) families }

pub is_shown : (c h : ℕ) (families : List Family) (answer : Answer) → IsShown c h families answer (shown_of c h families answer)
is_shown c h families answer = record {
  vector = refl;
  families_are = IsPermutation-refl (map (family_shown c h answer.totals) families);
}

-- what was made is something else as well
pub unshown_as : {X Y : Type 0} (made : X → X → Result Scraped NoScrape → Type 0) (other : Y → Y → Result Scraped NoScrape → Type
    0)
    (a b : X) (x y : Y) → ((r : Result Scraped NoScrape) → made a b r → other x y r) → (result : Result (Unit {0}) NoScrape)
    → Unshown made a b result → Unshown other x y result
unshown_as made other a b x y so (Ok done) kept = (kept.0, so (Ok kept.0) kept.1)
unshown_as made other a b x y so (Err why) none = so (Err why) none

-- what follows from each answer
pub from_unshown : {X : Type 0} (made : X → X → Result Scraped NoScrape → Type 0) (a b : X) (So : Type 0)
    → ((r : Result Scraped NoScrape) → made a b r → So) → (result : Result (Unit {0}) NoScrape) → Unshown made a b result → So
from_unshown made a b So so (Ok done) kept = so (Ok kept.0) kept.1
from_unshown made a b So so (Err why) none = so (Err why) none

module _ {S : Type 0} (gave : S → S → Result Scraped NoScrape → Type 0) (all : ℕ) (before mid after : S) where
  -- it is asked no more
  pub kept_last : (more : ℕ) → more ≡ zero
      → ((x : S) (answer : Result Scraped NoScrape) → AsksAgain gave more mid x answer → AsksAgain gave all before x answer)
      → (result : Result (Unit {0}) NoScrape) → Unshown gave mid after result → Unshown (AsksAgain gave all) before after result
  kept_last more none so (Ok done) kept = (kept.0, so after (Ok kept.0) (at_last gave more none mid after (Ok kept.0) kept.1))
  kept_last more none so (Err why) given = so after (Err why) (at_last gave more none mid after (Err why) given)
