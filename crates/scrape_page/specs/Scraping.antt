-- What one scrape of a page does to its boards.
use Rattle.std.specs.Prelude.{◌≡◌, ℕ, ⊤, ◌⊎◌, List, [], ◌∷◌, ◌++◌, Some, map, slice_get, slice_set, Result, Ok, Err}
use Rattle.expo_text.specs.Scraped.{Family, Scraped}
use Rattle.register_rule.specs.declared.view.Answer.{Answer}
use Rattle.snapshot_scan.specs.declared.contended.Contended.{Contended}
use Rattle.registry_state.specs.Kept.{RegistryView}
use Rattle.scrape_http.specs.declared.source.NoScrape.{NoScrape}
use Rattle.scrape_http.specs.declared.source.NoScrape.TheVariants.{NoMemory}
use Rattle.scrape_server.specs.Again.{AsksAgain}
use Rattle.scrape_server.specs.Scrapes.{Scrapes}
use Rattle.scrape_merge.specs.Merged.{IsMerged}
use Rattle.scrape_page.specs.Families.{PageView}
use Rattle.scrape_page.specs.Shown.{IsPageShown}

module _ {X : Type 0} (made : X → X → Result Scraped NoScrape → Type 0) where
  -- each made one scrape, in order: what they were before, and after it
  abbrev pub AreMade : (old new : List X) → List Scraped → Type 0
  AreMade [] [] [] = ⊤
  AreMade (a ∷ old) (b ∷ new) (part ∷ parts) = made a b (Ok part) × AreMade old new parts
  AreMade _ _ _ = ⊥

  -- One made no scrape, for this reason. Those before it made one each, which they have kept and which nobody was given; those
  -- behind it are as they were.
  pub record IsStoppedAt (old new : List X) (why : NoScrape) : Type 0 where
    pub front : List X
    pub front' : List X
    pub at : X
    pub at' : X
    pub back : List X
    pub parts : List Scraped
    pub old_is : old ≡ front ++ at ∷ back
    pub new_is : new ≡ front' ++ at' ∷ back
    pub before : AreMade front front' parts
    pub none : made at at' (Err why)

  -- no scrape of all: there was no memory for the merge, and all are as they were; or one made none
  abbrev pub IsStopped : (old new : List X) → NoScrape → Type 0
  IsStopped old new why = ((why ≡ NoMemory) × (new ≡ old)) ⊎ IsStoppedAt old new why

module _ {S : Type 0} (n c h g : ℕ) (recorded : S → List Answer) (quit : S → ℕ) (gave : S → S → Answer → Type 0)
    (gave_up : S → S → Contended → Type 0) where
  -- what a board does that is asked for a scrape: its registry's own scrape, again up to three times where the scan was given up
  abbrev pub BoardScrapes : RegistryView S → RegistryView S → Result Scraped NoScrape → Type 0
  BoardScrapes = AsksAgain (Scrapes n c h g recorded quit gave gave_up) 3

  -- the board of this number alone was asked for a scrape, and gave this answer; all else is as it was
  pub record BoardAloneScrapes (number : ℕ) (old new : PageView S) (result : Result Scraped NoScrape) : Type 0 where
    pub before : RegistryView S
    pub after : RegistryView S
    pub at : slice_get old.boards number ≡ Some before
    pub scrapes : BoardScrapes before after result
    pub new_is : new ≡ record old { boards = slice_set old.boards number after }

  -- each board made a scrape, these are merged (the families of the merge are those that it shows: the page's, as `shown` says),
  -- and so what all boards hold is shown at their newest scrapes
  pub record ShowsPage (old new : PageView S) (whole : Scraped) : Type 0 where
    pub families : new.families ≡ old.families
    pub parts : List Scraped
    pub each : AreMade BoardScrapes old.boards new.boards parts
    pub merged : IsMerged (map (λ (family : Family). family.desc) whole.families) parts whole
    pub shown : IsPageShown c h new whole

  -- a board made no scrape, or there was no memory
  pub record ShowsNoPage (old new : PageView S) (why : NoScrape) : Type 0 where
    pub families : new.families ≡ old.families
    pub stopped : IsStopped BoardScrapes old.boards new.boards why

  -- what one scrape of a page does, and answers
  abbrev pub PageScrapes : PageView S → PageView S → Result Scraped NoScrape → Type 0
  PageScrapes old new (Ok whole) = ShowsPage old new whole
  PageScrapes old new (Err why) = ShowsNoPage old new why
