-- What a scrape of a page shows.
use Rattle.std.specs.Prelude.{◌≡◌, ℕ, List, Some, map, flat_map, zip, All}
use Rattle.std.specs.List.Sorted.{IsPermutation}
use Rattle.register_rule.specs.declared.view.Answer.{Answer}
use Rattle.expo_text.specs.Scraped.{Child as ChildShown, Family as FamilyShown, Scraped}
use Rattle.registry_state.specs.Replay.{Family}
use Rattle.registry_state.specs.Kept.{RegistryView}
use Rattle.registry_state.specs.Shown.{child_shown}
use Rattle.scrape_page.specs.Families.{PageView, descs_of}
use Rattle.scrape_page.specs.Places.{of_name}

module _ {S : Type 0} (c h : ℕ) where
  -- the children of a board's families of this name, with the totals of their slots at the board's answer
  abbrev pub shown_on : (name : List ℕ) → (RegistryView S × Answer) → List ChildShown
  shown_on name at = of_name (λ (family : Family). map (child_shown c h at.1.totals family.desc.kind) family.children) name
      at.0.state.families

  -- At the newest scrape that each board keeps: all vectors in a row, board by board; the families of the page, each once; and
  -- the children of each are those of the families of its name on all boards, each once, with the totals of their slots at the
  -- board that they are on.
  pub record IsPageShown (page : PageView S) (whole : Scraped) : Type 0 where
    pub answers : List Answer
    pub newest : map (λ (board : RegistryView S). board.state.last) page.boards ≡ map (λ (answer : Answer). Some answer) answers
    pub vector : whole.vector ≡ flat_map (λ (answer : Answer). answer.vector) answers
    pub families : IsPermutation (descs_of page.families) (map (λ (family : FamilyShown). family.desc) whole.families)
    pub children : All (λ (family : FamilyShown). IsPermutation (flat_map (shown_on family.desc.name) (zip page.boards answers))
        family.children) whole.families
