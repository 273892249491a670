-- Boards that keep other windows, and boards of which one was asked, have their ids and their families.
use Rattle.std.proofs.Common.{◌≡◌, ℕ, List, [], ◌∷◌, Some, map, slice_get, get_or, set, refl, sym, subst}
use Rattle.std.specs.List.{AllZip}
use Rattle.std.proofs.lemmas.Option.{slice_get_within, get_or_from_slice_get}
use Rattle.registry_state.specs.Kept.{RegistryView}
use Rattle.scrape_merge.proofs.Zipped.{zip_set}
use Rattle.scrape_page.specs.Windows.{with_window}
use Rattle.scrape_page.proofs.Again.{SameFace, same_itself}

module _ {S : Type 0} where
  pub same_windowed : (window : ℕ) (boards : List (RegistryView S)) → AllZip SameFace boards (map (with_window window) boards)
  same_windowed window [] = tt
  same_windowed window (board ∷ boards) = (record { id = refl; families = refl }, same_windowed window boards)

  pub same_set : (boards : List (RegistryView S)) (at : ℕ) (a b : RegistryView S) → slice_get boards at ≡ Some a → SameFace a b
      → AllZip SameFace boards (set boards at b)
  same_set boards at a b there same = zip_set SameFace boards at b (slice_get_within boards at a there)
      (λ d. subst (λ (board : RegistryView S). SameFace board b) (sym (get_or_from_slice_get boards at a d there)) same)
      (λ k d within differ. same_itself (get_or boards k d))
