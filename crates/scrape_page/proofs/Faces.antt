-- A page whose boards have kept their ids and their families is a page.
use Rattle.std.proofs.Common.{◌≡◌, ◌≢◌, ℕ, List, [], ◌∷◌, ◌++◌, length, map, All, AllPairs, Contains, refl, sym, ap, ap₂}
use Rattle.std.proofs.Common.{subst, ◌∙◌, arith}
use Rattle.std.specs.List.{AllZip}
use Rattle.std.specs.List.Sorted.{IsPermutation}
use Rattle.std.proofs.lemmas.List.Elements.{All-weaker}
use Rattle.std.proofs.lemmas.Slice.Zip.{AllZip-long}
use Rattle.registry_state.specs.Replay.{Family}
use Rattle.registry_state.specs.Kept.{RegistryView}
use Rattle.scrape_merge.proofs.Zipped.{zip_map, zip_all, pairs_same}
use Rattle.scrape_page.specs.declared.family.Part.{Part}
use Rattle.scrape_page.specs.Families.{PageFamily, descs_of}
use Rattle.scrape_page.specs.Places.{of_name, values_in, part_at, numbers_of, next_board, values_of, places_of}
use Rattle.scrape_page.specs.Kept.{IsSpread, IsPage, IsHeldPage}
use Rattle.scrape_page.proofs.Again.{SameFace}

module _ {S : Type 0} where
  values_still : (name : List ℕ) (old new : List (RegistryView S)) → AllZip SameFace old new
      → values_of name new ≡ values_of name old
  values_still name [] [] all = refl
  values_still name [] (b ∷ new) all = absurd all
  values_still name (a ∷ old) [] all = absurd all
  values_still name (a ∷ old) (b ∷ new) all =
      ap₂ (λ (first rest : List (List (List ℕ))). first ++ rest)
      (ap (λ (families : List Family). of_name values_in name families) all.0.families) (values_still name old new all.1)

  places_still : (name : List ℕ) (old new : List (RegistryView S)) → AllZip SameFace old new
      → places_of name new ≡ places_of name old
  places_still name [] [] all = refl
  places_still name [] (b ∷ new) all = absurd all
  places_still name (a ∷ old) [] all = absurd all
  places_still name (a ∷ old) (b ∷ new) all =
      ap₂ (λ (first rest : List Part). first ++ rest)
      (ap (λ (families : List Family). map (part_at 0) (numbers_of name families)) all.0.families)
      (ap (map next_board) (places_still name old new all.1))

  module _ (old new : List (RegistryView S)) (all : AllZip SameFace old new) where
    spread_still : (family : PageFamily) → IsSpread old family → IsSpread new family
    spread_still family spread =
        let values : values_of family.desc.name new ≡ values_of family.desc.name old = values_still family.desc.name old new all
        in
        record {
          parts = subst (λ (places : List Part). IsPermutation places family.parts)
              (sym (places_still family.desc.name old new all)) spread.parts;
          first = spread.first;
          distinct = subst (AllPairs (λ (a b : List (List ℕ)). a ≢ b)) (sym values) spread.distinct;
          count = ap length values ∙ spread.count;
          limit = spread.limit;
          home = let many = AllZip-long SameFace old new all in let home = spread.home in omega arith;
        }

    page_still : (families : List PageFamily) → IsPage (record { boards = old; families = families })
        → IsPage (record { boards = new; families = families })
    page_still families page =
        let many = AllZip-long SameFace old new all in
        record {
          some = let some = page.some in omega arith;
          most = let most = page.most in omega arith;
          ids = pairs_same (λ (a b : ℕ). a ≢ b) (λ (board : RegistryView S). board.id) (λ (board : RegistryView S). board.id) old
              new
              (zip_map SameFace (λ (board : RegistryView S). board.id) (λ (board : RegistryView S). board.id)
              (λ a b same. same.id) old new all) page.ids;
          few = page.few;
          apart = page.apart;
          known = zip_all
              (λ (board : RegistryView S). All (λ (family : Family). Contains (descs_of families) family.desc)
              board.state.families)
              SameFace
              (λ (board : RegistryView S). All (λ (family : Family). Contains (descs_of families) family.desc)
              board.state.families)
              (λ a b known same. subst (All (λ (family : Family). Contains (descs_of families) family.desc)) (sym same.families)
              known)
              old new page.known all;
          once = zip_all (λ (board : RegistryView S). AllPairs (λ (a b : Family). a.desc.name ≢ b.desc.name) board.state.families)
              SameFace
              (λ (board : RegistryView S). AllPairs (λ (a b : Family). a.desc.name ≢ b.desc.name) board.state.families)
              (λ a b once same. subst (AllPairs (λ (a b : Family). a.desc.name ≢ b.desc.name)) (sym same.families) once)
              old new page.once all;
          spread = All-weaker (IsSpread old) (IsSpread new) spread_still families page.spread;
          groups = page.groups;
        }

    pub held_still : (families : List PageFamily) (order : List ℕ)
        → IsHeldPage (record { boards = old; families = families }) order
        → IsHeldPage (record { boards = new; families = families }) order
    held_still families order held = record {
      page_is = page_still families held.page_is;
      ordered = held.ordered;
    }
