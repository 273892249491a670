-- A page with one board more, and one without families.
use Rattle.std.proofs.Common.{◌≡◌, ◌≢◌, ℕ, ◌<◌, List, [], ◌∷◌, ◌++◌, length, sym, ap}
use Rattle.std.proofs.Common.{subst, ◌∙◌, arith, All, AllPairs, Contains}
use Rattle.std.specs.Prelude.{Result, Ok, Err, OnOk, is_err, false}
use Rattle.std.specs.List.Sorted.{IsPermutation}
use Rattle.std.proofs.lemmas.List.{length_push, nil_from_length}
use Rattle.std.proofs.lemmas.List.Elements.{All-nil, All-cons, All-weaker, All-push}
use Rattle.std.proofs.lemmas.List.Quantifiers.{all_pairs_push}
use Rattle.registry_state.specs.Replay.{Family}
use Rattle.registry_state.specs.Kept.{RegistryView}
use Rattle.registry_state.proofs.Ordered.{order_none}
use Rattle.scrape_page.specs.Families.{PageFamily, descs_of}
use Rattle.scrape_page.specs.Faults.{IsFresh}
use Rattle.scrape_page.specs.Kept.{IsSpread, IsHeldPage}
use Rattle.scrape_page.proofs.Located.{places_push}
use Rattle.scrape_page.proofs.Valued.{values_push}

-- what holds where there is no refusal, and there is none
pub when_ok : {T E : Type 0} (r : Result T E) (P : Type 0) → false ≡ is_err r → OnOk r P → P
when_ok (Ok x) P none here = here
when_ok (Err e) P none here = absurd cc

-- what holds of each of no families
each_none : (P : Family → Type 0) (families : List Family) → families ≡ [] → All P families
each_none P families none = subst (All P) (sym none) (All-nil P)

pairs_none : (R : Family → Family → Type 0) (families : List Family) → families ≡ [] → AllPairs R families
pairs_none R families none = subst (AllPairs R) (sym none) (λ i j d lt within. absurd (omega (arith, within)))

module _ {S : Type 0} (board : RegistryView S) where
  no_family : length board.state.families ≡ 0 → board.state.families ≡ []
  no_family empty = nil_from_length board.state.families empty

  -- a page of one board
  pub held_new : length board.state.families ≡ 0 → IsHeldPage (record { boards = board ∷ []; families = [] }) []
  held_new empty = record {
    page_is = record {
      some = omega arith;
      most = omega arith;
      ids = λ i j d lt within. absurd (omega (arith, lt, within));
      few = omega arith;
      apart = λ i j d lt within. absurd (omega (arith, within));
      known = All-cons (λ (b : RegistryView S). All (λ (f : Family). Contains (descs_of []) f.desc) b.state.families) board []
          (each_none (λ (f : Family). Contains (descs_of []) f.desc) board.state.families (no_family empty))
          (All-nil (λ (b : RegistryView S). All (λ (f : Family). Contains (descs_of []) f.desc) b.state.families));
      once = All-cons (λ (b : RegistryView S). AllPairs (λ (x y : Family). x.desc.name ≢ y.desc.name) b.state.families) board []
          (pairs_none (λ (x y : Family). x.desc.name ≢ y.desc.name) board.state.families (no_family empty))
          (All-nil (λ (b : RegistryView S). AllPairs (λ (x y : Family). x.desc.name ≢ y.desc.name) b.state.families));
      spread = All-nil (IsSpread (board ∷ []));
      groups = λ i j d lt within. absurd (omega (arith, within));
    };
    ordered = order_none;
  }

  -- one board more
  pub held_board : (boards : List (RegistryView S)) (families : List PageFamily) (order : List ℕ)
      → IsHeldPage (record { boards = boards; families = families }) order → length boards < 96 → IsFresh boards board
      → IsHeldPage (record { boards = boards ++ board ∷ []; families = families }) order
  held_board boards families order held few fresh =
      let is = held.page_is in
      let n = length_push boards board in
      let none = no_family fresh.empty in
      record {
        page_is = record {
          some = omega (arith, n);
          most = omega (arith, n, few);
          ids = all_pairs_push (λ (a b : RegistryView S). a.id ≢ b.id) boards board is.ids fresh.new;
          few = is.few;
          apart = is.apart;
          known = All-push (λ (b : RegistryView S). All (λ (f : Family). Contains (descs_of families) f.desc) b.state.families)
              boards board
              is.known (each_none (λ (f : Family). Contains (descs_of families) f.desc) board.state.families none);
          once = All-push (λ (b : RegistryView S). AllPairs (λ (x y : Family). x.desc.name ≢ y.desc.name) b.state.families) boards
              board
              is.once (pairs_none (λ (x y : Family). x.desc.name ≢ y.desc.name) board.state.families none);
          spread = All-weaker (IsSpread boards) (IsSpread (boards ++ board ∷ [])) (λ family spread. record {
            parts = subst (λ l. IsPermutation l family.parts) (sym (places_push family.desc.name boards board none)) spread.parts;
            first = spread.first;
            distinct = subst (AllPairs (λ a b. a ≢ b)) (sym (values_push family.desc.name boards board none)) spread.distinct;
            count = ap length (values_push family.desc.name boards board none) ∙ spread.count;
            limit = spread.limit;
            home = let here = spread.home in omega (arith, n, here);
          }) families is.spread;
          groups = is.groups;
        };
        ordered = held.ordered;
      }
