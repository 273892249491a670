-- What follows from what a page keeps.
use Rattle.std.proofs.Common.{◌≡◌, ◌≢◌, ℕ, zero, suc, ◌*◌, ◌<◌, List, [], ◌∷◌, ◌++◌, Some, length, map, set, get_or, refl}
use Rattle.std.proofs.Common.{sym, ap}
use Rattle.std.proofs.Common.{subst, ◌∙◌, arith, All, AllPairs, Contains, inl, inr}
use Rattle.std.specs.Prelude.{slice_get, if◌then◌else◌}
use Rattle.std.proofs.lemmas.List.{get_or-set_other, get_or-set_same, length-map}
use Rattle.std.proofs.Math.ListN.{length-set}
use Rattle.std.proofs.lemmas.List.Elements.{All-head, All-tail, All-weaker, All-map}
use Rattle.std.proofs.lemmas.List.Sorted.{All-permutation}
use Rattle.std.proofs.lemmas.Option.{get_or_from_slice_get, slice_get_within}
use Rattle.metric_desc.specs.Desc.{Descriptor, Clash}
use Rattle.registry_state.specs.Replay.{Family}
use Rattle.registry_state.specs.Kept.{RegistryView}
use Rattle.registry_state.proofs.Lists.{cases_order}
use Rattle.registry_state.proofs.Ordered.{own_name}
use Rattle.scrape_page.specs.Families.{PageFamily, PageView, descs_of}
use Rattle.scrape_page.specs.Faults.{AreApart}
use Rattle.scrape_page.specs.Kept.{IsPage, IsSpread}
use Rattle.scrape_page.specs.Places.{of_name, values_in, values_of, part_at, numbers_of, next_board, places_of, HasPart}
use Rattle.scrape_page.proofs.Located.{name_no, places_named}

-- where some fit, one does
pub one_fits : (n size top : ℕ) → 0 < n → n * size < top → size < top
one_fits zero size top some all = absurd (omega (arith, some))
one_fits (suc n) size top some all = omega (arith, all)

-- what holds of each holds of the one at a place
pub all_there : {X : Type 0} (P : X → Type 0) (xs : List X) (i : ℕ) (x : X) → slice_get xs i ≡ Some x → All P xs → P x
all_there P xs i x is all = subst P (get_or_from_slice_get xs i x x is) (all i x (slice_get_within xs i x is))

-- what holds of each but one, and of what takes the place of that one
pub all_others : {X : Type 0} (P : X → Type 0) (xs : List X) (i : ℕ) (y : X)
    → ((k : ℕ) (d : X) → k < length xs → k ≢ i → P (get_or xs k d)) → P y → All P (set xs i y)
all_others P xs i y others here k d within =
    let n = length-set xs i y in
    elim (cases_order k i) [
      | inl lt ↦ other (λ e. absurd (omega (arith, lt, e)))
      | inr rest ↦ elim rest [
        | inl e ↦ subst (λ j. P (get_or (set xs i y) j d)) (sym e)
            (subst P (sym (get_or-set_same xs i y d (omega (arith, within, n, e)))) here)
        | inr gt ↦ other (λ e. absurd (omega (arith, gt, e)))
      ]
    ]
  where
    other : k ≢ i → P (get_or (set xs i y) k d)
    other differ = let n = length-set xs i y in
        subst P (sym (get_or-set_other xs i k y d differ)) (others k d (omega (arith, within, n)) differ)

-- two elements at different places, in whichever order
pub pair_there : {X : Type 0} (R : X → X → Type 0) → ((a b : X) → R a b → R b a) → (xs : List X) (i j : ℕ) (d : X) → AllPairs R xs
    → i < length xs → j < length xs → i ≢ j → R (get_or xs i d) (get_or xs j d)
pair_there R turned xs i j d pairs in_i in_j differ = elim (cases_order i j) [
  | inl lt ↦ pairs i j d lt in_j
  | inr rest ↦ elim rest [
    | inl e ↦ absurd (differ e)
    | inr gt ↦ turned (get_or xs j d) (get_or xs i d) (pairs j i d gt in_i)
  ]
]

-- families that do not clash have other names, and do not clash the other way round
pub names_apart : (a b : Descriptor) → ¬ (Clash a b) → a.name ≢ b.name
names_apart a b apart same = apart (
  a.name,
  own_name a,
  subst (Contains (Rattle.metric_desc.specs.Desc.names_of b)) (sym same)
      (own_name b),
)

pub turned : (a b : PageFamily) → ¬ (Clash a.desc b.desc) → ¬ (Clash b.desc a.desc)
turned a b apart clash = apart (clash.0, clash.2, clash.1)

-- a known descriptor is that of a family
pub known_at : (families : List PageFamily) (desc : Descriptor) → Contains (descs_of families) desc
    → (k : ℕ) × (p : PageFamily) × (slice_get families k ≡ Some p) × (p.desc ≡ desc)
known_at [] desc known = absurd (omega (arith, known.1))
known_at (p ∷ families) desc (zero, lt, is) = (0, p, refl, is)
known_at (p ∷ families) desc (suc k, lt, is) =
    let rest = known_at families desc (k, omega (arith, lt), is) in (suc rest.0, rest.1, rest.2, rest.3)

-- where no family has the name
pub no_numbers : (name : List ℕ) (families : List Family) → All (λ (family : Family). family.desc.name ≢ name) families
    → numbers_of name families ≡ []
no_numbers name [] all = refl
no_numbers name (family ∷ families) all =
    ap (λ b. (if b then 0 ∷ [] else []) ++ map (λ n. suc n) (numbers_of name families))
    (name_no family.desc.name name (All-head (λ (f : Family). f.desc.name ≢ name) family families all))
    ∙ ap (map (λ n. suc n)) (no_numbers name families (All-tail (λ (f : Family). f.desc.name ≢ name) family families all))

pub no_values : (name : List ℕ) (families : List Family) → All (λ (family : Family). family.desc.name ≢ name) families
    → of_name values_in name families ≡ []
no_values name [] all = refl
no_values name (family ∷ families) all =
    ap (λ b. (if b then values_in family else []) ++ of_name values_in name families)
    (name_no family.desc.name name (All-head (λ (f : Family). f.desc.name ≢ name) family families all))
    ∙ no_values name families (All-tail (λ (f : Family). f.desc.name ≢ name) family families all)

module _ {S : Type 0} (name : List ℕ) where
  -- no family of the board has the name
  abbrev pub HasNone : RegistryView S → Type 0
  HasNone board = All (λ (family : Family). family.desc.name ≢ name) board.state.families

  pub places_none : (boards : List (RegistryView S)) → All HasNone boards → places_of name boards ≡ []
  places_none [] all = refl
  places_none (board ∷ boards) all =
      ap (λ l. map (part_at 0) l ++ map next_board (places_of name boards))
      (no_numbers name board.state.families (All-head HasNone board boards all))
      ∙ ap (map next_board) (places_none boards (All-tail HasNone board boards all))

  pub values_none : (boards : List (RegistryView S)) → All HasNone boards → values_of name boards ≡ []
  values_none [] all = refl
  values_none (board ∷ boards) all =
      ap (λ l. l ++ values_of name boards) (no_values name board.state.families (All-head HasNone board boards all))
      ∙ values_none boards (All-tail HasNone board boards all)

module _ {S : Type 0} (page : PageView S) (is : IsPage page) where
  -- the family of a board is, word for word, the family of the page that has its name
  pub same_desc : (number : ℕ) (p : PageFamily) (desc : Descriptor) → slice_get page.families number ≡ Some p
      → Contains (descs_of page.families) desc → desc.name ≡ p.desc.name → desc ≡ p.desc
  same_desc number p desc at known name =
      let found = known_at page.families desc known in
      let q : PageFamily = found.1 in
      let read : get_or page.families found.0 p ≡ q = get_or_from_slice_get page.families found.0 q p found.2 in
      let here : get_or page.families number p ≡ p = get_or_from_slice_get page.families number p p at in
      let in_q = slice_get_within page.families found.0 q found.2 in
      let in_p = slice_get_within page.families number p at in
      let differ : found.0 ≢ number → ⊥ = λ other. names_apart q.desc p.desc
      (subst (λ (x : PageFamily). ¬ (Clash x.desc p.desc)) read
      (subst (λ (y : PageFamily). ¬ (Clash (get_or page.families found.0 p).desc y.desc)) here
      (pair_there (λ (a b : PageFamily). ¬ (Clash a.desc b.desc)) turned page.families found.0 number p is.apart in_q in_p
      other)))
      (ap (λ (d : Descriptor). d.name) found.3 ∙ name) in
      elim (cases_order found.0 number) [
        | inl lt ↦ absurd (differ (λ e. absurd (omega (arith, lt, e))))
        | inr rest ↦ elim rest [
          | inl e ↦ sym found.3 ∙ ap (λ (x : PageFamily). x.desc) (sym read ∙ ap (λ k. get_or page.families k p) e ∙ here)
          | inr gt ↦ absurd (differ (λ e. absurd (omega (arith, gt, e))))
        ]
      ]

  -- no board has a family of the name of a descriptor that clashes with none of the page's families
  pub none_of : (desc : Descriptor) → AreApart page.families desc → All (HasNone desc.name) page.boards
  none_of desc apart = All-weaker (λ (board : RegistryView S). All (λ (family : Family). Contains (descs_of page.families)
      family.desc)
      board.state.families) (HasNone desc.name)
      (λ board known. All-weaker (λ (family : Family). Contains (descs_of page.families) family.desc)
      (λ (family : Family). family.desc.name ≢ desc.name)
      (λ family there. let found = known_at page.families family.desc there in
      λ same. names_apart found.1.desc desc
      (all_there (λ (p : PageFamily). ¬ (Clash p.desc desc)) page.families found.0 found.1 found.2 apart)
      (ap (λ (d : Descriptor). d.name) found.3 ∙ same)) board.state.families known) page.boards is.known

  -- a part of a family is on a board, and there is a family of its descriptor
  pub part_there : (number : ℕ) (p : PageFamily) → slice_get page.families number ≡ Some p
      → All (λ part. HasPart page.boards part (λ _ (family : Family). family.desc.name ≡ p.desc.name)) p.parts
  part_there number p at =
      All-permutation (λ part. HasPart page.boards part (λ _ (family : Family). family.desc.name ≡ p.desc.name))
      (places_of p.desc.name page.boards) p.parts (all_there (IsSpread page.boards) page.families number p at is.spread).parts
      (Rattle.std.proofs.lemmas.List.Elements.All-from_recursion
      (λ part. HasPart page.boards part (λ _ (family : Family). family.desc.name ≡ p.desc.name)) (places_of p.desc.name
      page.boards)
      (places_named p.desc.name page.boards))
