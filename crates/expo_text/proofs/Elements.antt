-- Lists that are checked element by element.
use Rattle.std.proofs.Common.{◌≡◌, ◌↔◌, ℕ, ◌+◌, ◌-◌, ◌<◌, ◌≤◌, true, false, IsTrue, List, [], ◌∷◌, ◌++◌, length, take, get_or}
use Rattle.std.proofs.Common.{All, AllPairs, refl, sym, ap, ap₂, subst, ◌∙◌, arith, ⊎_elim}
use Rattle.std.proofs.lemmas.Bool.{cases_lt}
use mathlib.Core.Bool.{true≢false}
use Rattle.std.proofs.lemmas.List.{take_more, take_all, length-take, get_or-take, get_or_default}
use Rattle.std.proofs.lemmas.List.Elements.{All-more}
use Rattle.std.proofs.lemmas.List.Quantifiers.{all_pairs_push}
use Rattle.std.specs.Cmp.{IsTotalOrder}
use Rattle.std.specs.declared.cmp.Ordering.{Ordering}
use Rattle.std.specs.declared.cmp.Ordering.TheVariants.{Less}
use Rattle.std.proofs.lemmas.Map.Keys.{Less-from_sorted, sorted_from_all_adjacent}

-- one more element with the property
pub all_next : {X : Type 0} (P : X → Type 0) (xs : List X) (i : ℕ) (x : X) → i < length xs → x ≡ get_or xs i x → All P (take i xs)
    → P x → All P (take (i + 1) xs)
all_next P xs i x within is all p = All-more P xs i x within all (subst P is p)

-- the elements before a place, where the place is the end
pub all_taken : {X : Type 0} (P : X → Type 0) (xs : List X) (i : ℕ) → length xs ≤ i → All P (take i xs) → All P xs
all_taken P xs i end all = subst (All P) (take_all i xs end) all

-- one more element, and those before it stand in the relation to it
pub pairs_next : {X : Type 0} (R : X → X → Type 0) (xs : List X) (i : ℕ) (x : X) → i < length xs → x ≡ get_or xs i x
    → AllPairs R (take i xs) → All (λ a. R a x) (take i xs) → AllPairs R (take (i + 1) xs)
pairs_next R xs i x within is pairs all =
    let e : take (i + 1) xs ≡ take i xs ++ x ∷ [] = take_more xs i x within ∙ ap (λ y. take i xs ++ y ∷ []) (sym is) in
    subst (AllPairs R) (sym e) (all_pairs_push R (take i xs) x pairs all)

pub pairs_taken : {X : Type 0} (R : X → X → Type 0) (xs : List X) (i : ℕ) → length xs ≤ i → AllPairs R (take i xs) → AllPairs R xs
pairs_taken R xs i end pairs = subst (AllPairs R) (take_all i xs end) pairs

-- of the elements before the place i, each is less than the next
abbrev pub AreRising : {X : Type 0} → (X → X → Ordering) → List X → ℕ → Type 0
AreRising {X} cmp xs i = (k : ℕ) (d : X) → k + 1 < i → cmp (get_or xs k d) (get_or xs (k + 1) d) ≡ Less

-- one more element
pub rising_next : {X : Type 0} (cmp : X → X → Ordering) (xs : List X) (i : ℕ)
    → ((d : X) → 0 < i → cmp (get_or xs (i - 1) d) (get_or xs i d) ≡ Less) → AreRising cmp xs i → AreRising cmp xs (i + 1)
rising_next cmp xs i last before k d lt = ⊎_elim
    (λ earlier. before k d earlier)
    (λ late.
    let p : i - 1 ≡ k = omega (arith, late, lt) in
    let q : i ≡ k + 1 = omega (arith, late, lt) in
    subst (λ j. cmp (get_or xs k d) (get_or xs j d) ≡ Less) q
    (subst (λ j. cmp (get_or xs j d) (get_or xs i d) ≡ Less) p (last d (omega (arith, late)))))
    (cases_lt (k + 1) i)

-- where each element is less than the next, each is less than all that follow
pub rising_pairs : {X : Type 0} (cmp : X → X → Ordering) → IsTotalOrder cmp → (xs : List X) (i : ℕ) → length xs ≤ i
    → AreRising cmp xs i → AllPairs (λ a b. cmp a b ≡ Less) xs
rising_pairs cmp total xs i end rising = λ a b d lt within.
    Less-from_sorted cmp xs a b d (sorted_from_all_adjacent total xs d (λ k more. rising k d (omega (arith, more, end)))) lt
    within

-- an answer of yes to what holds, and of no to what does not
pub yes : {P : Type 0} → P → IsTrue true ↔ P
yes p = (λ _. p, λ _. refl)

pub no : {P : Type 0} → ¬ P → IsTrue false ↔ P
no fails = (λ h. absurd (true≢false (sym h)), λ p. absurd (fails p))

-- what would make an answer of no a yes does not hold
pub never : {P : Type 0} → (P → IsTrue false) → ¬ P
never said p = true≢false (sym (said p))

-- one element without the property
pub all_but : {X : Type 0} (P : X → Type 0) (xs : List X) (i : ℕ) (x : X) → i < length xs → x ≡ get_or xs i x → ¬ (P x)
    → ¬ (All P xs)
all_but P xs i x within is fails all = fails (subst P (sym is) (all i x within))

-- one pair that does not stand in the relation
pub pair_but : {X : Type 0} (R : X → X → Type 0) (xs : List X) (i j : ℕ) (x y : X) → i < j → j < length xs → x ≡ get_or xs i x
    → y ≡ get_or xs j y → ¬ (R x y) → ¬ (AllPairs R xs)
pair_but R xs i j x y lt within is_x is_y fails pairs =
    let at_x : get_or xs i y ≡ x = get_or_default xs i y x (omega arith) ∙ sym is_x in
    fails (subst (λ a. R a y) at_x (subst (R (get_or xs i y)) (sym is_y) (pairs i j y lt within)))

-- one element that some element before it does not stand in the relation to
pub pairs_but : {X : Type 0} (R : X → X → Type 0) (xs : List X) (j : ℕ) (y : X) → j < length xs → y ≡ get_or xs j y
    → ¬ (All (λ a. R a y) (take j xs)) → ¬ (AllPairs R xs)
pairs_but R xs j y within is fails pairs = fails (λ k d lt.
    let k_lt : k < j = omega (arith, length-take j xs) in
    let e : get_or (take j xs) k d ≡ get_or xs k y = get_or-take j xs k d k_lt ∙ get_or_default xs k d y (omega arith) in
    subst (λ a. R a y) (sym e) (subst (R (get_or xs k y)) (sym is) (pairs k j y k_lt within)))

-- an element that is less than the next, where those before it are
pub rising_at : {X : Type 0} (cmp : X → X → Ordering) (xs : List X) (i : ℕ) (x y : X) → 0 < i → i < length xs
    → x ≡ get_or xs (i - 1) x → y ≡ get_or xs i y → cmp x y ≡ Less → AreRising cmp xs i → AreRising cmp xs (i + 1)
rising_at cmp xs i x y later within is_x is_y less = rising_next cmp xs i (λ d _.
    let at_x : get_or xs (i - 1) d ≡ x = get_or_default xs (i - 1) d x (omega arith) ∙ sym is_x in
    let at_y : get_or xs i d ≡ y = get_or_default xs i d y within ∙ sym is_y in
    ap₂ cmp at_x at_y ∙ less)
