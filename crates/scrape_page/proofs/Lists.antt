-- Lists, of which one element is replaced, or whose elements change places.
use Rattle.std.proofs.Common.{◌≡◌, ◌≢◌, ℕ, zero, suc, List, [], ◌∷◌, ◌++◌, Some, length, map, set, get_or, refl, sym, ap}
use Rattle.std.proofs.Common.{subst, ◌∙◌, arith, append_assoc, AllPairs, Bool}
use Rattle.std.specs.Prelude.{flat_map, slice_get}
use Rattle.std.specs.Bool.{Decides, one_answer}
use Rattle.std.specs.List.Sorted.{IsPermutation}
use Rattle.std.proofs.lemmas.List.{get_or-map, length-map}
use Rattle.std.proofs.lemmas.List.Sorted.{IsPermutation-refl, IsPermutation-trans, IsPermutation-append_left}
use Rattle.std.proofs.lemmas.List.Sorted.{IsPermutation-append_right}
use Rattle.std.proofs.lemmas.List.Sorted.{IsPermutation-append_comm}
use Rattle.std.proofs.lemmas.Map.Keys.{IsDistinct-IsPermutation}
use Rattle.std.proofs.lemmas.Map.Made.{AllPairs-from_IsDistinct, IsDistinct-from_AllPairs}
use Rattle.std.proofs.lemmas.Slice.Eq.{slice_eq-Decides}
use Rattle.std.proofs.lemmas.Bool.Decides.{Decides-eqb}
use Rattle.std.specs.Prelude.{nat_eq}
use Rattle.std.specs.Cmp.Lexicographic.{pointwise}
use Rattle.registry_state.proofs.Lists.{pairs_map}

-- lists that are the same
pub same_elements : {X : Type 0} (xs ys : List X) → xs ≡ ys → IsPermutation xs ys
same_elements xs ys is = subst (IsPermutation xs) is (IsPermutation-refl xs)

-- what comes behind all comes behind a front that grows by it
pub moved_front : {X : Type 0} (xs ys rest more : List X) → IsPermutation (xs ++ more) ys → IsPermutation ((xs ++ rest) ++ more)
    (ys ++ rest)
moved_front xs ys rest more grown =
    IsPermutation-trans _ _ _ (same_elements _ _ (append_assoc xs rest more))
    (IsPermutation-trans _ _ _ (IsPermutation-append_right xs (rest ++ more) (more ++ rest) (IsPermutation-append_comm rest more))
    (IsPermutation-trans _ _ _ (same_elements _ _ (sym (append_assoc xs more rest)))
    (IsPermutation-append_left rest (xs ++ more) ys grown)))

-- what comes behind all comes behind a back that grows by it
pub moved_back : {X : Type 0} (xs ys front more : List X) → IsPermutation (xs ++ more) ys → IsPermutation ((front ++ xs) ++ more)
    (front ++ ys)
moved_back xs ys front more grown =
    IsPermutation-trans _ _ _ (same_elements _ _ (append_assoc front xs more)) (IsPermutation-append_right front (xs ++ more) ys
    grown)

-- an element takes the place of another, to which it adds
pub flat_set : {X Y : Type 0} (h : X → List Y) (xs : List X) (i : ℕ) (x y : X) (more : List Y) → slice_get xs i ≡ Some x
    → IsPermutation (h x ++ more) (h y) → IsPermutation (flat_map h xs ++ more) (flat_map h (set xs i y))
flat_set h [] i x y more is grown = absurd (cc)
flat_set h (z ∷ zs) zero x y more is grown =
    let same : x ≡ z = cc in
    moved_front (h z) (h y) (flat_map h zs) more (subst (λ w. IsPermutation (h w ++ more) (h y)) same grown)
flat_set h (z ∷ zs) (suc i) x y more is grown =
    moved_back (flat_map h zs) (flat_map h (set zs i y)) (h z) more (flat_set h zs i x y more is grown)

-- an element takes the place of another that comes to the same
pub flat_set_same : {X Y : Type 0} (h : X → List Y) (xs : List X) (i : ℕ) (x y : X) → slice_get xs i ≡ Some x → h y ≡ h x
    → flat_map h (set xs i y) ≡ flat_map h xs
flat_set_same h [] i x y is same = absurd (cc)
flat_set_same h (z ∷ zs) zero x y is same = let here : x ≡ z = cc in ap (λ l. l ++ flat_map h zs) (same ∙ ap h here)
flat_set_same h (z ∷ zs) (suc i) x y is same = ap (λ l. h z ++ l) (flat_set_same h zs i x y is same)

-- and one that is the same to a function
pub map_set_same : {X Y : Type 0} (f : X → Y) (xs : List X) (i : ℕ) (x y : X) → slice_get xs i ≡ Some x → f y ≡ f x
    → map f (set xs i y) ≡ map f xs
map_set_same f [] i x y is same = absurd (cc)
map_set_same f (z ∷ zs) zero x y is same = let here : x ≡ z = cc in ap (λ w. w ∷ map f zs) (same ∙ ap f here)
map_set_same f (z ∷ zs) (suc i) x y is same = ap (λ l. f z ∷ l) (map_set_same f zs i x y is same)

-- pairs of what a function makes of each
pub pairs_unmap : {X Y : Type 0} (R : Y → Y → Type 0) (f : X → Y) (xs : List X) → AllPairs R (map f xs)
    → AllPairs (λ a b. R (f a) (f b)) xs
pairs_unmap R f xs pairs i j d lt within =
    let n : length (map f xs) ≡ length xs = length-map xs f in
    let e : get_or (map f xs) i (f d) ≡ f (get_or xs i d) = get_or-map f xs i d (f d) (omega (arith, within, lt)) in
    let h : get_or (map f xs) j (f d) ≡ f (get_or xs j d) = get_or-map f xs j d (f d) within in
    subst (λ v. R v (f (get_or xs j d))) e
    (subst (λ v. R (get_or (map f xs) i (f d)) v) h (pairs i j (f d) lt (omega (arith, n, within))))

-- pairs of lists that are the same to a function
pub pairs_along : {X Y : Type 0} (R : Y → Y → Type 0) (f : X → Y) (xs ys : List X) → map f ys ≡ map f xs
    → AllPairs (λ a b. R (f a) (f b)) xs → AllPairs (λ a b. R (f a) (f b)) ys
pairs_along R f xs ys same pairs = pairs_unmap R f ys (subst (AllPairs R) (sym same) (pairs_map R f xs pairs))

-- two tests that decide the same
flipped : {X : Type 0} (a b : Bool) (x y : X) → Decides a (x ≡ y) → Decides b (y ≡ x) → a ≡ b
flipped a b x y left right = one_answer a b left (λ is. sym (right.0 is), λ same. right.1 (sym same))

-- label values that differ stay so when they change places
pub distinct_moved : (xs ys : List (List (List ℕ))) → IsPermutation xs ys → AllPairs (λ a b. a ≢ b) xs → AllPairs (λ a b. a ≢ b)
    ys
distinct_moved xs ys moved distinct =
    let same = values_same in
    AllPairs-from_IsDistinct same ys
    (IsDistinct-IsPermutation (pointwise (pointwise nat_eq))
    (λ x y. flipped (pointwise (pointwise nat_eq) x y) (pointwise (pointwise nat_eq) y x) x y (same x y) (same y x)) xs ys moved
    (IsDistinct-from_AllPairs same xs distinct))
  where
    texts_same : (a b : List ℕ) → Decides (pointwise nat_eq a b) (a ≡ b)
    texts_same a b = slice_eq-Decides Decides-eqb a b (pointwise nat_eq a b) refl

    values_same : (a b : List (List ℕ)) → Decides (pointwise (pointwise nat_eq) a b) (a ≡ b)
    values_same a b = slice_eq-Decides texts_same a b (pointwise (pointwise nat_eq) a b) refl
