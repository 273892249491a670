-- Two lists, place by place, and pairs of a list.
use Rattle.std.proofs.Common.{◌≡◌, ◌≢◌, ℕ, zero, suc, ◌<◌, List, [], ◌∷◌, ◌++◌, length, map, get_or, set, take, drop, All}
use Rattle.std.proofs.Common.{AllPairs, Contains}
use Rattle.std.proofs.Common.{refl, sym, ap, ap₂, subst, ◌∙◌, arith}
use Rattle.std.specs.List.{AllZip}
use Rattle.std.proofs.lemmas.List.{length-map, get_or-map, take_at}
use Rattle.std.proofs.lemmas.List.Elements.{All-cons, All-head, All-tail, All-nil}

-- one step behind another
pub zip_then : {X Y Z : Type 0} (R : X → Y → Type 0) (S : Y → Z → Type 0) (T : X → Z → Type 0)
    → ((x : X) (y : Y) (z : Z) → R x y → S y z → T x z) → (xs : List X) (ys : List Y) (zs : List Z) → AllZip R xs ys → AllZip S ys
    zs
    → AllZip T xs zs
zip_then R S T by [] [] [] r s = tt
zip_then R S T by [] [] (z ∷ zs) r s = absurd s
zip_then R S T by [] (y ∷ ys) zs r s = absurd r
zip_then R S T by (x ∷ xs) [] zs r s = absurd r
zip_then R S T by (x ∷ xs) (y ∷ ys) [] r s = absurd s
zip_then R S T by (x ∷ xs) (y ∷ ys) (z ∷ zs) r s = (by x y z r.0 s.0, zip_then R S T by xs ys zs r.1 s.1)

-- what holds of each of the first list, and of each two at one place
pub zip_all : {X Y : Type 0} (P : X → Type 0) (R : X → Y → Type 0) (Q : Y → Type 0) → ((x : X) (y : Y) → P x → R x y → Q y)
    → (xs : List X) (ys : List Y) → All P xs → AllZip R xs ys → All Q ys
zip_all P R Q by [] [] all zip = All-nil Q
zip_all P R Q by [] (y ∷ ys) all zip = absurd zip
zip_all P R Q by (x ∷ xs) [] all zip = absurd zip
zip_all P R Q by (x ∷ xs) (y ∷ ys) all zip =
    All-cons Q y ys (by x y (All-head P x xs all) zip.0) (zip_all P R Q by xs ys (All-tail P x xs all) zip.1)

-- two lists whose places have one value of a function have the same values of it
pub zip_map : {X Y Z : Type 0} (R : X → Y → Type 0) (f : X → Z) (g : Y → Z) → ((x : X) (y : Y) → R x y → g y ≡ f x)
    → (xs : List X) (ys : List Y) → AllZip R xs ys → map g ys ≡ map f xs
zip_map R f g by [] [] zip = refl
zip_map R f g by [] (y ∷ ys) zip = absurd zip
zip_map R f g by (x ∷ xs) [] zip = absurd zip
zip_map R f g by (x ∷ xs) (y ∷ ys) zip = ap₂ (λ z zs. z ∷ zs) (by x y zip.0) (zip_map R f g by xs ys zip.1)

pub zip_length : {X Y : Type 0} (R : X → Y → Type 0) (xs : List X) (ys : List Y) → AllZip R xs ys → length ys ≡ length xs
zip_length R [] [] zip = refl
zip_length R [] (y ∷ ys) zip = absurd zip
zip_length R (x ∷ xs) [] zip = absurd zip
zip_length R (x ∷ xs) (y ∷ ys) zip = ap suc (zip_length R xs ys zip.1)

-- a list beside itself
pub zip_same : {X : Type 0} (R : X → X → Type 0) (xs : List X) → All (λ x. R x x) xs → AllZip R xs xs
zip_same R [] all = tt
zip_same R (x ∷ xs) all = (All-head (λ x. R x x) x xs all, zip_same R xs (All-tail (λ x. R x x) x xs all))

-- a list beside itself with one element replaced
pub zip_set : {X : Type 0} (R : X → X → Type 0) (xs : List X) (i : ℕ) (y : X) → i < length xs → ((d : X) → R (get_or xs i d) y)
    → ((k : ℕ) (d : X) → k < length xs → k ≢ i → R (get_or xs k d) (get_or xs k d)) → AllZip R xs (set xs i y)
zip_set R [] i y within here others = absurd (omega (arith, within))
zip_set R (x ∷ xs) zero y within here others =
    (here x, zip_same R xs (λ k d lt. others (suc k) d (omega arith) (omega arith)))
zip_set R (x ∷ xs) (suc i) y within here others = (
  others zero x (omega arith) (omega arith),
  zip_set R xs i y (omega arith) here
      (λ k d lt differ. others (suc k) d (omega arith) (λ same. differ (omega (arith, same)))),
)

-- pairs of what a function makes of each
pub pairs_map : {X Y : Type 0} (R : Y → Y → Type 0) (f : X → Y) (xs : List X) → AllPairs (λ a b. R (f a) (f b)) xs
    → AllPairs R (map f xs)
pairs_map R f [] pairs i j d lt within = absurd (omega (arith, within))
pairs_map R f (x ∷ xs) pairs i j d lt within =
    let n : length (map f (x ∷ xs)) ≡ length (x ∷ xs) = length-map (x ∷ xs) f in
    let in_j : j < length (x ∷ xs) = omega (arith, n, within) in
    let in_i : i < length (x ∷ xs) = omega (arith, in_j, lt) in
    let e : get_or (map f (x ∷ xs)) i d ≡ f (get_or (x ∷ xs) i x) = get_or-map f (x ∷ xs) i x d in_i in
    let h : get_or (map f (x ∷ xs)) j d ≡ f (get_or (x ∷ xs) j x) = get_or-map f (x ∷ xs) j x d in_j in
    subst (λ v. R v (get_or (map f (x ∷ xs)) j d)) (sym e)
    (subst (λ v. R (f (get_or (x ∷ xs) i x)) v) (sym h) (pairs i j x lt in_j))

pub pairs_unmap : {X Y : Type 0} (R : Y → Y → Type 0) (f : X → Y) (xs : List X) → AllPairs R (map f xs)
    → AllPairs (λ a b. R (f a) (f b)) xs
pairs_unmap R f xs pairs i j d lt within =
    let n : length (map f xs) ≡ length xs = length-map xs f in
    let e : get_or (map f xs) i (f d) ≡ f (get_or xs i d) = get_or-map f xs i d (f d) (omega arith) in
    let h : get_or (map f xs) j (f d) ≡ f (get_or xs j d) = get_or-map f xs j d (f d) within in
    subst (λ v. R v (f (get_or xs j d))) e
    (subst (λ v. R (get_or (map f xs) i (f d)) v) h (pairs i j (f d) lt (omega (arith, n, within))))

-- pairs of two lists that have the same values of a function
pub pairs_same : {X Y Z : Type 0} (R : Z → Z → Type 0) (f : X → Z) (g : Y → Z) (xs : List X) (ys : List Y) → map g ys ≡ map f xs
    → AllPairs (λ a b. R (f a) (f b)) xs → AllPairs (λ a b. R (g a) (g b)) ys
pairs_same R f g xs ys same pairs = pairs_unmap R g ys (subst (AllPairs R) (sym same) (pairs_map R f xs pairs))

pub all_unmap : {X Y : Type 0} (P : Y → Type 0) (f : X → Y) (xs : List X) → All P (map f xs) → All (λ x. P (f x)) xs
all_unmap P f xs all k d within =
    let n : length (map f xs) ≡ length xs = length-map xs f in
    subst P (get_or-map f xs k d (f d) within) (all k (f d) (omega (arith, n, within)))

-- one element in the middle
pub all_mid : {X : Type 0} (P : X → Type 0) (xs : List X) (y : X) (ys : List X) → All P (xs ++ y ∷ ys) → P y
all_mid P [] y ys all = All-head P y ys all
all_mid P (x ∷ xs) y ys all = all_mid P xs y ys (All-tail P x (xs ++ y ∷ ys) all)

-- one element more of each
pub zip_push : {X Y : Type 0} (R : X → Y → Type 0) (xs : List X) (ys : List Y) (x : X) (y : Y) → AllZip R xs ys → R x y
    → AllZip R (xs ++ x ∷ []) (ys ++ y ∷ [])
zip_push R [] [] x y zip here = (here, tt)
zip_push R [] (b ∷ ys) x y zip here = absurd zip
zip_push R (a ∷ xs) [] x y zip here = absurd zip
zip_push R (a ∷ xs) (b ∷ ys) x y zip here = (zip.0, zip_push R xs ys x y zip.1 here)

-- what holds of each of the first list
pub zip_known : {X Y : Type 0} (P : X → Type 0) (R : X → Y → Type 0) (xs : List X) (ys : List Y) → All P xs → AllZip R xs ys
    → AllZip (λ x y. P x × R x y) xs ys
zip_known P R [] [] all zip = tt
zip_known P R [] (y ∷ ys) all zip = absurd zip
zip_known P R (x ∷ xs) [] all zip = absurd zip
zip_known P R (x ∷ xs) (y ∷ ys) all zip =
    ((All-head P x xs all, zip.0), zip_known P R xs ys (All-tail P x xs all) zip.1)

-- what a function makes of each of the first list
pub zip_made : {X Y Z : Type 0} (R : Z → Y → Type 0) (f : X → Z) (xs : List X) (ys : List Y) → AllZip (λ x y. R (f x) y) xs ys
    → AllZip R (map f xs) ys
zip_made R f [] [] zip = tt
zip_made R f [] (y ∷ ys) zip = absurd zip
zip_made R f (x ∷ xs) [] zip = absurd zip
zip_made R f (x ∷ xs) (y ∷ ys) zip = (zip.0, zip_made R f xs ys zip.1)

-- a part of a list
pub all_front : {X : Type 0} (P : X → Type 0) (xs ys : List X) → All P (xs ++ ys) → All P xs
all_front P [] ys all = All-nil P
all_front P (x ∷ xs) ys all = All-cons P x xs (All-head P x (xs ++ ys) all) (all_front P xs ys (All-tail P x (xs ++ ys) all))

pub all_back : {X : Type 0} (P : X → Type 0) (xs ys : List X) → All P (xs ++ ys) → All P ys
all_back P [] ys all = all
all_back P (x ∷ xs) ys all = all_back P xs ys (All-tail P x (xs ++ ys) all)

pub contains_map : {X Y : Type 0} (f : X → Y) (xs : List X) (x : X) → Contains xs x → Contains (map f xs) (f x)
contains_map f xs x known =
    let n : length (map f xs) ≡ length xs = length-map xs f in
    let within : known.0 < length xs = known.1 in
    (known.0, omega arith, get_or-map f xs known.0 x (f x) within ∙ ap f known.2)

-- a list that was written over a list as long
pub written : {X : Type 0} (xs ys : List X) (n : ℕ) → n ≡ length ys → length xs ≡ length ys → take n (xs ++ drop (length xs) ys) ≡
    xs
written xs ys n is long = take_at xs (drop (length xs) ys) n (long ∙ sym is)
