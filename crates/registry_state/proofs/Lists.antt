-- Lists: pairs of elements, and one element more in the middle.
use Rattle.std.proofs.Common.{◌≡◌, ℕ, zero, suc, ◌+◌, ◌<◌, ◌≤◌, List, [], ◌∷◌, ◌++◌, length, map, get_or, set, take, drop, All}
use Rattle.std.proofs.Common.{AllPairs, refl, ap, sym, subst, ◌∙◌, arith, inl, inr}
use Rattle.std.specs.Prelude.{◌⊎◌, Bool, true, false, if◌then◌else◌}
use Rattle.std.specs.List.{insert, AllWithin, range_with_len}
use Rattle.std.proofs.lemmas.List.{get_or-map, length-map, length-take-le, drop_more, get_or_at, set_at, append_assoc, map_more}
use Rattle.std.proofs.lemmas.List.Elements.{All-append, All-cons, All-take, All-drop}

pub cases_order : (i j : ℕ) → (i < j) ⊎ (i ≡ j) ⊎ (j < i)
cases_order zero zero = inr (inl refl)
cases_order zero (suc j) = inl (omega arith)
cases_order (suc i) zero = inr (inr (omega arith))
cases_order (suc i) (suc j) =
    elim (cases_order i j) [
      | inl l ↦ inl (omega (arith, l))
      | inr r ↦ elim r [ inl e ↦ inr (inl (ap suc e)) | inr g ↦ inr (inr (omega (arith, g))) ]
    ]

pub all_insert : {X : Type 0} (P : X → Type 0) (xs : List X) (i : ℕ) (y : X) → All P xs → P y → All P (insert xs i y)
all_insert P xs i y all here = All-append P (take i xs) (y ∷ drop i xs) (All-take P i xs all)
    (All-cons P y (drop i xs) here (All-drop P i xs all))

pub pairs_tail : {X : Type 0} (R : X → X → Type 0) (x : X) (xs : List X) → AllPairs R (x ∷ xs) → AllPairs R xs
pairs_tail R x xs pairs i j d lt within = pairs (suc i) (suc j) d (omega (arith, lt)) (omega (arith, within))

pub pairs_head : {X : Type 0} (R : X → X → Type 0) (x : X) (xs : List X) → AllPairs R (x ∷ xs) → All (R x) xs
pairs_head R x xs pairs k d within = pairs zero (suc k) d (omega arith) (omega (arith, within))

pub pairs_map : {X Y : Type 0} (R : Y → Y → Type 0) (f : X → Y) (xs : List X) → AllPairs (λ a b. R (f a) (f b)) xs
    → AllPairs R (map f xs)
pairs_map R f [] pairs i j d lt within = absurd (omega (arith, within))
pairs_map R f (x ∷ xs) pairs i j d lt within =
    let n : length (map f (x ∷ xs)) ≡ length (x ∷ xs) = length-map (x ∷ xs) f in
    let in_j : j < length (x ∷ xs) = omega (arith, n, within) in
    let in_i : i < length (x ∷ xs) = omega (arith, in_j, lt) in
    let e : get_or (map f (x ∷ xs)) i d ≡ f (get_or (x ∷ xs) i x) = get_or-map f (x ∷ xs) i x d in_i in
    let h : get_or (map f (x ∷ xs)) j d ≡ f (get_or (x ∷ xs) j x) = get_or-map f (x ∷ xs) j x d in_j in
    subst (λ v. R v (get_or (map f (x ∷ xs)) j d)) (sym e)
    (subst (λ v. R (f (get_or (x ∷ xs) i x)) v) (sym h) (pairs i j x lt in_j))

-- pairs of which more is known than the relation asks
pub pairs_weaker : {X : Type 0} (P : X → Type 0) (R Q : X → X → Type 0) (xs : List X) → ((a b : X) → P a → P b → R a b → Q a b)
    → All P xs → AllPairs R xs → AllPairs Q xs
pairs_weaker P R Q xs weaker all pairs i j d lt within =
    weaker (get_or xs i d) (get_or xs j d) (all i d (omega (arith, lt, within))) (all j d within) (pairs i j d lt within)

-- a list to whose front part a new element stands as that part stands to it, and so on with the part behind it
pub pairs_insert : {X : Type 0} (R : X → X → Type 0) (xs : List X) (i : ℕ) (y : X) → i ≤ length xs → AllPairs R xs
    → AllWithin (λ x. R x y) xs 0 i → AllWithin (R y) xs i (length xs) → AllPairs R (insert xs i y)
pairs_insert R [] zero y le pairs front back j k d lt within = absurd (omega (arith, lt, within))
pairs_insert R [] (suc i) y le pairs front back j k d lt within = absurd (omega (arith, le))
pairs_insert R (x ∷ xs) zero y le pairs front back zero zero d lt within = absurd (omega (arith, lt))
pairs_insert R (x ∷ xs) zero y le pairs front back zero (suc k) d lt within = back k d (omega arith) (omega (arith, within))
pairs_insert R (x ∷ xs) zero y le pairs front back (suc j) zero d lt within = absurd (omega (arith, lt))
pairs_insert R (x ∷ xs) zero y le pairs front back (suc j) (suc k) d lt within = pairs j k d (omega (arith, lt))
    (omega (arith, within))
pairs_insert R (x ∷ xs) (suc i) y le pairs front back zero zero d lt within = absurd (omega (arith, lt))
pairs_insert R (x ∷ xs) (suc i) y le pairs front back zero (suc k) d lt within =
    all_insert (R x) xs i y (pairs_head R x xs pairs) (front zero x (omega arith) (omega arith)) k d (omega (arith, within))
pairs_insert R (x ∷ xs) (suc i) y le pairs front back (suc j) zero d lt within = absurd (omega (arith, lt))
pairs_insert R (x ∷ xs) (suc i) y le pairs front back (suc j) (suc k) d lt within =
    pairs_insert R xs i y (omega (arith, le)) (pairs_tail R x xs pairs)
    (λ m e lo hi. front (suc m) e (omega arith) (omega (arith, hi)))
    (λ m e lo hi. back (suc m) e (omega (arith, lo)) (omega (arith, hi)))
    j k d (omega (arith, lt)) (omega (arith, within))

below_from : (a m : ℕ) → All (λ i. i < a + m) (range_with_len a m)
below_from a zero k d within = absurd (omega (arith, within))
below_from a (suc m) zero d within = omega arith
below_from a (suc m) (suc k) d within =
    let rest : get_or (range_with_len (a + 1) m) k d < a + 1 + m = below_from (a + 1) m k d (omega (arith, within)) in
    omega (arith, rest)

-- the numbers from 0 on are below how many they are
pub range_below : (n : ℕ) → All (λ i. i < n) (range_with_len 0 n)
range_below n k d within = let here : get_or (range_with_len 0 n) k d < 0 + n = below_from 0 n k d within in omega (arith, here)

pub range_push : (a n : ℕ) → range_with_len a (suc n) ≡ range_with_len a n ++ (a + n) ∷ []
range_push a zero = let e : a ≡ a + 0 = omega arith in ap (λ m. m ∷ []) e
range_push a (suc n) =
    let e : a + 1 + n ≡ a + suc n = omega arith in
    ap (λ rest. a ∷ rest) (range_push (a + 1) n ∙ ap (λ m. range_with_len (a + 1) n ++ m ∷ []) e)

pub either : {X : Type 0} (P : X → Type 0) (b : Bool) (x y : X) → (b ≡ true → P x) → (b ≡ false → P y) → P (if b then x else y)
either P true x y first second = first refl
either P false x y first second = second refl

-- a loop that writes f x over b x, for each x of a list
module _ {X Y : Type 0} (f b : X → Y) (xs : List X) (ys : List Y) (i : ℕ) (x : X) (lt : i < length xs)
    (is : ys ≡ map f (take i xs) ++ map b (drop i xs)) (here : x ≡ get_or xs i x) where
  front_length : length (map f (take i xs)) ≡ i
  front_length = length-map (take i xs) f ∙ length-take-le i xs (omega (arith, lt))

  rest_is : map b (drop i xs) ≡ b x ∷ map b (drop (i + 1) xs)
  rest_is = ap (map b) (drop_more xs i x lt ∙ ap (λ z. z ∷ drop (i + 1) xs) (sym here))

  split_is : ys ≡ map f (take i xs) ++ b x ∷ map b (drop (i + 1) xs)
  split_is = is ∙ ap (λ rest. map f (take i xs) ++ rest) rest_is

  -- what stands there before
  pub filled_at : (d : Y) → get_or ys i d ≡ b x
  filled_at d = ap (λ l. get_or l i d) split_is ∙ get_or_at (map f (take i xs)) (b x) (map b (drop (i + 1) xs)) d i front_length

  pub filled_more : (y : Y) → y ≡ f x → set ys i y ≡ map f (take (i + 1) xs) ++ map b (drop (i + 1) xs)
  filled_more y new =
      ap (λ l. set l i y) split_is
      ∙ set_at (map f (take i xs)) (b x) (map b (drop (i + 1) xs)) y i front_length
      ∙ ap (λ z. map f (take i xs) ++ z ∷ map b (drop (i + 1) xs)) new
      ∙ sym (append_assoc (map f (take i xs)) (f x ∷ []) (map b (drop (i + 1) xs)))
      ∙ ap (λ l. l ++ map b (drop (i + 1) xs)) (ap (λ z. map f (take i xs) ++ f z ∷ []) here ∙ sym (map_more f xs i x lt))
