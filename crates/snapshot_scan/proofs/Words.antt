-- Reading words one by one.
use Rattle.std.proofs.Common.{get_or, Contains, ◌≡◌, ◌⊎◌, inl, inr, ⊎_elim, map, ℕ, zero, suc, ◌+◌, ◌<◌, ◌≤◌, List, [], ◌∷◌, ◌++◌}
use Rattle.std.proofs.Common.{length, take, drop, set, sym, refl, ap, ◌∙◌, arith}
use mathlib.Core.Option.{some, some-injective, some-ne-none}
use mathlib.Core.Logic.{dite}
use native.Mathlib.Decide.{ℕ_discrete}
use lib.ListN.{get_elem?}
use Rattle.register_rule.specs.declared.view.Member.{Member}
use Rattle.register_rule.specs.declared.view.ScanLog.{ScanLog}
use Rattle.register_rule.specs.ScanSteps.{after_read}
use Rattle.register_rule.specs.Members.{led, scan_changed}
use Rattle.register_rule.specs.Seats.{HasMember}
use Rattle.snapshot_scan.specs.Shape.{with_scan, scan_of, read_all}

pub take_next : {A : Type 0} (xs : List A) (k : ℕ) (x : A) → k < length xs → take (k + 1) (set xs k x) ≡ take k xs ++ x ∷ []
take_next [] k x h = absurd (omega arith)
take_next (y ∷ ys) zero x h = refl
take_next (y ∷ ys) (suc k) x h = let e : suc k + 1 ≡ suc (k + 1) = omega arith in
    ap (λ (z : ℕ). take z (set (y ∷ ys) (suc k) x)) e ∙ ap (λ z. y ∷ z) (take_next ys k x (omega arith))

pub read_snoc : (w i s from : ℕ) (xs : List ℕ) (x : ℕ) (c : ScanLog) → read_all w i s from (xs ++ x ∷ []) c ≡ after_read w i s
    (from + length xs) x (read_all w i s from xs c)
read_snoc w i s from [] x c = let e : from ≡ from + 0 = omega arith in ap (λ (z : ℕ). after_read w i s z x c) e
read_snoc w i s from (y ∷ ys) x c = let e : suc from + length ys ≡ from + suc (length ys) = omega arith in
    read_snoc w i s (suc from) ys x (after_read w i s from y c)
    ∙ ap (λ (z : ℕ). after_read w i s z x (read_all w i s (suc from) ys (after_read w i s from y c))) e

-- two steps of the first member
pub led_led : (f g h : ScanLog → ScanLog) (ms : List Member) → ((c : ScanLog) → f (g c) ≡ h c)
    → led (scan_changed f) (led (scan_changed g) ms) ≡ led (scan_changed h) ms
led_led f g h [] e = refl
led_led f g h (m ∷ ms) e = ap (λ (c : ScanLog). record m { scan = c } ∷ ms) (e m.scan)

pub led_some : (f : ScanLog → ScanLog) (ms : List Member) → HasMember ms → HasMember (led (scan_changed f) ms)
led_some f [] t = t
led_some f (m ∷ ms) t = (record m { scan = f m.scan }, ms, refl)

pub take_all : {A : Type 0} (xs : List A) (n : ℕ) → length xs ≤ n → take n xs ≡ xs
take_all [] zero h = refl
take_all [] (suc n) h = refl
take_all (x ∷ xs) zero h = absurd (omega (arith, h))
take_all (x ∷ xs) (suc n) h = ap (λ z. x ∷ z) (take_all xs n (omega (arith, h)))

pub length_take : {A : Type 0} (xs : List A) (n : ℕ) → n ≤ length xs → length (take n xs) ≡ n
length_take [] zero h = refl
length_take [] (suc n) h = absurd (omega (arith, h))
length_take (x ∷ xs) zero h = refl
length_take (x ∷ xs) (suc n) h = ap suc (length_take xs n (omega (arith, h)))

-- a list that was written over another of its length
pub over : {A : Type 0} (ws l : List A) (n : ℕ) → length ws ≡ length l → length ws ≤ n → take n (ws ++ drop (length ws) l) ≡ ws
over [] [] n e h = take_all [] n h
over [] (y ∷ ys) n e h = absurd (omega (arith, e))
over (x ∷ ws) [] n e h = absurd (omega (arith, e))
over (x ∷ ws) (y ∷ l) zero e h = absurd (omega (arith, h))
over (x ∷ ws) (y ∷ l) (suc n) e h = ap (λ z. x ∷ z) (over ws l n (omega (arith, e)) (omega (arith, h)))

-- what is written over a vector's items by way of a slice of them
pub written : {A : Type 0} (new slice items : List A) (n : ℕ) → slice ≡ items → length slice ≡ n → length new ≡ length slice
    → take n (new ++ drop (length new) items) ≡ new
written {A = A} new slice items n value len auto = over new items n (auto ∙ ap (λ (l : List A). length l) value)
    (omega (arith, len, auto))

pub scan_with : (c : ScanLog) (ms : List Member) → HasMember ms → scan_of (with_scan c ms) ≡ c
scan_with c [] t = absurd (nil_cons t.2)
  where
    nil_cons : {m : Member} {ms : List Member} → [] ≡ m ∷ ms → ⊥
    nil_cons e = cc
scan_with c (m ∷ ms) t = refl

pub with_led : (f : ScanLog → ScanLog) (c : ScanLog) (ms : List Member)
    → led (scan_changed f) (with_scan c ms) ≡ with_scan (f c) ms
with_led f c [] = refl
with_led f c (m ∷ ms) = refl

pub with_same : (ms : List Member) → with_scan (scan_of ms) ms ≡ ms
with_same [] = refl
with_same (m ∷ ms) = refl

pub front_at : {A : Type 0} (xs ys : List A) (q : ℕ) (y : A) → get_elem? xs q ≡ some y → get_elem? (xs ++ ys) q ≡ some y
front_at [] ys q y e = absurd (some-ne-none y (sym e))
front_at (x ∷ xs) ys zero y e = e
front_at (x ∷ xs) ys (suc q) y e = front_at xs ys q y e

pub from_set : {A : Type 0} (l : List A) (i : ℕ) (a : A) (q : ℕ) (y : A) → get_elem? (set l i a) q ≡ some y
    → (get_elem? l q ≡ some y) ⊎ ((a ≡ y) × (q ≡ i))
from_set [] i a q y e = inl e
from_set (x ∷ l) zero a zero y e = inr (some-injective a y e, refl)
from_set (x ∷ l) zero a (suc q) y e = inl e
from_set (x ∷ l) (suc i) a zero y e = inl e
from_set (x ∷ l) (suc i) a (suc q) y e = ⊎_elim (λ t. inl t) (λ t. inr (t.0, ap suc t.1)) (from_set l i a q y e)

pub map_set : {A B : Type 0} (f : A → B) (l : List A) (i : ℕ) (a : A) → map f (set l i a) ≡ set (map f l) i (f a)
map_set f [] i a = refl
map_set f (x ∷ l) zero a = refl
map_set f (x ∷ l) (suc i) a = ap (λ z. f x ∷ z) (map_set f l i a)

pub set_same : {A : Type 0} (l : List A) (i : ℕ) (a : A) → get_elem? l i ≡ some a → set l i a ≡ l
set_same [] i a e = refl
set_same (x ∷ l) zero a e = ap (λ z. z ∷ l) (sym (some-injective x a e))
set_same (x ∷ l) (suc i) a e = ap (λ z. x ∷ z) (set_same l i a e)

pub at_map : {A B : Type 0} (f : A → B) (l : List A) (i : ℕ) (a : A) → get_elem? l i ≡ some a → get_elem? (map f l) i ≡ some (f a)
at_map f [] i a e = absurd (some-ne-none a (sym e))
at_map f (x ∷ l) zero a e = ap (λ z. some (f z)) (some-injective x a e)
at_map f (x ∷ l) (suc i) a e = at_map f l i a e

-- lists of one length with the same words
pub same_words : (xs ys : List ℕ) → length xs ≡ length ys → ((k : ℕ) → k < length xs → get_or xs k 0 ≡ get_or ys k 0) → xs ≡ ys
same_words [] [] e h = refl
same_words [] (y ∷ ys) e h = absurd (omega (arith, e))
same_words (x ∷ xs) [] e h = absurd (omega (arith, e))
same_words (x ∷ xs) (y ∷ ys) e h = let a : x ≡ y = h 0 (omega arith) in
    let others = same_words xs ys (omega (arith, e)) (λ k lt. h (suc k) (omega (arith, lt))) in λ z. a z ∷ others z

-- a list of numbers has a number, or has it not
pub contains_or_not : (xs : List ℕ) (k : ℕ) → Contains xs k ⊎ (¬ (Contains xs k))
contains_or_not [] k = inr (λ h. let lt = h.1 in omega (arith, lt))
contains_or_not (x ∷ xs) k = dite (ℕ_discrete x k)
    (λ e. inl (0, omega arith, e))
    (λ other. ⊎_elim (λ h. let lt = h.1 in inl (suc h.0, omega (arith, lt), h.2))
    (λ none. inr (λ h. go h.0 h.1 h.2 other none)) (contains_or_not xs k))
  where
    go : (q : ℕ) → q < length (x ∷ xs) → get_or (x ∷ xs) q k ≡ k → (x ≡ k → ⊥) → ¬ (Contains xs k) → ⊥
    go zero lt e other none = other e
    go (suc q) lt e other none = none (q, omega (arith, lt), e)
