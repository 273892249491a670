-- The vectors of one history.
use Rattle.std.proofs.Common.{◌≡◌, ℕ, zero, suc, ◌+◌, ◌<◌, ◌≤◌, inl, inr, eqb, cond, List, [], ◌∷◌, ◌++◌, length, take, sym, refl}
use Rattle.std.proofs.Common.{ap, ◌∙◌, subst, arith, length-append}
use mathlib.Core.Logic.{dite}
use mathlib.Core.Option.{some, some-injective}
use native.Mathlib.Decide.{dec_le}
use lib.ListN.{get_elem?}
use Rattle.std.proofs.lemmas.List.{take-append-le}
use Rattle.register_rule.specs.History.{tab, count, numbers_after, IsCut, Below, Comparable}
use Rattle.register_rule.proofs.Words.{at_below}

-- how many numbers `tab` gives, and which
pub length_tab : (i k : ℕ) (f : ℕ → ℕ) → length (tab i k f) ≡ k
length_tab i zero f = refl
length_tab i (suc k) f = ap suc (length_tab (suc i) k f)

pub tab_at : (i n : ℕ) (f : ℕ → ℕ) (q : ℕ) → q < n → get_elem? (tab i n f) q ≡ some (f (i + q))
tab_at i zero f q h = absurd (omega arith)
tab_at i (suc n) f zero h = let e : i ≡ i + 0 = omega arith in ap (λ (z : ℕ). some (f z)) e
tab_at i (suc n) f (suc q) h = let e : suc i + q ≡ i + suc q = omega arith in
    tab_at (suc i) n f q (omega arith) ∙ ap (λ (z : ℕ). some (f z)) e

tab_from : (i n : ℕ) (f : ℕ → ℕ) (q x : ℕ) → get_elem? (tab i n f) q ≡ some x → x ≡ f (i + q)
tab_from i n f q x e = let lt = at_below (tab i n f) q x e in
    sym (some-injective (f (i + q)) x (sym (tab_at i n f q (omega (arith, lt, length_tab i n f))) ∙ e))

pub count_append : (i : ℕ) (xs ys : List ℕ) → count i (xs ++ ys) ≡ count i xs + count i ys
count_append i [] ys = omega arith
count_append i (x ∷ xs) ys = let e = count_append i xs ys in let c : ℕ = cond (eqb x i) 1 0 in
    let e' : c + count i (xs ++ ys) ≡ c + count i xs + count i ys = omega arith in e'

pub count_take : (i a c : ℕ) (h : List ℕ) → a ≤ c → count i (take a h) ≤ count i (take c h)
count_take i zero c h le = omega arith
count_take i (suc a) zero h le = absurd (omega arith)
count_take i (suc a) (suc c) [] le = omega arith
count_take i (suc a) (suc c) (x ∷ xs) le = let e = count_take i a c xs (omega arith) in let d : ℕ = cond (eqb x i) 1 0 in
    let e' : d + count i (take a xs) ≤ d + count i (take c xs) = omega arith in e'

-- of two moments, the earlier one is above the later one at no place
pub rises : (n a c : ℕ) (h : List ℕ) → a ≤ c → Below (numbers_after n (take a h)) (numbers_after n (take c h))
rises n a c h le i x y ex ey = let p = tab_from 0 n _ i x ex in let q = tab_from 0 n _ i y ey in
    let m = count_take (0 + i) a c h le in omega arith

pub comparable : (n : ℕ) (h u v : List ℕ) → IsCut n h u → IsCut n h v → Comparable u v
comparable n h u v p q = dite (dec_le p.0 q.0)
    (λ le. inl (subst (λ (z : List ℕ × List ℕ). Below z.0 z.1) (λ k. (sym p.2 k, sym q.2 k)) (rises n p.0 q.0 h le)))
    (λ gt. inr (subst (λ (z : List ℕ × List ℕ). Below z.0 z.1) (λ k. (sym q.2 k, sym p.2 k)) (rises n q.0 p.0 h (omega arith))))

pub past_grows : (n : ℕ) (h more v : List ℕ) → IsCut n h v → IsCut n (h ++ more) v
past_grows n h more v p = let le = p.1 in
    (p.0, omega (arith, length-append h more), p.2 ∙ ap (numbers_after n) (sym (take-append-le p.0 h more le)))
