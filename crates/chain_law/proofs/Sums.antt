-- A sum over numbers that are all those from one on, in any order.
use Rattle.std.proofs.Common.{◌≡◌, ◌≢◌, ℕ, zero, suc, ◌+◌, ◌<◌, ◌≤◌, ◌==◌, Bool, cond, List, [], ◌∷◌, sym, refl, ap, ◌∙◌, subst}
use Rattle.std.proofs.Common.{arith, eq-eqb, ne_eqb}
use mathlib.Core.Logic.{dite}
use native.Mathlib.Decide.{ℕ_discrete}
use mathlib.Core.Option.{some, some-injective, some-ne-none}
use lib.ListN.{get_elem?}

-- f i + f (i + 1) + .., n of them
abbrev pub sums : (ℕ → ℕ) → (i n : ℕ) → ℕ
sums f i zero = 0
sums f i (suc n) = f i + sums f (suc i) n

abbrev pub sum_of : (ℕ → ℕ) → List ℕ → ℕ
sum_of f [] = 0
sum_of f (x ∷ l) = f x + sum_of f l

abbrev pub In : ℕ → List ℕ → Type 0
In x l = (p : ℕ) × (get_elem? l p ≡ some x)

-- no number stands in the list twice
abbrev pub AreOnce : List ℕ → Type 0
AreOnce [] = Unit {0}
AreOnce (x ∷ l) = (¬ (In x l)) × AreOnce l

abbrev without : ℕ → List ℕ → List ℕ
without i [] = []
without i (x ∷ l) = cond (x == i) (without i l) (x ∷ without i l)

without_it : (i x : ℕ) (l : List ℕ) → x ≡ i → without i (x ∷ l) ≡ without i l
without_it i x l e = ap (λ (b : Bool). cond b (without i l) (x ∷ without i l)) (eq-eqb x i e)

without_other : (i x : ℕ) (l : List ℕ) → x ≢ i → without i (x ∷ l) ≡ x ∷ without i l
without_other i x l other = ap (λ (b : Bool). cond b (without i l) (x ∷ without i l)) (ne_eqb x i other)

without_none : (i : ℕ) (l : List ℕ) → ¬ (In i l) → without i l ≡ l
without_none i [] none = refl
without_none i (x ∷ l) none =
    without_other i x l (λ e. none (0, ap some e)) ∙ ap (λ (t : List ℕ). x ∷ t) (without_none i l (λ h. none (suc h.0, h.1)))

still_in : (i j : ℕ) (l : List ℕ) → j ≢ i → In j l → In j (without i l)
still_in i j [] other (p, e) = absurd (some-ne-none j (sym e))
still_in i j (x ∷ l) other (zero, e) = let same : x ≡ j = some-injective x j e in
    subst (In j) (sym (without_other i x l (λ h. other (sym same ∙ h)))) (0, e)
still_in i j (x ∷ l) other (suc p, e) = let t = still_in i j l other (p, e) in
    dite (ℕ_discrete x i) (λ h. subst (In j) (sym (without_it i x l h)) t)
    (λ h. subst (In j) (sym (without_other i x l h)) (suc t.0, t.1))

was_in : (i j : ℕ) (l : List ℕ) → In j (without i l) → In j l × (j ≢ i)
was_in i j [] (p, e) = absurd (some-ne-none j (sym e))
was_in i j (x ∷ l) h = dite (ℕ_discrete x i)
    (λ same. let t = was_in i j l (subst (In j) (without_it i x l same) h) in ((suc t.0.0, t.0.1), t.1))
    (λ other. go other (subst (In j) (without_other i x l other) h) (λ p e. was_in i j l (p, e)))
  where
    go : x ≢ i → In j (x ∷ without i l) → ((p : ℕ) → get_elem? (without i l) p ≡ some j → In j l × (j ≢ i)) → In j (x ∷ l)
        × (j ≢ i)
    go other (zero, e) later = ((0, e), λ h. other (some-injective x j e ∙ h))
    go other (suc p, e) later = let t = later p e in ((suc t.0.0, t.0.1), t.1)

still_once : (i : ℕ) (l : List ℕ) → AreOnce l → AreOnce (without i l)
still_once i [] once = once
still_once i (x ∷ l) once = dite (ℕ_discrete x i)
    (λ h. subst AreOnce (sym (without_it i x l h)) (still_once i l once.1))
    (λ h. subst AreOnce (sym (without_other i x l h)) ((λ t. once.0 (was_in i x l t).0), still_once i l once.1))

take_out : (f : ℕ → ℕ) (i : ℕ) (l : List ℕ) → AreOnce l → In i l → sum_of f l ≡ f i + sum_of f (without i l)
take_out f i [] once (p, e) = absurd (some-ne-none i (sym e))
take_out f i (x ∷ l) once h = dite (ℕ_discrete x i)
    (λ same. let none = without_it i x l same ∙ without_none i l (λ t. once.0 (t.0, t.1 ∙ ap some (sym same))) in
    (λ z. f (same z) + sum_of f l) ∙ ap (λ (t : List ℕ). f i + sum_of f t) (sym none))
    (λ other. let e = take_out f i l once.1 (later other h) in let d = ap (sum_of f) (without_other i x l other) in
    let a : sum_of f (x ∷ l) ≡ f x + sum_of f l = refl in let b : sum_of f (x ∷ without i l) ≡ f x + sum_of f (without i l) =
    refl in omega (arith, e, d, a, b))
  where
    later : x ≢ i → In i (x ∷ l) → In i l
    later other (zero, e) = absurd (other (some-injective x i e))
    later other (suc p, e) = (p, e)

-- the numbers from i on, n of them, each once and in any order
pub in_any_order : (f : ℕ → ℕ) (i n : ℕ) (l : List ℕ) → AreOnce l → ((x : ℕ) → In x l → (i ≤ x) × (x < i + n))
    → ((x : ℕ) → i ≤ x → x < i + n → In x l) → sum_of f l ≡ sums f i n
in_any_order f i zero [] once inside all = refl
in_any_order f i zero (x ∷ l) once inside all = absurd (let t = inside x (0, refl) in let a = t.0 in let b = t.1 in
    omega (arith, a, b))
in_any_order f i (suc n) l once inside all =
    take_out f i l once (all i (omega arith) (omega arith))
    ∙ ap (λ (z : ℕ). f i + z) (in_any_order f (suc i) n (without i l) (still_once i l once)
    (λ x h. let t = was_in i x l h in let other = t.1 in let u = inside x t.0 in let a = u.0 in let b = u.1 in
    (omega (arith, a, other), omega (arith, b)))
    (λ x low high. still_in i x l (λ e. omega (arith, e, low)) (all x (omega (arith, low)) (omega (arith, high)))))
