-- Items of lists, by their places.
use Rattle.std.proofs.Common.{◌≡◌, ◌≢◌, ◌⊎◌, inl, inr, ℕ, zero, suc, List, [], ◌∷◌, set, get_or, All, sym, refl, ap, arith}
use mathlib.Core.Option.{some, some-injective, some-ne-none}
use lib.ListN.{get_elem?}
use Rattle.register_rule.proofs.Words.{there}

pub set_else : {A : Type 0} (l : List A) (i q : ℕ) (a : A) → q ≢ i → get_elem? (set l i a) q ≡ get_elem? l q
set_else [] i q a other = refl
set_else (x ∷ l) zero zero a other = absurd (other refl)
set_else (x ∷ l) zero (suc q) a other = refl
set_else (x ∷ l) (suc i) zero a other = refl
set_else (x ∷ l) (suc i) (suc q) a other = set_else l i q a (λ e. other (ap suc e))

pub all_from : {A : Type 0} (P : A → Type 0) (l : List A) → ((p : ℕ) (a : A) → get_elem? l p ≡ some a → P a) → All P l
all_from P l f k d lt = f k (get_or l k d) (there l k d lt)

-- an item of a list in which one was replaced
pub from_set : {A : Type 0} (l : List A) (i q : ℕ) (a b : A) → get_elem? (set l i a) q ≡ some b → ((q ≡ i) × (a ≡ b))
    ⊎ ((q ≢ i) × (get_elem? l q ≡ some b))
from_set [] i q a b e = absurd (some-ne-none b (sym e))
from_set (x ∷ l) zero zero a b e = inl (refl, some-injective a b e)
from_set (x ∷ l) zero (suc q) a b e = inr ((λ h. omega (arith, h)), e)
from_set (x ∷ l) (suc i) zero a b e = inr ((λ h. omega (arith, h)), e)
from_set (x ∷ l) (suc i) (suc q) a b e = go (from_set l i q a b e)
  where
    go : ((q ≡ i) × (a ≡ b)) ⊎ ((q ≢ i) × (get_elem? l q ≡ some b)) → ((suc q ≡ suc i) × (a ≡ b))
        ⊎ ((suc q ≢ suc i) × (get_elem? l q ≡ some b))
    go (inl t) = inl (ap suc t.0, t.1)
    go (inr t) = inr ((λ h. t.0 (omega (arith, h))), t.1)
