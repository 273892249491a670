-- The greater number at each place of two vectors.
use Rattle.std.proofs.Common.{◌≡◌, ℕ, zero, suc, ◌≤◌, ◌⊎◌, inl, inr, ⊎_elim, max, List, [], ◌∷◌, length, sym, refl, ap, ◌∙◌}
use Rattle.std.proofs.Common.{arith}
use mathlib.Core.Logic.{dite}
use mathlib.Core.Option.{some, some-injective, some-ne-none}
use native.Mathlib.Decide.{dec_le}
use lib.ListN.{get_elem?}
use Rattle.register_rule.specs.ScanSteps.{upper}

pub length_upper : (u v : List ℕ) → length v ≤ length u → length (upper u v) ≡ length u
length_upper [] v h = omega arith
length_upper (x ∷ u) [] h = refl
length_upper (x ∷ u) (y ∷ v) h = ap suc (length_upper u v (omega arith))

max_is : (x y : ℕ) → (max x y ≡ x) ⊎ (max x y ≡ y)
max_is x y = dite (dec_le x y) (λ le. inr (omega arith)) (λ gt. inl (omega arith))

-- each number of it is one of the two
pub upper_from : (u v : List ℕ) (i z : ℕ) → get_elem? (upper u v) i ≡ some z → (get_elem? u i ≡ some z) ⊎ (get_elem? v i ≡ some z)
upper_from [] v i z e = inr e
upper_from (x ∷ u) [] i z e = inl e
upper_from (x ∷ u) (y ∷ v) zero z e = ⊎_elim (λ h. inl (ap some (sym h) ∙ e)) (λ h. inr (ap some (sym h) ∙ e)) (max_is x y)
upper_from (x ∷ u) (y ∷ v) (suc i) z e = upper_from u v i z e

-- and the greater of the two
pub upper_of : (u v : List ℕ) (i z : ℕ) → length u ≡ length v → get_elem? (upper u v) i ≡ some z → (x : ℕ) × (y : ℕ)
    × (get_elem? u i ≡ some x) × (get_elem? v i ≡ some y) × (max x y ≡ z)
upper_of [] [] i z len e = absurd (some-ne-none z (sym e))
upper_of [] (y ∷ v) i z len e = absurd (omega (arith, len))
upper_of (x ∷ u) [] i z len e = absurd (omega (arith, len))
upper_of (x ∷ u) (y ∷ v) zero z len e = (x, y, refl, refl, some-injective (max x y) z e)
upper_of (x ∷ u) (y ∷ v) (suc i) z len e = upper_of u v i z (omega (arith, len)) e

-- a number of the first vector has one at its place that is at least it
pub upper_at : (u v : List ℕ) (i x : ℕ) → get_elem? u i ≡ some x → (z : ℕ) × (get_elem? (upper u v) i ≡ some z) × (x ≤ z)
upper_at [] v i x e = absurd (some-ne-none x (sym e))
upper_at (y ∷ u) [] i x e = (x, e, omega arith)
upper_at (y ∷ u) (z ∷ v) zero x e = let h : y ≡ x = some-injective y x e in (max y z, refl, omega (arith, h))
upper_at (y ∷ u) (z ∷ v) (suc i) x e = upper_at u v i x e
