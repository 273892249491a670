-- What stands at a place of a list.
use Rattle.std.proofs.Common.{◌≡◌, ℕ, zero, suc, ◌<◌, List, [], ◌∷◌, length, get_or, set, refl, sym, subst, ◌∙◌}
use Rattle.std.specs.Prelude.{Option, Some, IsSomeAnd, slice_get}
use Rattle.std.proofs.lemmas.Option.{none-some, same_Some, slice_get_read}

-- one thing alone
pub same_there : {X : Type 0} (o : Option X) (x y : X) → o ≡ Some x → o ≡ Some y → x ≡ y
same_there o x y a b = same_Some x y (sym a ∙ b)

-- what was put at a place of a list that has it
pub set_now : {X : Type 0} (xs : List X) (i : ℕ) (x y : X) → slice_get xs i ≡ Some x → slice_get (set xs i y) i ≡ Some y
set_now [] i x y at = absurd (none-some x at)
set_now (z ∷ xs) zero x y at = refl
set_now (z ∷ xs) (suc i) x y at = set_now xs i x y at

-- what was read at a place of a list
pub there_read : {X : Type 0} (xs ys : List X) (i : ℕ) (x : X) → xs ≡ ys → i < length xs → x ≡ get_or xs i x → slice_get ys i ≡
    Some x
there_read {X} xs ys i x same inside read =
    subst (λ (l : List X). slice_get l i ≡ Some x) same (slice_get_read xs (length xs) i x refl inside read)

-- what holds of it
pub holds_there : {X : Type 0} (P : X → Type 0) (xs : List X) (i : ℕ) (x : X) → slice_get xs i ≡ Some x → P x → IsSomeAnd
    (slice_get xs i) P
holds_there {X} P xs i x at holds = subst (λ (o : Option X). IsSomeAnd o P) (sym at) holds
