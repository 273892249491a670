-- The machine values of a handle: an address and a word. Assumes `Logic`.
use Rattle.std.proofs.Common.{◌≡◌, ℕ, ◌^◌, ◌<◌, List, [], ◌∷◌, ◌++◌, refl, ◌∙◌, lit<, w64, arith, subst, T, not}
use mathlib.Core.Bool.{Bool, true, false}
use seplogic.Ra.Ura.{Ura}
use mir.Syntax.{ty_int, ty_ptr, ty_struct, tcons, tnil}
use mir.Val.{Val, vint, vstruct, vcons, vnil, of_list}
use base.Logic.{ent, emp}
use base.Fml.{Fml}
use types.Logic.{Logic, sem}
use denote.RattleType.{RattleType}
use denote.Builtin.{u64}
use denote.RawPtr.{Ptr, RawPtr, block_ptr, null_ptr, ptr_val}
use denote.Shadow.{shadow, makes_shadow}
use denote.Struct.Struct.{Struct}
use Rattle.core.proofs.cell.Inside.{Good}
use Rattle.std.specs.Prelude.{Some, None, IsSome}
use Rattle.std.specs.declared.option.Option.{Option}

-- a struct by its fields alone: what it owns does not read its name
abbrev pub plainly : List RattleType → RattleType
plainly Rs = Struct (record { name = []; args = []; types = []; fields = Rs })

pub ptr_typed : (p : Ptr) → Good ty_ptr (ptr_val p)
ptr_typed (block_ptr b o) = (tt, tt)
ptr_typed null_ptr = (tt, record { fits = lit< tt })

abbrev pub handle_val : Ptr → ℕ → Val
handle_val p n = vstruct (vcons (ptr_val p) (vcons (vint w64 n) vnil))

abbrev pub handle_own : Ptr → ℕ → List Val → Fml
handle_own p n = (plainly (RawPtr ∷ u64 ∷ [])).own_val (p, (n, tt))

pub handle_told : (p : Ptr) (n : ℕ) (vs : List Val) → shadow (handle_own p n vs) → (vs ≡ handle_val p n ∷ []) × (n < 2 ^ 64)
handle_told p n vs s = (s.1.0 ∙ (λ i. vstruct (of_list (s.1.1.0 i ++ (s.1.1.1.0.0 i ++ []))) ∷ []), s.1.1.1.0.1)

pub handle_made : {M : Type 1} {𝓤 : Ura M} (𝓛 : Logic 𝓤) (p : Ptr) (n : ℕ) → (n < 2 ^ 64) → ent 𝓤 (emp 𝓤) (sem 𝓛 (handle_own p n
    (handle_val p n ∷ [])))
handle_made 𝓛 p n f = makes_shadow 𝓛 (handle_own p n (handle_val p n ∷ [])) (λ _. (tt, (tt, ((tt, tt), tt)))) (
  (
    ptr_val p ∷ [],
    (vint w64 n ∷ [], tt),
  ),
  (refl, (refl, ((refl, f), tt))),
)

pub handle_typed : (p : Ptr) (n : ℕ) → (n < 2 ^ 64) → Good (ty_struct [] (tcons ty_ptr (tcons (ty_int w64) tnil))) (handle_val p
    n)
handle_typed (block_ptr b o) n f = (tt, (tt, (record { fits = f }, tt)))
handle_typed null_ptr n f = (tt, (record { fits = lit< tt }, (record { fits = f }, tt)))

pub one_is_not_zero : ◌≡◌ {A = ℕ} 1 0 → ⊥
one_is_not_zero e = omega (arith, e)

diff : false ≡ true → ⊥
diff e = subst (λ (b : Bool). T (not b)) e tt

pub the_one : (X : Type 0) (v : Option X) → IsSome v → (x : X) × (v ≡ Some x)
the_one X None is = absurd (diff is)
the_one X (Some x) is = (x, refl)
