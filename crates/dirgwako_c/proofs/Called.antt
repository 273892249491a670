-- A call by a handle that holds something.
use Rattle.std.proofs.Common.{◌≡◌, ℕ, subst, sym}
use Rattle.std.specs.Prelude.{Option, Some}
use Rattle.dirgwako_c.specs.Held.{Calls}

pub called : {A : Type 0} (untouched : Type 0) (became : A → A → Type 0) (answer : ℕ) (x y : Option A) (a b : A) → x ≡ Some a
    → y ≡ Some b → became a b → Calls untouched became answer x y
called {A} untouched became answer x y a b was is so =
    subst (λ (v : Option A). Calls untouched became answer v y) (sym was)
    (subst (λ (v : Option A). Calls untouched became answer (Some a) v) (sym is) so)
