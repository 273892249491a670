-- What a handle owns, and what a call by one comes to.
use base.Fml.{Fml, ftrue}
use denote.RattleType.{RattleType}
use denote.RawPtr.{Ptr}
use Rattle.std.specs.Prelude.{◌≡◌, ℕ, Option, Some, None, Result, Ok, Err}
use Rattle.std_alloc.specs.Box.Ownership.{box_owns}
use Rattle.libc.specs.Heap.{chunk}

-- nothing, or the box at p, of the C library's heap
abbrev pub holds : (R : RattleType) → Ptr → Option R.Denot → Fml
holds R p None = ftrue
holds R p (Some x) = box_owns chunk R p x

-- 0 for what was given, and else the number of the refusal
abbrev pub answer_of : {A E : Type 0} → (number_of : E → ℕ) → Result A E → ℕ
answer_of number_of (Ok given) = 0
answer_of number_of (Err fault) = number_of fault

-- a call by a handle: an empty one is refused by 34, stays empty, and nothing else has changed; of another one what it holds is
-- held on, and this became of it
abbrev pub Calls : {A : Type 0} → (untouched : Type 0) → (became : A → A → Type 0) → (answer : ℕ) → (before after : Option A) →
    Type 0
Calls untouched became answer None None = (answer ≡ 34) × untouched
Calls untouched became answer None (Some after) = ⊥
Calls untouched became answer (Some before) None = ⊥
Calls untouched became answer (Some before) (Some after) = became before after

-- freeing a handle empties it; an empty one is refused by 34
abbrev pub Frees : {A : Type 0} → (answer : ℕ) → (before after : Option A) → Type 0
Frees answer None after = (answer ≡ 34) × (after ≡ None)
Frees answer (Some before) after = (answer ≡ 0) × (after ≡ None)
