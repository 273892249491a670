-- Changes by handles.
use Rattle.std.specs.Prelude.{◌≡◌, ℕ}
use Rattle.ledger_core.specs.declared.op.Op.{Op}
use Rattle.page_crew.specs.declared.change.Change.{Change}

-- what it adds
abbrev pub op_in : Change → Op
op_in change = change.op

-- it was made with a handle of the registry of this id
abbrev pub IsOf : (id : ℕ) → Change → Type 0
IsOf id change = change.registry ≡ id
