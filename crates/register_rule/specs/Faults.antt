-- Which boards there are, and why there is none.
use Rattle.std.specs.Prelude.{ℕ, ◌≤◌}
use Rattle.segment_layout.specs.Layout.{IsGeometry}
use Rattle.register_rule.specs.declared.board_fault.BoardFault.{BoardFault}
use Rattle.register_rule.specs.declared.board_fault.BoardFault.TheVariants.{Geometry, NoMemory}

-- workers, slots and readers are in range
abbrev pub IsBoardSize : (n c h g readers : ℕ) → Type 0
IsBoardSize n c h g readers = IsGeometry n c h g × (1 ≤ readers) × (readers ≤ 4)

-- something is out of range; memory is answered only where nothing is
abbrev pub IsBoardFault : (n c h g readers : ℕ) → BoardFault → Type 0
IsBoardFault n c h g readers Geometry = ¬ (IsBoardSize n c h g readers)
IsBoardFault n c h g readers NoMemory = IsBoardSize n c h g readers

-- the number of each fault
abbrev pub number_of : BoardFault → ℕ
number_of Geometry = 13
number_of NoMemory = 6
