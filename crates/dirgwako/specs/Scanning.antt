-- What a clause reads of scanners.
use Rattle.std.specs.Prelude.{◌≡◌, ℕ, List, [], ◌∷◌, ◌++◌}
use Rattle.register_rule.specs.declared.board.Board.{Board}
use Rattle.snapshot_scan.specs.Scanners.{board_in}
use Rattle.snapshot_scan.specs.declared.scanner.Scanner.{Scanner}

module _ {N C H G : ℕ} where
  -- it scans this board
  abbrev pub ScansOn : Board N C H G → Scanner N C H G → Type 0
  ScansOn b s = board_in s ≡ b

-- all but the last
abbrev pub IsFront : {X : Type 0} → (front all : List X) → Type 0
IsFront {X} front all = (x : X) × (all ≡ front ++ x ∷ [])
