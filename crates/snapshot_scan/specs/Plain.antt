-- What a clause reads of a plain source, and why it refuses.
use Rattle.std.specs.Prelude.{◌≡◌, ℕ, ◌+◌, ◌<◌, List, [], ◌∷◌, slice_index}
use Rattle.ledger_core.specs.OpFault.{IsOpFault, number_of}
use Rattle.ledger_core.specs.Row.{Accepts, Adds}
use Rattle.ledger_core.specs.declared.op.Op.{Op}
use Rattle.register_rule.specs.declared.view.Answer.{Answer}
use Rattle.snapshot_scan.specs.declared.plain.PlainSourceOf.{PlainSourceOf}
use Rattle.snapshot_scan.specs.declared.plain_fault.PlainFault.{PlainFault}
use Rattle.snapshot_scan.specs.declared.plain_fault.PlainFault.TheVariants.{Exhausted, Refused}

module _ {N C H G : ℕ} where
  -- the words of its row
  abbrev pub row_of : PlainSourceOf N C H G → List ℕ
  row_of s = s.row

  -- how many lists were applied to it
  abbrev pub count_of : PlainSourceOf N C H G → ℕ
  count_of s = s.count

  -- what its scans recorded, in order
  abbrev pub recorded_by : PlainSourceOf N C H G → List Answer
  recorded_by s = s.seat.me.0.entries

  -- how many of its scans were given up: none ever is
  abbrev pub quit_by : PlainSourceOf N C H G → ℕ
  quit_by s = 0

  -- from s to s' one scan was made, which gave this answer: the count and the row, which stay as they were
  pub record GivesRow (s s' : PlainSourceOf N C H G) (a : Answer) : Type 0 where
    pub vector : a.vector ≡ count_of s ∷ []
    pub totals : a.totals ≡ row_of s
    pub count : count_of s' ≡ count_of s
    pub row : row_of s' ≡ row_of s

-- from one row and count to the next a list was applied
pub record IsApplied (c h g : ℕ) (row : List ℕ) (count : ℕ) (ops : List Op) (row' : List ℕ) (count' : ℕ) : Type 0 where
  pub room : count < 18446744073709551615
  pub accepted : Accepts c h g (slice_index row) ops
  pub added : Adds c h row ops row'
  pub counted : count' ≡ count + 1

-- why a list is refused: as many were applied as a u64 can count, or else the row does not accept it
abbrev pub IsPlainFault : (c h g : ℕ) → (row : List ℕ) → (count : ℕ) → List Op → PlainFault → Type 0
IsPlainFault c h g row count ops Exhausted = count ≡ 18446744073709551615
IsPlainFault c h g row count ops (Refused fault) = (count < 18446744073709551615) × IsOpFault c h g (slice_index row) ops fault

-- the number of each fault
abbrev pub plain_fault_number : PlainFault → ℕ
plain_fault_number Exhausted = 15
plain_fault_number (Refused fault) = number_of fault
