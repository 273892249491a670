-- The numbers of a worker's refusals.
use Rattle.std.specs.Prelude.{ℕ}
use Rattle.ledger_core.specs.OpFault as Op
use Rattle.snapshot_update.specs.declared.faults.ApplyFault.{ApplyFault}
use Rattle.snapshot_update.specs.declared.faults.ApplyFault.TheVariants.{Exhausted, Refused}
use Rattle.snapshot_update.specs.declared.faults.CountFault.{CountFault}
use Rattle.snapshot_update.specs.declared.faults.CountFault.TheVariants.{WrongRegistry, Apply}

-- the number of each refusal of a list
abbrev pub apply_fault_number : ApplyFault → ℕ
apply_fault_number Exhausted = 15
apply_fault_number (Refused fault) = Op.number_of fault

-- the number of each refusal of an operation by a handle
abbrev pub count_fault_number : CountFault → ℕ
count_fault_number WrongRegistry = 16
count_fault_number (Apply fault) = apply_fault_number fault
