-- Why a list of events is not run.
use Rattle.std.specs.Prelude.{ℕ}
use Rattle.ledger_core.specs.Limits.{AreWorkers}
use Rattle.snapshot_core.specs.declared.run_fault.RunFault.{RunFault}
use Rattle.snapshot_core.specs.declared.run_fault.RunFault.TheVariants.{Geometry, NoMemory}

-- there are no workers or too many; memory is answered only where their number is in range
abbrev pub IsRunFault : (n : ℕ) → RunFault → Type 0
IsRunFault n Geometry = ¬ AreWorkers n
IsRunFault n NoMemory = AreWorkers n

-- the number of each fault
abbrev pub number_of : RunFault → ℕ
number_of Geometry = 13
number_of NoMemory = 6
