-- The numbers of the faults of a pool, and which one is told.
use Rattle.std.specs.Prelude.{◌≡◌, ◌⊎◌, ℕ, ◌<◌, ⊤, Option, Some, None}
use Rattle.worker_pool.specs.declared.fault.PoolFault.{PoolFault}
use Rattle.worker_pool.specs.declared.fault.PoolFault.TheVariants.{Refused, GateShut, NoThread, NoMemory}

-- the number of each fault; that of a refused job is the number of its refusal
abbrev pub pool_fault_number : PoolFault → ℕ
pool_fault_number (Refused line number) = number
pool_fault_number (GateShut worker) = 29
pool_fault_number (NoThread worker) = 30
pool_fault_number NoMemory = 6

-- the first is told rather than the second: a refused job before a shut gate, that before want of a thread, and that before
-- want of memory; of two of one kind the one of the lesser line, or of the lesser worker
abbrev pub ComesBefore : PoolFault → PoolFault → Type 0
ComesBefore (Refused line _) (Refused other _) = line < other
ComesBefore (Refused _ _) (GateShut _) = ⊤
ComesBefore (Refused _ _) (NoThread _) = ⊤
ComesBefore (GateShut worker) (GateShut other) = worker < other
ComesBefore (GateShut _) (NoThread _) = ⊤
ComesBefore (NoThread worker) (NoThread other) = worker < other
ComesBefore NoMemory _ = ⊥
ComesBefore _ NoMemory = ⊤
ComesBefore _ _ = ⊥

-- of a fault that may be known and another one, of a worker after its own, this one is told
abbrev pub IsEarlier : (known : Option PoolFault) → (other told : PoolFault) → Type 0
IsEarlier None other told = told ≡ other
IsEarlier (Some f) other told = (ComesBefore other f × (told ≡ other)) ⊎ (¬ (ComesBefore other f) × (told ≡ f))

-- of the faults that were met, each at the place of its worker, this one is told: none comes before it, and it comes before each
-- that was met at a lesser place. So of two refusals of one line that of the lesser worker is told
pub record IsLeast (Met : (place : ℕ) → PoolFault → Type 0) (f : PoolFault) : Type 0 where
  pub place : ℕ
  pub met : Met place f
  pub first : (i : ℕ) (g : PoolFault) → Met i g → ¬ (ComesBefore g f)
  pub least : (i : ℕ) (g : PoolFault) → Met i g → i < place → ComesBefore f g
