-- Why a line of a script is refused, and what that leaves.
use Rattle.std.specs.Prelude.{◌≡◌, ◌≢◌, ◌⊎◌, ℕ, true, List, [], None, All, IsSomeAnd, slice_get}
use Rattle.metric_desc.specs.Desc.{Descriptor}
use Rattle.metric_desc.specs.declared.kind.Kind.{Kind}
use Rattle.metric_desc.specs.declared.kind.Kind.TheVariants as kind
use Rattle.snapshot_scan.specs.Scanners.{recorded_in}
use Rattle.scrape_server.specs.Scans.{quit_in, gave_in, gave_up_in}
use Rattle.registry_state.specs.Calls.{KeepsScrape}
use Rattle.registry_state.specs.Faults.{IsWindow, IsRegisterFault, IsChildFault, Leaves}
use Rattle.registry_state.specs.declared.fault.BadWindow.{BadWindow}
use Rattle.registry_state.specs.declared.fault.RegisterFault.{RegisterFault}
use Rattle.registry_state.specs.declared.fault.ChildFault.{ChildFault}
use Rattle.registry_state.specs.declared.fault.ScrapeFault.{ScrapeFault}
use Rattle.script_lines.specs.Language.{Saying, Nothing, Counter, Gauge, Histogram, Child, Count, Go, Scrape, Settle, Window}
use Rattle.script_lines.specs.Language.{AreBounds, IsLine}
use Rattle.worker_pool.specs.Ends.{IsPoolFault}
use Rattle.worker_pool.specs.declared.fault.PoolFault.{PoolFault}
use Rattle.worker_pool.specs.declared.fault.PoolFault.TheVariants as pool
use Rattle.metrics_program.specs.Waiting.{lists_in}
use Rattle.metrics_program.specs.Parts.{IsDescribed, AreRead, AreValuesRefused, IsPlainRefusal, IsHistogramRefusal}
use Rattle.metrics_program.specs.State.{job_in, IsBeside, IsSame}
use Rattle.metrics_program.specs.declared.line_fault.LineFault.{LineFault}
use Rattle.metrics_program.specs.declared.line_fault.LineFault.TheVariants as fault
use Rattle.metrics_program.specs.declared.refused.Refused.{Refused}
use Rattle.metrics_program.specs.declared.state.State.{State}
use Rattle.metrics_program.specs.declared.state.Count.{Count as Counted}

-- why a family is not registered: the registry refuses it
abbrev pub IsRegisterRefusal : State → Descriptor → LineFault → Type 0
IsRegisterRefusal old desc refusal = (wrong : RegisterFault) × (refusal ≡ fault.Register wrong)
    × IsRegisterFault old.registry.state.families desc wrong

-- no family of the registry has this name
abbrev pub IsNoFamily : State → (name : List ℕ) → Type 0
IsNoFamily old name = All (λ it. it.desc.name ≢ name) old.registry.state.families

-- the registry has a family of this name, which has no child of these values, as they are written
pub record IsNotGiven (old : State) (name values : List ℕ) (wrong : ChildFault) : Type 0 where
  pub family : ℕ
  pub named : IsSomeAnd (slice_get old.registry.state.families family) (λ it. it.desc.name ≡ name)
  pub read : List (List ℕ)
  pub are_read : AreRead values read
  pub refused : IsChildFault 64 8 16 old.registry.state.families family read wrong

-- why there is no child: the values are refused, or there was no room; or they are good, and there is no family of
-- that name, or it refuses them
abbrev pub IsChildRefusal : State → (name values : List ℕ) → LineFault → Type 0
IsChildRefusal old name values refusal =
    AreValuesRefused values refusal
    ⊎ ((refusal ≡ fault.NoSuchFamily) × ((read : List (List ℕ)) × AreRead values read) × IsNoFamily old name)
    ⊎ ((wrong : ChildFault) × (refusal ≡ fault.Child wrong) × IsNotGiven old name values wrong)

-- why nothing is queued: there is no such child, or there is no room
abbrev pub IsQueueRefusal : State → Counted → LineFault → Type 0
IsQueueRefusal old count refusal =
    ((refusal ≡ fault.NoSuchChild) × (job_in old.queue.children.items count ≡ None))
    ⊎ ((refusal ≡ fault.NoMemory) × (job_in old.queue.children.items count ≢ None))

-- the line by which a fault of the pool is told: that of the job that was refused, or that of the `go`
abbrev pub told_at : (line : ℕ) → PoolFault → ℕ
told_at line (pool.Refused of_job number) = of_job
told_at line (pool.GateShut worker) = line
told_at line (pool.NoThread worker) = line
told_at line pool.NoMemory = line

-- a `go` of this line is refused for this fault of the pool
abbrev pub IsGoRefusal : (line : ℕ) → PoolFault → Refused → Type 0
IsGoRefusal line wrong refused = refused ≡ record { line = told_at line wrong; fault = fault.Pool wrong }

-- the workers are gone, and nothing else has changed
pub record IsLost (old new : State) : Type 0 where
  pub workers : new.workers.items ≡ []
  pub board : new.board.now ≡ old.board.now
  pub registry : new.registry ≡ old.registry
  pub settler : new.settler ≡ old.settler
  pub children : new.queue.children.items ≡ old.queue.children.items
  pub queue : lists_in new.queue ≡ lists_in old.queue

-- the registry made no scrape, and has the families, the kept scrapes and the window that it had
pub record IsNotScraped (old : State) (wrong : ScrapeFault) (new : State) : Type 0 where
  pub leaves : Leaves 4 recorded_in quit_in gave_up_in old.registry.source new.registry.source wrong
  pub journal : new.registry.journal ≡ old.registry.journal
  pub state : new.registry.state ≡ old.registry.state
  pub id : new.registry.id ≡ old.registry.id
  pub window : new.registry.window ≡ old.registry.window
  pub beside : IsBeside old new

-- why there is no text: the registry made no scrape; or it made one, and there was no room for the text
abbrev pub IsScrapeRefusal : State → LineFault → (new : State) → Type 0
IsScrapeRefusal old refusal new =
    ((wrong : ScrapeFault) × (refusal ≡ fault.Scrape wrong) × IsNotScraped old wrong new)
    ⊎ ((refusal ≡ fault.NoMemory) × KeepsScrape 4 64 8 16 recorded_in gave_in old.registry new.registry × IsBeside old new)

-- why a window is refused: it is none that a registry may have
abbrev pub IsWindowRefusal : (size : ℕ) → LineFault → Type 0
IsWindowRefusal size refusal = ((wrong : BadWindow) × (refusal ≡ fault.Window wrong)) × (¬ (IsWindow size))

-- why a family of a counter or a gauge is refused: by what the line says, or by the registry
abbrev pub IsPlainLineRefusal : State → Kind → (name labels help : List ℕ) → LineFault → Type 0
IsPlainLineRefusal old of name labels help refusal =
    IsPlainRefusal name labels help refusal
    ⊎ ((desc : Descriptor) × IsDescribed of name labels help (λ bounds. bounds ≡ []) desc × IsRegisterRefusal old desc refusal)

-- why a family of a histogram is
abbrev pub IsHistogramLineRefusal : State → (name labels bounds help : List ℕ) → LineFault → Type 0
IsHistogramLineRefusal old name labels bounds help refusal =
    IsHistogramRefusal name labels help bounds refusal
    ⊎ ((desc : Descriptor) × IsDescribed kind.Histogram name labels help (AreBounds bounds) desc
    × IsRegisterRefusal old desc refusal)

-- a line that prints nothing and counts nothing is refused for this reason
abbrev pub IsActRefusal : State → Saying → LineFault → Type 0
IsActRefusal old Nothing refusal = ⊥
IsActRefusal old (Counter name labels help) refusal = IsPlainLineRefusal old kind.Counter name labels help refusal
IsActRefusal old (Gauge name labels help) refusal = IsPlainLineRefusal old kind.Gauge name labels help refusal
IsActRefusal old (Histogram name labels bounds help) refusal = IsHistogramLineRefusal old name labels bounds help refusal
IsActRefusal old (Child name values) refusal = IsChildRefusal old name values refusal
IsActRefusal old (Count what worker child by times) refusal =
    IsQueueRefusal old (record { what = what; worker = worker; child = child; by = by; times = times }) refusal
IsActRefusal old Go refusal = ⊥
IsActRefusal old Scrape refusal = ⊥
IsActRefusal old Settle refusal = ⊥
IsActRefusal old (Window size) refusal = ⊥

-- the line of this number is refused for a reason, by which it is told
abbrev pub IsToldAt : (number : ℕ) → (LineFault → Type 0) → Refused → Type 0
IsToldAt number Why refused = (refused.line ≡ number) × Why refused.fault

-- the line of this number, which says this, is refused so, and leaves this: all as it was, but where a pool has run, and but for
-- what a scrape notes
abbrev pub IsRefused : (old : State) (number : ℕ) → Saying → Refused → (new : State) → Type 0
IsRefused old number Nothing refused new = ⊥
IsRefused old number (Counter name labels help) refused new = IsToldAt number (IsActRefusal old (Counter name labels help))
    refused × IsSame old new
IsRefused old number (Gauge name labels help) refused new = IsToldAt number (IsActRefusal old (Gauge name labels help)) refused
    × IsSame old new
IsRefused old number (Histogram name labels bounds help) refused new =
    IsToldAt number (IsActRefusal old (Histogram name labels bounds help)) refused × IsSame old new
IsRefused old number (Child name values) refused new = IsToldAt number (IsActRefusal old (Child name values)) refused
    × IsSame old new
IsRefused old number (Count what worker child by times) refused new =
    IsToldAt number (IsActRefusal old (Count what worker child by times)) refused × IsSame old new
IsRefused old number Go refused new =
    ((wrong : PoolFault) × IsGoRefusal number wrong refused
    × IsPoolFault true old.board.now (lists_in old.queue) old.workers.items wrong) × IsLost old new
IsRefused old number Scrape refused new = IsToldAt number (λ refusal. IsScrapeRefusal old refusal new) refused
IsRefused old number Settle refused new = ⊥
IsRefused old number (Window size) refused new = IsToldAt number (IsWindowRefusal size) refused × IsSame old new

-- no line says this
abbrev pub IsNoLine : (text : List ℕ) → Type 0
IsNoLine text = (saying : Saying) → ¬ (IsLine text saying)

-- the line of this number, which has this text, is refused so: with 27 where no line has it, and else for a reason of what it
-- says
abbrev pub IsLineRefused : (old : State) (number : ℕ) (text : List ℕ) → Refused → (new : State) → Type 0
IsLineRefused old number text refused new =
    (IsNoLine text × IsToldAt number (λ refusal. refusal ≡ fault.BadLine) refused × IsSame old new)
    ⊎ ((saying : Saying) × IsLine text saying × IsRefused old number saying refused new)
