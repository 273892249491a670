-- What a line has done, and what it printed.
use Rattle.std.specs.Prelude.{◌≡◌, ℕ, List, []}
use Rattle.metric_desc.specs.Desc.{Descriptor}
use Rattle.metric_desc.specs.declared.kind.Kind.TheVariants as kind
use Rattle.script_lines.specs.Language.{Saying, Nothing, Counter, Gauge, Histogram, Child, Count, Go, Scrape, Settle, Window}
use Rattle.script_lines.specs.Language.{AreBounds}
use Rattle.metrics_program.specs.Parts.{IsDescribed}
use Rattle.metrics_program.specs.ScriptLines.{kept_line, settled_line}
use Rattle.metrics_program.specs.State.{IsSame, IsRegistered, IsNumbered, IsQueued, IsGone, IsScraped, IsSettled, IsWindowed}
use Rattle.metrics_program.specs.declared.state.State.{State}

-- the line of this number, which prints nothing and counts nothing, was done
abbrev pub IsDone : (old : State) (number : ℕ) → Saying → (new : State) → Type 0
IsDone old number Nothing new = IsSame old new
IsDone old number (Counter name labels help) new =
    (desc : Descriptor) × IsDescribed kind.Counter name labels help (λ bounds. bounds ≡ []) desc × IsRegistered desc old new
IsDone old number (Gauge name labels help) new =
    (desc : Descriptor) × IsDescribed kind.Gauge name labels help (λ bounds. bounds ≡ []) desc × IsRegistered desc old new
IsDone old number (Histogram name labels bounds help) new =
    (desc : Descriptor) × IsDescribed kind.Histogram name labels help (AreBounds bounds) desc × IsRegistered desc old new
IsDone old number (Child name values) new = IsNumbered name values old new
IsDone old number (Count what worker child by times) new =
    IsQueued old number (record { what = what; worker = worker; child = child; by = by; times = times }) new
IsDone old number Go new = IsSame old new
IsDone old number Scrape new = IsSame old new
IsDone old number Settle new = IsSame old new
IsDone old number (Window size) new = IsSame old new

-- the line of this number was done, and it printed these bytes
abbrev pub IsStepped : (old : State) (number : ℕ) → Saying → (printed : List ℕ) → (new : State) → Type 0
IsStepped old number Nothing printed new = (printed ≡ []) × IsDone old number Nothing new
IsStepped old number (Counter name labels help) printed new = (printed ≡ []) × IsDone old number (Counter name labels help) new
IsStepped old number (Gauge name labels help) printed new = (printed ≡ []) × IsDone old number (Gauge name labels help) new
IsStepped old number (Histogram name labels bounds help) printed new = (printed ≡ [])
    × IsDone old number (Histogram name labels bounds help) new
IsStepped old number (Child name values) printed new = (printed ≡ []) × IsDone old number (Child name values) new
IsStepped old number (Count what worker child by times) printed new = (printed ≡ [])
    × IsDone old number (Count what worker child by times) new
IsStepped old number Go printed new = (printed ≡ []) × IsGone old new
IsStepped old number Scrape printed new = IsScraped old printed new
IsStepped old number Settle printed new = (printed ≡ settled_line new.settled.vector) × IsSettled old new
IsStepped old number (Window size) printed new = (kept : ℕ) × (printed ≡ kept_line kept) × IsWindowed size kept old new
