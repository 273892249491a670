-- What a gauge is set by.
use Rattle.std.specs.Prelude.{◌≡◌, ◌⊎◌, ℕ, ℤ, pos, ◌-ℤ◌}
use Rattle.ledger_core.specs.declared.handles.Gauge.{Gauge}
use Rattle.ledger_core.specs.declared.op.Op.TheVariants.{Up, Down}
use Rattle.page_crew.specs.declared.change.Change.{Change}
use Rattle.dirgwako.specs.declared.setting.GaugeCell.{GaugeCell}

-- the gauge
abbrev pub gauge_in : GaugeCell → Gauge
gauge_in cell = cell.gauge

-- the value that it was set to last
abbrev pub last_of : GaugeCell → ℤ
last_of cell = cell.last

-- the gauge is raised or lowered, by as much as takes it from the value that it was set to last to this one
abbrev pub Moves : GaugeCell → (value : ℤ) → Change → Type 0
Moves cell value change = (by : ℕ) × (change.registry ≡ cell.gauge.registry)
    × (((change.op ≡ Up cell.gauge.slot by) × (pos by ≡ value -ℤ cell.last))
    ⊎ ((change.op ≡ Down cell.gauge.slot by) × (pos by ≡ cell.last -ℤ value)))
