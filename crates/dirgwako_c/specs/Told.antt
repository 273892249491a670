-- What handles find in the numbers of a moment, for the geometry that the library is built for.
use Rattle.std.specs.Prelude.{◌≡◌, ◌≢◌, ◌⊎◌, ℕ, ◌+◌, ◌*◌, ◌<◌, ◌≤◌, ◌-ℤ◌, ℤ, pos, List, length, take, drop, slice_index}
use Rattle.ledger_core.specs.declared.handles.Counter.{Counter}
use Rattle.ledger_core.specs.declared.handles.Gauge.{Gauge}
use Rattle.ledger_core.specs.declared.handles.Histogram.{Histogram}
use Rattle.ledger_core.specs.Ops.{width}
use Rattle.dirgwako_c.specs.declared.geometry.TheConstants.{WORKERS, COUNTERS, HISTOGRAMS, GAUGES}
use Rattle.dirgwako_c.specs.declared.numbers.HistogramTotals.{HistogramTotals}

-- how many numbers a moment has
abbrev pub many : ℕ
many = 1 + WORKERS + width COUNTERS HISTOGRAMS GAUGES

-- the totals among them
abbrev pub totals_in : List ℕ → List ℕ
totals_in numbers = drop (1 + WORKERS) numbers

-- why they tell nothing of a handle, the first that is so: there are not as many as a moment has (41), they are of another board
-- (16), or there is no such slot (11)
abbrev pub TellsNothing : (numbers : List ℕ) (registry slot slots answer : ℕ) → Type 0
TellsNothing numbers registry slot slots answer = ((answer ≡ 41) × (length numbers ≢ many))
    ⊎ ((length numbers ≡ many) × (((answer ≡ 16) × (slice_index numbers 0 ≢ registry))
    ⊎ ((answer ≡ 11) × (slice_index numbers 0 ≡ registry) × (slots ≤ slot))))

-- they are the numbers of a moment of this board, and there is such a slot
abbrev pub HaveSlot : (numbers : List ℕ) (registry slot slots : ℕ) → Type 0
HaveSlot numbers registry slot slots = (length numbers ≡ many) × (slice_index numbers 0 ≡ registry) × (slot < slots)

-- the total of a counter was told, or nothing
abbrev pub TellsCounter : (numbers : List ℕ) → Counter → (answer had has : ℕ) → Type 0
TellsCounter numbers counter answer had has = ((answer ≡ 0) × HaveSlot numbers counter.registry counter.slot COUNTERS
    × (has ≡ slice_index (totals_in numbers) counter.slot))
    ⊎ (TellsNothing numbers counter.registry counter.slot COUNTERS answer × (has ≡ had))

-- the place of a gauge's ups among the totals; its downs stand behind them
abbrev pub place_of_gauge : (slot : ℕ) → ℕ
place_of_gauge slot = COUNTERS + 27 * HISTOGRAMS + 2 * slot

-- the value of a gauge was told, its ups less its downs, where both are totals; or nothing, also where one of them is none (41)
abbrev pub TellsGauge : (numbers : List ℕ) → Gauge → (answer : ℕ) → (had has : ℤ) → Type 0
TellsGauge numbers gauge answer had has = ((answer ≡ 0) × HaveSlot numbers gauge.registry gauge.slot GAUGES
    × (slice_index (totals_in numbers) (place_of_gauge gauge.slot) < 9007199254740992)
    × (slice_index (totals_in numbers) (place_of_gauge gauge.slot + 1) < 9007199254740992)
    × (has ≡ pos (slice_index (totals_in numbers) (place_of_gauge gauge.slot))
    -ℤ pos (slice_index (totals_in numbers) (place_of_gauge gauge.slot + 1))))
    ⊎ ((TellsNothing numbers gauge.registry gauge.slot GAUGES answer
    ⊎ ((answer ≡ 41) × HaveSlot numbers gauge.registry gauge.slot GAUGES × ((9007199254740992 ≤ slice_index (totals_in numbers)
    (place_of_gauge gauge.slot))
    ⊎ (9007199254740992 ≤ slice_index (totals_in numbers) (place_of_gauge gauge.slot + 1))))) × (has ≡ had))

-- the place of a histogram's buckets among the totals; its sum and its count stand behind them
abbrev pub place_of_histogram : (slot : ℕ) → ℕ
place_of_histogram slot = COUNTERS + 27 * slot

-- the totals of a histogram were told, or nothing
abbrev pub TellsHistogram : (numbers : List ℕ) → Histogram → (answer : ℕ) → (had has : HistogramTotals) → Type 0
TellsHistogram numbers histogram answer had has = ((answer ≡ 0) × HaveSlot numbers histogram.registry histogram.slot HISTOGRAMS
    × (has.buckets ≡ take 25 (drop (place_of_histogram histogram.slot) (totals_in numbers)))
    × (has.sum ≡ slice_index (totals_in numbers) (place_of_histogram histogram.slot + 25))
    × (has.count ≡ slice_index (totals_in numbers) (place_of_histogram histogram.slot + 26)))
    ⊎ (TellsNothing numbers histogram.registry histogram.slot HISTOGRAMS answer × (has ≡ had))
