-- The order and the limits that each scrape keeps.
use Rattle.std.specs.Prelude.{◌≡◌, ℕ, ◌≤◌, List, length, sum, All, AllPairs}
use Rattle.std.specs.Ordering.{nat_cmp}
use Rattle.std.specs.Cmp.Lexicographic.{slice_cmp}
use Rattle.std.specs.declared.cmp.Ordering.TheVariants.{Less}
use Rattle.metric_desc.specs.Desc.{Clash}
use Rattle.metric_desc.specs.declared.kind.Kind.{Kind}
use Rattle.metric_desc.specs.declared.kind.Kind.TheVariants.{Counter as CounterKind, Histogram as HistogramKind}
use Rattle.metric_desc.specs.declared.kind.Kind.TheVariants.{Gauge as GaugeKind}
use Rattle.expo_text.specs.declared.number.Number.{Number}
use Rattle.expo_text.specs.declared.number.Number.TheVariants.{Counter, Histogram, Gauge}
use Rattle.expo_text.specs.Scraped.{Child, Family, Scraped}

-- one text stands before another: byte by byte, a beginning before what it begins
abbrev pub IsBefore : List ℕ → List ℕ → Type 0
IsBefore a b = slice_cmp nat_cmp a b ≡ Less

-- one child stands before another: by their values, one by one
abbrev pub IsChildBefore : Child → Child → Type 0
IsChildBefore a b = slice_cmp (slice_cmp nat_cmp) a.values b.values ≡ Less

-- a number is of its family's kind, and a histogram's count is the sum of its buckets
abbrev pub IsNumberOf : Kind → Number → Type 0
IsNumberOf kind (Counter total) = kind ≡ CounterKind
IsNumberOf kind (Histogram totals) = (kind ≡ HistogramKind) × (totals.count ≡ sum totals.buckets)
IsNumberOf kind (Gauge totals) = kind ≡ GaugeKind

-- a family's children fit its labels and its kind, stand in strict order, and are at most 256
pub record IsFamily (family : Family) : Type 0 where
  pub few : length family.children ≤ 256
  pub fit : All (λ (child : Child). length child.values ≡ length family.desc.labels) family.children
  pub numbers : All (λ (child : Child). IsNumberOf family.desc.kind child.number) family.children
  pub ordered : AllPairs IsChildBefore family.children

-- a scrape's families stand in strict order of their names, the lines of no two take one name, and they are at most 128
pub record IsScrape (scrape : Scraped) : Type 0 where
  pub few : length scrape.families ≤ 128
  pub each : All IsFamily scrape.families
  pub ordered : AllPairs (λ (a b : Family). IsBefore a.desc.name b.desc.name) scrape.families
  pub apart : AllPairs (λ (a b : Family). ¬ (Clash a.desc b.desc)) scrape.families
