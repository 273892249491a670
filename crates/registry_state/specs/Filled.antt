-- A scrape's families before and after their values are written.
use Rattle.std.specs.Prelude.{◌≡◌, ℕ, ◌<◌, List, length, map, replicate, All}
use Rattle.ledger_core.specs.Limits.{AreSlots}
use Rattle.metric_desc.specs.declared.kind.Kind.{Kind}
use Rattle.metric_desc.specs.declared.kind.Kind.TheVariants.{Counter, Histogram, Gauge}
use Rattle.expo_text.specs.Scraped.{Child as ChildShown, Family as FamilyShown}
use Rattle.expo_text.specs.declared.number.Number.{Number}
use Rattle.register_rule.specs.declared.view.Answer.{Answer}
use Rattle.snapshot_scan.specs.Sources.{IsWhole}
use Rattle.registry_state.specs.Replay.{Child, Family, slots}
use Rattle.registry_state.specs.Held.{family_at, AreShowable, IsOrder}
use Rattle.registry_state.specs.Shown.{family_shown}

-- the value of this kind where nothing was counted
abbrev pub zero_of : Kind → Number
zero_of Counter = Number.Counter 0
zero_of Histogram = Number.Histogram (record { buckets = replicate 25 0; sum = 0; count = 0 })
zero_of Gauge = Number.Gauge (record { up = 0; down = 0 })

-- a child with zeros
abbrev pub child_blank : Kind → Child → ChildShown
child_blank kind child = record { values = child.values; number = zero_of kind }

-- a family with zeros
abbrev pub family_blank : Family → FamilyShown
family_blank family = record { desc = family.desc; children = map (child_blank family.desc.kind) family.children }

-- the families, in this order of their numbers, with zeros
abbrev pub blanks : List Family → (order : List ℕ) → List FamilyShown
blanks families order = map (λ number. family_blank (family_at families number)) order

-- the families, in this order of their numbers, with their values in these totals of rows of c counters and h histograms
abbrev pub arranged : (c h : ℕ) → (totals : List ℕ) → List Family → (order : List ℕ) → List FamilyShown
arranged c h totals families order = map (λ number. family_shown c h totals (family_at families number)) order

-- the children of a family have slots of a row of c counters, h histograms and g gauges
abbrev pub AreWithin : (c h g : ℕ) → Family → Type 0
AreWithin c h g family = All (λ (child : Child). child.slot < slots c h g family.desc.kind) family.children

-- a vector and families with zeros can be filled from an answer of n workers, and of a row of c counters, h histograms and g
-- gauges: they are of its workers and of these families in their order, and the answer has all their slots
pub record IsFillable (n c h g : ℕ) (blank_vector : List ℕ) (blank : List FamilyShown) (held : List Family) (order : List ℕ)
    (answer : Answer) : Type 0 where
  pub vector : length blank_vector ≡ n
  pub families : blank ≡ blanks held order
  pub showable : AreShowable c h g held
  pub ordered : IsOrder held order
  pub slots : AreSlots c h g
  pub whole : IsWhole n c h g answer
