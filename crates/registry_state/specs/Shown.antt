-- The scrape that a registry gives: its families at one answer of its source.
use Rattle.std.specs.Prelude.{◌≡◌, ℕ, ◌+◌, ◌*◌, List, map, take, drop, slice_index}
use Rattle.std.specs.List.Sorted.{IsPermutation}
use Rattle.metric_desc.specs.declared.kind.Kind.{Kind}
use Rattle.metric_desc.specs.declared.kind.Kind.TheVariants.{Counter, Histogram, Gauge}
use Rattle.expo_text.specs.Scraped.{Child as ChildShown, Family as FamilyShown, Scraped}
use Rattle.expo_text.specs.declared.number.Number.{Number}
use Rattle.register_rule.specs.declared.view.Answer.{Answer}
use Rattle.registry_state.specs.Replay.{Child, Family}

-- rows of c counters and h histograms
module _ (c h : ℕ) (totals : List ℕ) where
  -- the number of a slot
  abbrev pub value_at : Kind → ℕ → Number
  value_at Counter slot = Number.Counter (slice_index totals slot)
  value_at Histogram slot = Number.Histogram (record {
    buckets = take 25 (drop (c + 27 * slot) totals);
    sum = slice_index totals (c + 27 * slot + 25);
    count = slice_index totals (c + 27 * slot + 26);
  })
  value_at Gauge slot = Number.Gauge
      (record { up = slice_index totals (c + 27 * h + 2 * slot); down = slice_index totals (c + 27 * h + 2 * slot + 1) })

  -- a child with its label values and the number of its slot
  abbrev pub child_shown : Kind → Child → ChildShown
  child_shown kind child = record { values = child.values; number = value_at kind child.slot }

  -- a family with the numbers of its children's slots
  abbrev pub family_shown : Family → FamilyShown
  family_shown family = record { desc = family.desc; children = map (child_shown family.desc.kind) family.children }

-- the scrape has the answer's vector, and each of these families once, with the numbers of its slots in the answer
pub record IsShown (c h : ℕ) (families : List Family) (answer : Answer) (scrape : Scraped) : Type 0 where
  pub vector : scrape.vector ≡ answer.vector
  pub families_are : IsPermutation (map (family_shown c h answer.totals) families) scrape.families
