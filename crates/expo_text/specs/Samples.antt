-- The samples of a scrape (Prometheus documentation, "Exposition formats", "Histograms and summaries").
use Rattle.std.specs.Prelude.{ℕ, ℤ, pos, ◌-ℤ◌, List, [], ◌∷◌, ◌++◌, length, map, slice_index, sum, zip, flat_map, codes, decimal}
use Rattle.std.specs.List.{range_with_len}
use Rattle.bucket_math.specs.Buckets.{cumulated}
use Rattle.ledger_core.specs.declared.totals.HistTotals.{HistTotals}
use Rattle.metric_desc.specs.Desc.{Descriptor}
use Rattle.expo_text.specs.declared.number.Number.{Number}
use Rattle.expo_text.specs.declared.number.Number.TheVariants.{Counter, Histogram, Gauge}
use Rattle.expo_text.specs.Scraped.{Child, Family, Scraped}

-- a sample: the name under which it stands, its labels, each a name and a value, and its own value
pub record Sample : Type 0 where
  pub name : List ℕ
  pub labels : List (List ℕ × List ℕ)
  pub value : ℤ

-- the sample of a bucket: the bound stands as the label `le` after the other labels
abbrev pub bucket_sample : Descriptor → List (List ℕ × List ℕ) → List ℕ → ℕ → Sample
bucket_sample desc labels bound value =
    record { name = desc.name ++ codes "_bucket"; labels = labels ++ ((codes "le", bound) ∷ []); value = pos value }

-- the samples of a histogram's buckets, one for each bound, cumulated
abbrev pub bound_samples : Descriptor → List (List ℕ × List ℕ) → List ℕ → List Sample
bound_samples desc labels buckets =
    map (λ k. bucket_sample desc labels (decimal (slice_index desc.bounds k)) (cumulated buckets (length desc.bounds) k))
    (range_with_len 0 (length desc.bounds))

-- after them the bucket of all values, the sum and the count
abbrev pub last_samples : Descriptor → List (List ℕ × List ℕ) → HistTotals → List Sample
last_samples desc labels totals =
    bucket_sample desc labels (codes "+Inf") (sum totals.buckets)
    ∷ record { name = desc.name ++ codes "_sum"; labels = labels; value = pos totals.sum }
    ∷ record { name = desc.name ++ codes "_count"; labels = labels; value = pos totals.count }
    ∷ []

-- the samples of a number in a family: of a counter its total, of a gauge its ups less its downs
abbrev pub samples_of_number : Descriptor → List (List ℕ × List ℕ) → Number → List Sample
samples_of_number desc labels (Counter total) = record { name = desc.name; labels = labels; value = pos total } ∷ []
samples_of_number desc labels (Histogram totals) = bound_samples desc labels totals.buckets ++ last_samples desc labels totals
samples_of_number desc labels (Gauge totals) =
    record { name = desc.name; labels = labels; value = pos totals.up -ℤ pos totals.down } ∷ []

-- the samples of a child, which has a value for each label of its family
abbrev pub samples_of_child : Descriptor → Child → List Sample
samples_of_child desc child = samples_of_number desc (zip desc.labels child.values) child.number

-- the samples of a family, child by child
abbrev pub samples_of_family : Family → List Sample
samples_of_family family = flat_map (samples_of_child family.desc) family.children

-- the samples of a whole scrape, family by family
abbrev pub samples : Scraped → List Sample
samples scrape = flat_map samples_of_family scrape.families
