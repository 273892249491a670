-- The samples of a scrape as they are shown, and their text: as `samples` and `text`, with the numbers of each family shifted by
-- its decimal digits (Prometheus documentation, "Exposition formats", "Text format details").
use Rattle.std.specs.Prelude.{◌≡◌, ℕ, ℤ, pos, ◌-ℤ◌, List, [], ◌∷◌, ◌++◌, length, map, slice_index, sum, zip, flat_map, codes, All}
use Rattle.std.specs.List.{range_with_len}
use Rattle.bucket_math.specs.Buckets.{cumulated}
use Rattle.ledger_core.specs.declared.totals.HistTotals.{HistTotals}
use Rattle.metric_desc.specs.Desc.{Descriptor}
use Rattle.expo_text.specs.declared.number.Number.{Number}
use Rattle.expo_text.specs.declared.number.Number.TheVariants.{Counter, Histogram, Gauge}
use Rattle.expo_text.specs.Scraped.{Child, Family, Scraped}
use Rattle.expo_text.specs.Shifted.{shifted, signed_shifted}
use Rattle.expo_text.specs.Text.{labels_text, help_line, type_line}

-- a sample as it is shown: its name, its labels, its whole number, and by how many digits the text shifts it
pub record Shown : Type 0 where
  pub name : List ℕ
  pub labels : List (List ℕ × List ℕ)
  pub value : ℤ
  pub digits : ℕ

-- the sample of a bucket, whose value is a count: the bound stands as the label `le` after the other labels
abbrev pub shown_bucket : Descriptor → List (List ℕ × List ℕ) → List ℕ → ℕ → Shown
shown_bucket desc labels bound value =
    record { name = desc.name ++ codes "_bucket"; labels = labels ++ ((codes "le", bound) ∷ []); value = pos value; digits = 0 }

-- the samples of a histogram's buckets, one for each bound, cumulated; the bounds are shifted
abbrev pub shown_bounds : Descriptor → List (List ℕ × List ℕ) → List ℕ → List Shown
shown_bounds desc labels buckets =
    map (λ k. shown_bucket desc labels (shifted desc.digits (slice_index desc.bounds k))
    (cumulated buckets (length desc.bounds) k)) (range_with_len 0 (length desc.bounds))

-- after them the bucket of all values, the sum, which is shifted, and the count
abbrev pub shown_last : Descriptor → List (List ℕ × List ℕ) → HistTotals → List Shown
shown_last desc labels totals =
    shown_bucket desc labels (codes "+Inf") (sum totals.buckets)
    ∷ record { name = desc.name ++ codes "_sum"; labels = labels; value = pos totals.sum; digits = desc.digits }
    ∷ record { name = desc.name ++ codes "_count"; labels = labels; value = pos totals.count; digits = 0 }
    ∷ []

-- the samples of a number in a family: of a counter its total, of a gauge its ups less its downs, shifted
abbrev pub shown_of_number : Descriptor → List (List ℕ × List ℕ) → Number → List Shown
shown_of_number desc labels (Counter total) =
    record { name = desc.name; labels = labels; value = pos total; digits = desc.digits } ∷ []
shown_of_number desc labels (Histogram totals) = shown_bounds desc labels totals.buckets ++ shown_last desc labels totals
shown_of_number desc labels (Gauge totals) =
    record { name = desc.name; labels = labels; value = pos totals.up -ℤ pos totals.down; digits = desc.digits } ∷ []

-- the samples of a child, which has a value for each label of its family
abbrev pub shown_of_child : Descriptor → Child → List Shown
shown_of_child desc child = shown_of_number desc (zip desc.labels child.values) child.number

-- the samples of a family, child by child
abbrev pub shown_of_family : Family → List Shown
shown_of_family family = flat_map (shown_of_child family.desc) family.children

-- the line of a sample: its name, its labels, a blank, its value shifted
abbrev pub shown_line : Shown → List ℕ
shown_line sample =
    sample.name ++ labels_text sample.labels ++ codes " " ++ signed_shifted sample.digits sample.value ++ codes "\n"

-- the lines of a group: the help, the type, then these samples; without children nothing at all
abbrev pub shown_group_of : Descriptor → List Child → List Shown → List ℕ
shown_group_of desc [] lines = []
shown_group_of desc (_ ∷ _) lines = help_line desc.name desc.help ++ type_line desc ++ flat_map shown_line lines

-- the lines of a family's group
abbrev pub shown_group_text : Family → List ℕ
shown_group_text family = shown_group_of family.desc family.children (shown_of_family family)

-- the groups of the families, one after another
abbrev pub shown_text : Scraped → List ℕ
shown_text scrape = flat_map shown_group_text scrape.families

-- no family's numbers are shifted
abbrev pub ArePlain : Scraped → Type 0
ArePlain scrape = All (λ (family : Family). family.desc.digits ≡ 0) scrape.families
