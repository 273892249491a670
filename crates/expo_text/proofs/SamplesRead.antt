-- What is written of a sample, and of a group, reads back as it.
use Rattle.std.proofs.Common.{◌≡◌, ℕ, suc, ◌<◌, ◌^◌, List, [], ◌∷◌, map, pos, nat_abs, All, refl, inl, ◌≤◌, ◌-◌, ◌*◌}
use Rattle.std.proofs.Common.{inr}
use Rattle.std.specs.Prelude.{ℤ, negsuc, ◌*ℤ◌, ◌⊎◌}
use Rattle.expo_text.specs.Shifted.{shifted, signed_shifted}
use Rattle.std.proofs.lemmas.List.Elements.{All-head, All-tail}
use Rattle.metric_names.specs.LabelName.{IsLabelName}
use Rattle.metric_desc.specs.declared.kind.Kind.{Kind}
use Rattle.metric_desc.specs.declared.kind.Kind.TheVariants.{Gauge}
use Rattle.expo_text.specs.Shown.{Shown}
use Rattle.expo_text.proofs.ShownGroups.{ShownGroup, as_group}
use Rattle.expo_text.specs.Reads.{Match, IsHelpOf, IsLabel}
use Rattle.expo_text.specs.ReadsTo.{worth, WritesValueTo, IsSampleTo, IsGroupTo}
use Rattle.expo_text.proofs.ShiftedNumbers.{shifted_writes, writes_more}
use Rattle.expo_text.proofs.Pairs.{Each}
use Rattle.expo_text.proofs.Entries.{written_label, written_of, helps_of, part_of, IsPrintedSample, IsPrintedGroup}

-- a value is written shifted, or with a minus before it
value_reads : (places digits : ℕ) (kind : Kind) (value : ℤ) → digits ≤ places → nat_abs value < 2 ^ 64
    → ((kind ≡ Gauge) ⊎ ((n : ℕ) × (value ≡ pos n)))
    → WritesValueTo places kind (signed_shifted digits value) (value *ℤ pos (10 ^ (places - digits)))
value_reads places digits kind (pos n) within small sign =
    inl (n * 10 ^ (places - digits), writes_more digits places (shifted digits n) n within (shifted_writes digits n small), refl)
value_reads places digits kind (negsuc n) within small (inl gauge) =
    inr (
      shifted digits (suc n),
      suc n * 10 ^ (places - digits),
      gauge,
      refl,
      writes_more digits places (shifted digits (suc n)) (suc n) within (shifted_writes digits (suc n) small),
      refl,
    )
value_reads places digits kind (negsuc n) within small (inr above) = let e = above.1 in cc

-- labels are written with their values escaped
labels_match : (labels : List (List ℕ × List ℕ)) → All (λ (label : List ℕ × List ℕ). IsLabelName label.0) labels
    → Match IsLabel (map written_label labels) labels
labels_match [] names = tt
labels_match (label ∷ labels) names = (
  record {
    name = refl;
    spelled = All-head (λ (label : List ℕ × List ℕ). IsLabelName label.0) label labels names;
    value = refl;
  },
  labels_match labels (All-tail (λ (label : List ℕ × List ℕ). IsLabelName label.0) label labels names),
)

-- a sample is shifted by at most so many digits
abbrev pub IsWithin : (places : ℕ) → Shown → Type 0
IsWithin places sample = sample.digits ≤ places

-- a printed sample reads back from what is written of it
written_reads : (places : ℕ) (kind : Kind) (sample : Shown) → IsPrintedSample sample → IsWithin places sample
    → ((kind ≡ Gauge) ⊎ ((n : ℕ) × (sample.value ≡ pos n)))
    → IsSampleTo places kind (written_of sample) (worth places sample)
written_reads places kind sample printed within sign = record {
  name = refl;
  labels = labels_match sample.labels printed.labels;
  value = value_reads places sample.digits kind sample.value within printed.value sign;
}

-- a sample's value is not below zero
abbrev pub IsAbove : Shown → Type 0
IsAbove sample = (n : ℕ) × (sample.value ≡ pos n)

-- where a group may have signs, so may its first sample
head_sign : (kind : Kind) (sample : Shown) (samples : List Shown) → ((kind ≡ Gauge) ⊎ All IsAbove (sample ∷ samples))
    → (kind ≡ Gauge) ⊎ IsAbove sample
head_sign kind sample samples (inl gauge) = inl gauge
head_sign kind sample samples (inr all) = inr (All-head IsAbove sample samples all)

-- and so may the others
tail_signs : (kind : Kind) (sample : Shown) (samples : List Shown) → ((kind ≡ Gauge) ⊎ All IsAbove (sample ∷ samples))
    → (kind ≡ Gauge) ⊎ All IsAbove samples
tail_signs kind sample samples (inl gauge) = inl gauge
tail_signs kind sample samples (inr all) = inr (All-tail IsAbove sample samples all)

-- the printed samples of a group
samples_read : (places : ℕ) (kind : Kind) (samples : List Shown) → All IsPrintedSample samples → Each (IsWithin places) samples
    → ((kind ≡ Gauge) ⊎ All IsAbove samples)
    → Match (IsSampleTo places kind) (map written_of samples) (map (worth places) samples)
samples_read places kind [] printed within signs = tt
samples_read places kind (sample ∷ samples) printed within signs = (
  written_reads places kind sample (All-head IsPrintedSample sample samples printed) within.0
      (head_sign kind sample samples signs),
  samples_read places kind samples (All-tail IsPrintedSample sample samples printed) within.1
      (tail_signs kind sample samples signs),
)

-- the help of a group, if there is one
help_reads : (help : List ℕ) → IsHelpOf (helps_of help) help
help_reads [] = refl
help_reads (byte ∷ bytes) = refl

-- a printed group reads back from the part that its entries make
pub group_reads : (places : ℕ) (group : ShownGroup) → IsPrintedGroup group → Each (IsWithin places) group.samples
    → IsGroupTo places (part_of group) (as_group places group)
group_reads places group printed within = record {
  name = refl;
  spelled = printed.name;
  help = help_reads group.help;
  kind = refl;
  samples = samples_read places group.kind group.samples printed.samples within printed.signs;
}
