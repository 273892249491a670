-- What C asks without a registry: whether bytes are a metric's name, what a refusal says, and bounds by rule.
use Rattle.std.specs.Prelude.{◌≡◌, ◌⊎◌, ℕ, List, length, Option, Some, None, IsUtf8}
use Rattle.bucket_math.specs.Bounds.{AreBounds, FirstBadBound}
use Rattle.dirgwako.specs.Spaced.{bounds_by}
use Rattle.dirgwako_c.specs.Registries.{IsHandedOver}
use Rattle.metric_names.specs.MetricName.{IsMetricName, IsMetricNameFault, number_of}
use Rattle.metric_names.specs.declared.metric_name.MetricNameFault.{MetricNameFault}

-- 0 for one, and else why it is none: 36, it is not UTF-8; or the name's own refusal
abbrev pub IsNameAnswer : (name : List ℕ) → (answer : ℕ) → Type 0
IsNameAnswer name answer = ((answer ≡ 0) × IsMetricName name) ⊎ (((answer ≡ 36) × ¬ (IsUtf8 name))
    ⊎ ((fault : MetricNameFault) × IsUtf8 name × (answer ≡ number_of fault) × IsMetricNameFault name fault))

-- what the refusal says was handed over; or there is none of this number (40), and the buffer and the length are as they were
abbrev pub TellsRefusal : Option (List ℕ) → (answer : ℕ) → (had has : List ℕ) → (had_len has_len : ℕ) → Type 0
TellsRefusal None answer had has had_len has_len = (answer ≡ 40) × (has ≡ had) × (has_len ≡ had_len)
TellsRefusal (Some says) answer had has had_len has_len = IsHandedOver says answer had has has_len

-- the list has as many bounds as it had room for, by this rule; or numbers by this rule are none, of which one is the first bad
-- one (10), and it is as it was
abbrev pub FillsBounds : (at : ℕ → ℕ) → (answer : ℕ) → (had has : List ℕ) → Type 0
FillsBounds at answer had has = ((answer ≡ 0) × AreBounds has × (has ≡ bounds_by at (length had)))
    ⊎ ((answer ≡ 10) × ((bad : ℕ) × FirstBadBound (bounds_by at (length had)) bad) × (has ≡ had))
