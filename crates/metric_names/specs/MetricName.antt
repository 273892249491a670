-- Metric names (Prometheus documentation, "Data model").
use Rattle.std.specs.Prelude.{◌≡◌, ℕ, ◌<◌, ◌≤◌, true, List, [], length, slice_index, IsTrue, EachIndex}
use Rattle.metric_names.specs.Spelling.{name_takes, FirstWrong}
use Rattle.metric_names.specs.declared.metric_name.MetricNameFault.{MetricNameFault}
use Rattle.metric_names.specs.declared.metric_name.MetricNameFault.TheVariants.{Empty, TooLong, BadByte, NoMemory}

-- `[a-zA-Z_:][a-zA-Z0-9_:]*`, 1 to 128 bytes
pub record IsMetricName (text : List ℕ) : Type 0 where
  pub nonempty : 0 < length text
  pub short : length text ≤ 128
  pub spelled : EachIndex text (λ k. IsTrue (name_takes true k (slice_index text k)))

-- why a text is no metric name; a name is refused for want of memory alone
abbrev pub IsMetricNameFault : List ℕ → MetricNameFault → Type 0
IsMetricNameFault text Empty = text ≡ []
IsMetricNameFault text (TooLong limit) = (128 < length text) × (limit ≡ 128)
IsMetricNameFault text (BadByte at) = (length text ≤ 128) × FirstWrong true text at
IsMetricNameFault text NoMemory = IsMetricName text

-- the number of each fault
abbrev pub number_of : MetricNameFault → ℕ
number_of Empty = 1
number_of (BadByte _) = 2
number_of (TooLong _) = 3
number_of NoMemory = 6
