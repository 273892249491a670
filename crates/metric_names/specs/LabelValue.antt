-- Label values (Prometheus documentation, "Data model").
use Rattle.std.specs.Prelude.{◌≡◌, ℕ, ◌<◌, ◌≤◌, List, length}
use Rattle.metric_names.specs.declared.label_value.LabelValueFault.{LabelValueFault}
use Rattle.metric_names.specs.declared.label_value.LabelValueFault.TheVariants.{TooLong, NoMemory}

-- any text of at most 256 bytes
abbrev pub IsLabelValue : List ℕ → Type 0
IsLabelValue text = length text ≤ 256

-- why a text is no label value; a value is refused for want of memory alone
abbrev pub IsLabelValueFault : List ℕ → LabelValueFault → Type 0
IsLabelValueFault text (TooLong limit) = (256 < length text) × (limit ≡ 256)
IsLabelValueFault text NoMemory = IsLabelValue text

-- the number of each fault
abbrev pub number_of : LabelValueFault → ℕ
number_of (TooLong _) = 3
number_of NoMemory = 6
