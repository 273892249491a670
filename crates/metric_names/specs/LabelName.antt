-- Label names (Prometheus documentation, "Data model").
use Rattle.std.specs.Prelude.{◌≡◌, ℕ, ◌<◌, ◌≤◌, Bool, false, ◌&&◌, ◌==◌, List, [], length, slice_index, IsTrue, EachIndex}
use Rattle.metric_names.specs.Spelling.{name_takes, FirstWrong}
use Rattle.metric_names.specs.declared.label_name.LabelNameFault.{LabelNameFault}
use Rattle.metric_names.specs.declared.label_name.LabelNameFault.TheVariants.{Empty, TooLong, BadByte, Reserved, NoMemory}

-- names that begin with `__` are Prometheus's own
abbrev pub is_reserved : List ℕ → Bool
is_reserved text = slice_index text 0 == 95 && slice_index text 1 == 95

-- `[a-zA-Z_][a-zA-Z0-9_]*`, 1 to 128 bytes, without `__` in front
pub record IsLabelName (text : List ℕ) : Type 0 where
  pub nonempty : 0 < length text
  pub short : length text ≤ 128
  pub spelled : EachIndex text (λ k. IsTrue (name_takes false k (slice_index text k)))
  pub free : is_reserved text ≡ false

-- why a text is no label name; a name is refused for want of memory alone
abbrev pub IsLabelNameFault : List ℕ → LabelNameFault → Type 0
IsLabelNameFault text Empty = text ≡ []
IsLabelNameFault text (TooLong limit) = (128 < length text) × (limit ≡ 128)
IsLabelNameFault text (BadByte at) = (length text ≤ 128) × FirstWrong false text at
IsLabelNameFault text Reserved =
    (length text ≤ 128) × EachIndex text (λ k. IsTrue (name_takes false k (slice_index text k))) × IsTrue (is_reserved text)
IsLabelNameFault text NoMemory = IsLabelName text

-- the number of each fault
abbrev pub number_of : LabelNameFault → ℕ
number_of Empty = 1
number_of (BadByte _) = 2
number_of (TooLong _) = 3
number_of Reserved = 4
number_of NoMemory = 6
