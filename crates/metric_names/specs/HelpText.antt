-- Help texts (Prometheus documentation, "Exposition formats", "Comments, help text, and type information").
use Rattle.std.specs.Prelude.{◌≡◌, ℕ, ◌-◌, ◌<◌, ◌≤◌, Bool, false, ◌||◌, ◌==◌, List, length, slice_index, IsTrue}
use Rattle.metric_names.specs.declared.help_text.HelpTextFault.{HelpTextFault}
use Rattle.metric_names.specs.declared.help_text.HelpTextFault.TheVariants.{TooLong, EdgeBlank, NoMemory}

-- a blank or a tab
abbrev pub is_blank : ℕ → Bool
is_blank b = b == 32 || b == 9

-- the first or the last byte is a blank or a tab
abbrev pub has_edge_blank : List ℕ → Bool
has_edge_blank text = is_blank (slice_index text 0) || is_blank (slice_index text (length text - 1))

-- any text of at most 1,024 bytes that neither begins nor ends with a blank or a tab
pub record IsHelpText (text : List ℕ) : Type 0 where
  pub short : length text ≤ 1024
  pub edges : has_edge_blank text ≡ false

-- why a text is no help text; a help text is refused for want of memory alone
abbrev pub IsHelpTextFault : List ℕ → HelpTextFault → Type 0
IsHelpTextFault text (TooLong limit) = (1024 < length text) × (limit ≡ 1024)
IsHelpTextFault text EdgeBlank = (length text ≤ 1024) × IsTrue (has_edge_blank text)
IsHelpTextFault text NoMemory = IsHelpText text

-- the number of each fault
abbrev pub number_of : HelpTextFault → ℕ
number_of (TooLong _) = 3
number_of EdgeBlank = 5
number_of NoMemory = 6
