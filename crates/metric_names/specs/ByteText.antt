-- How a byte is written in the text (Prometheus documentation, "Exposition formats", "Text format details").
use Rattle.std.specs.Prelude.{ℕ, Bool, true, false, List}
use Rattle.metric_names.specs.Escapes.{help_byte, label_byte}

-- how a byte is written, in quotes or in a help
abbrev pub byte_text : Bool → ℕ → List ℕ
byte_text true = label_byte
byte_text false = help_byte
