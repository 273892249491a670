-- How help texts and label values are written (Prometheus documentation, "Exposition formats", "Text format details").
use Rattle.std.specs.Prelude.{◌≡◌, ℕ, ◌==◌, if◌then◌else◌, List, [], ◌∷◌, flat_map, codes}

-- how a byte of a help text is written: a backslash doubled, a line feed as a backslash and `n`, another as it is
abbrev pub help_byte : ℕ → List ℕ
help_byte b = if b == 92 then codes "\\\\" else (if b == 10 then codes "\\n" else b ∷ [])

-- how a byte of a label value is written: the same, and a double quote after a backslash
abbrev pub label_byte : ℕ → List ℕ
label_byte b = if b == 34 then codes "\\\"" else help_byte b

-- a help text is written so
abbrev pub EscHelp : (raw written : List ℕ) → Type 0
EscHelp raw written = flat_map help_byte raw ≡ written

-- a label value is written so
abbrev pub EscLabel : (raw written : List ℕ) → Type 0
EscLabel raw written = flat_map label_byte raw ≡ written

-- no other text is written as this one is
abbrev pub IsWrittenAlone : (Esc : List ℕ → List ℕ → Type 0) → List ℕ → Type 0
IsWrittenAlone Esc raw = (other written : List ℕ) → Esc raw written → Esc other written → other ≡ raw
