-- The lines that a script prints beside its scrapes.
use Rattle.std.specs.Prelude.{ℕ, List, ◌++◌, flat_map, codes, decimal}

-- the line that tells a refusal
abbrev pub refused_line : (line number : ℕ) → List ℕ
refused_line line number = codes "refused " ++ decimal line ++ codes " " ++ decimal number ++ codes "\n"

-- the line that tells how many scrapes are kept
abbrev pub kept_line : (kept : ℕ) → List ℕ
kept_line kept = codes "kept " ++ decimal kept ++ codes "\n"

-- a number after a blank
abbrev pub after_blank : ℕ → List ℕ
after_blank number = codes " " ++ decimal number

-- the line that tells how often each worker has counted
abbrev pub settled_line : (vector : List ℕ) → List ℕ
settled_line vector = codes "settled" ++ flat_map after_blank vector ++ codes "\n"
