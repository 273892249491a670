-- Where one word of a row stands.
use Rattle.std.specs.Prelude.{ℕ, ◌+◌, ◌*◌, ◌<◌}
use Rattle.ledger_core.specs.declared.word.Word.{Word}
use Rattle.ledger_core.specs.declared.word.Word.TheVariants.{Counter, Hist, Gauge}

-- the place of a word in a row of c counters and h histograms
abbrev pub place_of : (c h : ℕ) → Word → ℕ
place_of c h (Counter counter) = counter
place_of c h (Hist hist item) = c + 27 * hist + item
place_of c h (Gauge gauge item) = c + 27 * h + 2 * gauge + item

-- the row has this word
abbrev pub IsWord : (c h g : ℕ) → Word → Type 0
IsWord c h g (Counter counter) = counter < c
IsWord c h g (Hist hist item) = (hist < h) × (item < 27)
IsWord c h g (Gauge gauge item) = (gauge < g) × (item < 2)
