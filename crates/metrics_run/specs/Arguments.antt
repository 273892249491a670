-- The numbers among the program's arguments.
use Rattle.std.specs.Prelude.{◌≡◌, ℕ, ◌<◌, ◌≤◌, List, decimal}

-- a port
abbrev pub IsPort : ℕ → Type 0
IsPort port = port < 65536

-- how many connections are accepted
abbrev pub IsCount : ℕ → Type 0
IsCount count = (0 < count) × (count ≤ 1000000)

-- these words, after `serve`, are this port and this count
abbrev pub AsksServe : (port_word count_word : List ℕ) → (port count : ℕ) → Type 0
AsksServe port_word count_word port count = IsPort port × (port_word ≡ decimal port) × IsCount count
    × (count_word ≡ decimal count)
