-- The greatest word.
use Rattle.std.specs.Prelude.{ℕ}

-- 2^48 - 1: the greatest value of a word of a row, and the greatest bound
abbrev pub greatest_word : ℕ
greatest_word = 281474976710655
