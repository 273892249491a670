-- Numbers among the words of the arguments.
use Rattle.std.proofs.Common.{◌≡◌, ◌≢◌, ℕ, ◌<◌, ◌^◌, List, Option, Some, None, decimal, ap, ◌∙◌}
use Rattle.std.proofs.lemmas.Option.{none-some}
use Rattle.script_lines.specs.Reading.{number_written}
use Rattle.script_lines.proofs.Numbers.{number_found}

or_zero : Option ℕ → ℕ
or_zero None = 0
or_zero (Some n) = n

-- a word that is no number is not this one
pub no_number : (word : List ℕ) (n : ℕ) → n < 2 ^ 64 → None ≡ number_written word → word ≢ decimal n
no_number word n small none is = none-some n (none ∙ number_found word n small is)

-- a word is one number at most
pub one_number : (word : List ℕ) (n m : ℕ) → m < 2 ^ 64 → Some n ≡ number_written word → word ≡ decimal m → n ≡ m
unfolding or_zero
one_number word n m small found is = ap or_zero (found ∙ number_found word m small is)
