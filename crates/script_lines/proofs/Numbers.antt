-- Numbers as they are written.
use Rattle.std.proofs.Common.{◌≡◌, ◌≢◌, ℕ, ◌<◌, ◌^◌, cond, ltb, ◌&&◌, List, Option, Some, None, decimal, sym, ap, ◌∙◌, subst}
use Rattle.std.proofs.Common.{⊎_elim, [], length, arith}
use Rattle.std.specs.Prelude.{bytes_eq}
use Rattle.std.specs.Str.Parse.{digits_value}
use Rattle.std.proofs.lemmas.Bool.{ltb-true, lt-ltb, and_parts, and_from}
use Rattle.std.proofs.lemmas.Slice.Eq.{bytes_eq-Decides}
use Rattle.std.proofs.lemmas.Fmt.{decimal_is_IsNumeral, decimal_nonempty}
use Rattle.std.proofs.lemmas.Str.Parse.{digit_at}
use Rattle.std.proofs.lemmas.List.Elements.{All-from_get_or}
use Rattle.script_lines.specs.Language.{Lacks}
use Rattle.script_lines.specs.Reading.{number_written}
use Rattle.script_lines.proofs.Options.{none_or_some, when_some}

-- the answer where the digits have this value
answer : List ℕ → ℕ → Option ℕ
answer text v = cond (ltb v (2 ^ 64) && bytes_eq (decimal v) text) (Some v) None

pub number_found : (text : List ℕ) (n : ℕ) → n < 2 ^ 64 → text ≡ decimal n → number_written text ≡ Some n
unfolding number_written answer
number_found text n small is =
    ap (answer text) (ap (digits_value 10) is ∙ (decimal_is_IsNumeral n small).1)
    ∙ ap (λ t. cond t (Some n) None) (and_from (ltb n (2 ^ 64)) (bytes_eq (decimal n) text) (lt-ltb n (2 ^ 64) small)
    ((bytes_eq-Decides (decimal n) text).1 (sym is)))

pub number_says : (text : List ℕ) (n : ℕ) → number_written text ≡ Some n → (n < 2 ^ 64) × (text ≡ decimal n)
unfolding number_written
number_says text n found =
    let v = digits_value 10 text in
    let passed = when_some (ltb v (2 ^ 64) && bytes_eq (decimal v) text) v n found in
    let both = and_parts (ltb v (2 ^ 64)) (bytes_eq (decimal v) text) passed.0 in (
      subst (λ m. m < 2 ^ 64) passed.1 (ltb-true v (2 ^ 64) both.0),
      sym ((bytes_eq-Decides (decimal v) text).0 both.1) ∙ ap decimal passed.1,
    )

pub number_none : (text : List ℕ) → ((n : ℕ) → n < 2 ^ 64 → text ≢ decimal n) → None ≡ number_written text
number_none text none =
    ⊎_elim (λ is. sym is) (λ some. let says = number_says text some.0 some.1 in absurd (none some.0 says.0 says.1))
    (none_or_some (number_written text))

-- digits are no byte below them
pub digits_lack : (c n : ℕ) → c < 48 → n < 2 ^ 64 → Lacks c (decimal n)
digits_lack c n low small =
    All-from_get_or (λ b. b ≢ c) (decimal n) 0
    (λ i within e. let digit = digit_at (decimal n) i (decimal_is_IsNumeral n small).0.1 within in omega (arith, digit.0, e))

pub digits_some : (n : ℕ) → n < 2 ^ 64 → decimal n ≢ []
digits_some n small e = omega (arith, decimal_nonempty n small, ap length e)
