-- Each number that is shifted has one text, and each text of that form is one number.
use Rattle.std.proofs.Common.{◌≡◌, ◌↔◌, ℕ, ◌+◌, ◌-◌, ◌*◌, ◌/◌, ◌%◌, ◌^◌, ◌<◌, ◌≤◌, List, [], ◌∷◌, ◌++◌, length, get_or}
use Rattle.std.proofs.Common.{drop, codes, decimal, inl, inr, refl, sym, ap, ap₂, ◌∙◌, subst, arith, append-nil}
use Rattle.std.specs.Str.Parse.{AllDigits, digits_value}
use Rattle.std.specs.Int.{IsInRange}
use Rattle.std.proofs.Math.Nat.{mod-lt, mod-add-div', div-le_self}
use Rattle.std.proofs.lemmas.Nat.{div-mul-add, mod-mul-add}
use Rattle.std.proofs.lemmas.Bool.{cases_lt}
use Rattle.std.proofs.lemmas.Str.Parse.{digit_from_value, numerals_by_value, tells_digits}
use Rattle.std.proofs.lemmas.Fmt.{decimal_is_IsNumeral, decimal_digit, first_decimal, decimal-digits_value}
use Rattle.expo_text.specs.Shifted.{pointed, WritesTo, IsShifted, fraction, shifted}
use Rattle.expo_text.proofs.Filled.{ten-pos}
use Rattle.expo_text.proofs.Fractions.{tens, worth_below, fraction_is, fraction_alone}

-- by no digits a number is shown as it is
pub shifted_none : (n : ℕ) → shifted 0 n ≡ decimal n
shifted_none n = append-nil (decimal (n / 10 ^ 0)) ∙ ap decimal (let same : n / 10 ^ 0 ≡ n = omega arith in same)

-- what is left of a number below its point
pub left_below : (d n : ℕ) → n % 10 ^ d < 10 ^ d
left_below d n = mod-lt n (ten-pos d)

-- a shifted number is written so
pub shifted_writes : (d n : ℕ) → n < 2 ^ 64 → WritesTo d (shifted d n) n
shifted_writes d n small =
    let front : n / 10 ^ d < 2 ^ 64 = (let less = div-le_self n (10 ^ d) in omega (arith, small, less)) in
    let numeral = decimal_is_IsNumeral (n / 10 ^ d) front in
    let part = fraction_is d (n % 10 ^ d) (left_below d n) in
    let both = mod-add-div' n (10 ^ d) in
    record {
      whole = decimal (n / 10 ^ d);
      part = fraction d (n % 10 ^ d);
      is = refl;
      numeral = numeral.0;
      digits = part.all;
      few = part.few;
      value = sym (ap₂ (λ x y. x * 10 ^ d + y) numeral.1 part.value ∙ (let same : n / 10 ^ d * 10 ^ d + n % 10 ^ d ≡ n =
          omega (arith, both) in same));
    }

-- no zero stands in front of others
no_front : (m : ℕ) → m < 2 ^ 64 → (rest : List ℕ) → decimal m ≡ codes "0" ++ rest → rest ≡ []
no_front m small rest e = elim (cases_lt 0 m) [
  | inl some ↦ absurd (let first = first_decimal m some small in let is = ap (λ l. get_or l 0 0) e in omega (arith, first, is))
  | inr none ↦
      let no : m ≡ 0 = omega (arith, none) in
      ap (λ l. drop 1 l) (sym e ∙ ap decimal no ∙ decimal_digit 0 (omega arith))
]

pub shifted_is : (d n : ℕ) → n < 2 ^ 64 → IsShifted d n (shifted d n)
unfolding shifted_writes
shifted_is d n small = record {
  writes = shifted_writes d n small;
  front = no_front (n / 10 ^ d) (let less = div-le_self n (10 ^ d) in omega (arith, small, less));
  end = (fraction_is d (n % 10 ^ d) (left_below d n)).end;
}

-- a number in parts is one in smaller parts
spread : (w d p e z : ℕ) → (w * d + p * e) * z ≡ w * (d * z) + p * (e * z)
spread w d p e z = grind arith

pub writes_more : (d places : ℕ) (token : List ℕ) (n : ℕ) → d ≤ places → WritesTo d token n
    → WritesTo places token (n * 10 ^ (places - d))
writes_more d places token n within writes =
    let few = writes.few in
    let w = digits_value 10 writes.whole in
    let p = digits_value 10 writes.part in
    let l = length writes.part in
    let rest : 10 ^ (d - l) * 10 ^ (places - d) ≡ 10 ^ (places - l) = (
    let less : d - l ≤ places - l = omega (arith, within) in
    let part : places - l - (d - l) ≡ places - d = omega (arith, within, few) in
    ap (λ k. 10 ^ (d - l) * 10 ^ k) (sym part) ∙ tens (d - l) (places - l) less) in
    record {
      whole = writes.whole;
      part = writes.part;
      is = writes.is;
      numeral = writes.numeral;
      digits = writes.digits;
      few = omega (arith, few, within);
      value = ap (λ m. m * 10 ^ (places - d)) writes.value
          ∙ spread w (10 ^ d) p (10 ^ (d - l)) (10 ^ (places - d))
          ∙ ap₂ (λ x y. w * x + p * y) (tens d places within) rest;
    }

-- what stands after a point
pointed_one : (x y : List ℕ) → pointed x ≡ pointed y → x ≡ y
pointed_one [] [] e = refl
pointed_one [] (d ∷ ds) e = cc
pointed_one (c ∷ cs) [] e = cc
pointed_one (c ∷ cs) (d ∷ ds) e = ap (λ l. drop 1 l) e

-- no digit begins a point, or an end
no_point : (c : ℕ) (cs x : List ℕ) → AllDigits 10 (c ∷ cs) → (rest : List ℕ) → ¬ (pointed x ≡ (c ∷ cs) ++ rest)
no_point c cs [] all rest e = cc
no_point c cs (d ∷ ds) all rest e =
    let range = digit_from_value c all.0 in let is : 46 ≡ c = ap (λ l. get_or l 0 0) e in absurd (omega (arith, range, is))

-- digits end at a point
split_digits : (a b x y : List ℕ) → AllDigits 10 a → AllDigits 10 b → a ++ pointed x ≡ b ++ pointed y → (a ≡ b) × (x ≡ y)
split_digits [] [] x y all_a all_b e = (refl, pointed_one x y e)
split_digits [] (c ∷ cs) x y all_a all_b e = absurd (no_point c cs x all_b (pointed y) e)
split_digits (c ∷ cs) [] x y all_a all_b e = absurd (no_point c cs y all_a (pointed x) (sym e))
split_digits (c ∷ cs) (d ∷ ds) x y all_a all_b e =
    let rest = split_digits cs ds x y all_a.1 all_b.1 (ap (λ l. drop 1 l) e) in
    (ap₂ (λ z l. z ∷ l) (ap (λ l. get_or l 0 0) e) rest.0, rest.1)

-- a token begins with a digit
pub writes_first : (places : ℕ) (token : List ℕ) (n : ℕ) → WritesTo places token n → IsInRange 48 57 (get_or token 0 0)
writes_first places token n writes = subst (λ l. IsInRange 48 57 (get_or l 0 0)) (sym writes.is)
    (first_digit writes.whole (pointed writes.part) writes.numeral.0 writes.numeral.1)
  where
    first_digit : (whole rest : List ℕ) → 0 < length whole → AllDigits 10 whole → IsInRange 48 57 (get_or (whole ++ rest) 0 0)
    first_digit [] rest some all = absurd (omega (arith, some))
    first_digit (c ∷ cs) rest some all = digit_from_value c all.0

-- a token writes one number
pub writes_one : (places : ℕ) (token : List ℕ) (m n : ℕ) → WritesTo places token m → WritesTo places token n → m ≡ n
writes_one places token m n is_m is_n =
    let same = split_digits is_m.whole is_n.whole is_m.part is_n.part is_m.numeral.1 is_n.numeral.1 (sym is_m.is ∙ is_n.is) in
    is_m.value
    ∙ ap₂ (λ w p. digits_value 10 w * 10 ^ places + digits_value 10 p * 10 ^ (places - length p)) same.0 same.1
    ∙ sym is_n.value

-- so two numbers that are shifted alike have two texts
pub shifted_injective : (d m n : ℕ) → m < 2 ^ 64 → n < 2 ^ 64 → shifted d m ≡ shifted d n → m ≡ n
shifted_injective d m n small_m small_n e =
    writes_one d (shifted d n) m n (subst (λ token. WritesTo d token m) e (shifted_writes d m small_m)) (shifted_writes d n
    small_n)

-- the bound of all values is no number
pub no_inf : (places n : ℕ) → ¬ (WritesTo places (codes "+Inf") n)
no_inf places n writes = let first = writes_first places (codes "+Inf") n writes in absurd (omega (arith, first))

-- so no number that is shifted is that
pub shifted_no_inf : (d n : ℕ) → n < 2 ^ 64 → ¬ (shifted d n ≡ codes "+Inf")
shifted_no_inf d n small e = no_inf d n (subst (λ token. WritesTo d token n) e (shifted_writes d n small))

-- a zero in front stands alone
lead : (whole : List ℕ) → ((rest : List ℕ) → whole ≡ codes "0" ++ rest → rest ≡ []) → get_or whole 0 0 ≡ 48 → length whole ≡ 1
lead [] front is = absurd (omega (arith, is))
lead (c ∷ cs) front is = let none = front cs (ap (λ x. x ∷ cs) is) in let count = ap length none in omega (arith, count)

-- a number that is shifted has one text
pub shifted_alone : (d n : ℕ) (bytes : List ℕ) → n < 2 ^ 64 → IsShifted d n bytes → bytes ≡ shifted d n
shifted_alone d n bytes small is =
    let writes = is.writes in
    let w = digits_value 10 writes.whole in
    let left = digits_value 10 writes.part * 10 ^ (d - length writes.part) in
    let below : left < 10 ^ d = worth_below d writes.part writes.digits writes.few in
    let front : n / 10 ^ d ≡ w = ap (λ m. m / 10 ^ d) writes.value ∙ div-mul-add w (10 ^ d) left below in
    let rest : n % 10 ^ d ≡ left = ap (λ m. m % 10 ^ d) writes.value ∙ mod-mul-add w (10 ^ d) left below in
    let few : w < 2 ^ 64 = (let less = div-le_self n (10 ^ d) in omega (arith, small, less, front)) in
    let whole : decimal w ≡ writes.whole =
    decimal-digits_value (numerals_by_value _ tells_digits) writes.whole writes.numeral.1 writes.numeral.0
    (lead writes.whole is.front) few in
    let part : writes.part ≡ fraction d left = fraction_alone d writes.part writes.digits writes.few is.end in
    writes.is
    ∙ ap₂ (λ x y. x ++ pointed y) (sym whole ∙ ap decimal (sym front)) (part ∙ ap (fraction d) (sym rest))

-- the law of shifted numbers
pub shifted_law : (d n : ℕ) (bytes : List ℕ) → n < 2 ^ 64 → IsShifted d n bytes ↔ (bytes ≡ shifted d n)
shifted_law d n bytes small = (
  shifted_alone d n bytes small,
  λ same. subst (IsShifted d n) (sym same) (shifted_is d n small),
)
