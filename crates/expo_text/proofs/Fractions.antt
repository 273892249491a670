-- Digits after a point, and what they are worth.
use Rattle.std.proofs.Common.{◌≡◌, ◌≢◌, ℕ, zero, suc, ◌+◌, ◌-◌, ◌*◌, ◌/◌, ◌%◌, ◌^◌, ◌<◌, ◌≤◌, ◌⊎◌, inl, inr, List, [], ◌∷◌, ◌++◌}
use Rattle.std.proofs.Common.{length, get_or, drop, codes, refl, sym, ap, ap₂, ◌∙◌, subst, arith, pow-suc, length-append}
use Rattle.std.proofs.Common.{ne_eqb, eq-eqb}
use Rattle.std.specs.Str.Parse.{AllDigits, digits_value, digits_value_after}
use Rattle.std.specs.Char.{digit_value}
use Rattle.std.proofs.Math.Nat.{mod-lt, div-add-mod, div-lt_iff_lt-mul, mul-lt-mul_of_pos_right, eq_of_mul-eq-mul_right}
use Rattle.std.proofs.lemmas.Nat.{pow-add, div-mul-add, mod-mul-add}
use Rattle.std.proofs.lemmas.Str.{digit_value_digit}
use Rattle.std.proofs.lemmas.Str.Parse.{digit_from_value}
use Rattle.std.proofs.lemmas.Int.Digits.{digits_value-lt}
use Rattle.expo_text.specs.Shifted.{pointed, fraction}
use Rattle.expo_text.proofs.Filled.{ten-pos}

-- digits that follow a number
after_is : (n : ℕ) (ds : List ℕ) → digits_value_after 10 n ds ≡ n * 10 ^ length ds + digits_value 10 ds
after_is n [] = omega arith
after_is n (c ∷ cs) =
    let left = after_is (n * 10 + digit_value c) cs in
    let right = after_is (0 * 10 + digit_value c) cs in
    let next : n * 10 ^ suc (length cs) ≡ n * (10 ^ length cs * 10) = ap (λ x. n * x) (pow-suc 10 (length cs)) in
    omega (arith, left, right, next)

-- a digit weighs what its place is worth
pub value_cons : (c : ℕ) (cs : List ℕ) → digits_value 10 (c ∷ cs) ≡ digit_value c * 10 ^ length cs + digits_value 10 cs
value_cons c cs = let all = after_is (0 * 10 + digit_value c) cs in omega (arith, all)

-- a sum of parts, in smaller parts
spread : (a l v y : ℕ) → (a * l + v) * y ≡ a * (l * y) + v * y
spread a l v y = grind arith

-- a power of ten, split
pub tens : (l d : ℕ) → l ≤ d → 10 ^ l * 10 ^ (d - l) ≡ 10 ^ d
tens l d within = sym (pow-add 10 l (d - l)) ∙ ap (λ k. 10 ^ k) (let all : l + (d - l) ≡ d = omega (arith, within) in all)

-- what a digit and others after the point are worth
pub worth_cons : (d c : ℕ) (cs : List ℕ) → length cs ≤ d
    → digits_value 10 (c ∷ cs) * 10 ^ (suc d - length (c ∷ cs))
    ≡ digit_value c * 10 ^ d + digits_value 10 cs * 10 ^ (d - length cs)
worth_cons d c cs few =
    let y = 10 ^ (d - length cs) in
    let less : suc d - length (c ∷ cs) ≡ d - length cs = omega arith in
    ap₂ (λ v k. v * 10 ^ k) (value_cons c cs) less
    ∙ spread (digit_value c) (10 ^ length cs) (digits_value 10 cs) y
    ∙ ap (λ z. digit_value c * z + digits_value 10 cs * y) (tens (length cs) d few)

-- digits after the point are worth less than one
pub worth_below : (d : ℕ) (part : List ℕ) → AllDigits 10 part → length part ≤ d
    → digits_value 10 part * 10 ^ (d - length part) < 10 ^ d
worth_below d part all few =
    subst (λ z. digits_value 10 part * 10 ^ (d - length part) < z) (tens (length part) d few)
    (mul-lt-mul_of_pos_right (digits_value-lt 10 part all) (ten-pos (d - length part)))

-- nothing is left
pub fraction_none : (d parts : ℕ) → parts ≡ 0 → fraction d parts ≡ []
fraction_none zero parts none = refl
fraction_none (suc d) parts none = rw (eq-eqb parts 0 none) refl

-- something is
pub fraction_some : (d parts : ℕ) → (parts ≡ 0 → ⊥)
    → fraction (suc d) parts ≡ (48 + parts / 10 ^ d) ∷ fraction d (parts % 10 ^ d)
fraction_some d parts some = rw (ne_eqb parts 0 some) refl

-- what the digits after the point of so many parts are
pub record IsFraction (d parts : ℕ) (part : List ℕ) : Type 0 where
  pub all : AllDigits 10 part
  pub few : length part ≤ d
  pub value : digits_value 10 part * 10 ^ (d - length part) ≡ parts
  pub end : (rest : List ℕ) → part ≢ rest ++ codes "0"

-- something ends with a zero
no_end : (rest : List ℕ) → ¬ ([] ≡ rest ++ codes "0")
no_end rest e = let count = ap length e in let more = length-append rest (codes "0") in absurd (omega (arith, count, more))

-- of digits that end with a zero, the first is all of them or those after it do
zero_end : (c : ℕ) (cs rest : List ℕ) → c ∷ cs ≡ rest ++ codes "0"
    → ((c ≡ 48) × (cs ≡ [])) ⊎ ((more : List ℕ) × (cs ≡ more ++ codes "0"))
zero_end c cs [] e = inl (ap (λ l. get_or l 0 0) e, ap (λ l. drop 1 l) e)
zero_end c cs (x ∷ more) e = inr (more, ap (λ l. drop 1 l) e)

nothing : (d : ℕ) → IsFraction d 0 []
nothing d = record { all = tt; few = omega arith; value = omega arith; end = no_end }

-- one digit more
one_more : (d parts : ℕ) → parts < 10 ^ suc d → (parts ≡ 0 → ⊥) → IsFraction d (parts % 10 ^ d) (fraction d (parts % 10 ^ d))
    → IsFraction (suc d) parts ((48 + parts / 10 ^ d) ∷ fraction d (parts % 10 ^ d))
one_more d parts below some rest =
    let q = parts / 10 ^ d in
    let cs = fraction d (parts % 10 ^ d) in
    let less : parts < 10 * 10 ^ d = (let next : 10 ^ suc d ≡ 10 ^ d * 10 = pow-suc 10 d in omega (arith, below, next)) in
    let small : q < 10 = (div-lt_iff_lt-mul (ten-pos d)).1 less in
    let digit : digit_value (48 + q) ≡ q = (let is = digit_value_digit (48 + q) ((omega arith), (omega (arith, small))) in
    omega (arith, is)) in
    let split : 10 ^ d * q + parts % 10 ^ d ≡ parts = div-add-mod parts (10 ^ d) in
    record {
      all = ((omega (arith, digit, small)), rest.all);
      few = (let few = rest.few in omega (arith, few));
      value = worth_cons d (48 + q) cs rest.few
          ∙ ap₂ (λ x y. x * 10 ^ d + y) digit rest.value
          ∙ (let turned : q * 10 ^ d ≡ 10 ^ d * q = grind arith in omega (arith, turned, split));
      end = λ zeros e. elim (zero_end (48 + q) cs zeros e) [
        | inl only ↦ (let none : digits_value 10 cs * 10 ^ (d - length cs) ≡ 0 * 10 ^ (d - 0) =
            ap (λ l. digits_value 10 l * 10 ^ (d - length l)) only.1 in
            let left = sym rest.value ∙ none in
            let front : 10 ^ d * q ≡ 10 ^ d * 0 = ap (λ z. 10 ^ d * z) (let no : q ≡ 0 = omega (arith, only.0) in no) in
            some (omega (arith, split, left, front)))
        | inr more ↦ rest.end more.0 more.1
      ];
    }

-- they are digits, few enough, worth these parts, and end with no zero
pub fraction_is : (d parts : ℕ) → parts < 10 ^ d → IsFraction d parts (fraction d parts)
fraction_is zero parts below =
    record { all = tt; few = omega arith; value = omega (arith, below); end = no_end }
fraction_is (suc d) zero below = subst (IsFraction (suc d) zero) (sym (fraction_none (suc d) zero refl)) (nothing (suc d))
fraction_is (suc d) (suc k) below =
    let some : suc k ≡ 0 → ⊥ = λ e. omega (arith, e) in
    subst (IsFraction (suc d) (suc k)) (sym (fraction_some d (suc k) some))
    (one_more d (suc k) below some (fraction_is d (suc k % 10 ^ d) (mod-lt (suc k) (ten-pos d))))

-- no other digits that end with no zero are worth as much
pub fraction_alone : (d : ℕ) (part : List ℕ) → AllDigits 10 part → length part ≤ d
    → ((rest : List ℕ) → part ≢ rest ++ codes "0") → part ≡ fraction d (digits_value 10 part * 10 ^ (d - length part))
fraction_alone d [] all few end = sym (fraction_none d (0 * 10 ^ (d - 0)) (omega arith))
fraction_alone zero (c ∷ cs) all few end = absurd (omega (arith, few))
fraction_alone (suc d) (c ∷ cs) all few end =
    let fewer : length cs ≤ d = omega (arith, few) in
    let rest = digits_value 10 cs * 10 ^ (d - length cs) in
    let v = digit_value c in
    let below : rest < 10 ^ d = worth_below d cs all.1 fewer in
    let same : cs ≡ fraction d rest = fraction_alone d cs all.1 fewer (λ zeros e. end (c ∷ zeros) (ap (λ l. c ∷ l) e)) in
    let first : 48 + v ≡ c = (let is = digit_value_digit c (digit_from_value c all.0) in omega (arith, is)) in
    let some : v * 10 ^ d + rest ≡ 0 → ⊥ = λ none.
    let no_rest : rest ≡ 0 = omega (arith, none) in
    let no_front : v * 10 ^ d ≡ 0 * 10 ^ d = omega (arith, none) in
    let no_digit : v ≡ 0 = zero_times v d no_front in
    let alone : cs ≡ [] = same ∙ fraction_none d rest no_rest in
    end [] (ap₂ (λ x l. x ∷ l) (let is : c ≡ 48 = omega (arith, first, no_digit) in is) alone) in
    sym (ap (fraction (suc d)) (worth_cons d c cs fewer)
    ∙ fraction_some d (v * 10 ^ d + rest) some
    ∙ ap₂ (λ x y. (48 + x) ∷ fraction d y) (div-mul-add v (10 ^ d) rest below) (mod-mul-add v (10 ^ d) rest below)
    ∙ ap₂ (λ x l. x ∷ l) first (sym same))
  where
    zero_times : (v d : ℕ) → v * 10 ^ d ≡ 0 * 10 ^ d → v ≡ 0
    zero_times v d e = eq_of_mul-eq-mul_right (10 ^ d) (ten-pos d) v 0 e

-- one digit more of what is left
pub next_digit : (d filled unit rest : ℕ) → filled < d → unit ≡ 10 ^ (d - filled) → (rest ≡ 0 → ⊥)
    → (unit / 10 ≡ 10 ^ (d - (filled + 1))) × (rest % (unit / 10) < 10 ^ (d - (filled + 1)))
    × (fraction (d - filled) rest ≡ (48 + rest / (unit / 10)) ∷ fraction (d - (filled + 1)) (rest % (unit / 10)))
next_digit d filled unit rest within is some =
    let k = d - (filled + 1) in
    let more : d - filled ≡ suc k = omega (arith, within) in
    let whole : unit ≡ 10 ^ k * 10 = is ∙ ap (λ j. 10 ^ j) more ∙ pow-suc 10 k in
    let tenth : unit / 10 ≡ 10 ^ k = omega (arith, whole) in (
      tenth,
      subst (λ u. rest % u < 10 ^ k) (sym tenth) (mod-lt rest (ten-pos k)),
      ap (λ j. fraction j rest) more ∙ fraction_some k rest some
          ∙ ap (λ u. (48 + rest / u) ∷ fraction k (rest % u)) (sym tenth),
    )

-- a point and some digits
pub pointed_some : (digits : List ℕ) → 0 < length digits → codes "." ++ digits ≡ pointed digits
pointed_some [] some = absurd (omega (arith, some))
pointed_some (c ∷ cs) some = refl
