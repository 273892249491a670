-- What stands after the first word of a line that counts.
use Rattle.std.proofs.Common.{◌≡◌, ℕ, ◌<◌, ◌≤◌, ◌^◌, true, cond, ltb, leb, List, [], ◌∷◌, ◌++◌, Option, Some, None, option_map}
use Rattle.std.proofs.Common.{decimal, refl, sym, ap, ◌∙◌, subst, inl, inr, ⊎_elim, arith}
use Rattle.std.specs.Prelude.{option_and_then, ◌⊎◌}
use Rattle.std.specs.List.{join_with_byte}
use Rattle.std.specs.Option.{option_map_or}
use Rattle.std.proofs.lemmas.Bool.{and_parts, and_from, ltb-true, lt-ltb, leb-true, le-leb}
use Rattle.script_lines.specs.Language.{Saying, Count}
use Rattle.script_lines.specs.declared.line.Counting.{Counting}
use Rattle.script_lines.specs.Reading.{cut_of, number_written, numbered_of, is_times, repeated, amount_of, count_of}
use Rattle.script_lines.proofs.Options.{none_or_some, bind_some, map_some, when_some}
use Rattle.script_lines.proofs.Cut.{cut_found, cut_none, cut_parts}
use Rattle.script_lines.proofs.Numbers.{number_found, number_says, digits_lack}
use Rattle.script_lines.proofs.Tokens.{numbered_says, numbered_found}

-- how much, and how many times
pub record IsAmount (text : List ℕ) (by times : ℕ) : Type 0 where
  pub small : by < 2 ^ 64
  pub some : 1 ≤ times
  pub few : times ≤ 100000
  pub is : ((text ≡ decimal by) × (times ≡ 1)) ⊎ (text ≡ decimal by ++ 32 ∷ decimal times)

abbrev times_step : ℕ → ℕ → Option (ℕ × ℕ)
times_step n m = cond (is_times m) (Some (n, m)) None

once_says : (text : List ℕ) (by : ℕ) → number_written text ≡ Some by → IsAmount text by 1
once_says text by is =
    let says = number_says text by is in
    record { small = says.0; some = omega arith; few = omega arith; is = inl (says.1, refl) }

more_says : (text : List ℕ) (c : List ℕ × List ℕ) (by times : ℕ) → cut_of text ≡ Some c → number_written c.0 ≡ Some by
    → number_written c.1 ≡ Some times → is_times times ≡ true → IsAmount text by times
more_says text c by times cut first next test =
    let both = and_parts (leb 1 times) (leb times 100000) test in
    let says = number_says c.0 by first in
    let tells = number_says c.1 times next in
    let parts = cut_parts text c cut in
    record {
      small = says.0;
      some = leb-true 1 times both.0;
      few = leb-true times 100000 both.1;
      is = inr (parts.0 ∙ ap (λ w. w ++ 32 ∷ c.1) says.1 ∙ ap (λ w. decimal by ++ 32 ∷ w) tells.1);
    }

amount_is : (text : List ℕ) (by times : ℕ) (a : ℕ × ℕ) → IsAmount text by times → (by, times) ≡ a → IsAmount text a.0 a.1
amount_is text by times a is same = subst (λ (a : ℕ × ℕ). IsAmount text a.0 a.1) same is

repeated_says : (text : List ℕ) (c : List ℕ × List ℕ) (by times : ℕ) (a : ℕ × ℕ) → cut_of text ≡ Some c
    → number_written c.0 ≡ Some by → number_written c.1 ≡ Some times → times_step by times ≡ Some a → IsAmount text a.0 a.1
repeated_says text c by times a cut first next kept =
    let passed = when_some (is_times times) (by, times) a kept in
    amount_is text by times a (more_says text c by times cut first next passed.0) passed.1

pub amount_says : (text : List ℕ) (a : ℕ × ℕ) → amount_of text ≡ Some a → IsAmount text a.0 a.1
unfolding amount_of
amount_says text a h =
    let at : (o : Option (List ℕ × List ℕ)) → cut_of text ≡ o → option_map_or (λ (c : List ℕ × List ℕ). repeated c.0 c.1) o
    (option_map (λ n. (n, 1)) (number_written text)) ≡ Some a =
    λ o e. subst (λ o. option_map_or (λ (c : List ℕ × List ℕ). repeated c.0 c.1) o
    (option_map (λ n. (n, 1)) (number_written text)) ≡ Some a) e h in
    ⊎_elim
    (λ none.
    let number = map_some (λ n. (n, 1)) (number_written text) a (at None none) in
    amount_is text number.0 1 a (once_says text number.0 number.1) number.2)
    (λ some.
    let by = bind_some (λ n. option_and_then (times_step n) (number_written some.0.1)) (number_written some.0.0) a
    (at (Some some.0) some.1) in
    let times = bind_some (times_step by.0) (number_written some.0.1) a by.2 in
    repeated_says text some.0 by.0 times.0 a some.1 by.1 times.1 times.2)
    (none_or_some (cut_of text))

pub amount_found : (text : List ℕ) (by times : ℕ) → IsAmount text by times → amount_of text ≡ Some (by, times)
unfolding amount_of
amount_found text by times is =
    ⊎_elim
    (λ once.
    ap amount_of once.0
    ∙ ap (λ o. option_map_or (λ (c : List ℕ × List ℕ). repeated c.0 c.1) o
    (option_map (λ n. (n, 1)) (number_written (decimal by))))
    (cut_none (decimal by) (digits_lack 32 by (omega arith) is.small))
    ∙ ap (option_map (λ n. (n, 1))) (number_found (decimal by) by is.small refl)
    ∙ ap (λ t. Some (by, t)) (sym once.1))
    (λ more.
    let small : times < 2 ^ 64 = omega (arith, is.few) in
    ap amount_of more
    ∙ ap (λ o. option_map_or (λ (c : List ℕ × List ℕ). repeated c.0 c.1) o
    (option_map (λ n. (n, 1)) (number_written (decimal by ++ 32 ∷ decimal times))))
    (cut_found (decimal by) (decimal times) (digits_lack 32 by (omega arith) is.small))
    ∙ ap (option_and_then (λ n. option_and_then (times_step n) (number_written (decimal times))))
    (number_found (decimal by) by is.small refl)
    ∙ ap (option_and_then (times_step by)) (number_found (decimal times) times small refl)
    ∙ ap (λ t. cond t (Some (by, times)) None)
    (and_from (leb 1 times) (leb times 100000) (le-leb 1 times is.some) (le-leb times 100000 is.few)))
    is.is

-- a worker, a child, how much and how many times
pub record IsCount (text : List ℕ) (worker child by times : ℕ) : Type 0 where
  pub few : worker < 4
  pub small : child < 2 ^ 64
  pub rest : List ℕ
  pub is : text ≡ decimal worker ++ 32 ∷ (decimal child ++ 32 ∷ rest)
  pub amount : IsAmount rest by times

abbrev count_step : Counting → (worker child : ℕ × List ℕ) → ℕ × ℕ → Option Saying
count_step what worker child amount = cond (ltb worker.0 4) (Some (Count what worker.0 child.0 amount.0 amount.1)) None

step_says : (what : Counting) (text : List ℕ) (worker child : ℕ × List ℕ) (amount : ℕ × ℕ) (s : Saying)
    → numbered_of text ≡ Some worker → numbered_of worker.1 ≡ Some child → amount_of child.1 ≡ Some amount
    → count_step what worker child amount ≡ Some s
    → (worker : ℕ) × (child : ℕ) × (by : ℕ) × (times : ℕ) × (s ≡ Count what worker child by times)
    × IsCount text worker child by times
step_says what text worker child amount s first next last kept =
    let passed = when_some (ltb worker.0 4) (Count what worker.0 child.0 amount.0 amount.1) s kept in
    let front = numbered_says text worker first in
    let middle = numbered_says worker.1 child next in (
      worker.0,
      child.0,
      amount.0,
      amount.1,
      sym passed.1,
      record {
        few = ltb-true worker.0 4 passed.0;
        small = middle.0;
        rest = child.1;
        is = front.1 ∙ ap (λ r. decimal worker.0 ++ 32 ∷ r) middle.1;
        amount = amount_says child.1 amount last;
      },
    )

pub count_says : (what : Counting) (text : List ℕ) (s : Saying) → count_of what text ≡ Some s
    → (worker : ℕ) × (child : ℕ) × (by : ℕ) × (times : ℕ) × (s ≡ Count what worker child by times)
    × IsCount text worker child by times
unfolding count_of
count_says what text s h =
    let worker = bind_some (λ (w : ℕ × List ℕ). option_and_then
    (λ (c : ℕ × List ℕ). option_and_then (count_step what w c) (amount_of c.1)) (numbered_of w.1)) (numbered_of text) s h in
    let child = bind_some (λ (c : ℕ × List ℕ). option_and_then (count_step what worker.0 c) (amount_of c.1))
    (numbered_of worker.0.1) s worker.2 in
    let amount = bind_some (count_step what worker.0 child.0) (amount_of child.0.1) s child.2 in
    step_says what text worker.0 child.0 amount.0 s worker.1 child.1 amount.1 amount.2

pub count_found : (what : Counting) (text : List ℕ) (worker child by times : ℕ) → IsCount text worker child by times
    → count_of what text ≡ Some (Count what worker child by times)
unfolding count_of
count_found what text worker child by times is =
    ap (count_of what) is.is
    ∙ ap (option_and_then (λ (w : ℕ × List ℕ). option_and_then
    (λ (c : ℕ × List ℕ). option_and_then (count_step what w c) (amount_of c.1)) (numbered_of w.1)))
    (numbered_found worker (decimal child ++ 32 ∷ is.rest) (omega (arith, is.few)))
    ∙ ap (option_and_then (λ (c : ℕ × List ℕ). option_and_then (count_step what (worker, decimal child ++ 32 ∷ is.rest) c)
    (amount_of c.1))) (numbered_found child is.rest is.small)
    ∙ ap (option_and_then (count_step what (worker, decimal child ++ 32 ∷ is.rest) (child, is.rest)))
    (amount_found is.rest by times is.amount)
    ∙ ap (λ t. cond t (Some (Count what worker child by times)) None) (lt-ltb worker 4 is.few)

-- the words of such a line
pub count_words : (first text : List ℕ) (worker child by times : ℕ) → IsCount text worker child by times
    → (((first ++ 32 ∷ text) ≡ join_with_byte 32 (first ∷ decimal worker ∷ decimal child ∷ decimal by ∷ [])) × (times ≡ 1))
    ⊎ ((first ++ 32 ∷ text) ≡ join_with_byte 32 (first ∷ decimal worker ∷ decimal child ∷ decimal by ∷ decimal times ∷ []))
count_words first text worker child by times is =
    ⊎_elim
    (λ once. inl (ap (λ r. first ++ 32 ∷ r) (is.is ∙ ap (λ r. decimal worker ++ 32 ∷ (decimal child ++ 32 ∷ r)) once.0), once.1))
    (λ more. inr (ap (λ r. first ++ 32 ∷ r) (is.is ∙ ap (λ r. decimal worker ++ 32 ∷ (decimal child ++ 32 ∷ r)) more)))
    is.amount.is

pub words_count : (line first : List ℕ) (worker child by times : ℕ) → worker < 4 → child < 2 ^ 64 → by < 2 ^ 64 → 1 ≤ times
    → times ≤ 100000
    → ((line ≡ join_with_byte 32 (first ∷ decimal worker ∷ decimal child ∷ decimal by ∷ [])) × (times ≡ 1))
    ⊎ (line ≡ join_with_byte 32 (first ∷ decimal worker ∷ decimal child ∷ decimal by ∷ decimal times ∷ []))
    → (text : List ℕ) × (line ≡ first ++ 32 ∷ text) × IsCount text worker child by times
words_count line first worker child by times few small less some most (inl once) = (
  decimal worker ++ 32 ∷ (decimal child ++ 32 ∷ decimal by),
  once.0,
  record {
    few = few;
    small = small;
    rest = decimal by;
    is = refl;
    amount = record { small = less; some = some; few = most; is = inl (refl, once.1) };
  },
)
words_count line first worker child by times few small less some most (inr more) = (
  decimal worker ++ 32 ∷ (decimal child ++ 32 ∷ (decimal by ++ 32 ∷ decimal times)),
  more,
  record {
    few = few;
    small = small;
    rest = decimal by ++ 32 ∷ decimal times;
    is = refl;
    amount = record { small = less; some = some; few = most; is = inr refl };
  },
)
