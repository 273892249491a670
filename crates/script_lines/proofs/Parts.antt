-- Bounds and label values, part by part.
use Rattle.std.proofs.Common.{◌≡◌, ◌≢◌, ℕ, ◌<◌, ◌^◌, true, false, not, eqb, is_some, List, [], ◌∷◌, length, map, All, Option}
use Rattle.std.proofs.Common.{Some, None, decimal, codes, refl, sym, ap, ◌∙◌, subst, inl, inr, ⊎_elim, arith, length-append}
use Rattle.std.specs.Prelude.{bytes_eq, filter_map}
use Rattle.std.specs.List.{slice_split, join_with_byte, list_all, cons_option}
use Rattle.std.proofs.lemmas.Bool.{and_parts, and_from, or_cases, or_left, or_right, not_from_false, not-true, ne_eqb, eqb-false}
use Rattle.std.proofs.lemmas.Slice.Eq.{bytes_eq-Decides}
use Rattle.std.proofs.lemmas.List.Elements.{All-nil, All-cons, All-head, All-tail, All-weaker, All-append}
use Rattle.std.proofs.lemmas.List.Splits.{join_with_byte-slice_split}
use Rattle.script_lines.specs.Language.{Lacks, IsToken, IsWriting, AreLabels, AreBounds, AreValues}
use Rattle.script_lines.specs.Reading.{number_written, is_empty, is_writing, is_value, are_bounds, are_values}
use Rattle.script_lines.proofs.Numbers.{number_found, number_says, digits_lack, digits_some}
use Rattle.script_lines.proofs.Writings.{writing_says, writing_found}
use Rattle.script_lines.proofs.Joined.{split_joined, some_part, parts_lack}

-- these parts write these numbers
pub record AreNumbers (parts : List (List ℕ)) (numbers : List ℕ) : Type 0 where
  pub are : parts ≡ map decimal numbers
  pub small : All (λ n. n < 2 ^ 64) numbers

pub numbers_say : (parts : List (List ℕ)) → list_all (λ w. is_some (number_written w)) parts ≡ true
    → AreNumbers parts (filter_map number_written parts)
numbers_say [] h = record { are = refl; small = All-nil (λ n. n < 2 ^ 64) }
numbers_say (part ∷ parts) h =
    let both = and_parts (is_some (number_written part)) (list_all (λ w. is_some (number_written w)) parts) h in
    let rest = numbers_say parts both.1 in
    let number = number_there (number_written part) both.0 in
    let says = number_says part number.0 number.1 in
    subst (λ o. AreNumbers (part ∷ parts) (cons_option o (filter_map number_written parts))) (sym number.1)
    (record {
      are = ap (λ w. w ∷ parts) says.1 ∙ ap (λ ws. decimal number.0 ∷ ws) rest.are;
      small = All-cons (λ n. n < 2 ^ 64) number.0 (filter_map number_written parts) says.0 rest.small;
    })
  where
    number_there : (o : Option ℕ) → is_some o ≡ true → (n : ℕ) × (o ≡ Some n)
    number_there None h = absurd (cc)
    number_there (Some n) h = (n, refl)

pub numbers_found : (numbers : List ℕ) → All (λ n. n < 2 ^ 64) numbers → list_all (λ w. is_some (number_written w))
    (map decimal numbers) ≡ true
numbers_found [] small = refl
numbers_found (n ∷ numbers) small =
    and_from (is_some (number_written (decimal n))) (list_all (λ w. is_some (number_written w)) (map decimal numbers))
    (ap is_some (number_found (decimal n) n (All-head (λ n. n < 2 ^ 64) n numbers small) refl))
    (numbers_found numbers (All-tail (λ n. n < 2 ^ 64) n numbers small))

-- the numbers themselves
pub numbers_back : (numbers : List ℕ) → All (λ n. n < 2 ^ 64) numbers → filter_map number_written (map decimal numbers) ≡ numbers
numbers_back [] small = refl
numbers_back (n ∷ numbers) small =
    ap (λ o. cons_option o (filter_map number_written (map decimal numbers)))
    (number_found (decimal n) n (All-head (λ n. n < 2 ^ 64) n numbers small) refl)
    ∙ ap (λ ns. n ∷ ns) (numbers_back numbers (All-tail (λ n. n < 2 ^ 64) n numbers small))

digits_all_lack : (numbers : List ℕ) → All (λ n. n < 2 ^ 64) numbers → All (Lacks 44) (map decimal numbers)
digits_all_lack [] small = All-nil (Lacks 44)
digits_all_lack (n ∷ numbers) small =
    All-cons (Lacks 44) (decimal n) (map decimal numbers)
    (digits_lack 44 n (omega arith) (All-head (λ n. n < 2 ^ 64) n numbers small))
    (digits_all_lack numbers (All-tail (λ n. n < 2 ^ 64) n numbers small))

some_mapped : (numbers : List ℕ) → numbers ≢ [] → map decimal numbers ≢ []
some_mapped [] some e = some refl
some_mapped (n ∷ numbers) some e = cc e

-- the parts of numbers joined by commas
pub bounds_split : (word : List ℕ) (numbers : List ℕ) → numbers ≢ [] → All (λ n. n < 2 ^ 64) numbers
    → word ≡ join_with_byte 44 (map decimal numbers)
    → slice_split (λ b. eqb b 44) word ≡ map decimal numbers
bounds_split word numbers some small is =
    ap (slice_split (λ b. eqb b 44)) is ∙ split_joined 44 (map decimal numbers) (some_mapped numbers some)
    (digits_all_lack numbers small)

pub bounds_found : (word : List ℕ) (numbers : List ℕ) → AreBounds word numbers → are_bounds word ≡ true
unfolding are_bounds
bounds_found word numbers (inl none) = or_left (bytes_eq word (codes "-"))
    (list_all (λ w. is_some (number_written w)) (slice_split (λ b. eqb b 44) word)) ((bytes_eq-Decides word (codes "-")).1 none.0)
bounds_found word numbers (inr some) =
    or_right (bytes_eq word (codes "-")) (list_all (λ w. is_some (number_written w)) (slice_split (λ b. eqb b 44) word))
    (ap (list_all (λ w. is_some (number_written w))) (bounds_split word numbers some.0 some.1 some.2)
    ∙ numbers_found numbers some.1)

pub bounds_say : (word : List ℕ) → are_bounds word ≡ true → (numbers : List ℕ) × AreBounds word numbers
unfolding are_bounds
bounds_say word h =
    ⊎_elim
    (λ dash. ([], inl ((bytes_eq-Decides word (codes "-")).0 dash, refl)))
    (λ all.
    let parts = slice_split (λ b. eqb b 44) word in
    let says = numbers_say parts all in (
      filter_map number_written parts,
      inr (
        (λ e. some_part 44 word (says.are ∙ ap (map decimal) e)),
        says.small,
        sym (join_with_byte-slice_split 44 word) ∙ ap (join_with_byte 44) says.are,
      ),
    ))
    (or_cases (bytes_eq word (codes "-")) (list_all (λ w. is_some (number_written w)) (slice_split (λ b. eqb b 44) word)) h)

-- a word that is not empty
pub nonempty_says : (word : List ℕ) → is_empty word ≡ false → word ≢ []
nonempty_says word h e = eqb-false (length word) 0 h (ap length e)

pub nonempty_found : (word : List ℕ) → word ≢ [] → is_empty word ≡ false
nonempty_found [] some = absurd (some refl)
nonempty_found (b ∷ bs) some = ne_eqb (length (b ∷ bs)) 0 (λ e. omega (arith, e))

abbrev IsValue : List ℕ → Type 0
IsValue value = IsToken value × IsWriting value

values_each : (values : List (List ℕ)) → All (Lacks 32) values → list_all is_value values ≡ true → All IsValue values
values_each [] lack h = All-nil IsValue
values_each (value ∷ values) lack h =
    let both = and_parts (is_value value) (list_all is_value values) h in
    let is = and_parts (not (is_empty value)) (is_writing value) both.0 in
    All-cons IsValue value values (
      (nonempty_says value (not-true (is_empty value) is.0), All-head (Lacks 32) value values lack),
      writing_says value is.1,
    )
    (values_each values (All-tail (Lacks 32) value values lack) both.1)

pub values_say : (text : List ℕ) → are_values text ≡ true → AreValues text (slice_split (λ b. eqb b 32) text)
unfolding are_values
values_say text h = (
  values_each (slice_split (λ b. eqb b 32) text) (parts_lack 32 text) h,
  sym (join_with_byte-slice_split 32 text),
)

values_pass : (values : List (List ℕ)) → All IsValue values → list_all is_value values ≡ true
values_pass [] all = refl
values_pass (value ∷ values) all =
    let is = All-head IsValue value values all in
    and_from (is_value value) (list_all is_value values)
    (and_from (not (is_empty value)) (is_writing value) (not_from_false (is_empty value) (nonempty_found value is.0.0))
    (writing_found value is.1))
    (values_pass values (All-tail IsValue value values all))

-- the parts of label values
pub values_split : (text : List ℕ) (values : List (List ℕ)) → values ≢ [] → AreValues text values
    → slice_split (λ b. eqb b 32) text ≡ values
values_split text values some are =
    ap (slice_split (λ b. eqb b 32)) are.1
    ∙ split_joined 32 values some (All-weaker IsValue (Lacks 32) (λ value is. is.0.1) values are.0)

pub values_found : (text : List ℕ) (values : List (List ℕ)) → values ≢ [] → AreValues text values → are_values text ≡ true
unfolding are_values
values_found text values some are = ap (list_all is_value) (values_split text values some are) ∙ values_pass values are.0

-- bounds are a token
joined_token : (words : List (List ℕ)) → words ≢ [] → All IsToken words → IsToken (join_with_byte 44 words)
joined_token [] some all = absurd (some refl)
joined_token (word ∷ []) some all = All-head IsToken word [] all
joined_token (word ∷ next ∷ words) some all =
    let here = All-head IsToken word (next ∷ words) all in
    let there = joined_token (next ∷ words) (λ e. cc e) (All-tail IsToken word (next ∷ words) all) in (
      λ e. omega (arith, length-append word (44 ∷ join_with_byte 44 (next ∷ words)), ap length e),
      All-append (λ b. b ≢ 32) word (44 ∷ join_with_byte 44 (next ∷ words)) here.1
          (All-cons (λ b. b ≢ 32) 44 (join_with_byte 44 (next ∷ words)) (λ e. omega (arith, e)) there.1),
    )

digits_tokens : (numbers : List ℕ) → All (λ n. n < 2 ^ 64) numbers → All IsToken (map decimal numbers)
digits_tokens [] small = All-nil IsToken
digits_tokens (n ∷ numbers) small =
    let here = All-head (λ n. n < 2 ^ 64) n numbers small in
    All-cons IsToken (decimal n) (map decimal numbers) (digits_some n here, digits_lack 32 n (omega arith) here)
    (digits_tokens numbers (All-tail (λ n. n < 2 ^ 64) n numbers small))

pub bounds_token : (word : List ℕ) (numbers : List ℕ) → AreBounds word numbers → IsToken word
bounds_token word numbers (inl none) = subst IsToken (sym none.0) (
  (λ e. cc e),
  All-cons (λ b. b ≢ 32) 45 [] (λ e. omega (arith, e)) (All-nil (λ b. b ≢ 32)),
)
bounds_token word numbers (inr some) =
    subst IsToken (sym some.2) (joined_token (map decimal numbers) (some_mapped numbers some.0) (digits_tokens numbers some.1))

-- a dash is no number
dash_no_number : (o : Option ℕ) → number_written (45 ∷ []) ≡ o → o ≡ None
dash_no_number None is = refl
dash_no_number (Some n) is =
    let says = number_says (45 ∷ []) n is in
    absurd (All-head (λ b. b ≢ 45) 45 [] (subst (Lacks 45) (sym says.1) (digits_lack 45 n (omega arith) says.0)) refl)

pub bounds_are : (word numbers items : List ℕ) → AreBounds word numbers
    → items ≡ filter_map number_written (slice_split (λ b. eqb b 44) word) → AreBounds word items
bounds_are word numbers items (inl none) is =
    inl (
      none.0,
      is ∙ ap (λ w. filter_map number_written (slice_split (λ b. eqb b 44) w)) none.0
          ∙ ap (λ o. cons_option o []) (dash_no_number (number_written (45 ∷ [])) refl),
    )
bounds_are word numbers items (inr some) is =
    let same = is ∙ ap (filter_map number_written) (bounds_split word numbers some.0 some.1 some.2)
    ∙ numbers_back numbers some.1 in
    subst (AreBounds word) (sym same) (inr some)

pub labels_are : (word : List ℕ) (names : List (List ℕ)) → word ≢ codes "-" → names ≡ slice_split (λ b. eqb b 44) word
    → AreLabels word names
labels_are word names other is =
    subst (AreLabels word) (sym is) (inr (other, some_part 44 word, parts_lack 44 word, sym (join_with_byte-slice_split 44 word)))

pub values_are : (text : List ℕ) (words items : List (List ℕ)) → text ≢ [] → AreValues text words
    → items ≡ slice_split (λ b. eqb b 32) text → AreValues text items
values_are text [] items some are is = absurd (some are.1)
values_are text (word ∷ words) items some are is =
    subst (AreValues text) (sym (is ∙ values_split text (word ∷ words) (λ e. cc e) are)) are
