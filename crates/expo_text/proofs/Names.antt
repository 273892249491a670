-- Names, helps and values by their bytes.
use Rattle.std.proofs.Common.{◌≡◌, ℕ, ◌<◌, ◌^◌, Bool, true, false, ◌-◌, suc, slice_index, ◌&&◌, ◌||◌, ◌==◌, nat_lt, IsTrue}
use Rattle.std.proofs.Common.{List, subst, length-append, sym}
use Rattle.std.proofs.Common.{[], ◌∷◌, ◌++◌, length, get_or, All, pos, nat_abs, refl, inl, inr, arith, le-leb}
use Rattle.std.specs.Prelude.{ℤ, negsuc, flat_map}
use Rattle.expo_text.specs.Shifted.{pointed, WritesTo, shifted, signed_shifted}
use Rattle.expo_text.proofs.ShiftedNumbers.{shifted_writes}
use Rattle.std.specs.Str.Parse.{AllDigits}
use Rattle.std.proofs.lemmas.Str.Parse.{digit_at}
use Rattle.std.proofs.lemmas.Bool.{cases_Bool, or_parts, or_left, and_from}
use Rattle.std.proofs.lemmas.List.Elements.{All-from_get_or, All-head, All-tail}
use Rattle.metric_names.specs.Spelling.{name_takes, is_letter, is_digit}
use Rattle.metric_names.specs.MetricName.{IsMetricName}
use Rattle.metric_names.specs.LabelName.{IsLabelName}
use Rattle.metric_names.specs.HelpText.{is_blank, IsHelpText}
use Rattle.metric_names.specs.Escapes.{help_byte}
use Rattle.expo_text.proofs.Tokens.{Each, Stops, each_from_All, each_append}
use Rattle.expo_text.proofs.LabelsRead.{is_name_byte, IsNamed, AreNamed}

-- a byte that one place of one kind of name takes, the second place of a metric name takes
wider : (letter digit colon later has_colon : Bool)
    → (letter || (later && digit) || (has_colon && colon)) ≡ true → (letter || (true && digit) || (true && colon)) ≡ true
wider true digit colon later has_colon h = refl
wider false true colon later has_colon h = refl
wider false false true later has_colon h = refl
wider false false false true true h = h
wider false false false true false h = h
wider false false false false true h = h
wider false false false false false h = h

-- the same of `name_takes`
takes_wider : (colon : Bool) (k b : ℕ) → IsTrue (name_takes colon k b) → is_name_byte b ≡ true
takes_wider colon k b h = wider (is_letter b) (is_digit b) (b == 58) (nat_lt 0 k) colon h

-- a text that is not empty, by its bytes
pub named_from : (text : List ℕ) → 0 < length text → Each is_name_byte text → IsNamed text
named_from [] some h = absurd (omega arith)
named_from (c ∷ cs) some h = h

-- a text that is spelled as a name, by its bytes
spelled : (colon : Bool) (text : List ℕ) → ((k : ℕ) → k < length text → IsTrue (name_takes colon k (get_or text k 0)))
    → Each is_name_byte text
spelled colon text h =
    each_from_All is_name_byte text
    (All-from_get_or (λ b. IsTrue (is_name_byte b)) text 0 (λ k lt. takes_wider colon k (get_or text k 0) (h k lt)))

-- a metric name is a name of one or more such bytes
pub metric_named : (text : List ℕ) → IsMetricName text → IsNamed text
metric_named text is = named_from text is.nonempty (spelled true text is.spelled)

-- a label name is too
pub label_named : (text : List ℕ) → IsLabelName text → IsNamed text
label_named text is = named_from text is.nonempty (spelled false text is.spelled)

-- the names of labels
pub labels_named : (labels : List (List ℕ × List ℕ)) → All (λ (label : List ℕ × List ℕ). IsLabelName label.0) labels
    → AreNamed labels
labels_named [] h = tt
labels_named (label ∷ labels) h = (
  label_named label.0 (All-head (λ (label : List ℕ × List ℕ). IsLabelName label.0) label labels h),
  labels_named labels (All-tail (λ (label : List ℕ × List ℕ). IsLabelName label.0) label labels h),
)

-- a help does not begin with a blank as it is written
help_piece : (b : ℕ) (rest : List ℕ) → is_blank b ≡ false → Stops is_blank (help_byte b ++ rest)
help_piece b rest h =
    elim (cases_Bool (b == 92)) [
      | inl slash ↦ rw slash refl
      | inr other ↦ elim (cases_Bool (b == 10)) [ inl feed ↦ rw (other, feed) refl | inr plain ↦ rw (other, plain) h ]
    ]

-- so a written help has no blank in front
pub help_stops : (b : ℕ) (bs : List ℕ) → IsHelpText (b ∷ bs) → Stops is_blank (flat_map help_byte (b ∷ bs))
help_stops b bs is =
    help_piece b (flat_map help_byte bs)
    (or_parts (is_blank b) (is_blank (slice_index (b ∷ bs) (length (b ∷ bs) - 1))) is.edges).0

-- a byte of a value
abbrev pub is_value_byte : ℕ → Bool
is_value_byte b = (is_digit b || b == 45) || b == 46

-- a value as it is written: a byte or more, digits, a minus or a point
abbrev pub IsToken : List ℕ → Type 0
IsToken [] = ⊥
IsToken (c ∷ cs) = (is_value_byte c ≡ true) × Each is_value_byte cs

-- digits are bytes of a value
digits_each : (digits : List ℕ) → AllDigits 10 digits → Each is_value_byte digits
digits_each [] h = tt
digits_each (c ∷ cs) h =
    let range = digit_at (c ∷ []) 0 (h.0, tt) (omega arith) in
    let digit : is_digit c ≡ true = and_from _ _ (le-leb 48 c range.0) (le-leb c 57 range.1) in
    (or_left (is_digit c || c == 45) (c == 46) (or_left (is_digit c) (c == 45) digit), digits_each cs h.1)

-- a point and digits are, too
pointed_each : (digits : List ℕ) → AllDigits 10 digits → Each is_value_byte (pointed digits)
pointed_each [] h = tt
pointed_each (c ∷ cs) h = (refl, digits_each (c ∷ cs) h)

-- a text that is not empty, by its bytes
token_from : (text : List ℕ) → 0 < length text → Each is_value_byte text → IsToken text
token_from [] some h = absurd (omega arith)
token_from (c ∷ cs) some h = h

-- what writes a number is a token
writes_token : (places : ℕ) (text : List ℕ) (n : ℕ) → WritesTo places text n → IsToken text
writes_token places text n writes =
    subst IsToken (sym writes.is)
    (token_from (writes.whole ++ pointed writes.part)
    (let some = writes.numeral.0 in let all = length-append writes.whole (pointed writes.part) in omega (arith, some, all))
    (each_append is_value_byte writes.whole (pointed writes.part) (digits_each writes.whole writes.numeral.1)
    (pointed_each writes.part writes.digits)))

-- a shifted number is one
pub shifted_token : (digits n : ℕ) → n < 2 ^ 64 → IsToken (shifted digits n)
shifted_token digits n small = writes_token digits (shifted digits n) n (shifted_writes digits n small)

-- the bytes of a token
token_each : (text : List ℕ) → IsToken text → Each is_value_byte text
token_each [] h = absurd h
token_each (c ∷ cs) h = h

-- a value is a token
pub value_token : (digits : ℕ) (value : ℤ) → nat_abs value < 2 ^ 64 → IsToken (signed_shifted digits value)
value_token digits (pos n) small = shifted_token digits n small
value_token digits (negsuc n) small = (refl, token_each (shifted digits (suc n)) (shifted_token digits (suc n) small))
