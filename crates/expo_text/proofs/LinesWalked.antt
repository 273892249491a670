-- A walk over a line finds what the line is.
use Rattle.std.proofs.Common.{◌≡◌, ◌≢◌, ℕ, true, false, not, ◌==◌, if◌then◌else◌, List, [], ◌∷◌, ◌++◌, codes, refl, sym, ap, ap₂}
use Rattle.std.proofs.Common.{◌∙◌, inl, inr, append_assoc}
use Rattle.std.specs.Prelude.{All}
use Rattle.std.proofs.lemmas.Bool.{not_from_true, not_from_false, and_from, and_left, ne_eqb}
use Rattle.std.proofs.lemmas.List.Elements.{All-head, All-tail}
use Rattle.metric_names.specs.HelpText.{is_blank}
use Rattle.expo_text.specs.Lines.{is_same_text, Written, LineEntry, Nothing, Help, Typed, Sampled, Malformed, AreBlanks}
use Rattle.expo_text.specs.Lines.{EndsToken, IsFirst, NoToken, OneToken, IsOnly, IsSampleWord, IsBraced, IsBare, IsHash, IsHelp}
use Rattle.expo_text.specs.Lines.{IsType, IsComment, IsLine}
use Rattle.expo_text.proofs.Walked.{skip, in_token, first, after, BeforeName, value_entry, labels_entry, in_name, after_name}
use Rattle.expo_text.proofs.Walked.{type_entry, hash_entry, entry_from, entry_of}
use Rattle.expo_text.proofs.Tokens.{Each, Stops, each_append, take_while_all, drop_while_all}
use Rattle.expo_text.proofs.LabelsWalked.{labels_walked}
use Rattle.expo_text.proofs.Tokened.{same_other, each_blank, all_blank, skip_blanks, skip_all, stops_solid, token_stops}
use Rattle.expo_text.proofs.Tokened.{first_walked, only_walked}

-- a hash, and what stands after it
hash_walked : (line text : List ℕ) → IsHash line text → entry_of line ≡ hash_entry (skip text)
hash_walked line text is = ap entry_from (ap skip (is.is ∙ append_assoc is.before (codes "#") text)
    ∙ skip_blanks is.before (35 ∷ text) is.blanks refl)

-- what a line with a hash is, by its first word and what follows it
abbrev pub hash_by : (word more : List ℕ) → LineEntry
hash_by word more =
    if is_same_text word (codes "HELP") then Help (first more) (after more) else
    (if is_same_text word (codes "TYPE") then type_entry more else Nothing)

-- what a type is, by its name and its word and what follows them
abbrev pub type_by : (name word end : List ℕ) → LineEntry
type_by name word end = if is_same_text end [] then Typed name word else Malformed

-- what a sample is, by its value and what follows it
abbrev pub value_by : (name : List ℕ) → List (List ℕ × List ℕ) → (value end : List ℕ) → LineEntry
value_by name labels value end = if is_same_text end [] then Sampled (record { name = name; labels = labels; value = value }) else
    Malformed

pub help_walked : (line name help : List ℕ) → IsHelp line name help → entry_of line ≡ Help name help
help_walked line name help is =
    let word = first_walked is.text (codes "HELP") is.words is.first in
    let named = first_walked is.words name is.rest is.second in
    hash_walked line is.text is.hash
    ∙ ap₂ hash_by word.token_is (ap skip word.rest_is)
    ∙ ap₂ Help named.token_is (ap skip (named.rest_is ∙ is.is) ∙ skip_blanks is.gap help is.blanks (stops_solid help is.front))

pub type_walked : (line name word : List ℕ) → IsType line name word → entry_of line ≡ Typed name word
type_walked line name word is =
    let typed = first_walked is.text (codes "TYPE") is.words is.first in
    let named = first_walked is.words name is.rest is.second in
    let only = only_walked is.rest word is.third in
    hash_walked line is.text is.hash
    ∙ ap₂ hash_by typed.token_is (ap skip typed.rest_is)
    ∙ ap₂ (λ n more. type_by n (first more) (after more)) named.token_is (ap skip named.rest_is)
    ∙ ap₂ (λ w end. type_by name w end) only.token_is only.none

pub comment_walked : (line : List ℕ) → IsComment line → entry_of line ≡ Nothing
comment_walked line is =
    let word = first_walked is.text is.word is.rest is.first in
    hash_walked line is.text is.hash
    ∙ ap₂ hash_by word.token_is (ap skip word.rest_is)
    ∙ rw (same_other is.word (codes "HELP") is.no_help, same_other is.word (codes "TYPE") is.no_type) refl

-- the value of a sample
pub value_walked : (name : List ℕ) (labels : List (List ℕ × List ℕ)) (text value : List ℕ) → IsOnly text value
    → value_entry name labels (skip text) ≡ Sampled (record { name = name; labels = labels; value = value })
value_walked name labels text value is =
    let only = only_walked text value is in ap₂ (λ w end. value_by name labels w end) only.token_is only.none

-- a sample's name ends where it ends
each_name : (name : List ℕ) → All (λ b. (is_blank b ≡ false) × (b ≢ 123)) name → Each in_name name
each_name [] h = tt
each_name (b ∷ name) h =
    let here = All-head (λ (c : ℕ). (is_blank c ≡ false) × (c ≢ 123)) b name h in (
      and_from (in_token b) (not (b == 123)) (not_from_false (is_blank b) here.0)
          (not_from_false (b == 123) (ne_eqb b 123 here.1)),
      each_name name (All-tail (λ (c : ℕ). (is_blank c ≡ false) × (c ≢ 123)) b name h),
    )

-- a name is over at a blank
blank_stops : (b : ℕ) → is_blank b ≡ true → in_name b ≡ false
blank_stops b blank = and_left (in_token b) (not (b == 123)) (not_from_true (is_blank b) blank)

-- and at a brace
brace_stops : (gap text : List ℕ) → AreBlanks gap → Stops in_name (gap ++ (123 ∷ text))
brace_stops [] text blank = refl
brace_stops (b ∷ gap) text blank = blank_stops b (All-head (λ (c : ℕ). is_blank c ≡ true) b gap blank)

-- a line that begins with a name is that of a sample
sample_walked : (line before name rest : List ℕ) → line ≡ before ++ (name ++ rest) → AreBlanks before → IsSampleWord name
    → name ≢ [] → Stops in_name rest
    → entry_of line ≡ after_name name (skip rest)
sample_walked line before [] rest is blank word some stops = absurd (some refl)
sample_walked line before (b ∷ name) rest is blank word some stops =
    let solid = All-head (λ (c : ℕ). (is_blank c ≡ false) × (c ≢ 123)) b name word.solid in
    let no_hash : (b == 35) ≡ false = ne_eqb b 35 (λ e. word.no_hash name (ap (λ c. c ∷ name) e)) in
    ap entry_from (ap skip is ∙ skip_blanks before ((b ∷ name) ++ rest) blank solid.0)
    ∙ rw no_hash (ap₂ (λ n r. after_name n (skip r))
    (take_while_all in_name (b ∷ name) rest (each_name (b ∷ name) word.solid) stops)
    (drop_while_all in_name (b ∷ name) rest (each_name (b ∷ name) word.solid) stops))

-- blanks after blanks
blank_append : (a b : List ℕ) → AreBlanks a → AreBlanks b → AreBlanks (a ++ b)
blank_append a b h k = all_blank (a ++ b) (each_append is_blank a b (each_blank a h) (each_blank b k))

-- a sample's brace
brace_walked : (line before name gap text : List ℕ) → line ≡ before ++ (name ++ (gap ++ (123 ∷ text))) → AreBlanks before
    → AreBlanks gap → IsSampleWord name
    → entry_of line ≡ labels_entry name BeforeName [] text
brace_walked line before [] gap text is blank blank' word =
    ap entry_from (ap skip (is ∙ sym (append_assoc before gap (123 ∷ text)))
    ∙ skip_blanks (before ++ gap) (123 ∷ text) (blank_append before gap blank blank') refl)
brace_walked line before (b ∷ name) gap text is blank blank' word =
    sample_walked line before (b ∷ name) (gap ++ (123 ∷ text)) is blank word (λ e. cc) (brace_stops gap text blank')
    ∙ ap (λ t. after_name (b ∷ name) t) (skip_blanks gap (123 ∷ text) blank' refl)

pub braced_walked : (line : List ℕ) (sample : Written) → IsBraced line sample → entry_of line ≡ Sampled sample
braced_walked line sample is =
    let flat : line ≡ is.before ++ (sample.name ++ (is.after_name ++ (123 ∷ (is.inside ++ is.rest)))) = is.is
    ∙ simp append_assoc in
    brace_walked line is.before sample.name is.after_name (is.inside ++ is.rest) flat is.blanks.0 is.blanks.1 is.name
    ∙ labels_walked sample.name is.rest [] is.inside sample.labels is.labels
    ∙ value_walked sample.name sample.labels is.rest sample.value is.value

-- a name is over where a token is
ends_name : (rest : List ℕ) → EndsToken rest → Stops in_name rest
ends_name [] h = tt
ends_name (b ∷ rest) h = blank_stops b h

-- after a name no brace, but a value
after_word : (name value rest : List ℕ) → value ≢ [] → ((more : List ℕ) → value ≢ codes "{" ++ more)
    → after_name name (value ++ rest) ≡ value_entry name [] (value ++ rest)
after_word name [] rest some no_brace = absurd (some refl)
after_word name (b ∷ value) rest some no_brace = rw (ne_eqb b 123 (λ e. no_brace value (ap (λ c. c ∷ value) e))) refl

-- a value that begins with no brace
bare_value : (name text value rest : List ℕ) → IsFirst text value rest → IsOnly text value → value ≢ []
    → ((more : List ℕ) → value ≢ codes "{" ++ more)
    → after_name name (skip text) ≡ Sampled (record { name = name; labels = []; value = value })
bare_value name text value rest (NoToken gap blank) only some no_brace = absurd (some refl)
bare_value name text value rest (OneToken gap word more blank is ends) only some no_brace =
    let skipped : skip (gap ++ word ++ more) ≡ word ++ more = ap skip (append_assoc gap word more)
    ∙ skip_blanks gap (word ++ more) blank (token_stops word more is) in
    ap (λ t. after_name name t) skipped ∙ after_word name word more some no_brace ∙ ap (λ t. value_entry name [] t) (sym skipped)
    ∙ value_walked name [] (gap ++ word ++ more) word only

-- a name and a value
bare_line : (line name rest value : List ℕ) → IsFirst line name rest → IsSampleWord name → IsOnly rest value → value ≢ []
    → ((more : List ℕ) → value ≢ codes "{" ++ more)
    → entry_of line ≡ Sampled (record { name = name; labels = []; value = value })
bare_line line name rest value (NoToken gap blank) word only some no_brace =
    absurd (some (sym (only_walked [] value only).token_is))
bare_line line name rest value (OneToken gap token more blank is ends) word only some no_brace =
    sample_walked (gap ++ token ++ more) gap token more (append_assoc gap token more) blank word is.0 (ends_name more ends)
    ∙ bare_value token more value only.rest only.first only some no_brace

pub bare_walked : (line : List ℕ) (sample : Written) → IsBare line sample → entry_of line ≡ Sampled sample
bare_walked line sample is =
    bare_line line sample.name is.rest sample.value is.first is.name is.value is.some is.no_brace
    ∙ ap (λ labels. Sampled (record { name = sample.name; labels = labels; value = sample.value })) (sym is.none)

-- a line is what a walk over it finds
pub line_walked : (line : List ℕ) (entry : LineEntry) → IsLine line entry → entry_of line ≡ entry
line_walked line Nothing (inl blank) = ap entry_from (skip_all line blank)
line_walked line Nothing (inr comment) = comment_walked line comment
line_walked line (Help name help) is = help_walked line name help is
line_walked line (Typed name word) is = type_walked line name word is
line_walked line (Sampled sample) (inl braced) = braced_walked line sample braced
line_walked line (Sampled sample) (inr bare) = bare_walked line sample bare
line_walked line Malformed is = absurd is
