-- What a walk over a line finds is what the line is.
use Rattle.std.proofs.Common.{◌≡◌, ◌≢◌, ℕ, true, false, not, ◌==◌, List, [], ◌∷◌, ◌++◌, codes, refl, sym, ap, ap₂, ◌∙◌, subst}
use Rattle.std.proofs.Common.{inl, inr, append_assoc, eqb-true, eq-eqb}
use Rattle.std.specs.Prelude.{All, take_while, ◌↔◌}
use Rattle.std.specs.Cmp.Lexicographic.{same_text}
use Rattle.std.proofs.lemmas.Bool.{cases_Bool, both_ways, not_from_true, not_from_false, and_from, and_parts, ne_eqb}
use Rattle.std.proofs.lemmas.List.Elements.{All-head, All-cons, All-nil}
use Rattle.metric_names.specs.HelpText.{is_blank}
use Rattle.expo_text.specs.Lines.{is_same_text, LineEntry, Nothing, Help, Typed, Sampled, Malformed, AreBlanks, IsFirst, IsOnly}
use Rattle.expo_text.specs.Lines.{IsSampleWord, IsHash, IsLine}
use Rattle.expo_text.proofs.Walked.{drop_while, skip, in_token, first, after, BeforeName, value_entry, labels_entry, in_name}
use Rattle.expo_text.proofs.Walked.{after_name, sample_entry, type_entry, hash_entry, entry_from, entry_of}
use Rattle.expo_text.proofs.Tokens.{Each, Stops, each_weaker, take_while_all, drop_while_all}
use Rattle.expo_text.proofs.LabelsFound.{labels_found}
use Rattle.expo_text.proofs.Tokened.{other_text, token_byte, cut, skip_blanks, Blanks, blanks, blank_all, front_solid}
use Rattle.expo_text.proofs.Tokened.{first_of_parts, first_found, only_found}
use Rattle.expo_text.proofs.LinesWalked.{line_walked}

-- two texts that are the same
equal_text : (a b : List ℕ) → is_same_text a b ≡ true → a ≡ b
equal_text a b e = same_text a b (sym e)

-- a line that a walk takes for a help
help_found : (line text : List ℕ) → IsHash line text → first (skip text) ≡ codes "HELP"
    → IsLine line (Help (first (after (skip text))) (after (after (skip text))))
help_found line text hash word =
    let words = drop_while in_token (skip text) in
    let rest = drop_while in_token (skip words) in
    let gap = blanks rest in
    record {
      text = text;
      words = words;
      rest = rest;
      gap = gap.gap;
      hash = hash;
      first = subst (λ t. IsFirst text t words) word (first_found text);
      second = first_found words;
      is = gap.is;
      blanks = gap.blank;
      front = front_solid (skip rest) gap.stops;
    }

-- a line that a walk takes for a type
type_found : (line text : List ℕ) → IsHash line text → first (skip text) ≡ codes "TYPE" → after (after (after (skip text))) ≡ []
    → IsLine line (Typed (first (after (skip text))) (first (after (after (skip text)))))
type_found line text hash word none =
    let words = drop_while in_token (skip text) in
    let rest = drop_while in_token (skip words) in
    record {
      text = text;
      words = words;
      rest = rest;
      hash = hash;
      first = subst (λ t. IsFirst text t words) word (first_found text);
      second = first_found words;
      third = only_found rest none;
    }

-- a line that a walk takes for a comment
comment_found : (line text : List ℕ) → IsHash line text → first (skip text) ≢ codes "HELP" → first (skip text) ≢ codes "TYPE"
    → IsLine line Nothing
comment_found line text hash no_help no_type =
    inr (record {
      text = text;
      word = first (skip text);
      rest = drop_while in_token (skip text);
      hash = hash;
      first = first_found text;
      no_help = no_help;
      no_type = no_type;
    })

-- the two tokens of a type
type_end : (line text : List ℕ) → IsHash line text → first (skip text) ≡ codes "TYPE" → type_entry (after (skip text)) ≢ Malformed
    → IsLine line (type_entry (after (skip text)))
type_end line text hash word formed =
    elim (cases_Bool (is_same_text (after (after (after (skip text)))) [])) [
      | inl none ↦ rw none (type_found line text hash word (equal_text (after (after (after (skip text)))) [] none))
      | inr some ↦ absurd (formed (rw some refl))
    ]

-- a line with a hash
hash_found : (line text : List ℕ) → IsHash line text → hash_entry (skip text) ≢ Malformed → IsLine line (hash_entry (skip text))
hash_found line text hash formed =
    elim (cases_Bool (is_same_text (first (skip text)) (codes "HELP"))) [
      | inl help ↦ rw help (help_found line text hash (equal_text (first (skip text)) (codes "HELP") help))
      | inr no_help ↦ elim (cases_Bool (is_same_text (first (skip text)) (codes "TYPE"))) [
        | inl type ↦ rw (no_help, type) (type_end line text hash (equal_text (first (skip text)) (codes "TYPE") type)
            (rw (no_help, type) at formed))
        | inr no_type ↦ rw (no_help, no_type)
            (comment_found line text hash (other_text (first (skip text)) (codes "HELP") no_help)
            (other_text (first (skip text)) (codes "TYPE") no_type))
      ]
    ]

-- a value, and the sample that it is of
record FoundValue (name : List ℕ) (labels : List (List ℕ × List ℕ)) (text : List ℕ) : Type 0 where
  only : IsOnly text (first (skip text))
  is : value_entry name labels (skip text) ≡ Sampled (record { name = name; labels = labels; value = first (skip text) })

value_found : (name : List ℕ) (labels : List (List ℕ × List ℕ)) (text : List ℕ) → value_entry name labels (skip text) ≢ Malformed
    → FoundValue name labels text
value_found name labels text formed =
    elim (cases_Bool (is_same_text (after (skip text)) [])) [
      | inl none ↦ record { only = only_found text (equal_text (after (skip text)) [] none); is = rw none refl }
      | inr some ↦ absurd (formed (rw some refl))
    ]

-- a byte of a sample's name
name_byte : (b : ℕ) → in_name b ≡ true → (is_blank b ≡ false) × (b ≢ 123)
name_byte b h =
    let both = and_parts (in_token b) (not (b == 123)) h in
    (token_byte b both.0, λ e. both_ways (not (b == 123)) (not_from_true (b == 123) (eq-eqb b 123 e)) both.1)

solid_of : (name : List ℕ) → Each in_name name → All (λ b. (is_blank b ≡ false) × (b ≢ 123)) name
solid_of [] each = All-nil (λ (b : ℕ). (is_blank b ≡ false) × (b ≢ 123))
solid_of (b ∷ name) each = All-cons (λ (c : ℕ). (is_blank c ≡ false) × (c ≢ 123)) b name (name_byte b each.0)
    (solid_of name each.1)

-- the bytes of a name
word_of_each : (name : List ℕ) → Each in_name name → ((rest : List ℕ) → name ≢ codes "#" ++ rest) → IsSampleWord name
word_of_each name each no_hash = record { solid = solid_of name each; no_hash = no_hash }

-- a line of a sample as a walk cuts it: blanks, a name, blanks, and what follows
record CutSample (line bytes : List ℕ) : Type 0 where
  before : List ℕ
  name : List ℕ
  gap : List ℕ
  text : List ℕ
  is : line ≡ before ++ (name ++ (gap ++ text))
  blanks : AreBlanks before × AreBlanks gap
  word : IsSampleWord name
  stops : Stops in_name (gap ++ text)
  solid : Stops is_blank (name ++ (gap ++ text))
  each : Each in_name name
  walked : sample_entry bytes ≡ after_name name text
  front : Stops is_blank text

-- a sample with braces
braced_found : (line all : List ℕ) (cut : CutSample line all) (bytes : List ℕ) → cut.text ≡ 123 ∷ bytes
    → labels_entry cut.name BeforeName [] bytes ≢ Malformed
    → IsLine line (labels_entry cut.name BeforeName [] bytes)
braced_found line all cut bytes brace formed =
    let labels = labels_found cut.name bytes formed in
    let value = value_found cut.name labels.labels labels.rest (λ e. formed (labels.goes ∙ e)) in
    let flat : line ≡ cut.before ++ cut.name ++ cut.gap ++ codes "{" ++ labels.text ++ labels.rest =
    cut.is ∙ ap (λ t. cut.before ++ (cut.name ++ (cut.gap ++ t))) (brace ∙ ap (λ t. 123 ∷ t) labels.is) ∙ simp append_assoc in
    subst (IsLine line) (sym (labels.goes ∙ value.is))
    (inl (record {
      before = cut.before;
      after_name = cut.gap;
      inside = labels.text;
      rest = labels.rest;
      is = flat;
      blanks = cut.blanks;
      name = cut.word;
      labels = labels.are;
      value = value.only;
    }))

-- after the name a blank
name_over : (b : ℕ) → in_name b ≡ false → b ≢ 123 → is_blank b ≡ true
name_over b stops no_brace =
    elim (cases_Bool (is_blank b)) [
      | inl blank ↦ blank
      | inr solid ↦ absurd (both_ways (in_name b) stops
          (and_from (in_token b) (not (b == 123)) (not_from_false (is_blank b) solid)
          (not_from_false (b == 123) (ne_eqb b 123 no_brace))))
    ]

-- the first token of a line without a brace is its name
bare_first : (before name gap : List ℕ) (c : ℕ) (bytes : List ℕ) → AreBlanks before → Each in_name name
    → Stops in_name (gap ++ (c ∷ bytes)) → AreBlanks gap
    → is_blank c ≡ false → c ≢ 123 → Stops is_blank (name ++ (gap ++ (c ∷ bytes)))
    → IsFirst (before ++ (name ++ (gap ++ (c ∷ bytes)))) name (gap ++ (c ∷ bytes))
bare_first before name [] c bytes blank each stops blank' solid no_brace front =
    absurd (both_ways (is_blank c) solid (name_over c stops no_brace))
bare_first before name (d ∷ gap) c bytes blank each stops blank' solid no_brace front =
    first_of_parts before name (d ∷ gap ++ (c ∷ bytes)) blank
    (each_weaker in_name in_token (λ b h. (and_parts (in_token b) (not (b == 123)) h).0) name each)
    (not_from_true (is_blank d) (All-head (λ (b : ℕ). is_blank b ≡ true) d gap blank')) front

-- the first token of a text that begins with no blank
record Headed (c : ℕ) (bytes : List ℕ) : Type 0 where
  more : List ℕ
  is : first (c ∷ bytes) ≡ c ∷ more

headed_by : (c : ℕ) (bytes front rest : List ℕ) → is_blank c ≡ false → c ∷ bytes ≡ front ++ rest → Each in_token front
    → Stops in_token rest → Headed c bytes
headed_by c bytes [] rest solid is each stops =
    absurd (both_ways (in_token c) (subst (Stops in_token) (sym is) stops) (not_from_false (is_blank c) solid))
headed_by c bytes (d ∷ front) rest solid is each stops =
    let same_byte : d ≡ c = cc in
    record {
      more = front;
      is = ap first is ∙ take_while_all in_token (d ∷ front) rest each stops
          ∙ ap (λ b. b ∷ front) same_byte;
    }

headed : (c : ℕ) (bytes : List ℕ) → is_blank c ≡ false → Headed c bytes
headed c bytes solid = let all = cut in_token (c ∷ bytes) in headed_by c bytes all.front all.rest solid all.is all.each all.stops

-- a token with a byte is not empty
empty_token : (c : ℕ) (more : List ℕ) → c ∷ more ≡ [] → ⊥
empty_token c more e = cc

-- two texts that are equal begin with the same byte
other_head : (c : ℕ) (more others : List ℕ) → c ∷ more ≡ 123 ∷ others → c ≡ 123
other_head c more others e = cc

-- a text that begins with a hash
head_of : (b : ℕ) (text rest front more : List ℕ) → front ≡ 35 ∷ rest → b ∷ text ≡ front ++ more → b ≡ 35
head_of b text rest front more e is = let whole : b ∷ text ≡ 35 ∷ (rest ++ more) = is ∙ ap (λ t. t ++ more) e in cc

-- a sample without braces
bare_found : (line all : List ℕ) (cut : CutSample line all) (c : ℕ) (bytes : List ℕ) → cut.text ≡ c ∷ bytes → c ≢ 123
    → value_entry cut.name [] (c ∷ bytes) ≢ Malformed
    → IsLine line (value_entry cut.name [] (c ∷ bytes))
bare_found line all cut c bytes is no_brace formed =
    let rest = cut.gap ++ (c ∷ bytes) in
    let solid : is_blank c ≡ false = subst (Stops is_blank) is cut.front in
    let skipped : skip rest ≡ c ∷ bytes = skip_blanks cut.gap (c ∷ bytes) cut.blanks.1 solid in
    let value = value_found cut.name [] rest (λ e. formed (ap (λ t. value_entry cut.name [] t) (sym skipped) ∙ e)) in
    let head = headed c bytes solid in
    let value_is : first (skip rest) ≡ c ∷ head.more = ap first skipped ∙ head.is in
    let token : IsFirst (cut.before ++ (cut.name ++ rest)) cut.name rest =
    bare_first cut.before cut.name cut.gap c bytes cut.blanks.0 cut.each (subst (λ t. Stops in_name (cut.gap ++ t)) is cut.stops)
    cut.blanks.1 solid no_brace
    (subst (λ t. Stops is_blank (cut.name ++ (cut.gap ++ t))) is cut.solid) in
    subst (IsLine line) (sym (ap (λ t. value_entry cut.name [] t) (sym skipped) ∙ value.is))
    (inr (record {
      rest = rest;
      first = subst (λ t. IsFirst t cut.name rest) (sym (cut.is ∙ ap (λ t. cut.before ++ (cut.name ++ (cut.gap ++ t))) is)) token;
      name = cut.word;
      none = refl;
      value = value.only;
      some = λ none. empty_token c head.more (sym value_is ∙ none);
      no_brace = λ more e. no_brace (other_head c head.more more (sym value_is ∙ e));
    }))

-- what follows the name of a sample
after_found : (line all : List ℕ) (cut : CutSample line all) (text : List ℕ) → cut.text ≡ text
    → after_name cut.name text ≢ Malformed → IsLine line (after_name cut.name text)
after_found line all cut [] is formed = absurd (formed refl)
after_found line all cut (c ∷ bytes) is formed =
    elim (cases_Bool (c == 123)) [
      | inl brace ↦ rw brace (braced_found line all cut bytes (is ∙ ap (λ b. b ∷ bytes) (eqb-true c 123 brace))
          (rw brace at formed))
      | inr other ↦ rw other (bare_found line all cut c bytes is (λ e. both_ways (c == 123) other (eq-eqb c 123 e))
          (rw other at formed))
    ]

-- a line as a walk cuts it
cut_sample : (line before : List ℕ) (b : ℕ) (text : List ℕ) → line ≡ before ++ (b ∷ text) → AreBlanks before → is_blank b ≡ false
    → (b == 35) ≡ false → CutSample line (b ∷ text)
cut_sample line before b text is blank solid no_hash =
    let name = cut in_name (b ∷ text) in
    let gap = blanks name.rest in
    let whole : b ∷ text ≡ name.front ++ (gap.gap ++ skip name.rest) = name.is ∙ ap (λ t. name.front ++ t) gap.is in
    record {
      before = before;
      name = name.front;
      gap = gap.gap;
      text = skip name.rest;
      is = is ∙ ap (λ t. before ++ t) whole;
      blanks = (blank, gap.blank);
      word = word_of_each name.front name.each
          (λ rest e. both_ways (b == 35) no_hash (eq-eqb b 35 (head_of b text rest name.front name.rest e name.is)));
      stops = subst (Stops in_name) gap.is name.stops;
      solid = subst (Stops is_blank) whole solid;
      each = name.each;
      walked = ap₂ (λ n r. after_name n (skip r))
          (ap (λ t. take_while in_name t) name.is ∙ take_while_all in_name name.front name.rest name.each name.stops)
          (ap (λ t. drop_while in_name t) name.is ∙ drop_while_all in_name name.front name.rest name.each name.stops);
      front = gap.stops;
    }

-- a line whose blanks in front are gone
rest_found : (line rest : List ℕ) → skip line ≡ rest → Blanks line → Stops is_blank rest → entry_from rest ≢ Malformed
    → IsLine line (entry_from rest)
rest_found line [] e all solid formed = inl (blank_all line e)
rest_found line (b ∷ text) e all solid formed =
    let is : line ≡ all.gap ++ (b ∷ text) = all.is ∙ ap (λ t. all.gap ++ t) e in
    elim (cases_Bool (b == 35)) [
      | inl hash ↦ rw hash (hash_found line text (record {
        before = all.gap;
        is = is ∙ ap (λ c. all.gap ++ (c ∷ text)) (eqb-true b 35 hash) ∙ sym (append_assoc all.gap (codes "#") text);
        blanks = all.blank;
      }) (rw hash at formed))
      | inr other ↦
          let cut = cut_sample line all.gap b text is all.blank solid other in
          rw other (subst (IsLine line) (sym cut.walked)
          (after_found line (b ∷ text) cut cut.text refl (λ e. (rw other at formed) (cut.walked ∙ e))))
    ]

-- what a walk over a line finds is what the line is
pub line_found : (line : List ℕ) → entry_of line ≢ Malformed → IsLine line (entry_of line)
line_found line formed = let all = blanks line in rest_found line (skip line) refl all all.stops formed

-- a line is an entry exactly where a walk over it finds that entry
pub line_is : (line : List ℕ) (entry : LineEntry) → entry ≢ Malformed → IsLine line entry ↔ (entry_of line ≡ entry)
line_is line entry formed = (
  λ is. line_walked line entry is,
  λ e. subst (IsLine line) e (line_found line (λ m. formed (sym e ∙ m))),
)
