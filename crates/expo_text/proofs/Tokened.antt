-- The first token of a text is the one that a walk finds.
use Rattle.std.proofs.Common.{◌≡◌, ◌≢◌, ℕ, Bool, true, false, List, [], ◌∷◌, ◌++◌, refl, sym, ap, ◌∙◌, subst, inl, inr}
use Rattle.std.proofs.Common.{append_assoc, append-nil}
use Rattle.std.specs.Cmp.Lexicographic.{same_text}
use Rattle.std.proofs.lemmas.Cmp.{nat_list_eq_equiv}
use Rattle.std.proofs.lemmas.Bool.{cases_Bool, both_ways, not_from_true, not_from_false, false_from_ne_true}
use Rattle.std.proofs.lemmas.List.Elements.{All-head, All-tail, All-cons, All-nil}
use Rattle.metric_names.specs.HelpText.{is_blank}
use Rattle.expo_text.specs.Lines.{is_same_text, AreBlanks, HasNoBlank, IsToken, EndsToken, HasNoBlankInFront, IsFirst, NoToken}
use Rattle.expo_text.specs.Lines.{OneToken, IsOnly}
use Rattle.expo_text.proofs.Walked.{drop_while, skip, in_token, first, after}
use Rattle.expo_text.proofs.Tokens.{Each, Stops, take_while_all, drop_while_all}
use Rattle.expo_text.proofs.LabelsFound.{more_blank, no_blanks}

-- a text is the same as itself
pub same_self : (a : List ℕ) → is_same_text a a ≡ true
same_self a = nat_list_eq_equiv.refl a

-- two texts that differ are not the same
pub same_other : (a b : List ℕ) → a ≢ b → is_same_text a b ≡ false
same_other a b differ = false_from_ne_true (is_same_text a b) (λ e. differ (same_text a b (sym e)))

-- two texts that are not the same differ
pub other_text : (a b : List ℕ) → is_same_text a b ≡ false → a ≢ b
other_text a b other e = both_ways (is_same_text a b) other (ap (λ c. is_same_text a c) (sym e) ∙ same_self a)

pub each_blank : (gap : List ℕ) → AreBlanks gap → Each is_blank gap
each_blank [] h = tt
each_blank (b ∷ gap) h = (
  All-head (λ (c : ℕ). is_blank c ≡ true) b gap h,
  each_blank gap (All-tail (λ (c : ℕ). is_blank c ≡ true) b gap h),
)

pub all_blank : (gap : List ℕ) → Each is_blank gap → AreBlanks gap
all_blank [] h = no_blanks
all_blank (b ∷ gap) h = more_blank b gap h.0 (all_blank gap h.1)

pub each_solid : (text : List ℕ) → HasNoBlank text → Each in_token text
each_solid [] h = tt
each_solid (b ∷ text) h = (
  not_from_false (is_blank b) (All-head (λ (c : ℕ). is_blank c ≡ false) b text h),
  each_solid text (All-tail (λ (c : ℕ). is_blank c ≡ false) b text h),
)

-- a byte of a token is no blank
pub token_byte : (b : ℕ) → in_token b ≡ true → is_blank b ≡ false
token_byte b h = false_from_ne_true (is_blank b) (λ blank. both_ways (in_token b) (not_from_true (is_blank b) blank) h)

pub all_solid : (text : List ℕ) → Each in_token text → HasNoBlank text
all_solid [] h = All-nil (λ (c : ℕ). is_blank c ≡ false)
all_solid (b ∷ text) h = All-cons (λ (c : ℕ). is_blank c ≡ false) b text (token_byte b h.0) (all_solid text h.1)

-- a text is cut where a test first fails
pub record Cut (test : ℕ → Bool) (text : List ℕ) : Type 0 where
  pub front : List ℕ
  pub rest : List ℕ
  pub is : text ≡ front ++ rest
  pub each : Each test front
  pub stops : Stops test rest

pub cut : (test : ℕ → Bool) (text : List ℕ) → Cut test text
cut test [] = record { front = []; rest = []; is = refl; each = tt; stops = tt }
cut test (b ∷ text) =
    elim (cases_Bool (test b)) [
      | inl passes ↦ let more = cut test text in
          record {
            front = b ∷ more.front;
            rest = more.rest;
            is = ap (λ t. b ∷ t) more.is;
            each = (passes, more.each);
            stops = more.stops;
          }
      | inr fails ↦ record { front = []; rest = b ∷ text; is = refl; each = tt; stops = fails }
    ]

-- the blanks in front go
pub skip_blanks : (gap rest : List ℕ) → AreBlanks gap → Stops is_blank rest → skip (gap ++ rest) ≡ rest
skip_blanks gap rest blank stops = drop_while_all is_blank gap rest (each_blank gap blank) stops

-- of blanks alone nothing stays
pub skip_all : (gap : List ℕ) → AreBlanks gap → skip gap ≡ []
skip_all gap blank = ap skip (sym (append-nil gap)) ∙ skip_blanks gap [] blank tt

-- the blanks in front of a text
pub record Blanks (text : List ℕ) : Type 0 where
  pub gap : List ℕ
  pub is : text ≡ gap ++ skip text
  pub blank : AreBlanks gap
  pub stops : Stops is_blank (skip text)

pub blanks : (text : List ℕ) → Blanks text
blanks text =
    let all = cut is_blank text in
    let skipped : skip text ≡ all.rest = ap skip all.is ∙ skip_blanks all.front all.rest (all_blank all.front all.each)
    all.stops in
    record {
      gap = all.front;
      is = all.is ∙ ap (λ t. all.front ++ t) (sym skipped);
      blank = all_blank all.front all.each;
      stops = subst (Stops is_blank) (sym skipped) all.stops;
    }

-- a text of which nothing stays is blank
pub blank_all : (text : List ℕ) → skip text ≡ [] → AreBlanks text
blank_all text none =
    let all = blanks text in
    subst AreBlanks (sym (all.is ∙ ap (λ t. all.gap ++ t) none ∙ append-nil all.gap)) all.blank

pub front_solid : (text : List ℕ) → Stops is_blank text → HasNoBlankInFront text
front_solid [] h = tt
front_solid (b ∷ text) h = h

pub stops_solid : (text : List ℕ) → HasNoBlankInFront text → Stops is_blank text
stops_solid [] h = tt
stops_solid (b ∷ text) h = h

-- a token does not begin with a blank
pub token_stops : (token rest : List ℕ) → IsToken token → Stops is_blank (token ++ rest)
token_stops [] rest is = absurd (is.0 refl)
token_stops (b ∷ token) rest is = All-head (λ (c : ℕ). is_blank c ≡ false) b token is.1

-- a token is over before a blank
pub ends_stops : (rest : List ℕ) → EndsToken rest → Stops in_token rest
ends_stops [] h = tt
ends_stops (b ∷ rest) h = not_from_true (is_blank b) h

-- and only there
pub stops_ends : (rest : List ℕ) → Stops in_token rest → EndsToken rest
stops_ends [] h = tt
stops_ends (b ∷ rest) h =
    elim (cases_Bool (is_blank b)) [
      | inl blank ↦ blank
      | inr solid ↦ absurd (both_ways (in_token b) h (not_from_false (is_blank b) solid))
    ]

-- what a walk finds first
pub record Walks (text token rest : List ℕ) : Type 0 where
  pub token_is : first (skip text) ≡ token
  pub rest_is : drop_while in_token (skip text) ≡ rest

pub first_walked : (text token rest : List ℕ) → IsFirst text token rest → Walks text token rest
first_walked text token rest (NoToken gap blank) =
    let none = skip_all gap blank in
    record { token_is = ap first none; rest_is = ap (λ t. drop_while in_token t) none }
first_walked text token rest (OneToken gap word more blank is ends) =
    let skipped : skip (gap ++ word ++ more) ≡ word ++ more =
    ap skip (append_assoc gap word more) ∙ skip_blanks gap (word ++ more) blank (token_stops word more is) in
    record {
      token_is = ap first skipped ∙ take_while_all in_token word more (each_solid word is.1) (ends_stops more ends);
      rest_is = ap (λ t. drop_while in_token t) skipped ∙ drop_while_all in_token word more (each_solid word is.1)
          (ends_stops more ends);
    }

-- blanks, a token and what ends it
pub first_of_parts : (gap token rest : List ℕ) → AreBlanks gap → Each in_token token → Stops in_token rest
    → Stops is_blank (token ++ rest)
    → IsFirst (gap ++ (token ++ rest)) token rest
first_of_parts gap [] [] blank each stops solid = subst (λ t. IsFirst t [] []) (sym (append-nil gap)) (NoToken gap blank)
first_of_parts gap [] (b ∷ rest) blank each stops solid =
    absurd (both_ways (in_token b) stops (not_from_false (is_blank b) solid))
first_of_parts gap (b ∷ token) rest blank each stops solid =
    subst (λ t. IsFirst t (b ∷ token) rest) (append_assoc gap (b ∷ token) rest)
    (OneToken gap (b ∷ token) rest blank ((λ none. cc), all_solid (b ∷ token) each) (stops_ends rest stops))

-- what a walk finds first stands there first
pub first_found : (text : List ℕ) → IsFirst text (first (skip text)) (drop_while in_token (skip text))
first_found text =
    let all = blanks text in
    let token = cut in_token (skip text) in
    let first_is : first (skip text) ≡ token.front = ap first token.is
    ∙ take_while_all in_token token.front token.rest token.each token.stops in
    let rest_is : drop_while in_token (skip text) ≡ token.rest =
    ap (λ t. drop_while in_token t) token.is ∙ drop_while_all in_token token.front token.rest token.each token.stops in
    let built : IsFirst (all.gap ++ (token.front ++ token.rest)) token.front token.rest =
    first_of_parts all.gap token.front token.rest all.blank token.each token.stops (subst (Stops is_blank) token.is all.stops) in
    let there : IsFirst text token.front token.rest =
    subst (λ t. IsFirst t token.front token.rest) (sym (all.is ∙ ap (λ t. all.gap ++ t) token.is)) built in
    subst (λ t. IsFirst text t (drop_while in_token (skip text))) (sym first_is)
    (subst (λ r. IsFirst text token.front r) (sym rest_is) there)

-- the only token is the one that a walk finds
pub record WalksOnly (text token : List ℕ) : Type 0 where
  pub token_is : first (skip text) ≡ token
  pub none : after (skip text) ≡ []

pub only_walked : (text token : List ℕ) → IsOnly text token → WalksOnly text token
only_walked text token is =
    let walks = first_walked text token is.rest is.first in
    record { token_is = walks.token_is; none = ap skip walks.rest_is ∙ skip_all is.rest is.blank }

pub only_found : (text : List ℕ) → after (skip text) ≡ [] → IsOnly text (first (skip text))
only_found text none = record {
  rest = drop_while in_token (skip text);
  first = first_found text;
  blank = blank_all (drop_while in_token (skip text)) none;
}
