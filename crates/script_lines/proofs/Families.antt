-- What stands after the first word of a line that registers a family or makes a child.
use Rattle.std.proofs.Common.{◌≡◌, ◌≢◌, ℕ, Bool, true, not, cond, ◌&&◌, List, [], ◌∷◌, ◌++◌, Option, Some, None, refl, sym, ap}
use Rattle.std.proofs.Common.{◌∙◌, subst, inl, inr, ⊎_elim, eqb, arith}
use Rattle.std.specs.Prelude.{option_and_then}
use Rattle.std.specs.List.{slice_split, join_with_byte}
use Rattle.std.specs.Option.{option_map_or}
use Rattle.std.proofs.lemmas.Bool.{and_parts, and_from, not-true, not_from_false}
use Rattle.script_lines.specs.Language.{Saying, Histogram, Child, IsToken, IsWriting, AreBounds, AreValues, IsWordsAnd}
use Rattle.script_lines.specs.Reading.{cut_of, is_empty, are_bounds, are_values, token_of, helped_of, family_of, histogram_of}
use Rattle.script_lines.specs.Reading.{named, child_of}
use Rattle.script_lines.proofs.Options.{none_or_some, bind_some, when_some}
use Rattle.script_lines.proofs.Cut.{cut_found, cut_none, cut_parts, cut_whole}
use Rattle.script_lines.proofs.Joined.{some_part}
use Rattle.script_lines.proofs.Tokens.{IsHelped, token_says, token_found, helped_says, helped_found}
use Rattle.script_lines.proofs.Parts.{bounds_say, bounds_found, values_say, values_found, nonempty_says, nonempty_found}

-- a name, labels and a help
pub record IsFamily (text name labels help : List ℕ) : Type 0 where
  pub token : IsToken name
  pub words : IsToken labels
  pub written : IsWriting help
  pub tail : List ℕ
  pub is : text ≡ name ++ 32 ∷ tail
  pub ends : IsHelped tail labels help

pub family_says : (text : List ℕ) (f : List ℕ × List ℕ × List ℕ) → family_of text ≡ Some f → IsFamily text f.0 f.1 f.2
unfolding family_of
family_says text f h =
    let name = bind_some (λ (n : List ℕ × List ℕ). option_and_then (λ (l : List ℕ × List ℕ). Some (n.0, l.0, l.1))
    (helped_of n.1)) (token_of text) f h in
    let labels = bind_some (λ (l : List ℕ × List ℕ). Some (name.0.0, l.0, l.1)) (helped_of name.0.1) f name.2 in
    let front = token_says text name.0 name.1 in
    let back = helped_says name.0.1 labels.0 labels.1 in
    let same : (name.0.0, labels.0.0, labels.0.1) ≡ f = cc (labels.2) in
    subst (λ (f : List ℕ × List ℕ × List ℕ). IsFamily text f.0 f.1 f.2) same
    (record { token = front.0; words = back.0; written = back.1; tail = name.0.1; is = front.1; ends = back.2 })

pub family_found : (text name labels help : List ℕ) → IsFamily text name labels help → family_of text ≡ Some (name, labels, help)
unfolding family_of
family_found text name labels help is =
    ap family_of is.is
    ∙ ap (option_and_then (λ (n : List ℕ × List ℕ). option_and_then (λ (l : List ℕ × List ℕ). Some (n.0, l.0, l.1))
    (helped_of n.1))) (token_found name is.tail is.token)
    ∙ ap (option_and_then (λ (l : List ℕ × List ℕ). Some (name, l.0, l.1)))
    (helped_found is.tail labels help is.words is.written is.ends)

-- the words of such a line
pub family_words : (first text name labels help : List ℕ) → IsFamily text name labels help
    → IsWordsAnd (first ++ 32 ∷ text) (first ∷ name ∷ labels ∷ []) help
family_words first text name labels help is =
    ⊎_elim
    (λ none. inl (ap (λ r. first ++ 32 ∷ r) (is.is ∙ ap (λ t. name ++ 32 ∷ t) none.0), none.1))
    (λ some. inr (ap (λ r. first ++ 32 ∷ r) (is.is ∙ ap (λ t. name ++ 32 ∷ t) some)))
    is.ends

pub words_family : (line first name labels help : List ℕ) → IsToken name → IsToken labels → IsWriting help
    → IsWordsAnd line (first ∷ name ∷ labels ∷ []) help
    → (text : List ℕ) × (line ≡ first ++ 32 ∷ text) × IsFamily text name labels help
words_family line first name labels help token words written (inl none) = (
  name ++ 32 ∷ labels,
  none.0,
  record {
    token = token;
    words = words;
    written = written;
    tail = labels;
    is = refl;
    ends = inl (refl, none.1);
  },
)
words_family line first name labels help token words written (inr some) = (
  name ++ 32 ∷ (labels ++ 32 ∷ help),
  some,
  record { token = token; words = words; written = written; tail = labels ++ 32 ∷ help; is = refl; ends = inr refl },
)

-- a name, labels, bounds and a help
pub record IsHistogram (text name labels bounds help : List ℕ) : Type 0 where
  pub token : IsToken name
  pub rest : List ℕ
  pub is : text ≡ name ++ 32 ∷ rest
  pub family : IsFamily rest labels bounds help
  pub numbers : List ℕ
  pub bounded : AreBounds bounds numbers

abbrev bounded_step : (name labels : List ℕ × List ℕ) (bounds : List ℕ × List ℕ) → Option Saying
bounded_step name labels bounds = cond (are_bounds bounds.0) (Some (Histogram name.0 labels.0 bounds.0 bounds.1)) None

step_says : (text : List ℕ) (name labels bounds : List ℕ × List ℕ) (s : Saying)
    → token_of text ≡ Some name → token_of name.1 ≡ Some labels → helped_of labels.1 ≡ Some bounds
    → bounded_step name labels bounds ≡ Some s
    → (name : List ℕ) × (labels : List ℕ) × (bounds : List ℕ) × (help : List ℕ) × (s ≡ Histogram name labels bounds help)
    × IsHistogram text name labels bounds help
step_says text name labels bounds s first next last kept =
    let passed = when_some (are_bounds bounds.0) (Histogram name.0 labels.0 bounds.0 bounds.1) s kept in
    let front = token_says text name first in
    let middle = token_says name.1 labels next in
    let back = helped_says labels.1 bounds last in
    let numbers = bounds_say bounds.0 passed.0 in (
      name.0,
      labels.0,
      bounds.0,
      bounds.1,
      sym passed.1,
      record {
        token = front.0;
        rest = name.1;
        is = front.1;
        family = record { token = middle.0; words = back.0; written = back.1; tail = labels.1; is = middle.1; ends = back.2 };
        numbers = numbers.0;
        bounded = numbers.1;
      },
    )

pub histogram_says : (text : List ℕ) (s : Saying) → histogram_of text ≡ Some s
    → (name : List ℕ) × (labels : List ℕ) × (bounds : List ℕ) × (help : List ℕ) × (s ≡ Histogram name labels bounds help)
    × IsHistogram text name labels bounds help
unfolding histogram_of
histogram_says text s h =
    let name = bind_some (λ (n : List ℕ × List ℕ). option_and_then
    (λ (l : List ℕ × List ℕ). option_and_then (bounded_step n l) (helped_of l.1)) (token_of n.1)) (token_of text) s h in
    let labels = bind_some (λ (l : List ℕ × List ℕ). option_and_then (bounded_step name.0 l) (helped_of l.1)) (token_of name.0.1)
    s name.2 in
    let bounds = bind_some (bounded_step name.0 labels.0) (helped_of labels.0.1) s labels.2 in
    step_says text name.0 labels.0 bounds.0 s name.1 labels.1 bounds.1 bounds.2

pub histogram_found : (text name labels bounds help : List ℕ) → IsHistogram text name labels bounds help
    → histogram_of text ≡ Some (Histogram name labels bounds help)
unfolding histogram_of
histogram_found text name labels bounds help is =
    ap histogram_of is.is
    ∙ ap (option_and_then (λ (n : List ℕ × List ℕ). option_and_then
    (λ (l : List ℕ × List ℕ). option_and_then (bounded_step n l) (helped_of l.1)) (token_of n.1)))
    (token_found name is.rest is.token)
    ∙ ap (λ t. option_and_then (λ (l : List ℕ × List ℕ). option_and_then (bounded_step (name, is.rest) l) (helped_of l.1))
    (token_of t)) is.family.is
    ∙ ap (option_and_then (λ (l : List ℕ × List ℕ). option_and_then (bounded_step (name, is.rest) l) (helped_of l.1)))
    (token_found labels is.family.tail is.family.token)
    ∙ ap (option_and_then (bounded_step (name, is.rest) (labels, is.family.tail)))
    (helped_found is.family.tail bounds help is.family.words is.family.written is.family.ends)
    ∙ ap (λ t. cond t (Some (Histogram name labels bounds help)) None) (bounds_found bounds is.numbers is.bounded)

-- a name, and label values
pub record IsChild (text name values : List ℕ) : Type 0 where
  pub token : IsToken name
  pub words : List (List ℕ)
  pub are : AreValues values words
  pub is : text ≡ join_with_byte 32 (name ∷ words)

named_says : (name values : List ℕ) (proper : Bool) (s : Saying) → named name values proper ≡ Some s → (name ≢ [])
    × (proper ≡ true) × (s ≡ Child name values)
named_says name values proper s h =
    let kept = when_some (not (is_empty name) && proper) (Child name values) s h in
    let both = and_parts (not (is_empty name)) proper kept.0 in
    (nonempty_says name (not-true (is_empty name) both.0), both.1, sym kept.1)

named_found : (name values : List ℕ) (proper : Bool) → name ≢ [] → proper ≡ true
    → named name values proper ≡ Some (Child name values)
named_found name values proper some is =
    ap (λ t. cond t (Some (Child name values)) None)
    (and_from (not (is_empty name)) proper (not_from_false (is_empty name) (nonempty_found name some)) is)

joined_more : (name values : List ℕ) (words : List (List ℕ)) → words ≢ [] → values ≡ join_with_byte 32 words
    → name ++ 32 ∷ values ≡ join_with_byte 32 (name ∷ words)
joined_more name values [] some is = absurd (some refl)
joined_more name values (word ∷ words) some is = ap (λ v. name ++ 32 ∷ v) is

pub child_says : (text : List ℕ) (s : Saying) → child_of text ≡ Some s → (name : List ℕ) × (values : List ℕ)
    × (s ≡ Child name values) × IsChild text name values
unfolding child_of
child_says text s h =
    let at : (o : Option (List ℕ × List ℕ)) → cut_of text ≡ o
    → option_map_or (λ (c : List ℕ × List ℕ). named c.0 c.1 (are_values c.1)) o (named text [] true) ≡ Some s =
    λ o e. subst (λ o. option_map_or (λ (c : List ℕ × List ℕ). named c.0 c.1 (are_values c.1)) o (named text [] true) ≡ Some
    s) e h in
    ⊎_elim
    (λ none.
    let is = named_says text [] true s (at None none) in (
      text,
      [],
      is.2,
      record {
        token = (is.0, cut_whole text none);
        words = [];
        are = ((λ k d within. absurd (omega (arith, within))), refl);
        is = refl;
      },
    ))
    (λ some.
    let is = named_says some.0.0 some.0.1 (are_values some.0.1) s (at (Some some.0) some.1) in
    let parts = cut_parts text some.0 some.1 in
    let are = values_say some.0.1 is.1 in (
      some.0.0,
      some.0.1,
      is.2,
      record {
        token = (is.0, parts.1);
        words = slice_split (λ b. eqb b 32) some.0.1;
        are = are;
        is = parts.0 ∙ joined_more some.0.0 some.0.1 (slice_split (λ b. eqb b 32) some.0.1) (some_part 32 some.0.1) are.1;
      },
    ))
    (none_or_some (cut_of text))

pub child_found : (text name values : List ℕ) → IsChild text name values → child_of text ≡ Some (Child name values)
unfolding child_of
child_found text name values is = found is.words is.are is.is
  where
    found : (words : List (List ℕ)) → AreValues values words → text ≡ join_with_byte 32 (name ∷ words)
        → child_of text ≡ Some (Child name values)
    found [] are same =
        ap child_of same
        ∙ ap (λ o. option_map_or (λ (c : List ℕ × List ℕ). named c.0 c.1 (are_values c.1)) o (named name [] true))
        (cut_none name is.token.1)
        ∙ ap (λ v. named name v true) (sym are.1)
        ∙ named_found name values true is.token.0 refl
    found (word ∷ words) are same =
        ap child_of (same ∙ ap (λ v. name ++ 32 ∷ v) (sym are.1))
        ∙ ap (λ o. option_map_or (λ (c : List ℕ × List ℕ). named c.0 c.1 (are_values c.1)) o
        (named (name ++ 32 ∷ values) [] true)) (cut_found name values is.token.1)
        ∙ named_found name values (are_values values) is.token.0 (values_found values (word ∷ words) (λ e. cc e) are)
