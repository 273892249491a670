-- Where a walk over labels ends well, labels stand there.
use Rattle.std.proofs.Common.{◌≡◌, ◌≢◌, ℕ, true, false, ◌==◌, List, [], ◌∷◌, ◌++◌, codes, refl, sym, ap, ◌∙◌, subst, inl, inr}
use Rattle.std.proofs.Common.{append_assoc, append-nil, eqb-true, eq-eqb}
use Rattle.std.specs.Prelude.{All, ⊤}
use Rattle.std.proofs.lemmas.Bool.{cases_Bool, both_ways}
use Rattle.std.proofs.lemmas.List.Elements.{All-cons, All-nil}
use Rattle.metric_names.specs.HelpText.{is_blank}
use Rattle.expo_text.specs.Lines.{Malformed, AreBlanks, IsQuoted, NoByte, Plain, Escaped, IsLabelWord, IsLabelText, AreLabels}
use Rattle.expo_text.specs.Lines.{NoLabel, LastLabel, NextLabel}
use Rattle.expo_text.proofs.Walked.{Place, BeforeName, InName, AfterName, BeforeValue, InValue, InEscape, AfterValue, Ended}
use Rattle.expo_text.proofs.Walked.{Failed, move, completed, has_ended, skip, value_entry, labels_entry}
use Rattle.expo_text.proofs.LabelsWalked.{IsInWord}

-- one more blank in front of others
pub more_blank : (b : ℕ) (gap : List ℕ) → is_blank b ≡ true → AreBlanks gap → AreBlanks (b ∷ gap)
more_blank b gap one blank = All-cons (λ (c : ℕ). is_blank c ≡ true) b gap one blank

pub no_blanks : AreBlanks []
no_blanks = All-nil (λ (c : ℕ). is_blank c ≡ true)

-- what follows a label: the closing brace, or a comma and labels
data Follows : List ℕ → List (List ℕ × List ℕ) → Type 0 where
  Brace : (gap : List ℕ) → AreBlanks gap → Follows (gap ++ codes "}") []
  Comma : (gap rest : List ℕ) (labels : List (List ℕ × List ℕ)) → AreBlanks gap → AreLabels rest labels
      → Follows (gap ++ codes "," ++ rest) labels

-- what follows a part of a value
record FollowsValue (label so_far text : List ℕ) (labels : List (List ℕ × List ℕ)) : Type 0 where
  value : List ℕ
  rest : List ℕ
  others : List (List ℕ × List ℕ)
  is : text ≡ value ++ (34 ∷ rest)
  all : labels ≡ (label, so_far ++ value) ∷ others
  quoted : IsQuoted value
  follows : Follows rest others

-- what follows `=`
record FollowsEquals (label text : List ℕ) (labels : List (List ℕ × List ℕ)) : Type 0 where
  gap : List ℕ
  rest : List ℕ
  is : text ≡ gap ++ (34 ∷ rest)
  blank : AreBlanks gap
  follows : FollowsValue label [] rest labels

-- what follows a name
record FollowsName (label text : List ℕ) (labels : List (List ℕ × List ℕ)) : Type 0 where
  gap : List ℕ
  rest : List ℕ
  is : text ≡ gap ++ (61 ∷ rest)
  blank : AreBlanks gap
  follows : FollowsEquals label rest labels

-- what follows a part of a name
record FollowsPart (so_far text : List ℕ) (labels : List (List ℕ × List ℕ)) : Type 0 where
  more : List ℕ
  rest : List ℕ
  is : text ≡ more ++ rest
  word : All IsInWord more
  follows : FollowsName (so_far ++ more) rest labels

-- what follows a byte of an escape
record FollowsSlash (label so_far text : List ℕ) (labels : List (List ℕ × List ℕ)) : Type 0 where
  byte : ℕ
  rest : List ℕ
  is : text ≡ byte ∷ rest
  follows : FollowsValue label (so_far ++ (byte ∷ [])) rest labels

-- what is still to come at a place
abbrev From : Place → List ℕ → List (List ℕ × List ℕ) → Type 0
From BeforeName text labels = AreLabels text labels
From (InName so_far) text labels = FollowsPart so_far text labels
From (AfterName label) text labels = FollowsName label text labels
From (BeforeValue label) text labels = FollowsEquals label text labels
From (InValue label so_far) text labels = FollowsValue label so_far text labels
From (InEscape label so_far) text labels = FollowsSlash label so_far text labels
From AfterValue text labels = Follows text labels
From Ended text labels = ⊤
From Failed text labels = ⊥

-- a blank in front of a label
blank_label : (b : ℕ) → is_blank b ≡ true → (text : List ℕ) (label : List ℕ × List ℕ) → IsLabelText text label
    → IsLabelText (b ∷ text) label
blank_label b one text label is = record {
  before = b ∷ is.before;
  after_name = is.after_name;
  before_value = is.before_value;
  after = is.after;
  is = ap (λ t. b ∷ t) is.is;
  blanks = (more_blank b is.before one is.blanks.0, is.blanks.1, is.blanks.2, is.blanks.3);
  name = is.name;
  value = is.value;
}

-- a blank in front of labels
blank_labels : (b : ℕ) → is_blank b ≡ true → (text : List ℕ) (labels : List (List ℕ × List ℕ)) → AreLabels text labels
    → AreLabels (b ∷ text) labels
blank_labels b one text labels (NoLabel gap blank) = NoLabel (b ∷ gap) (more_blank b gap one blank)
blank_labels b one text labels (LastLabel front label is) = LastLabel (b ∷ front) label (blank_label b one front label is)
blank_labels b one text labels (NextLabel front more label others is are) = NextLabel (b ∷ front) more label others
    (blank_label b one front label is) are

-- a blank in front of what follows a label
blank_follows : (b : ℕ) → is_blank b ≡ true → (text : List ℕ) (labels : List (List ℕ × List ℕ)) → Follows text labels
    → Follows (b ∷ text) labels
blank_follows b one text labels (Brace gap blank) = Brace (b ∷ gap) (more_blank b gap one blank)
blank_follows b one text labels (Comma gap rest others blank are) = Comma (b ∷ gap) rest others (more_blank b gap one blank) are

-- a label's text, put together
label_of : (word gap gap' gap'' value : List ℕ) → IsLabelWord word → AreBlanks gap → AreBlanks gap' → AreBlanks gap''
    → IsQuoted value
    → IsLabelText (word ++ gap ++ codes "=" ++ gap' ++ codes "\"" ++ value ++ codes "\"" ++ gap'') (word, value)
label_of word gap gap' gap'' value is blank blank' blank'' quoted = record {
  before = [];
  after_name = gap;
  before_value = gap';
  after = gap'';
  is = refl;
  blanks = (no_blanks, blank, blank', blank'');
  name = is;
  value = quoted;
}

-- a label and what follows it
labels_with : (front text : List ℕ) (label : List ℕ × List ℕ) (labels : List (List ℕ × List ℕ))
    → ((gap : List ℕ) → AreBlanks gap → IsLabelText (front ++ gap) label) → Follows text labels
    → AreLabels (front ++ text) (label ∷ labels)
labels_with front text label labels is (Brace gap blank) =
    subst (λ t. AreLabels t (label ∷ [])) (append_assoc front gap (codes "}")) (LastLabel (front ++ gap) label (is gap blank))
labels_with front text label labels is (Comma gap rest others blank are) =
    subst (λ t. AreLabels t (label ∷ others)) (simp append_assoc) (NextLabel (front ++ gap) rest label others (is gap blank) are)

-- a name's first byte and what follows it
first_byte : (b : ℕ) (text : List ℕ) (labels : List (List ℕ × List ℕ)) → b ≢ 125 → is_blank b ≡ false
    → FollowsPart (b ∷ []) text labels
    → AreLabels (b ∷ text) labels
first_byte b text labels brace solid part =
    let named = part.follows in
    let equalled = named.follows in
    let valued = equalled.follows in
    let word = b ∷ part.more in
    let front : List ℕ = word ++ named.gap ++ codes "=" ++ equalled.gap ++ codes "\"" ++ valued.value ++ codes "\"" in
    let flat : front ++ valued.rest ≡ b ∷ text =
    simp append_assoc (sym (ap (λ t. b ∷ t)
    (part.is ∙ ap (λ t. part.more ++ t)
    (named.is ∙ ap (λ t. named.gap ++ (61 ∷ t)) (equalled.is ∙ ap (λ t. equalled.gap ++ (34 ∷ t)) valued.is))))) in
    let built : AreLabels (front ++ valued.rest) ((word, valued.value) ∷ valued.others) =
    labels_with front valued.rest (word, valued.value) valued.others
    (λ gap blank. subst (λ t. IsLabelText t (word, valued.value)) (simp append_assoc)
    (label_of word named.gap equalled.gap gap valued.value (brace, solid, part.word) named.blank equalled.blank blank
    valued.quoted))
    valued.follows in
    subst (λ all. AreLabels (b ∷ text) all) (sym valued.all)
    (subst (λ t. AreLabels t ((word, valued.value) ∷ valued.others)) flat built)

-- a byte of a value and what follows it
value_byte : (label so_far piece text : List ℕ) (labels : List (List ℕ × List ℕ))
    → ((value : List ℕ) → IsQuoted value → IsQuoted (piece ++ value))
    → FollowsValue label (so_far ++ piece) text labels → FollowsValue label so_far (piece ++ text) labels
value_byte label so_far piece text labels longer is = record {
  value = piece ++ is.value;
  rest = is.rest;
  others = is.others;
  is = ap (λ t. piece ++ t) is.is ∙ sym (append_assoc piece is.value (34 ∷ is.rest));
  all = is.all ∙ ap (λ v. (label, v) ∷ is.others) (append_assoc so_far piece is.value);
  quoted = longer is.value is.quoted;
  follows = is.follows;
}

-- a backslash and what follows it
slash_byte : (label so_far text : List ℕ) (labels : List (List ℕ × List ℕ)) → FollowsSlash label (so_far ++ (92 ∷ [])) text labels
    → FollowsValue label so_far (92 ∷ text) labels
slash_byte label so_far text labels is =
    let whole : FollowsValue label (so_far ++ (92 ∷ is.byte ∷ [])) is.rest labels =
    subst (λ s. FollowsValue label s is.rest labels) (append_assoc so_far (92 ∷ []) (is.byte ∷ [])) is.follows in
    subst (λ t. FollowsValue label so_far (92 ∷ t) labels) (sym is.is)
    (value_byte label so_far (92 ∷ is.byte ∷ []) is.rest labels (λ value quoted. Escaped is.byte value quoted) whole)

-- the quote after a value
end_quote : (label so_far text : List ℕ) (labels : List (List ℕ × List ℕ)) → Follows text labels
    → FollowsValue label so_far (34 ∷ text) ((label, so_far) ∷ labels)
end_quote label so_far text labels is = record {
  value = [];
  rest = text;
  others = labels;
  is = refl;
  all = ap (λ v. (label, v) ∷ labels) (sym (append-nil so_far));
  quoted = NoByte;
  follows = is;
}

-- a byte of a name and what follows it
part_byte : (so_far text : List ℕ) (b : ℕ) (labels : List (List ℕ × List ℕ)) → IsInWord b
    → FollowsPart (so_far ++ (b ∷ [])) text labels → FollowsPart so_far (b ∷ text) labels
part_byte so_far text b labels here is = record {
  more = b ∷ is.more;
  rest = is.rest;
  is = ap (λ t. b ∷ t) is.is;
  word = All-cons IsInWord b is.more here is.word;
  follows = subst (λ s. FollowsName s is.rest labels) (append_assoc so_far (b ∷ []) is.more) is.follows;
}

-- the end of a name
part_end : (so_far text : List ℕ) (labels : List (List ℕ × List ℕ)) → FollowsName so_far text labels
    → FollowsPart so_far text labels
part_end so_far text labels is = record {
  more = [];
  rest = text;
  is = refl;
  word = All-nil IsInWord;
  follows = subst (λ s. FollowsName s text labels) (sym (append-nil so_far)) is;
}

-- a blank after a name
name_blank : (b : ℕ) → is_blank b ≡ true → (label text : List ℕ) (labels : List (List ℕ × List ℕ)) → FollowsName label text labels
    → FollowsName label (b ∷ text) labels
name_blank b one label text labels is = record {
  gap = b ∷ is.gap;
  rest = is.rest;
  is = ap (λ t. b ∷ t) is.is;
  blank = more_blank b is.gap one is.blank;
  follows = is.follows;
}

-- `=` after a name
name_equals : (label text : List ℕ) (labels : List (List ℕ × List ℕ)) → FollowsEquals label text labels
    → FollowsName label (61 ∷ text) labels
name_equals label text labels is = record { gap = []; rest = text; is = refl; blank = no_blanks; follows = is }

-- a blank after `=`
equals_blank : (b : ℕ) → is_blank b ≡ true → (label text : List ℕ) (labels : List (List ℕ × List ℕ))
    → FollowsEquals label text labels → FollowsEquals label (b ∷ text) labels
equals_blank b one label text labels is = record {
  gap = b ∷ is.gap;
  rest = is.rest;
  is = ap (λ t. b ∷ t) is.is;
  blank = more_blank b is.gap one is.blank;
  follows = is.follows;
}

-- a quote after `=`
equals_quote : (label text : List ℕ) (labels : List (List ℕ × List ℕ)) → FollowsValue label [] text labels
    → FollowsEquals label (34 ∷ text) labels
equals_quote label text labels is = record { gap = []; rest = text; is = refl; blank = no_blanks; follows = is }

-- no list ends at this byte
abbrev GoesOn : Place → ℕ → Type 0
GoesOn place b = has_ended (move place b) ≡ false

-- what comes at a place, from what comes after a byte
abbrev IsBefore : Place → Type 0
IsBefore place = (b : ℕ) (text : List ℕ) (labels : List (List ℕ × List ℕ)) → GoesOn place b → From (move place b) text labels
    → From place (b ∷ text) (completed place b ++ labels)

-- a number and its test
differ : (b c : ℕ) → (b == c) ≡ false → b ≢ c
differ b c test e = both_ways (b == c) test (eq-eqb b c e)

at_before_name : IsBefore BeforeName
at_before_name b text labels on from =
    elim (cases_Bool (b == 125)) [
      | inl brace ↦ absurd (both_ways true (rw brace at on) refl)
      | inr other ↦ elim (cases_Bool (is_blank b)) [
        | inl blank ↦ blank_labels b blank text labels (rw (other, blank) at from)
        | inr solid ↦ first_byte b text labels (differ b 125 other) solid (rw (other, solid) at from)
      ]
    ]

at_in_name : (so_far : List ℕ) → IsBefore (InName so_far)
at_in_name so_far b text labels on from =
    elim (cases_Bool (b == 61)) [
      | inl here ↦ subst (λ c. FollowsPart so_far (c ∷ text) labels) (sym (eqb-true b 61 here))
          (part_end so_far (61 ∷ text) labels (name_equals so_far text labels (rw here at from)))
      | inr other ↦ elim (cases_Bool (is_blank b)) [
        | inl blank ↦ part_end so_far (b ∷ text) labels (name_blank b blank so_far text labels (rw (other, blank) at from))
        | inr solid ↦ part_byte so_far text b labels (differ b 61 other, solid) (rw (other, solid) at from)
      ]
    ]

at_after_name : (label : List ℕ) → IsBefore (AfterName label)
at_after_name label b text labels on from =
    elim (cases_Bool (b == 61)) [
      | inl here ↦ subst (λ c. FollowsName label (c ∷ text) labels) (sym (eqb-true b 61 here))
          (name_equals label text labels (rw here at from))
      | inr other ↦ elim (cases_Bool (is_blank b)) [
        | inl blank ↦ name_blank b blank label text labels (rw (other, blank) at from)
        | inr solid ↦ absurd (rw (other, solid) at from)
      ]
    ]

at_before_value : (label : List ℕ) → IsBefore (BeforeValue label)
at_before_value label b text labels on from =
    elim (cases_Bool (b == 34)) [
      | inl here ↦ subst (λ c. FollowsEquals label (c ∷ text) labels) (sym (eqb-true b 34 here))
          (equals_quote label text labels (rw here at from))
      | inr other ↦ elim (cases_Bool (is_blank b)) [
        | inl blank ↦ equals_blank b blank label text labels (rw (other, blank) at from)
        | inr solid ↦ absurd (rw (other, solid) at from)
      ]
    ]

at_in_value : (label so_far : List ℕ) → IsBefore (InValue label so_far)
at_in_value label so_far b text labels on from =
    elim (cases_Bool (b == 34)) [
      | inl quote ↦ rw quote (subst (λ c. FollowsValue label so_far (c ∷ text) ((label, so_far) ∷ labels))
          (sym (eqb-true b 34 quote))
          (end_quote label so_far text labels (rw quote at from)))
      | inr other ↦ rw other (elim (cases_Bool (b == 92)) [
        | inl slash ↦ let followed : FollowsSlash label (so_far ++ (b ∷ [])) text labels = rw (other, slash) at from in
            subst (λ c. FollowsValue label so_far (c ∷ text) labels) (sym (eqb-true b 92 slash))
            (slash_byte label so_far text labels
            (subst (λ c. FollowsSlash label (so_far ++ (c ∷ [])) text labels) (eqb-true b 92 slash) followed))
        | inr plain ↦ value_byte label so_far (b ∷ []) text labels
            (λ value quoted. Plain b value (differ b 34 other) (differ b 92 plain) quoted) (rw (other, plain) at from)
      ])
    ]

at_after_value : IsBefore AfterValue
at_after_value b text labels on from =
    elim (cases_Bool (b == 44)) [
      | inl comma ↦ subst (λ c. Follows (c ∷ text) labels) (sym (eqb-true b 44 comma))
          (Comma [] text labels no_blanks (rw comma at from))
      | inr other ↦ elim (cases_Bool (b == 125)) [
        | inl brace ↦ absurd (both_ways true (rw (other, brace) at on) refl)
        | inr unclosed ↦ elim (cases_Bool (is_blank b)) [
          | inl blank ↦ blank_follows b blank text labels (rw (other, unclosed, blank) at from)
          | inr solid ↦ absurd (rw (other, unclosed, solid) at from)
        ]
      ]
    ]

at_place : (place : Place) → IsBefore place
at_place BeforeName b text labels on from = at_before_name b text labels on from
at_place (InName so_far) b text labels on from = at_in_name so_far b text labels on from
at_place (AfterName label) b text labels on from = at_after_name label b text labels on from
at_place (BeforeValue label) b text labels on from = at_before_value label b text labels on from
at_place (InValue label so_far) b text labels on from = at_in_value label so_far b text labels on from
at_place (InEscape label so_far) b text labels on from = record { byte = b; rest = text; is = refl; follows = from }
at_place AfterValue b text labels on from = at_after_value b text labels on from
at_place Ended b text labels on from = tt
at_place Failed b text labels on from = absurd from

-- the byte that ends the labels
at_end : (place : Place) (b : ℕ) → has_ended (move place b) ≡ true → From place (b ∷ []) []
at_end BeforeName b ended =
    elim (cases_Bool (b == 125)) [
      | inl brace ↦ subst (λ c. AreLabels (c ∷ []) []) (sym (eqb-true b 125 brace)) (NoLabel [] no_blanks)
      | inr other ↦ elim (cases_Bool (is_blank b)) [
        | inl blank ↦ absurd (both_ways false refl (rw (other, blank) at ended))
        | inr solid ↦ absurd (both_ways false refl (rw (other, solid) at ended))
      ]
    ]
at_end (InName so_far) b ended =
    elim (cases_Bool (b == 61)) [
      | inl here ↦ absurd (both_ways false refl (rw here at ended))
      | inr other ↦ elim (cases_Bool (is_blank b)) [
        | inl blank ↦ absurd (both_ways false refl (rw (other, blank) at ended))
        | inr solid ↦ absurd (both_ways false refl (rw (other, solid) at ended))
      ]
    ]
at_end (AfterName label) b ended =
    elim (cases_Bool (b == 61)) [
      | inl here ↦ absurd (both_ways false refl (rw here at ended))
      | inr other ↦ elim (cases_Bool (is_blank b)) [
        | inl blank ↦ absurd (both_ways false refl (rw (other, blank) at ended))
        | inr solid ↦ absurd (both_ways false refl (rw (other, solid) at ended))
      ]
    ]
at_end (BeforeValue label) b ended =
    elim (cases_Bool (b == 34)) [
      | inl here ↦ absurd (both_ways false refl (rw here at ended))
      | inr other ↦ elim (cases_Bool (is_blank b)) [
        | inl blank ↦ absurd (both_ways false refl (rw (other, blank) at ended))
        | inr solid ↦ absurd (both_ways false refl (rw (other, solid) at ended))
      ]
    ]
at_end (InValue label so_far) b ended =
    elim (cases_Bool (b == 34)) [
      | inl quote ↦ absurd (both_ways false refl (rw quote at ended))
      | inr other ↦ elim (cases_Bool (b == 92)) [
        | inl slash ↦ absurd (both_ways false refl (rw (other, slash) at ended))
        | inr plain ↦ absurd (both_ways false refl (rw (other, plain) at ended))
      ]
    ]
at_end (InEscape label so_far) b ended = absurd (both_ways false refl ended)
at_end AfterValue b ended =
    elim (cases_Bool (b == 44)) [
      | inl comma ↦ absurd (both_ways false refl (rw comma at ended))
      | inr other ↦ elim (cases_Bool (b == 125)) [
        | inl brace ↦ subst (λ c. Follows (c ∷ []) []) (sym (eqb-true b 125 brace)) (Brace [] no_blanks)
        | inr unclosed ↦ elim (cases_Bool (is_blank b)) [
          | inl blank ↦ absurd (both_ways false refl (rw (other, unclosed, blank) at ended))
          | inr solid ↦ absurd (both_ways false refl (rw (other, unclosed, solid) at ended))
        ]
      ]
    ]
at_end Ended b ended = tt
at_end Failed b ended = absurd (both_ways false refl ended)

-- what a walk from a place finds
pub record Found (name : List ℕ) (place : Place) (done : List (List ℕ × List ℕ)) (bytes : List ℕ) : Type 0 where
  pub text : List ℕ
  pub rest : List ℕ
  pub labels : List (List ℕ × List ℕ)
  pub is : bytes ≡ text ++ rest
  from : From place text labels
  pub goes : labels_entry name place done bytes ≡ value_entry name (done ++ labels) (skip rest)

found : (name bytes : List ℕ) (place : Place) (done : List (List ℕ × List ℕ)) → labels_entry name place done bytes ≢ Malformed
    → Found name place done bytes
found name [] place done formed = absurd (formed refl)
found name (b ∷ bytes) place done formed =
    elim (cases_Bool (has_ended (move place b))) [
      | inl ended ↦ record {
        text = b ∷ [];
        rest = bytes;
        labels = [];
        is = refl;
        from = at_end place b ended;
        goes = rw (ended, append-nil done) refl;
      }
      | inr on ↦
          let goes : labels_entry name place done (b ∷ bytes) ≡ labels_entry name (move place b) (done ++ completed place b)
          bytes = rw on refl in
          let more = found name bytes (move place b) (done ++ completed place b) (λ e. formed (goes ∙ e)) in
          record {
            text = b ∷ more.text;
            rest = more.rest;
            labels = completed place b ++ more.labels;
            is = ap (λ t. b ∷ t) more.is;
            from = at_place place b more.text more.labels on more.from;
            goes = goes ∙ more.goes ∙ ap (λ all. value_entry name all (skip more.rest))
                (append_assoc done (completed place b) more.labels);
          }
    ]

-- labels that stand in front of bytes, and what the walk over them leads to
pub record FoundLabels (name bytes : List ℕ) : Type 0 where
  pub text : List ℕ
  pub rest : List ℕ
  pub labels : List (List ℕ × List ℕ)
  pub is : bytes ≡ text ++ rest
  pub are : AreLabels text labels
  pub goes : labels_entry name BeforeName [] bytes ≡ value_entry name labels (skip rest)

pub labels_found : (name bytes : List ℕ) → labels_entry name BeforeName [] bytes ≢ Malformed → FoundLabels name bytes
labels_found name bytes formed =
    let all = found name bytes BeforeName [] formed in
    record { text = all.text; rest = all.rest; labels = all.labels; is = all.is; are = all.from; goes = all.goes }
