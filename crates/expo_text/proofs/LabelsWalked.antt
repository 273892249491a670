-- A walk over labels, byte by byte, finds the labels that stand there.
use Rattle.std.proofs.Common.{◌≡◌, ◌≢◌, ℕ, true, false, ◌==◌, List, [], ◌∷◌, ◌++◌, refl, sym, ap, ◌∙◌, append_assoc, append-nil}
use Rattle.std.specs.Prelude.{All}
use Rattle.std.proofs.lemmas.Bool.{ne_eqb}
use Rattle.std.proofs.lemmas.List.Elements.{All-head, All-tail}
use Rattle.metric_names.specs.HelpText.{is_blank}
use Rattle.expo_text.specs.Lines.{AreBlanks, IsQuoted, NoByte, Plain, Escaped, IsLabelWord, IsLabelText, AreLabels, NoLabel}
use Rattle.expo_text.specs.Lines.{LastLabel, NextLabel}
use Rattle.expo_text.proofs.Walked.{Place, BeforeName, InName, AfterName, BeforeValue, InValue, InEscape, AfterValue, move}
use Rattle.expo_text.proofs.Walked.{completed, has_ended, skip, value_entry, labels_entry}
use Rattle.expo_text.proofs.Tokens.{other_byte}

-- one byte that completes no label and ends no list
pub step : (name : List ℕ) (place next : Place) (done : List (List ℕ × List ℕ)) (b : ℕ) (bytes : List ℕ)
    → move place b ≡ next → has_ended next ≡ false → completed place b ≡ []
    → labels_entry name place done (b ∷ bytes) ≡ labels_entry name next done bytes
step name place next done b bytes moved on none =
    rw (moved, on, none) (ap (λ labels. labels_entry name next labels bytes) (append-nil done))

-- a byte of a label's name after its first
abbrev pub IsInWord : ℕ → Type 0
IsInWord c = (c ≢ 61) × (is_blank c ≡ false)

-- a blank is none of the bytes that lead on
blank_other : (b c : ℕ) → is_blank c ≡ false → is_blank b ≡ true → (b == c) ≡ false
blank_other b c fails passes = other_byte is_blank b c fails passes

-- the blanks where each leads back to the same place
stay : (name : List ℕ) (place : Place) (done : List (List ℕ × List ℕ)) (gap rest : List ℕ)
    → ((b : ℕ) → is_blank b ≡ true → move place b ≡ place) → has_ended place ≡ false
    → ((b : ℕ) → is_blank b ≡ true → completed place b ≡ [])
    → AreBlanks gap → labels_entry name place done (gap ++ rest) ≡ labels_entry name place done rest
stay name place done [] rest back on none blank = refl
stay name place done (b ∷ gap) rest back on none blank =
    let here = All-head (λ (c : ℕ). is_blank c ≡ true) b gap blank in
    step name place place done b (gap ++ rest) (back b here) on (none b here)
    ∙ stay name place done gap rest back on none (All-tail (λ (c : ℕ). is_blank c ≡ true) b gap blank)

before_name : (name : List ℕ) (done : List (List ℕ × List ℕ)) (gap rest : List ℕ) → AreBlanks gap
    → labels_entry name BeforeName done (gap ++ rest) ≡ labels_entry name BeforeName done rest
before_name name done gap rest blank =
    stay name BeforeName done gap rest (λ b h. rw (blank_other b 125 refl h, h) refl) refl (λ b h. refl) blank

before_equals : (name word : List ℕ) (done : List (List ℕ × List ℕ)) (gap rest : List ℕ) → AreBlanks gap
    → labels_entry name (AfterName word) done (gap ++ rest) ≡ labels_entry name (AfterName word) done rest
before_equals name word done gap rest blank =
    stay name (AfterName word) done gap rest (λ b h. rw (blank_other b 61 refl h, h) refl) refl (λ b h. refl) blank

before_quote : (name word : List ℕ) (done : List (List ℕ × List ℕ)) (gap rest : List ℕ) → AreBlanks gap
    → labels_entry name (BeforeValue word) done (gap ++ rest) ≡ labels_entry name (BeforeValue word) done rest
before_quote name word done gap rest blank =
    stay name (BeforeValue word) done gap rest (λ b h. rw (blank_other b 34 refl h, h) refl) refl (λ b h. refl) blank

after_value : (name : List ℕ) (done : List (List ℕ × List ℕ)) (gap rest : List ℕ) → AreBlanks gap
    → labels_entry name AfterValue done (gap ++ rest) ≡ labels_entry name AfterValue done rest
after_value name done gap rest blank =
    stay name AfterValue done gap rest (λ b h. rw (blank_other b 44 refl h, blank_other b 125 refl h, h) refl) refl
    (λ b h. refl) blank

-- the blanks after a name, and `=`
equals : (name word : List ℕ) (done : List (List ℕ × List ℕ)) (gap rest : List ℕ) → AreBlanks gap
    → labels_entry name (InName word) done (gap ++ (61 ∷ rest)) ≡ labels_entry name (BeforeValue word) done rest
equals name word done [] rest blank = step name (InName word) (BeforeValue word) done 61 rest refl refl refl
equals name word done (b ∷ gap) rest blank =
    let here = All-head (λ (c : ℕ). is_blank c ≡ true) b gap blank in
    step name (InName word) (AfterName word) done b (gap ++ (61 ∷ rest)) (rw (blank_other b 61 refl here, here) refl) refl refl
    ∙ before_equals name word done gap (61 ∷ rest) (All-tail (λ (c : ℕ). is_blank c ≡ true) b gap blank)
    ∙ step name (AfterName word) (BeforeValue word) done 61 rest refl refl refl

-- a name's bytes after its first
in_word : (name word xs rest : List ℕ) (done : List (List ℕ × List ℕ)) → All IsInWord xs
    → labels_entry name (InName word) done (xs ++ rest) ≡ labels_entry name (InName (word ++ xs)) done rest
in_word name word [] rest done h = ap (λ s. labels_entry name (InName s) done rest) (sym (append-nil word))
in_word name word (x ∷ xs) rest done h =
    let here = All-head IsInWord x xs h in
    step name (InName word) (InName (word ++ (x ∷ []))) done x (xs ++ rest) (rw (ne_eqb x 61 here.0, here.1) refl) refl refl
    ∙ in_word name (word ++ (x ∷ [])) xs rest done (All-tail IsInWord x xs h)
    ∙ ap (λ s. labels_entry name (InName s) done rest) (append_assoc word (x ∷ []) xs)

-- a name
whole_word : (name word rest : List ℕ) (done : List (List ℕ × List ℕ)) → IsLabelWord word
    → labels_entry name BeforeName done (word ++ rest) ≡ labels_entry name (InName word) done rest
whole_word name [] rest done h = absurd h
whole_word name (b ∷ bytes) rest done h =
    step name BeforeName (InName (b ∷ [])) done b (bytes ++ rest) (rw (ne_eqb b 125 h.0, h.1) refl) refl refl
    ∙ in_word name (b ∷ []) bytes rest done h.2

-- a byte of a value that needs no escape
pub unescaped : (name label value rest : List ℕ) (done : List (List ℕ × List ℕ)) (b : ℕ) → (b == 34) ≡ false → (b == 92) ≡ false
    → labels_entry name (InValue label value) done (b ∷ rest) ≡ labels_entry name (InValue label (value ++ (b ∷ []))) done rest
unescaped name label value rest done b quote slash =
    step name (InValue label value) (InValue label (value ++ (b ∷ []))) done b rest (rw (quote, slash) refl) refl (rw quote refl)

-- an escaped byte of a value
pub escaped : (name label value rest : List ℕ) (done : List (List ℕ × List ℕ)) (c : ℕ)
    → labels_entry name (InValue label value) done (92 ∷ c ∷ rest)
    ≡ labels_entry name (InValue label (value ++ (92 ∷ c ∷ []))) done rest
escaped name label value rest done c =
    step name (InValue label value) (InEscape label (value ++ (92 ∷ []))) done 92 (c ∷ rest) refl refl refl
    ∙ step name (InEscape label (value ++ (92 ∷ []))) (InValue label ((value ++ (92 ∷ [])) ++ (c ∷ []))) done c rest refl refl
    refl
    ∙ ap (λ s. labels_entry name (InValue label s) done rest) (append_assoc value (92 ∷ []) (c ∷ []))

-- a value and the quote after it
quoted : (name label so_far rest : List ℕ) (done : List (List ℕ × List ℕ)) (value : List ℕ) → IsQuoted value
    → labels_entry name (InValue label so_far) done (value ++ (34 ∷ rest)) ≡ labels_entry name AfterValue
    (done ++ ((label, so_far ++ value) ∷ [])) rest
quoted name label so_far rest done value NoByte =
    ap (λ s. labels_entry name AfterValue (done ++ ((label, s) ∷ [])) rest) (sym (append-nil so_far))
quoted name label so_far rest done value (Plain b more quote slash is) =
    unescaped name label so_far (more ++ (34 ∷ rest)) done b (ne_eqb b 34 quote) (ne_eqb b 92 slash)
    ∙ quoted name label (so_far ++ (b ∷ [])) rest done more is
    ∙ ap (λ s. labels_entry name AfterValue (done ++ ((label, s) ∷ [])) rest) (append_assoc so_far (b ∷ []) more)
quoted name label so_far rest done value (Escaped b more is) =
    escaped name label so_far (more ++ (34 ∷ rest)) done b
    ∙ quoted name label (so_far ++ (92 ∷ b ∷ [])) rest done more is
    ∙ ap (λ s. labels_entry name AfterValue (done ++ ((label, s) ∷ [])) rest) (append_assoc so_far (92 ∷ b ∷ []) more)

-- a label, up to the byte after it
label_walked : (name text rest : List ℕ) (label : List ℕ × List ℕ) (done : List (List ℕ × List ℕ)) → IsLabelText text label
    → labels_entry name BeforeName done (text ++ rest) ≡ labels_entry name AfterValue (done ++ (label ∷ [])) rest
label_walked name text rest label done is =
    let flat : text ++ rest ≡ is.before
    ++ (label.0 ++ (is.after_name ++ (61 ∷ is.before_value ++ (34 ∷ label.1 ++ (34 ∷ is.after ++ rest))))) =
    ap (λ t. t ++ rest) is.is ∙ simp append_assoc in
    ap (λ t. labels_entry name BeforeName done t) flat
    ∙ before_name name done is.before
    (label.0 ++ (is.after_name ++ (61 ∷ is.before_value ++ (34 ∷ label.1 ++ (34 ∷ is.after ++ rest))))) is.blanks.0
    ∙ whole_word name label.0 (is.after_name ++ (61 ∷ is.before_value ++ (34 ∷ label.1 ++ (34 ∷ is.after ++ rest)))) done is.name
    ∙ equals name label.0 done is.after_name (is.before_value ++ (34 ∷ label.1 ++ (34 ∷ is.after ++ rest))) is.blanks.1
    ∙ before_quote name label.0 done is.before_value (34 ∷ label.1 ++ (34 ∷ is.after ++ rest)) is.blanks.2
    ∙ step name (BeforeValue label.0) (InValue label.0 []) done 34 (label.1 ++ (34 ∷ is.after ++ rest)) refl refl refl
    ∙ quoted name label.0 [] (is.after ++ rest) done label.1 is.value
    ∙ after_value name (done ++ (label ∷ [])) is.after rest is.blanks.3

-- the labels that stand in a text are those that the walk finds
pub labels_walked : (name rest : List ℕ) (done : List (List ℕ × List ℕ)) (text : List ℕ) (labels : List (List ℕ × List ℕ))
    → AreLabels text labels
    → labels_entry name BeforeName done (text ++ rest) ≡ value_entry name (done ++ labels) (skip rest)
labels_walked name rest done text labels (NoLabel gap blank) =
    ap (λ t. labels_entry name BeforeName done t) (append_assoc gap (125 ∷ []) rest)
    ∙ before_name name done gap (125 ∷ rest) blank
    ∙ ap (λ all. value_entry name all (skip rest)) (sym (append-nil done))
labels_walked name rest done text labels (LastLabel front label is) =
    ap (λ t. labels_entry name BeforeName done t) (append_assoc front (125 ∷ []) rest)
    ∙ label_walked name front (125 ∷ rest) label done is
labels_walked name rest done text labels (NextLabel front more label others is are) =
    ap (λ t. labels_entry name BeforeName done t) (append_assoc (front ++ (44 ∷ [])) more rest
    ∙ append_assoc front (44 ∷ []) (more ++ rest))
    ∙ label_walked name front (44 ∷ (more ++ rest)) label done is
    ∙ step name AfterValue BeforeName (done ++ (label ∷ [])) 44 (more ++ rest) refl refl refl
    ∙ labels_walked name rest (done ++ (label ∷ [])) more others are
    ∙ ap (λ all. value_entry name all (skip rest)) (append_assoc done (label ∷ []) others)
