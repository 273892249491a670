-- The labels of a sample read back, one byte at a time.
use Rattle.std.proofs.Common.{◌≡◌, ℕ, Bool, true, false, ◌==◌, List, [], ◌∷◌, ◌++◌, map, codes, refl, sym, ap, ◌∙◌, inl, inr}
use Rattle.std.proofs.Common.{append_assoc, append-nil}
use Rattle.std.specs.Prelude.{flat_map, ⊤}
use Rattle.std.specs.List.{join_by}
use Rattle.std.proofs.lemmas.Bool.{cases_Bool}
use Rattle.metric_names.specs.Spelling.{name_takes}
use Rattle.metric_names.specs.HelpText.{is_blank}
use Rattle.metric_names.specs.Escapes.{label_byte}
use Rattle.expo_text.specs.Text.{label_text}
use Rattle.expo_text.proofs.Walked.{BeforeName, InName, BeforeValue, InValue, AfterValue, skip, value_entry, labels_entry}
use Rattle.expo_text.proofs.Entries.{written_label}
use Rattle.expo_text.proofs.Tokens.{Each, other_byte}
use Rattle.expo_text.proofs.LabelsWalked.{step, escaped, unescaped}

-- a byte of a name
abbrev pub is_name_byte : ℕ → Bool
is_name_byte b = name_takes true 1 b

-- a byte of a name is no blank
pub name_no_blank : (b : ℕ) → is_name_byte b ≡ true → is_blank b ≡ false
name_no_blank b h = rw (other_byte is_name_byte b 32 refl h, other_byte is_name_byte b 9 refl h) refl

-- the bytes of a label's name, after its first
label_name : (name so_far xs rest : List ℕ) (done : List (List ℕ × List ℕ)) → Each is_name_byte xs
    → labels_entry name (InName so_far) done (xs ++ rest) ≡ labels_entry name (InName (so_far ++ xs)) done rest
label_name name so_far [] rest done h = ap (λ s. labels_entry name (InName s) done rest) (sym (append-nil so_far))
label_name name so_far (x ∷ xs) rest done h =
    step name (InName so_far) (InName (so_far ++ (x ∷ []))) done x (xs ++ rest)
    (rw (other_byte is_name_byte x 61 refl h.0, name_no_blank x h.0) refl) refl refl
    ∙ label_name name (so_far ++ (x ∷ [])) xs rest done h.1
    ∙ ap (λ s. labels_entry name (InName s) done rest) (append_assoc so_far (x ∷ []) xs)

-- a byte of a value as it is written
value_piece : (name label value rest : List ℕ) (done : List (List ℕ × List ℕ)) (b : ℕ)
    → labels_entry name (InValue label value) done (label_byte b ++ rest)
    ≡ labels_entry name (InValue label (value ++ label_byte b)) done rest
value_piece name label value rest done b =
    elim (cases_Bool (b == 34)) [
      | inl quote ↦ rw quote (escaped name label value rest done 34)
      | inr other ↦ elim (cases_Bool (b == 92)) [
        | inl slash ↦ rw (other, slash) (escaped name label value rest done 92)
        | inr plain ↦ elim (cases_Bool (b == 10)) [
          | inl feed ↦ rw (other, plain, feed) (escaped name label value rest done 110)
          | inr last ↦ rw (other, plain, last) (unescaped name label value rest done b other plain)
        ]
      ]
    ]

-- a whole value as it is written
value_text : (name label value raw rest : List ℕ) (done : List (List ℕ × List ℕ))
    → labels_entry name (InValue label value) done (flat_map label_byte raw ++ rest)
    ≡ labels_entry name (InValue label (value ++ flat_map label_byte raw)) done rest
value_text name label value [] rest done = ap (λ s. labels_entry name (InValue label s) done rest) (sym (append-nil value))
value_text name label value (b ∷ raw) rest done =
    ap (λ s. labels_entry name (InValue label value) done s) (append_assoc (label_byte b) (flat_map label_byte raw) rest)
    ∙ value_piece name label value (flat_map label_byte raw ++ rest) done b
    ∙ value_text name label (value ++ label_byte b) raw rest done
    ∙ ap (λ s. labels_entry name (InValue label s) done rest) (append_assoc value (label_byte b) (flat_map label_byte raw))

-- a name: a byte or more, each of them a name's
abbrev pub IsNamed : List ℕ → Type 0
IsNamed [] = ⊥
IsNamed (c ∷ cs) = (is_name_byte c ≡ true) × Each is_name_byte cs

-- each label has such a name
abbrev pub AreNamed : List (List ℕ × List ℕ) → Type 0
AreNamed [] = ⊤
AreNamed (label ∷ labels) = IsNamed label.0 × AreNamed labels

-- one label from its first byte to the quote that ends it
label_read : (name label raw rest : List ℕ) (done : List (List ℕ × List ℕ)) → IsNamed label
    → labels_entry name BeforeName done (label ++ (61 ∷ 34 ∷ flat_map label_byte raw ++ (34 ∷ rest)))
    ≡ labels_entry name AfterValue (done ++ ((label, flat_map label_byte raw) ∷ [])) rest
label_read name [] raw rest done named = absurd named
label_read name (c ∷ cs) raw rest done named =
    let value = flat_map label_byte raw in
    step name BeforeName (InName (c ∷ [])) done c (cs ++ (61 ∷ 34 ∷ value ++ (34 ∷ rest)))
    (rw (other_byte is_name_byte c 125 refl named.0, name_no_blank c named.0) refl) refl refl
    ∙ label_name name (c ∷ []) cs (61 ∷ 34 ∷ value ++ (34 ∷ rest)) done named.1
    ∙ step name (InName (c ∷ cs)) (BeforeValue (c ∷ cs)) done 61 (34 ∷ value ++ (34 ∷ rest)) refl refl refl
    ∙ step name (BeforeValue (c ∷ cs)) (InValue (c ∷ cs) []) done 34 (value ++ (34 ∷ rest)) refl refl refl
    ∙ value_text name (c ∷ cs) [] raw (34 ∷ rest) done

-- a label's text and what follows, without parentheses
label_parts : (label : List ℕ × List ℕ) (rest : List ℕ)
    → label_text label ++ rest ≡ label.0 ++ (61 ∷ 34 ∷ flat_map label_byte label.1 ++ (34 ∷ rest))
label_parts label rest = simp append_assoc

-- the labels after the first, the closing brace, and what follows
labels_after : (name rest : List ℕ) (done labels : List (List ℕ × List ℕ)) → AreNamed labels
    → labels_entry name AfterValue done (flat_map (λ label. codes "," ++ label_text label) labels ++ (125 ∷ rest))
    ≡ value_entry name (done ++ map written_label labels) (skip rest)
labels_after name rest done [] named = ap (λ labels. value_entry name labels (skip rest)) (sym (append-nil done))
labels_after name rest done (label ∷ labels) named =
    let more = flat_map (λ (other : List ℕ × List ℕ). codes "," ++ label_text other) labels ++ (125 ∷ rest) in
    ap (λ s. labels_entry name AfterValue done (44 ∷ s))
    (append_assoc (label_text label) (flat_map (λ (other : List ℕ × List ℕ). codes "," ++ label_text other) labels)
    (125 ∷ rest) ∙ label_parts label more)
    ∙ step name AfterValue BeforeName done 44 (label.0 ++ (61 ∷ 34 ∷ flat_map label_byte label.1 ++ (34 ∷ more))) refl refl refl
    ∙ label_read name label.0 label.1 more done named.0
    ∙ labels_after name rest (done ++ (written_label label ∷ [])) labels named.1
    ∙ ap (λ s. value_entry name s (skip rest)) (append_assoc done (written_label label ∷ []) (map written_label labels))

-- all the labels, after the opening brace
pub labels_read : (name rest : List ℕ) (label : List ℕ × List ℕ) (labels : List (List ℕ × List ℕ)) → AreNamed (label ∷ labels)
    → labels_entry name BeforeName [] (join_by label_text (codes ",") (label ∷ labels) ++ (125 ∷ rest))
    ≡ value_entry name (map written_label (label ∷ labels)) (skip rest)
labels_read name rest label labels named =
    let more = flat_map (λ (other : List ℕ × List ℕ). codes "," ++ label_text other) labels ++ (125 ∷ rest) in
    ap (λ s. labels_entry name BeforeName [] s)
    (append_assoc (label_text label) (flat_map (λ (other : List ℕ × List ℕ). codes "," ++ label_text other) labels)
    (125 ∷ rest) ∙ label_parts label more)
    ∙ label_read name label.0 label.1 more [] named.0
    ∙ labels_after name rest (written_label label ∷ []) labels named.1
