-- No line that a scrape prints has a line feed in it.
use Rattle.std.proofs.Common.{◌≡◌, ℕ, Bool, false, not, ◌==◌, List, [], ◌∷◌, ◌++◌, codes, refl, inl, inr}
use Rattle.std.specs.Prelude.{flat_map}
use Rattle.std.proofs.lemmas.Bool.{cases_Bool, not_from_false}
use Rattle.metric_names.specs.Escapes.{help_byte, label_byte}
use Rattle.metric_desc.specs.declared.kind.Kind.{Kind}
use Rattle.metric_desc.specs.declared.kind.Kind.TheVariants.{Counter, Histogram, Gauge}
use Rattle.expo_text.specs.Text.{label_text, labels_text, kind_text}
use Rattle.expo_text.proofs.Tokens.{Each, each_of, each_append, each_weaker, other_byte}
use Rattle.expo_text.proofs.LabelsRead.{is_name_byte, IsNamed, AreNamed}
use Rattle.expo_text.proofs.Names.{is_value_byte, IsToken}

-- any byte but a line feed
abbrev pub is_kept : ℕ → Bool
is_kept b = not (b == 10)

-- bytes of which none is a line feed
abbrev pub Kept : List ℕ → Type 0
Kept text = Each is_kept text

-- a test that a line feed fails
kept_by : (p : ℕ → Bool) → p 10 ≡ false → (xs : List ℕ) → Each p xs → Kept xs
kept_by p fails xs h = each_weaker p is_kept (λ b passes. not_from_false (b == 10) (other_byte p b 10 fails passes)) xs h

-- names have none
pub named_kept : (name : List ℕ) → IsNamed name → Kept name
named_kept [] h = absurd h
named_kept (c ∷ cs) h = kept_by is_name_byte refl (c ∷ cs) h

-- values have none
pub token_kept : (token : List ℕ) → IsToken token → Kept token
token_kept [] h = absurd h
token_kept (c ∷ cs) h = kept_by is_value_byte refl (c ∷ cs) h

-- an escaped byte of a help is none
help_byte_kept : (b : ℕ) → Kept (help_byte b)
help_byte_kept b =
    elim (cases_Bool (b == 92)) [
      | inl slash ↦ rw slash (each_of is_kept (codes "\\\\") refl)
      | inr other ↦ elim (cases_Bool (b == 10)) [
        | inl feed ↦ rw (other, feed) (each_of is_kept (codes "\\n") refl)
        | inr plain ↦ rw (other, plain) (not_from_false (b == 10) plain, tt)
      ]
    ]

-- an escaped byte of a label's value is none
label_byte_kept : (b : ℕ) → Kept (label_byte b)
label_byte_kept b =
    elim (cases_Bool (b == 34)) [
      | inl quote ↦ rw quote (each_of is_kept (codes "\\\"") refl)
      | inr other ↦ rw other (help_byte_kept b)
    ]

-- pieces without one, joined
pieces_kept : (f : ℕ → List ℕ) → ((b : ℕ) → Kept (f b)) → (xs : List ℕ) → Kept (flat_map f xs)
pieces_kept f kept [] = tt
pieces_kept f kept (x ∷ xs) = each_append is_kept (f x) (flat_map f xs) (kept x) (pieces_kept f kept xs)

-- an escaped help has none
pub help_kept : (help : List ℕ) → Kept (flat_map help_byte help)
help_kept help = pieces_kept help_byte help_byte_kept help

-- a label has none
label_kept : (label : List ℕ × List ℕ) → IsNamed label.0 → Kept (label_text label)
label_kept label named =
    let value = flat_map label_byte label.1 in
    each_append is_kept (label.0 ++ codes "=\"" ++ value) (codes "\"")
    (each_append is_kept (label.0 ++ codes "=\"") value
    (each_append is_kept label.0 (codes "=\"") (named_kept label.0 named) (each_of is_kept (codes "=\"") refl))
    (pieces_kept label_byte label_byte_kept label.1))
    (each_of is_kept (codes "\"") refl)

-- labels after commas have none
more_kept : (labels : List (List ℕ × List ℕ)) → AreNamed labels → Kept (flat_map (λ label. codes "," ++ label_text label) labels)
more_kept [] named = tt
more_kept (label ∷ labels) named = (
  refl,
  each_append is_kept (label_text label) (flat_map (λ (other : List ℕ × List ℕ). codes "," ++ label_text other) labels)
      (label_kept label named.0) (more_kept labels named.1),
)

-- all the labels have none
pub labels_kept : (labels : List (List ℕ × List ℕ)) → AreNamed labels → Kept (labels_text labels)
labels_kept [] named = tt
labels_kept (label ∷ labels) named =
    let more = flat_map (λ (other : List ℕ × List ℕ). codes "," ++ label_text other) labels in (
      refl,
      each_append is_kept (label_text label ++ more) (codes "}")
          (each_append is_kept (label_text label) more (label_kept label named.0) (more_kept labels named.1))
          (each_of is_kept (codes "}") refl),
    )

-- the words of the kinds have none
pub kind_kept : (kind : Kind) → Kept (kind_text kind)
kind_kept Counter = each_of is_kept (codes "counter") refl
kind_kept Histogram = each_of is_kept (codes "histogram") refl
kind_kept Gauge = each_of is_kept (codes "gauge") refl
