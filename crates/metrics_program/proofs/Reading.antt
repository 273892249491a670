-- Words of a line that are read one by one.
use Rattle.std.proofs.Common.{◌≡◌, ℕ, ◌+◌, ◌<◌, List, [], ◌∷◌, ◌++◌, Bor, All, map, take, length, get_or, ap, sym, subst, ◌∙◌}
use Rattle.std.proofs.Common.{arith, inr}
use Rattle.std.specs.Prelude.{Option, Some, slice_get, IsSomeAnd}
use Rattle.std.proofs.lemmas.List.{take_more, take-map, get_or-map, length-map, map-append}
use Rattle.std.proofs.lemmas.List.Elements.{All-nil, All-cons, All-head, All-tail}
use Rattle.std.proofs.lemmas.Option.{slice_get-get_or}
use Rattle.metric_names.specs.LabelName.{IsLabelName, IsLabelNameFault}
use Rattle.metric_names.specs.declared.label_name.LabelNameFault.{LabelNameFault}
use Rattle.script_lines.specs.Language.{AreLabels, AreValues, IsWriting, Writes}
use Rattle.metrics_program.specs.Parts.{AreWritten, IsFirstBadLabel, IsGoodValue, IsValueRefusal, AreValuesRefused}
use Rattle.metrics_program.specs.declared.line_fault.LineFault.{LineFault}

abbrev pub now : Bor (List ℕ) → List ℕ
now word = word.now

-- one word more
pub more_words : (items : List (Bor (List ℕ))) (i : ℕ) (d : Bor (List ℕ)) → i < length items
    → map now (take (i + 1) items) ≡ map now (take i items) ++ now (get_or items i d) ∷ []
more_words items i d lt = ap (map now) (take_more items i d lt) ∙ map-append now (take i items) (get_or items i d ∷ [])

pub all_push : (P : List ℕ → Type 0) (xs : List (List ℕ)) (x : List ℕ) → All P xs → P x → All P (xs ++ x ∷ [])
all_push P [] x all p = All-cons P x [] p (All-nil P)
all_push P (y ∷ ys) x all p = All-cons P y (ys ++ x ∷ []) (All-head P y ys all) (all_push P ys x (All-tail P y ys all) p)

pub written_push : (texts words : List (List ℕ)) (text word : List ℕ) → AreWritten texts words → Writes text word
    → AreWritten (texts ++ text ∷ []) (words ++ word ∷ [])
written_push [] [] text word are one = (one, tt)
written_push [] (w ∷ ws) text word are one = absurd are
written_push (t ∷ ts) [] text word are one = absurd are
written_push (t ∷ ts) (w ∷ ws) text word are one = (are.0, written_push ts ws text word are.1 one)

-- the word of this place among all
pub word_at : (items : List (Bor (List ℕ))) (i : ℕ) (d : Bor (List ℕ)) → i < length items
    → slice_get (map now items) i ≡ Some (now (get_or items i d))
word_at items i d lt =
    let lt' : i < length (map now items) = omega (arith, lt, length-map items now) in
    slice_get-get_or (map now items) i [] lt' ∙ ap Some (get_or-map now items i d [] lt)

pub first_bad : (labels : List ℕ) (items : List (Bor (List ℕ))) (i : ℕ) (d : Bor (List ℕ)) (wrong : LabelNameFault)
    → i < length items
    → AreLabels labels (map now items) → All IsLabelName (map now (take i items))
    → IsLabelNameFault (now (get_or items i d)) wrong
    → IsFirstBadLabel labels wrong
first_bad labels items i d wrong lt are good bad = (
  map now items,
  i,
  are,
  subst (All IsLabelName) (sym (take-map now i items)) good,
  subst (λ (o : Option (List ℕ)). IsSomeAnd o (λ name. IsLabelNameFault name wrong)) (sym (word_at items i d lt)) bad,
)

-- each word is a writing
pub word_writes : (values : List ℕ) (items : List (Bor (List ℕ))) (i : ℕ) (d : Bor (List ℕ)) → i < length items
    → AreValues values (map now items)
    → IsWriting (now (get_or items i d))
word_writes values items i d lt are =
    subst IsWriting (get_or-map now items i d [] lt) (are.0 i [] (omega (arith, lt, length-map items now))).1

pub first_bad_value : (values : List ℕ) (items : List (Bor (List ℕ))) (i : ℕ) (d : Bor (List ℕ)) (refusal : LineFault)
    → i < length items
    → AreValues values (map now items) → All IsGoodValue (map now (take i items))
    → IsValueRefusal (now (get_or items i d)) refusal
    → AreValuesRefused values refusal
first_bad_value values items i d refusal lt are good bad = inr (
  map now items,
  i,
  are,
  subst (All IsGoodValue) (sym (take-map now i items)) good,
  subst (λ (o : Option (List ℕ)). IsSomeAnd o (λ word. IsValueRefusal word refusal)) (sym (word_at items i d lt)) bad,
)
