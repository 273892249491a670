-- The line that tells how often each worker has counted, piece by piece.
use Rattle.std.proofs.Common.{◌≡◌, ℕ, ◌+◌, ◌<◌, ◌≤◌, List, [], ◌∷◌, ◌++◌, length, take, drop, get_or, Option, codes, decimal, sym}
use Rattle.std.proofs.Common.{ap, ◌∙◌, subst, append-nil, append_assoc, take-append-drop}
use Rattle.std.specs.Prelude.{flat_map}
use Rattle.std.specs.Io.KnownBytes.{Appends}
use Rattle.std.proofs.KnownBytes.{Appends-trans}
use Rattle.std.proofs.lemmas.List.{take_more, take_all}
use Rattle.std.proofs.lemmas.Grind.{flat_map-append}
use Rattle.metrics_program.specs.ScriptLines.{after_blank, settled_line}
use Rattle.metrics_program.specs.Printed.{Begins}
use Rattle.metrics_program.proofs.Printing.{begun_after, begun_before}

-- the line's front, with the first numbers
abbrev pub front : List ℕ → List ℕ
front numbers = codes "settled" ++ flat_map after_blank numbers

-- a blank and a number, as they are told
abbrev pub blank_and : ℕ → List ℕ
blank_and number = codes " " ++ decimal number ++ []

one_more : (vector : List ℕ) (i : ℕ) → i < length vector → front (take i vector) ++ blank_and (get_or vector i 0) ≡ front
    (take (i + 1) vector)
one_more vector i lt =
    let x = get_or vector i 0 in
    ap (λ (l : List ℕ). front (take i vector) ++ (codes " " ++ l)) (append-nil (decimal x))
    ∙ append_assoc (codes "settled") (flat_map after_blank (take i vector)) (after_blank x)
    ∙ ap (λ l. codes "settled" ++ l) (ap (λ l. flat_map after_blank (take i vector) ++ l) (sym (append-nil (after_blank x)))
    ∙ sym (flat_map-append after_blank (take i vector) (x ∷ []))
    ∙ ap (flat_map after_blank) (sym (take_more vector i 0 lt)))

-- the line is its front with the first numbers, and the rest
parted : (vector : List ℕ) (i : ℕ) → front (take i vector) ++ (flat_map after_blank (drop i vector) ++ codes "\n") ≡ settled_line
    vector
parted vector i =
    let first = flat_map after_blank (take i vector) in
    let rest = flat_map after_blank (drop i vector) in
    append_assoc (codes "settled") first (rest ++ codes "\n")
    ∙ ap (λ (l : List ℕ). codes "settled" ++ l) (sym (append_assoc first rest (codes "\n"))
    ∙ ap (λ (l : List ℕ). l ++ codes "\n") (sym (flat_map-append after_blank (take i vector) (drop i vector))
    ∙ ap (flat_map after_blank) (take-append-drop i vector)))

-- a blank and a number more
pub settled_more : (s t v : Option (List ℕ)) (vector : List ℕ) (i : ℕ) → i < length vector → Appends s t (front (take i vector))
    → Appends t v (blank_and (get_or vector i 0)) → Appends s v (front (take (i + 1) vector))
settled_more s t v vector i lt before number =
    subst (Appends s v) (one_more vector i lt)
    (Appends-trans s t v (front (take i vector)) (blank_and (get_or vector i 0)) before number)

-- or a beginning of them
pub settled_begun : (s t v : Option (List ℕ)) (vector : List ℕ) (i : ℕ) → i < length vector → Appends s t (front (take i vector))
    → Begins t v (blank_and (get_or vector i 0)) → Begins s v (settled_line vector)
settled_begun s t v vector i lt before begins =
    let more = begun_after s t v (front (take i vector)) (blank_and (get_or vector i 0)) before begins in
    let known = subst (Begins s v) (one_more vector i lt) more in
    subst (Begins s v) (parted vector (i + 1))
    (begun_before s v (front (take (i + 1) vector)) (flat_map after_blank (drop (i + 1) vector) ++ codes "\n") known)

module _ (s t u : Option (List ℕ)) (vector : List ℕ) (i : ℕ) (most : length vector ≤ i)
    (before : Appends s t (front (take i vector))) where
  all_numbers : Appends s t (front vector)
  all_numbers = subst (λ l. Appends s t (front l)) (take_all i vector most) before

  whole : front vector ++ codes "\n" ≡ settled_line vector
  whole = append_assoc (codes "settled") (flat_map after_blank vector) (codes "\n")

  -- the line feed
  pub settled_whole : Appends t u (codes "\n") → Appends s u (settled_line vector)
  settled_whole feed = subst (Appends s u) whole (Appends-trans s t u (front vector) (codes "\n") all_numbers feed)

  pub settled_nearly : Begins t u (codes "\n") → Begins s u (settled_line vector)
  settled_nearly feed = subst (Begins s u) whole (begun_after s t u (front vector) (codes "\n") all_numbers feed)
