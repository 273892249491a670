-- Escaped texts are read back byte by byte, so no two texts are written the same.
use Rattle.std.proofs.Common.{◌≡◌, ℕ, false, List, [], ◌∷◌, ◌++◌, drop, length, ◌<◌, arith, refl, sym, ap, ap₂, ◌∙◌, subst}
use Rattle.std.proofs.Common.{⊎_elim}
use Rattle.std.proofs.lemmas.Bool.Decides.{eqb_tells}
use Rattle.std.specs.Prelude.{◌==◌, if◌then◌else◌, slice_index, flat_map}
use Rattle.metric_names.specs.Escapes.{help_byte, label_byte, EscHelp, EscLabel, IsWrittenAlone}

-- the byte that the front of a written text stands for: after a backslash `n` is a line feed, another byte itself
abbrev byte_after : ℕ → ℕ
byte_after b = if b == 110 then 10 else b

abbrev front : List ℕ → ℕ
front [] = 0
front (b ∷ bytes) = if b == 92 then byte_after (slice_index bytes 0) else b

-- what follows it
abbrev back : List ℕ → List ℕ
back [] = []
back (b ∷ bytes) = if b == 92 then drop 1 bytes else bytes

-- a property of a byte that holds of a quote, a backslash and a line feed, and of every other byte
by_byte : (P : ℕ → Type 0) → P 34 → P 92 → P 10 → ((b : ℕ) → (b == 34) ≡ false → (b == 92) ≡ false → (b == 10) ≡ false → P b)
    → (b : ℕ) → P b
by_byte P quote slash feed other b =
    ⊎_elim (λ h. subst P (sym h.1) quote)
    (λ not_quote. ⊎_elim (λ h. subst P (sym h.1) slash)
    (λ not_slash. ⊎_elim (λ h. subst P (sym h.1) feed)
    (λ not_feed. other b not_quote.0 not_slash.0 not_feed.0)
    (eqb_tells b 10)) (eqb_tells b 92)) (eqb_tells b 34)

help_front : (rest : List ℕ) (b : ℕ) → front (help_byte b ++ rest) ≡ b
help_front rest = by_byte (λ b. front (help_byte b ++ rest) ≡ b) refl refl refl (λ b q s f. rw s (rw f (rw s refl)))

help_back : (rest : List ℕ) (b : ℕ) → back (help_byte b ++ rest) ≡ rest
help_back rest = by_byte (λ b. back (help_byte b ++ rest) ≡ rest) refl refl refl (λ b q s f. rw s (rw f (rw s refl)))

label_front : (rest : List ℕ) (b : ℕ) → front (label_byte b ++ rest) ≡ b
label_front rest = by_byte (λ b. front (label_byte b ++ rest) ≡ b) refl refl refl (λ b q s f. rw q (rw s (rw f (rw s refl))))

label_back : (rest : List ℕ) (b : ℕ) → back (label_byte b ++ rest) ≡ rest
label_back rest = by_byte (λ b. back (label_byte b ++ rest) ≡ rest) refl refl refl (λ b q s f. rw q (rw s (rw f (rw s refl))))

-- no byte is written as nothing
help_some : (rest : List ℕ) (b : ℕ) → 0 < length (help_byte b ++ rest)
help_some rest = by_byte (λ b. 0 < length (help_byte b ++ rest)) (omega arith) (omega arith) (omega arith)
    (λ b q s f. rw s (rw f (omega arith)))

label_some : (rest : List ℕ) (b : ℕ) → 0 < length (label_byte b ++ rest)
label_some rest = by_byte (λ b. 0 < length (label_byte b ++ rest)) (omega arith) (omega arith) (omega arith)
    (λ b q s f. rw q (rw s (rw f (omega arith))))

-- where each byte is read back from the front of what it is written as, each text is read back
module _ (written : ℕ → List ℕ) (reads : (rest : List ℕ) (b : ℕ) → front (written b ++ rest) ≡ b)
    (leaves : (rest : List ℕ) (b : ℕ) → back (written b ++ rest) ≡ rest) (some : (rest : List ℕ) (b : ℕ)
    → 0 < length (written b ++ rest)) where
  same_raw : (a b : List ℕ) → flat_map written a ≡ flat_map written b → b ≡ a
  same_raw [] [] e = refl
  same_raw [] (y ∷ ys) e = let h : 0 < length {A = ℕ} [] = subst (λ w. 0 < length w) (sym e) (some (flat_map written ys) y) in
      absurd (omega (arith, h))
  same_raw (x ∷ xs) [] e = let h : 0 < length {A = ℕ} [] = subst (λ w. 0 < length w) e (some (flat_map written xs) x) in
      absurd (omega (arith, h))
  same_raw (x ∷ xs) (y ∷ ys) e =
      let here : y ≡ x = sym (reads (flat_map written ys) y) ∙ ap front (sym e) ∙ reads (flat_map written xs) x in
      let there : flat_map written xs ≡ flat_map written ys = sym (leaves (flat_map written xs) x) ∙ ap back e
      ∙ leaves (flat_map written ys) y in
      ap₂ (λ z zs. z ∷ zs) here (same_raw xs ys there)

pub help_alone : (raw : List ℕ) → IsWrittenAlone EscHelp raw
help_alone raw other written is_raw is_other = same_raw help_byte help_front help_back help_some raw other (is_raw ∙ sym is_other)

pub label_alone : (raw : List ℕ) → IsWrittenAlone EscLabel raw
label_alone raw other written is_raw is_other = same_raw label_byte label_front label_back label_some raw other
    (is_raw ∙ sym is_other)
