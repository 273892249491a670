-- Of the recorders of a page's recorder one is of a board, and no other.
use Rattle.std.proofs.Common.{◌≡◌, ◌≢◌, ℕ, zero, suc, ◌+◌, ◌<◌, List, [], ◌∷◌, Some, Bool, true, false, cond, length}
use Rattle.std.proofs.Common.{Contains, refl, ap, ◌∙◌, arith, inl, inr}
use Rattle.std.specs.Prelude.{◌==◌}
use Rattle.std.specs.List.{filter}
use Rattle.std.proofs.lemmas.Bool.Decides.{eqb_tells}
use Rattle.std.proofs.lemmas.Option.{slice_get-get_or}
use Rattle.page_crew.specs.Counting.{AreInRow}
use Rattle.page_crew.specs.Settling.{CountsWith}
use Rattle.page_crew.specs.Held.{recorders_of}
use Rattle.page_crew.specs.Shared.{id_in}
use Rattle.page_crew.specs.declared.page_recorder.PageRecorder.{PageRecorder}
use Rattle.page_crew.specs.declared.shared_recorder.SharedRecorder.{SharedRecorder}

eq_yes : (a b : ℕ) → a ≡ b → (a == b) ≡ true
eq_yes a b same = elim (eqb_tells a b) [ inl is ↦ is.0 | inr other ↦ absurd (other.1 same) ]

eq_no : (a b : ℕ) → a ≢ b → (a == b) ≡ false
eq_no a b differ = elim (eqb_tells a b) [ inl is ↦ absurd (differ is.1) | inr other ↦ other.0 ]

module _ {N C H G : ℕ} (board : ℕ) where
  abbrev IsOn : SharedRecorder N C H G → Bool
  IsOn s = id_in s == board

  row_tail : (first : ℕ) (x : SharedRecorder N C H G) (xs : List (SharedRecorder N C H G)) → AreInRow first (x ∷ xs)
      → AreInRow (suc first) xs
  row_tail first x xs row k r at = let is : id_in r ≡ first + suc k = row (suc k) r at in omega (arith, is)

  row_head : (first : ℕ) (x : SharedRecorder N C H G) (xs : List (SharedRecorder N C H G)) → AreInRow first (x ∷ xs) → id_in x ≡
      first
  row_head first x xs row = let is : id_in x ≡ first + 0 = row 0 x refl in omega (arith, is)

  -- none is of a board before the first
  none_on : (first : ℕ) (rs : List (SharedRecorder N C H G)) → AreInRow first rs → board < first → filter IsOn rs ≡ []
  none_on first [] row below = refl
  none_on first (x ∷ xs) row below =
      let head = row_head first x xs row in
      ap (λ b. cond b (x ∷ filter IsOn xs) (filter IsOn xs)) (eq_no (id_in x) board (λ same. absurd (omega (
        arith,
        head,
        same,
        below,
      ))))
      ∙ none_on (suc first) xs (row_tail first x xs row) (omega (arith, below))

  one_of : (first : ℕ) (rs : List (SharedRecorder N C H G)) → AreInRow first rs → (s : SharedRecorder N C H G) → Contains rs s
      → id_in s ≡ board → filter IsOn rs ≡ s ∷ []
  one_of first [] row s has is = absurd (let within = has.1 in omega (arith, within))
  one_of first (x ∷ xs) row s (zero, within, here) is =
      let head = row_head first x xs row in
      let id : id_in x ≡ board = ap id_in here ∙ is in
      ap (λ b. cond b (x ∷ filter IsOn xs) (filter IsOn xs)) (eq_yes (id_in x) board id)
      ∙ (ap (λ l. x ∷ l) (none_on (suc first) xs (row_tail first x xs row) (omega (arith, head, id)))
      ∙ ap (λ y. y ∷ []) here)
  one_of first (x ∷ xs) row s (suc k, within, there) is =
      let head = row_head first x xs row in
      let in_xs : k < length xs = omega (arith, within) in
      let id : id_in s ≡ first + suc k = row (suc k) s (slice_get-get_or xs k s in_xs ∙ ap Some there) in
      ap (λ b. cond b (x ∷ filter IsOn xs) (filter IsOn xs)) (eq_no (id_in x) board (λ same. absurd (omega (
        arith,
        head,
        same,
        id,
        is,
      ))))
      ∙ one_of (suc first) xs (row_tail first x xs row) s (k, in_xs, there) is

  -- it counts on a board with one
  pub one_on : (r : PageRecorder N C H G) (s : SharedRecorder N C H G) → CountsWith board r s → filter IsOn (recorders_of r) ≡ s ∷
      []
  one_on r s counts = one_of r.first (recorders_of r) r.ids s counts.0 counts.1

  pub same_on : (r : PageRecorder N C H G) (s t : SharedRecorder N C H G) → CountsWith board r s → CountsWith board r t → s ≡ t
  same_on r s t one other = let a = one_on r s one in let b = one_on r t other in cc
