-- The words of a row by their places: reading one, writing one, and the row of zeros.
use Rattle.std.proofs.Common.{◌≡◌, ℕ, zero, suc, ◌+◌, ◌*◌, ◌-◌, ◌<◌, ◌≤◌, List, [], ◌∷◌, ◌++◌, length, get_or, set, take, drop}
use Rattle.std.proofs.Common.{replicate, sym, refl, ap, ap₂, ◌∙◌, arith, length-append, length-set, length-drop, All}
use Rattle.std.specs.List.{concat}
use Rattle.std.proofs.lemmas.List.{get_or_append_left, get_or-append_right, get_or-take, get_or-drop, set-append_left}
use Rattle.std.proofs.lemmas.List.{set-append_right, replicate-append-replicate, length-replicate, length-take-le}
use Rattle.std.proofs.lemmas.Grind.{same_number_lists}
use Rattle.std.proofs.lemmas.List.Elements.{All-set, All-get_or, All-from_get_or, All-take, All-drop, All-replicate}
use Rattle.bucket_math.specs.Words.{greatest_word}
use Rattle.ledger_core.specs.Ops.{width}
use Rattle.ledger_core.specs.Row.{HasShape}
use Rattle.ledger_core.proofs.Rows.{HasLength, length-concat, place-lt, get_or-concat, concat-set, concat-replicate}

abbrev pub words : List ℕ → List (List ℕ) → List (List ℕ) → List ℕ
words counters hists gauges = counters ++ concat hists ++ concat gauges

module _ (c h g : ℕ) (counters : List ℕ) (hists gauges : List (List ℕ)) (shape : HasShape c h g counters hists gauges) where
  length-hists : length (concat hists) ≡ 27 * h
  length-hists = length-concat 27 hists shape.hist_words ∙ ap (λ n. 27 * n) shape.all_hists

  length-gauges : length (concat gauges) ≡ 2 * g
  length-gauges = length-concat 2 gauges shape.gauge_words ∙ ap (λ n. 2 * n) shape.all_gauges

  length-front : length (counters ++ concat hists) ≡ c + 27 * h
  length-front = length-append counters (concat hists) ∙ ap₂ ◌+◌ shape.all_counters length-hists

  pub length-words : length (words counters hists gauges) ≡ width c h g
  length-words = length-append (counters ++ concat hists) (concat gauges) ∙ ap₂ ◌+◌ length-front length-gauges

  pub hist-lt : (i j : ℕ) → i < h → j < 27 → c + 27 * i + j < length (words counters hists gauges)
  hist-lt i j hi hj = let p = place-lt 27 i j h hi hj in rw length-words (omega arith)

  pub gauge-lt : (i j : ℕ) → i < g → j < 2 → c + 27 * h + 2 * i + j < length (words counters hists gauges)
  gauge-lt i j hi hj = let p = place-lt 2 i j g hi hj in rw length-words (omega arith)

  pub read_hist : (i j : ℕ) → i < h → j < 27 → get_or (words counters hists gauges) (c + 27 * i + j) 0 ≡ get_or
      (get_or hists i []) j 0
  read_hist i j hi hj =
      let p = place-lt 27 i j h hi hj in
      let e : c + 27 * i + j - c ≡ 27 * i + j = omega arith in
      get_or_append_left (counters ++ concat hists) (concat gauges) 0 (c + 27 * i + j) (rw length-front (omega arith))
      ∙ get_or-append_right counters (concat hists) c (c + 27 * i + j) 0 shape.all_counters (omega arith)
      ∙ ap (λ k. get_or (concat hists) k 0) e
      ∙ get_or-concat 27 hists i j shape.hist_words (rw shape.all_hists hi) hj

  -- the first n words of a histogram, next to each other in the row
  pub read_first : (i n : ℕ) → i < h → n ≤ 27 → take n (drop (c + 27 * i) (words counters hists gauges)) ≡ take n
      (get_or hists i [])
  read_first i n hi le =
      let rest : List ℕ = drop (c + 27 * i) (words counters hists gauges) in
      let xs : List ℕ = get_or hists i [] in
      let same : length xs ≡ 27 = All-get_or (HasLength 27) hists i [] (rw shape.all_hists hi) shape.hist_words in
      let last = hist-lt i 26 hi (omega arith) in
      let after = length-drop (c + 27 * i) (words counters hists gauges) in
      let there : length (take n rest) ≡ n = length-take-le n rest (omega arith) in
      let here : length (take n xs) ≡ n = length-take-le n xs (omega arith) in
      same_number_lists (take n rest) (take n xs) (there ∙ sym here) (λ k lt.
      get_or-take n rest k 0 (omega arith)
      ∙ get_or-drop (c + 27 * i) (words counters hists gauges) k 0
      ∙ read_hist i k hi (omega arith)
      ∙ sym (get_or-take n xs k 0 (omega arith)))

  pub read_gauge : (i j : ℕ) → i < g → j < 2 → get_or (words counters hists gauges) (c + 27 * h + 2 * i + j) 0 ≡ get_or
      (get_or gauges i []) j 0
  read_gauge i j hi hj =
      let e : c + 27 * h + 2 * i + j - (c + 27 * h) ≡ 2 * i + j = omega arith in
      get_or-append_right (counters ++ concat hists) (concat gauges) (c + 27 * h) (c + 27 * h + 2 * i + j) 0 length-front
      (omega arith)
      ∙ ap (λ k. get_or (concat gauges) k 0) e
      ∙ get_or-concat 2 gauges i j shape.gauge_words (rw shape.all_gauges hi) hj

  pub write_counter : (i v : ℕ) → i < c → words (set counters i v) hists gauges ≡ set (words counters hists gauges) i v
  write_counter i v hi =
      ap (λ front. front ++ concat gauges) (sym (set-append_left counters (concat hists) i v (rw shape.all_counters hi)))
      ∙ sym (set-append_left (counters ++ concat hists) (concat gauges) i v (rw length-front (omega arith)))

  pub write_hist : (i j v : ℕ) → i < h → j < 27
      → words counters (set hists i (set (get_or hists i []) j v)) gauges ≡ set (words counters hists gauges) (c + 27 * i + j) v
  write_hist i j v hi hj =
      let p = place-lt 27 i j h hi hj in
      let e : c + 27 * i + j - c ≡ 27 * i + j = omega arith in
      ap (λ mid. counters ++ mid ++ concat gauges) (concat-set 27 hists i j v shape.hist_words (rw shape.all_hists hi) hj
      ∙ ap (λ k. set (concat hists) k v) (sym e))
      ∙ ap (λ front. front ++ concat gauges)
      (sym (set-append_right counters (concat hists) c (c + 27 * i + j) v shape.all_counters (omega arith)))
      ∙ sym (set-append_left (counters ++ concat hists) (concat gauges) (c + 27 * i + j) v (rw length-front (omega arith)))

  pub write_gauge : (i j v : ℕ) → i < g → j < 2
      → words counters hists (set gauges i (set (get_or gauges i []) j v)) ≡ set (words counters hists gauges)
      (c + 27 * h + 2 * i + j) v
  write_gauge i j v hi hj =
      let e : c + 27 * h + 2 * i + j - (c + 27 * h) ≡ 2 * i + j = omega arith in
      ap (λ rest. counters ++ concat hists ++ rest) (concat-set 2 gauges i j v shape.gauge_words (rw shape.all_gauges hi) hj
      ∙ ap (λ k. set (concat gauges) k v) (sym e))
      ∙ sym (set-append_right (counters ++ concat hists) (concat gauges) (c + 27 * h) (c + 27 * h + 2 * i + j) v length-front
      (omega arith))

-- where no word of a row is over m, none of the n words from i on is
pub bounded_part : (xs : List ℕ) (m i n : ℕ) → ((k : ℕ) → get_or xs k 0 ≤ m) → All (λ x. x ≤ m) (take n (drop i xs))
bounded_part xs m i n h =
    All-take (λ x. x ≤ m) n (drop i xs) (All-drop (λ x. x ≤ m) i xs (All-from_get_or (λ x. x ≤ m) xs 0 (λ k _. h k)))

-- a written word under the limit leaves every word under it
below-set : (xs : List ℕ) (i v : ℕ) → v ≤ greatest_word → ((k : ℕ) → get_or xs k 0 ≤ greatest_word) → (k : ℕ)
    → get_or (set xs i v) k 0 ≤ greatest_word
below-set [] i v hv h k = h k
below-set (x ∷ xs) zero v hv h zero = hv
below-set (x ∷ xs) zero v hv h (suc k) = h (suc k)
below-set (x ∷ xs) (suc i) v hv h zero = h zero
below-set (x ∷ xs) (suc i) v hv h (suc k) = below-set xs i v hv (λ q. h (suc q)) k

module _ (c h g : ℕ) (counters : List ℕ) (hists gauges : List (List ℕ)) (shape : HasShape c h g counters hists gauges) where
  below-from : (old new : List ℕ) (i v : ℕ) → new ≡ set old i v → v ≤ greatest_word → ((k : ℕ) → get_or old k 0 ≤ greatest_word)
      → (k : ℕ) → get_or new k 0 ≤ greatest_word
  below-from old new i v e hv b k = rw e (below-set old i v hv b k)

  pub shape_counter : (i v : ℕ) → i < c → v ≤ greatest_word → HasShape c h g (set counters i v) hists gauges
  shape_counter i v hi hv = record {
    all_counters = length-set counters i v ∙ shape.all_counters;
    all_hists = shape.all_hists;
    all_gauges = shape.all_gauges;
    hist_words = shape.hist_words;
    gauge_words = shape.gauge_words;
    bounded = below-from (words counters hists gauges) _ i v (write_counter c h g counters hists gauges shape i v hi) hv
        shape.bounded;
  }

  pub shape_hist : (i j v : ℕ) → i < h → j < 27 → v ≤ greatest_word
      → HasShape c h g counters (set hists i (set (get_or hists i []) j v)) gauges
  shape_hist i j v hi hj hv =
      let xs : List ℕ = get_or hists i [] in
      let same : length xs ≡ 27 = All-get_or (HasLength 27) hists i [] (rw shape.all_hists hi) shape.hist_words in
      record {
        all_counters = shape.all_counters;
        all_hists = length-set hists i (set xs j v) ∙ shape.all_hists;
        all_gauges = shape.all_gauges;
        hist_words = All-set (HasLength 27) hists i (set xs j v) (length-set xs j v ∙ same) shape.hist_words;
        gauge_words = shape.gauge_words;
        bounded = below-from (words counters hists gauges) _ (c + 27 * i + j) v
            (write_hist c h g counters hists gauges shape i j v hi hj) hv shape.bounded;
      }

  pub shape_gauge : (i j v : ℕ) → i < g → j < 2 → v ≤ greatest_word
      → HasShape c h g counters hists (set gauges i (set (get_or gauges i []) j v))
  shape_gauge i j v hi hj hv =
      let xs : List ℕ = get_or gauges i [] in
      let same : length xs ≡ 2 = All-get_or (HasLength 2) gauges i [] (rw shape.all_gauges hi) shape.gauge_words in
      record {
        all_counters = shape.all_counters;
        all_hists = shape.all_hists;
        all_gauges = length-set gauges i (set xs j v) ∙ shape.all_gauges;
        hist_words = shape.hist_words;
        gauge_words = All-set (HasLength 2) gauges i (set xs j v) (length-set xs j v ∙ same) shape.gauge_words;
        bounded = below-from (words counters hists gauges) _ (c + 27 * h + 2 * i + j) v
            (write_gauge c h g counters hists gauges shape i j v hi hj) hv shape.bounded;
      }

-- a row of zeros
below-zeros : (n k : ℕ) → get_or (replicate n 0) k 0 ≤ greatest_word
below-zeros zero k = omega arith
below-zeros (suc n) zero = omega arith
below-zeros (suc n) (suc k) = below-zeros n k

pub zeros : (c h g : ℕ) → words (replicate c 0) (replicate h (replicate 27 0)) (replicate g (replicate 2 0)) ≡ replicate
    (width c h g) 0
zeros c h g =
    ap₂ (λ xs ys. replicate c 0 ++ xs ++ ys) (concat-replicate 27 h) (concat-replicate 2 g)
    ∙ ap (λ front. front ++ replicate (2 * g) 0) (replicate-append-replicate c (27 * h) 0)
    ∙ replicate-append-replicate (c + 27 * h) (2 * g) 0

pub shape_zeros : (c h g : ℕ) → HasShape c h g (replicate c 0) (replicate h (replicate 27 0)) (replicate g (replicate 2 0))
shape_zeros c h g = record {
  all_counters = length-replicate c 0;
  all_hists = length-replicate h (replicate 27 0);
  all_gauges = length-replicate g (replicate 2 0);
  hist_words = All-replicate (HasLength 27) h (replicate 27 0) refl;
  gauge_words = All-replicate (HasLength 2) g (replicate 2 0) refl;
  bounded = λ k. rw (zeros c h g) (below-zeros (width c h g) k);
}

-- how many words a row has
pub row-length : (c h g : ℕ) (counters : List ℕ) (hists gauges : List (List ℕ)) → HasShape c h g counters hists gauges
    → c + 27 * h + 2 * g ≡ length (counters ++ concat hists ++ concat gauges)
row-length c h g counters hists gauges s =
    let a = s.all_counters in let b = s.all_hists in let d = s.all_gauges in
    let x = length-concat 27 hists s.hist_words in let y = length-concat 2 gauges s.gauge_words in
    simp length-append (omega (arith, a, b, d, x, y))
