-- The words of a version, part by part.
use Rattle.std.proofs.Common.{◌≡◌, ℕ, zero, suc, ◌+◌, ◌-◌, ◌*◌, ◌<◌, false, List, [], ◌∷◌, ◌++◌, length, map, take, set}
use Rattle.std.proofs.Common.{slice_index, sym, refl, ap, ◌∙◌, subst, arith, Contains}
use mathlib.Core.Logic.{dite}
use mathlib.Core.Option.{some, some-injective, some-ne-none}
use native.Mathlib.Decide.{ℕ_discrete, dec_lt}
use lib.ListN.{get_elem?}
use Rattle.register_rule.specs.declared.view.Version.{Version}
use Rattle.snapshot_scan.specs.RememberedRows.{AreNumbers}
use Rattle.snapshot_scan.specs.ChangedItems.{ChangedView}
use Rattle.snapshot_update.specs.BufferImages.{DifferAt, version_words}
use Rattle.snapshot_update.specs.Fit.{number_in, idle_words}

front : (xs ys : List ℕ) (k : ℕ) → k < length xs → slice_index (xs ++ ys) k ≡ slice_index xs k
front [] ys k lt = absurd (omega (arith, lt))
front (x ∷ xs) ys zero lt = refl
front (x ∷ xs) ys (suc k) lt = front xs ys k (omega (arith, lt))

behind : (xs ys : List ℕ) (k : ℕ) → slice_index (xs ++ ys) (length xs + k) ≡ slice_index ys k
behind [] ys k = let e : 0 + k ≡ k = omega arith in ap (slice_index ys) e
behind (x ∷ xs) ys k = let e : suc (length xs) + k ≡ suc (length xs + k) = omega arith in
    ap (slice_index (x ∷ (xs ++ ys))) e ∙ behind xs ys k

module _ (w n : ℕ) (row : List ℕ) (flag : ℕ) (vector totals : List ℕ) (wide : length row ≡ w) (all : length vector ≡ n) where
  pub row_word : (k : ℕ) → k < w → slice_index (version_words row flag vector totals) k ≡ slice_index row k
  row_word k lt = front row (flag ∷ (vector ++ totals)) k (omega (arith, lt, wide))

  pub flag_word : slice_index (version_words row flag vector totals) w ≡ flag
  flag_word = let e : w ≡ length row + 0 = omega (arith, wide) in ap (slice_index (version_words row flag vector totals)) e
      ∙ behind row (flag ∷ (vector ++ totals)) 0

  pub vector_word : (j : ℕ) → j < n → slice_index (version_words row flag vector totals) (w + 1 + j) ≡ slice_index vector j
  vector_word j lt = let e : w + 1 + j ≡ length row + suc j = omega (arith, wide) in
      ap (slice_index (version_words row flag vector totals)) e
      ∙ (behind row (flag ∷ (vector ++ totals)) (suc j) ∙ front vector totals j (omega (arith, lt, all)))

  pub total_word : (j : ℕ) → slice_index (version_words row flag vector totals) (w + 1 + n + j) ≡ slice_index totals j
  total_word j = let e : w + 1 + n + j ≡ length row + suc (length vector + j) = omega (arith, wide, all) in
      ap (slice_index (version_words row flag vector totals)) e
      ∙ (behind row (flag ∷ (vector ++ totals)) (suc (length vector + j)) ∙ behind vector totals j)

  pub words_long : (t : ℕ) → length totals ≡ t → length (version_words row flag vector totals) ≡ w + 1 + n + t
  words_long t e = let a = long row (flag ∷ (vector ++ totals)) in let b = long vector totals in omega (arith, a, b, e, wide, all)
    where
      long : (xs ys : List ℕ) → length (xs ++ ys) ≡ length xs + length ys
      long [] ys = omega arith
      long (x ∷ xs) ys = let h = long xs ys in omega (arith, h)

  pub row_taken : take w (version_words row flag vector totals) ≡ row
  row_taken = ap (λ (k : ℕ). take k (version_words row flag vector totals)) (sym wide) ∙ taken row (flag ∷ (vector ++ totals))
    where
      taken : (xs ys : List ℕ) → take (length xs) (xs ++ ys) ≡ xs
      taken [] [] = refl
      taken [] (y ∷ ys) = refl
      taken (x ∷ xs) ys = ap (λ z. x ∷ z) (taken xs ys)

-- which part an item of a buffer is
pub data Which (w n j : ℕ) : Type 0 where
  in_row : j < w → Which w n j
  at_flag : j ≡ w → Which w n j
  in_vector : (i : ℕ) → i < n → j ≡ w + 1 + i → Which w n j
  in_totals : (i : ℕ) → i < w → j ≡ w + 1 + n + i → Which w n j

pub which : (w n j : ℕ) → j < 2 * w + 1 + n → Which w n j
which w n j lt = dite (dec_lt j w) (λ a. in_row a) (λ not_row.
    dite (ℕ_discrete j w) (λ e. at_flag e) (λ not_flag.
    dite (dec_lt j (w + 1 + n))
    (λ b. in_vector (j - (w + 1)) (omega (arith, b, not_row, not_flag)) (omega (arith, not_row, not_flag)))
    (λ c. in_totals (j - (w + 1 + n)) (omega (arith, lt, c)) (omega (arith, c)))))

-- the numbers of versions, place by place
pub number_at : (numbers : List ℕ) (vs : List Version) (i : ℕ) → AreNumbers numbers vs → i < length vs
    → slice_index (map number_in vs) i ≡ slice_index numbers i
number_at numbers vs i are lt = let t = some_at vs i lt in at_number vs i t.0 t.1 ∙ are i t.0 t.1
  where
    some_at : (vs : List Version) (i : ℕ) → i < length vs → (v : Version) × (get_elem? vs i ≡ some v)
    some_at [] i h = absurd (omega (arith, h))
    some_at (v ∷ vs) zero h = (v, refl)
    some_at (v ∷ vs) (suc i) h = some_at vs i (omega (arith, h))

    at_number : (vs : List Version) (i : ℕ) (v : Version) → get_elem? vs i ≡ some v → slice_index (map number_in vs) i ≡ v.number
    at_number [] i v e = absurd (some-ne-none v (sym e))
    at_number (x ∷ vs) zero v e = ap number_in (some-injective x v e)
    at_number (x ∷ vs) (suc i) v e = at_number vs i v e

number_set : (vs : List Version) (own i : ℕ) (v : Version) → (i ≡ own → ⊥)
    → slice_index (map number_in (set vs own v)) i ≡ slice_index (map number_in vs) i
number_set [] own i v ne = refl
number_set (x ∷ vs) zero zero v ne = absurd (ne refl)
number_set (x ∷ vs) zero (suc i) v ne = refl
number_set (x ∷ vs) (suc own) zero v ne = refl
number_set (x ∷ vs) (suc own) (suc i) v ne = number_set vs own i v (λ e. ne (ap suc e))

pub numbers_long : (vs : List Version) → length (map number_in vs) ≡ length vs
numbers_long [] = refl
numbers_long (v ∷ vs) = ap suc (numbers_long vs)

pub set_long : (vs : List Version) (i : ℕ) (v : Version) → length (set vs i v) ≡ length vs
set_long [] i v = refl
set_long (x ∷ vs) zero v = refl
set_long (x ∷ vs) (suc i) v = ap suc (set_long vs i v)

-- a quiet scan: what the next version was to be, and what it is, differ at no words but the touched ones
module _ (w n : ℕ) (row row' : List ℕ) (rows : List Version) (sums opened totals : List ℕ) (wide : length row ≡ w)
    (wide' : length row' ≡ w) (few : length rows ≡ n) (all : length opened ≡ n)
    (numbers : AreNumbers opened rows) (same : totals ≡ sums) (touched : List ℕ) (rest : (k : ℕ) → k < w → ¬ (Contains touched k)
    → slice_index row k ≡ slice_index row' k) where
  all_rows : length (map number_in rows) ≡ n
  all_rows = numbers_long rows ∙ few

  pub known_words : (j : ℕ) → j < 2 * w + 1 + n → ¬ (Contains touched j) → slice_index (idle_words row rows sums) j ≡ slice_index
      (version_words row' 1 opened totals) j
  known_words j lt none = go (which w n j lt)
    where
      there : (k : ℕ) → j ≡ k → slice_index (idle_words row rows sums) k ≡ slice_index (version_words row' 1 opened totals) k
          → slice_index (idle_words row rows sums) j ≡ slice_index (version_words row' 1 opened totals) j
      there k e h = subst (λ (z : ℕ). slice_index (idle_words row rows sums) z ≡ slice_index (version_words row' 1 opened totals)
          z) (sym e) h

      go : Which w n j → slice_index (idle_words row rows sums) j ≡ slice_index (version_words row' 1 opened totals) j
      go (in_row h) = row_word w n row 1 (map number_in rows) sums wide all_rows j h
          ∙ (rest j h none ∙ sym (row_word w n row' 1 opened totals wide' all j h))
      go (at_flag e) = there w e (flag_word w n row 1 (map number_in rows) sums wide all_rows
          ∙ sym (flag_word w n row' 1 opened totals wide' all))
      go (in_vector i h e) = there (w + 1 + i) e (vector_word w n row 1 (map number_in rows) sums wide all_rows i h
          ∙ (number_at opened rows i numbers (omega (arith, h, few)) ∙ sym (vector_word w n row' 1 opened totals wide' all i h)))
      go (in_totals i h e) = there (w + 1 + n + i) e (total_word w n row 1 (map number_in rows) sums wide all_rows i
          ∙ (ap (λ (l : List ℕ). slice_index l i) (sym same) ∙ sym (total_word w n row' 1 opened totals wide' all i)))

  -- and where it differs from the version after it
  pub late_words : (own : ℕ) (v : Version) (sums' : List ℕ) (late : ChangedView)
      → ((k : ℕ) → k < w → slice_index sums' k + slice_index row k ≡ slice_index sums k + slice_index row' k) → length sums' ≡ w
      → (late.all ≡ false → Contains late.items (w + 1 + own))
      → (late.all ≡ false → (k : ℕ) → Contains touched k → Contains late.items (w + 1 + n + k))
      → DifferAt late (version_words row' 1 opened totals) (idle_words row' (set rows own v) sums')
  late_words own v sums' late changed long at_own at_lent listed j lt none =
      go (which w n j (let e = words_long w n row' 1 (map number_in (set rows own v)) sums' wide' all_new w long in
      omega (arith, lt, e)))
    where
      all_new : length (map number_in (set rows own v)) ≡ n
      all_new = numbers_long (set rows own v) ∙ (set_long rows own v ∙ few)

      there : (k : ℕ) → j ≡ k → slice_index (version_words row' 1 opened totals) k ≡ slice_index
          (idle_words row' (set rows own v) sums') k → slice_index (version_words row' 1 opened totals) j ≡ slice_index
          (idle_words row' (set rows own v) sums') j
      there k e h = subst (λ (z : ℕ). slice_index (version_words row' 1 opened totals) z ≡ slice_index
          (idle_words row' (set rows own v) sums') z) (sym e) h

      go : Which w n j → slice_index (version_words row' 1 opened totals) j ≡ slice_index (idle_words row' (set rows own v) sums')
          j
      go (in_row h) = row_word w n row' 1 opened totals wide' all j h
          ∙ sym (row_word w n row' 1 (map number_in (set rows own v)) sums' wide' all_new j h)
      go (at_flag e) = there w e (flag_word w n row' 1 opened totals wide' all
          ∙ sym (flag_word w n row' 1 (map number_in (set rows own v)) sums' wide' all_new))
      go (in_vector i h e) = there (w + 1 + i) e (vector_word w n row' 1 opened totals wide' all i h
          ∙ (sym (number_at opened rows i numbers (omega (arith, h, few)))
          ∙ (sym (number_set rows own i v
          (λ is. none (subst (Contains late.items) (sym (e ∙ ap (λ (z : ℕ). w + 1 + z) is)) (at_own listed))))
          ∙ sym (vector_word w n row' 1 (map number_in (set rows own v)) sums' wide' all_new i h))))
      go (in_totals i h e) = there (w + 1 + n + i) e (total_word w n row' 1 opened totals wide' all i
          ∙ (ap (λ (l : List ℕ). slice_index l i) same
          ∙ (stays i h (λ has. none (subst (Contains late.items) (sym e) (at_lent listed i has)))
          ∙ sym (total_word w n row' 1 (map number_in (set rows own v)) sums' wide' all_new i))))
        where
          stays : (i : ℕ) → i < w → ¬ (Contains touched i) → slice_index sums i ≡ slice_index sums' i
          stays i h not = let a = changed i h in let b = rest i h not in omega (arith, a, b)
