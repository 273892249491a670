-- Lists that a loop changes word by word.
use Rattle.std.proofs.Common.{◌≡◌, ℕ, zero, suc, ◌+◌, ◌%◌, ◌^◌, ◌<◌, false, min, List, [], ◌∷◌, length, map, get_or, set, leb}
use Rattle.std.proofs.Common.{sym, refl, ap, ◌∙◌, arith}
use Rattle.std.proofs.lemmas.Bool.{and_right}
use Rattle.std.proofs.lemmas.List.{get_or_read}
use Rattle.ledger_core.specs.Vectors.{is_above}
use Rattle.snapshot_core.specs.Tries.{from_on}
use Rattle.snapshot_core.specs.Machine.{added}

-- the first k words added
abbrev pub added_up : ℕ → List ℕ → List ℕ → List ℕ
added_up zero words row = words
added_up (suc k) [] row = []
added_up (suc k) (x ∷ words) [] = x ∷ words
added_up (suc k) (x ∷ words) (y ∷ row) = (x + y) % 2 ^ 64 ∷ added_up k words row

pub length_added_up : (k : ℕ) (words row : List ℕ) → length (added_up k words row) ≡ length words
length_added_up zero words row = refl
length_added_up (suc k) [] row = refl
length_added_up (suc k) (x ∷ words) [] = refl
length_added_up (suc k) (x ∷ words) (y ∷ row) = let e = length_added_up k words row in omega (arith, e)

added_suc : (k : ℕ) (words row : List ℕ) → k < length words → k < length row
    → added_up (suc k) words row ≡ set (added_up k words row) k ((get_or (added_up k words row) k 0 + get_or row k 0) % 2 ^ 64)
added_suc k [] row a b = absurd (omega arith)
added_suc k (x ∷ words) [] a b = absurd (omega arith)
added_suc zero (x ∷ words) (y ∷ row) a b = refl
added_suc (suc k) (x ∷ words) (y ∷ row) a b = ap (λ (z : List ℕ). (x + y) % 2 ^ 64 ∷ z)
    (added_suc k words row (omega arith) (omega arith))

-- one more word
pub added_next : (k : ℕ) (words row : List ℕ) → k < length words → k < length row
    → set (added_up k words row) k ((get_or (added_up k words row) k 0 + get_or row k 0) % 2 ^ 64) ≡ added_up (k + 1) words row
added_next k words row a b = sym (added_suc k words row a b) ∙ (let e : suc k ≡ k + 1 = omega arith in
    ap (λ (z : ℕ). added_up z words row) e)

-- all words that both lists have
pub added_all : (k : ℕ) (words row : List ℕ) → k ≡ min (length words) (length row) → added_up k words row ≡ added words row
added_all zero [] row e = refl
added_all (suc k) [] row e = refl
added_all zero (x ∷ words) [] e = refl
added_all (suc k) (x ∷ words) [] e = refl
added_all zero (x ∷ words) (y ∷ row) e = absurd (omega arith)
added_all (suc k) (x ∷ words) (y ∷ row) e = ap (λ (z : List ℕ). (x + y) % 2 ^ 64 ∷ z) (added_all k words row (omega arith))

-- a vector that is too short is above no floor
pub above_short : (f : ℕ → ℕ) (k n : ℕ) (vector : List ℕ) → length vector < n → is_above (map f (from_on k n)) vector ≡ false
above_short f k zero vector h = absurd (omega arith)
above_short f k (suc n) [] h = refl
above_short f k (suc n) (y ∷ vector) h = and_right (leb (f k) y) _ (above_short f (suc k) n vector (omega arith))

-- the sum that the loop writes
pub added_step : (k : ℕ) (words now row : List ℕ) (x y : ℕ) → now ≡ added_up k words row → x ≡ get_or now k x → y ≡ get_or row k 0
    → k < length words → k < length row → set now k ((x + y) % 2 ^ 64) ≡ added_up (k + 1) words row
added_step k words now row x y is at there a b =
    let l : length now ≡ length words = ap length is ∙ length_added_up k words row in
    let e : x ≡ get_or now k 0 = get_or_read now k x (omega arith) at 0 in
    ap (λ (z : ℕ × ℕ). set now k ((z.0 + z.1) % 2 ^ 64)) (λ i. (e i, there i))
    ∙ ap (λ (z : List ℕ). set z k ((get_or z k 0 + get_or row k 0) % 2 ^ 64)) is ∙ added_next k words row a b
