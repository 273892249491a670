-- One more step of a search.
use Rattle.std.proofs.Common.{◌≡◌, ℕ, suc, ◌+◌, ◌-◌, ◌<◌, ◌≤◌, ◌&&◌, Bool, true, false, cond, List, ◌∷◌, Some, leb, le-leb, ap}
use Rattle.std.proofs.Common.{◌∙◌, arith, drop, length, get_or, drop-cons, map}
use Rattle.std.proofs.lemmas.Bool.{lt-leb}
use Rattle.ledger_core.specs.Vectors.{is_above}
use Rattle.snapshot_core.specs.Tries.{from_on}
use Rattle.snapshot_core.specs.Scan.{failed_at, least_failed_of, is_to_ask, next_asked_of}

pub failed_next : (o : List ℕ) (w : List Bool) (f : List ℕ) (k n : ℕ) → k < n → failed_at o w f k ≡ false
    → least_failed_of o w f k (n - k) ≡ least_failed_of o w f (k + 1) (n - (k + 1))
failed_next o w f k n h e = let e' : n - k ≡ suc (n - (k + 1)) = omega arith in let e2 : suc k ≡ k + 1 = omega arith in
    ap (least_failed_of o w f k) e' ∙ ap (λ (b : Bool). cond b k (least_failed_of o w f (suc k) (n - (k + 1)))) e
    ∙ ap (λ (z : ℕ). least_failed_of o w f z (n - (k + 1))) e2

pub failed_here : (o : List ℕ) (w : List Bool) (f : List ℕ) (k n : ℕ) → k < n → failed_at o w f k ≡ true
    → least_failed_of o w f k (n - k) ≡ k
failed_here o w f k n h e = let e' : n - k ≡ suc (n - (k + 1)) = omega arith in
    ap (least_failed_of o w f k) e' ∙ ap (λ (b : Bool). cond b k (least_failed_of o w f (suc k) (n - (k + 1)))) e

pub asked_next : (o f : List ℕ) (k n : ℕ) → k < n → is_to_ask o f k ≡ false → next_asked_of o f k (n - k) ≡ next_asked_of o f
    (k + 1) (n - (k + 1))
asked_next o f k n h e = let e' : n - k ≡ suc (n - (k + 1)) = omega arith in let e2 : suc k ≡ k + 1 = omega arith in
    ap (next_asked_of o f k) e' ∙ ap (λ (b : Bool). cond b (Some k) (next_asked_of o f (suc k) (n - (k + 1)))) e
    ∙ ap (λ (z : ℕ). next_asked_of o f z (n - (k + 1))) e2

pub asked_here : (o f : List ℕ) (k n : ℕ) → k < n → is_to_ask o f k ≡ true → next_asked_of o f k (n - k) ≡ Some k
asked_here o f k n h e = let e' : n - k ≡ suc (n - (k + 1)) = omega arith in
    ap (next_asked_of o f k) e' ∙ ap (λ (b : Bool). cond b (Some k) (next_asked_of o f (suc k) (n - (k + 1)))) e

-- whether the vector is below the floor nowhere, from k on
abbrev pub above_from : (floor vector : List ℕ) (k m : ℕ) → Bool
above_from floor vector k m = is_above (map (λ q. get_or floor q 0) (from_on k m)) (drop k vector)

above_step : (f v : List ℕ) (k n : ℕ) → k < n → k < length v
    → above_from f v k (n - k) ≡ (leb (get_or f k 0) (get_or v k 0) && above_from f v (k + 1) (n - (k + 1)))
above_step f v k n h l = let e' : n - k ≡ suc (n - (k + 1)) = omega arith in let e2 : suc k ≡ k + 1 = omega arith in
    ap (above_from f v k) e'
    ∙ ap (λ (z : List ℕ). is_above (get_or f k 0 ∷ map (λ q. get_or f q 0) (from_on (suc k) (n - (k + 1)))) z)
    (drop-cons v k 0 l)
    ∙ ap (λ (z : ℕ). leb (get_or f k 0) (get_or v k 0) && is_above (map (λ q. get_or f q 0) (from_on z (n - (k + 1)))) (drop z v))
    e2

pub above_next : (f v : List ℕ) (k n : ℕ) → k < n → k < length v → get_or f k 0 ≤ get_or v k 0
    → above_from f v k (n - k) ≡ above_from f v (k + 1) (n - (k + 1))
above_next f v k n h l e = above_step f v k n h l ∙ ap (λ (b : Bool). b && above_from f v (k + 1) (n - (k + 1))) (le-leb _ _ e)

pub above_here : (f v : List ℕ) (k n : ℕ) → k < n → k < length v → get_or v k 0 < get_or f k 0 → above_from f v k (n - k) ≡ false
above_here f v k n h l e = above_step f v k n h l ∙ ap (λ (b : Bool). b && above_from f v (k + 1) (n - (k + 1))) (lt-leb _ _ e)
