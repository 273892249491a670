-- Bytes that stand in places, and how many digits a number has.
use Rattle.std.proofs.Common.{pow-suc, ◌/◌, ◌%◌, ◌≡◌, ℕ, zero, suc, ◌+◌, ◌*◌, ◌<◌, ◌≤◌, ◌^◌, List, [], ◌∷◌, ◌++◌, length, take}
use Rattle.std.proofs.Common.{drop, decimal, sym, ap, ap₂, ◌∙◌, arith, length-append}
use Rattle.std.proofs.Math.Seq.{take-add, take-append_seam}
use Rattle.std.proofs.lemmas.List.{take_all}
use Rattle.expo_text.specs.Fills.{Fills}
use Rattle.std.proofs.lemmas.Fmt.{decimal_by_steps, length-decimal-le}

-- where some bytes stand from a place on
pub placed : (old new : List ℕ) (i n : ℕ) (bytes rest : List ℕ) → take i new ≡ take i old → drop i new ≡ bytes ++ rest
    → length bytes ≡ n → take (i + n) new ≡ take i old ++ bytes
placed old new i n bytes rest before from count =
    take-add i n new ∙ ap₂ (λ a b. a ++ b) before (ap (λ l. take n l) from ∙ ap (λ k. take k (bytes ++ rest)) (sym count)
    ∙ take-append_seam bytes rest)

-- a power of ten is not zero
pub ten-pos : (k : ℕ) → 0 < 10 ^ k
ten-pos zero = omega arith
ten-pos (suc k) = let next : 10 ^ suc k ≡ 10 ^ k * 10 = pow-suc 10 k in let some = ten-pos k in omega (arith, next, some)

-- where exactly this text has room, it is what stands there
pub filled-all : (old new : List ℕ) (n : ℕ) (text : List ℕ) → Fills old new 0 n text → length text ≡ length old → new ≡ text
filled-all old new n text fills room =
    let fits : 0 + length text ≤ length old = omega (arith, room) in
    let count = fills.count fits in
    let all : length new ≤ n = omega (arith, count, room, fills.places) in
    sym (take_all n new all) ∙ fills.filled fits

-- how many digits a number has, by the power of ten below it
longer : (n : ℕ) → n < 2 ^ 64 → (j : ℕ) → 10 ^ j ≤ n → j < length (decimal n)
longer = decimal_by_steps (λ m ds. (j : ℕ) → 10 ^ j ≤ m → j < length ds) one more
  where
    one : (m : ℕ) → m < 10 → (j : ℕ) → 10 ^ j ≤ m → j < 1
    one m small zero h = omega arith
    one m small (suc j) h = absurd (let next : 10 ^ suc j ≡ 10 ^ j * 10 = pow-suc 10 j in let some : 0 < 10 ^ j = ten-pos j in
        omega (arith, small, h, next, some))

    more : (m : ℕ) (ds : List ℕ) → 10 ≤ m → ((j : ℕ) → 10 ^ j ≤ m / 10 → j < length ds) → (j : ℕ) → 10 ^ j ≤ m
        → j < length (ds ++ ((48 + m % 10) ∷ []))
    more m ds l h zero a = rw length-append (omega arith)
    more m ds l h (suc j) a = (let next : 10 ^ suc j ≡ 10 ^ j * 10 = pow-suc 10 j in let shorter = h j (omega (arith, a, next)) in
        rw length-append (omega (arith, shorter)))

pub digits-count : (n k : ℕ) → n < 2 ^ 64 → 10 ^ k ≤ n → n < 10 * 10 ^ k → length (decimal n) ≡ k + 1
digits-count n k small low high =
    let least = longer n small k low in
    let next : 10 ^ suc k ≡ 10 ^ k * 10 = pow-suc 10 k in
    let most = length-decimal-le (suc k) n (omega arith) (omega (arith, next, high)) small in
    omega (arith, least, most)
