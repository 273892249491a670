-- Numbers that are put into a buffer, part by part.
use Rattle.std.proofs.Common.{◌≡◌, ℕ, suc, ◌+◌, ◌≤◌, List, [], ◌∷◌, ◌++◌, length, take, drop, set, sym, ap, ◌∙◌, arith}
use Rattle.std.proofs.Math.Seq.{take-append_seam, drop-append_seam}
use Rattle.dirgwako_c.proofs.Settled.{drop_both}

-- the front of a list that begins with these
front : (n : ℕ) (xs ys zs : List ℕ) → n ≡ length xs → zs ≡ xs ++ ys → take n zs ≡ xs
front n xs ys zs many is = ap (take n) is ∙ (ap (λ (k : ℕ). take k (xs ++ ys)) many ∙ take-append_seam xs ys)

-- what stands behind them
behind : (n : ℕ) (xs ys zs : List ℕ) → n ≡ length xs → zs ≡ xs ++ ys → drop n zs ≡ ys
behind n xs ys zs many is = ap (drop n) is ∙ (ap (λ (k : ℕ). drop k (xs ++ ys)) many ∙ drop-append_seam xs ys)

-- an id, a vector and totals, one behind the other; what is behind them stays
pub all_put : (buffer : List ℕ) (id : ℕ) (vector totals one two : List ℕ) → 1 + length vector + length totals ≤ length buffer
    → one ≡ take 1 (set buffer 0 id) ++ vector ++ drop (1 + length vector) (set buffer 0 id)
    → two ≡ take (1 + length vector) one ++ totals ++ drop (1 + length vector + length totals) one
    → two ≡ id ∷ (vector ++ totals) ++ drop (1 + length vector + length totals) buffer
all_put [] id vector totals one two room first second = absurd (omega (arith, room))
all_put (x ∷ buffer) id vector totals one two room first second =
    let v : ℕ = 1 + length vector in let t : ℕ = length totals in
    let rest = drop v (id ∷ buffer) in
    let kept : take v one ≡ id ∷ vector = front v (id ∷ vector) rest one (omega arith) first in
    let left : drop v one ≡ rest = behind v (id ∷ vector) rest one (omega arith) first in
    let turn : v + t ≡ t + v = omega arith in
    let after : suc (length vector + t) ≡ v + t = omega arith in
    let same : drop (v + t) one ≡ drop (v + t) (x ∷ buffer) =
    ap (λ (n : ℕ). drop n one) turn ∙ (sym (drop_both t v one) ∙ (ap (drop t) left ∙ (drop_both t v (id ∷ buffer)
    ∙ (ap (λ (n : ℕ). drop n (id ∷ buffer)) (sym turn ∙ sym after) ∙ ap (λ (n : ℕ). drop n (x ∷ buffer)) after)))) in
    second ∙ (ap (λ (l : List ℕ). l ++ totals ++ drop (v + t) one) kept ∙ ap (λ (l : List ℕ). id ∷ (vector ++ totals) ++ l) same)
