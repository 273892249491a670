use Rattle.std.proofs.Common.{◌≡◌, ◌<◌, ◌≤◌, ◌↔◌, ℕ, List, length, get_or, slice_index, sym, ap, ◌∙◌, subst, arith}
use Rattle.bucket_math.specs.Bounds.{AreBounds, place_of}
use Rattle.bucket_math.proofs.Places.{inclusive, place_is}
use Rattle.bucket_math.proofs.Cumulation.{law}
use Rattle.bucket_math.proofs.bounds.Bounds.place.Goals as goal

-- of the bounds `from`, which are these bounds
place_in : (from bounds : List ℕ) (value k : ℕ) → from ≡ bounds → AreBounds bounds → k ≤ length from
    → ((i : ℕ) → i < k → get_or from i 0 < value) → (k < length from → value ≤ get_or from k 0) → k ≡ place_of bounds value
place_in from bounds value k same are within below next = subst (λ (l : List ℕ). k ≡ place_of l value) same
    (place_is from value k (subst AreBounds (sym same) are).rising within below next)

pub returns-then-value-bounds-clause-place : goal.returns-then-value-bounds-clause-place
returns-then-value-bounds-clause-place c =
    let lt = c.loop-place-test.true in
    place_in c.as_slice-bounds.result.now c.args.self.now c.args.value c.loop-place.place c.as_slice-bounds.ensures.bounds
    c.as_slice-bounds.ensures.rising (omega (arith, lt)) c.loop-place.invariant (λ _. c.if-value-bounds.true)

pub returns-clause-place : goal.returns-clause-place
returns-clause-place c =
    let f = c.loop-place-test.false in
    place_in c.as_slice-bounds.result.now c.args.self.now c.args.value (length c.as_slice-bounds.result.now)
    c.as_slice-bounds.ensures.bounds
    c.as_slice-bounds.ensures.rising (omega arith) (λ i lt. c.loop-place.invariant i (omega (arith, f, lt)))
    (λ lt. absurd (omega (arith, lt)))

pub returns-then-value-bounds-clause-inclusive : goal.returns-then-value-bounds-clause-inclusive
returns-then-value-bounds-clause-inclusive c = λ k within.
    let e = returns-then-value-bounds-clause-place c in
    rw e (inclusive c.args.self.now c.args.value k c.as_slice-bounds.ensures.rising.rising within)

pub returns-clause-inclusive : goal.returns-clause-inclusive
returns-clause-inclusive c = λ k within.
    let e = returns-clause-place c in
    rw e (inclusive c.args.self.now c.args.value k c.as_slice-bounds.ensures.rising.rising within)

pub returns-then-value-bounds-clause-law : goal.returns-then-value-bounds-clause-law
returns-then-value-bounds-clause-law c = law c.args.self.now c.as_slice-bounds.ensures.rising

pub returns-clause-law : goal.returns-clause-law
returns-clause-law c = law c.args.self.now c.as_slice-bounds.ensures.rising
