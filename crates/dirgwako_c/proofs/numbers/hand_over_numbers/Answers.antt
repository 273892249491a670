use Rattle.std.proofs.Common.{◌≡◌, ℕ, ◌+◌, List, ◌∷◌, ◌++◌, length, drop, inl, refl, ap, ◌∙◌, arith}
use Rattle.std.proofs.lemmas.List.{length-append}
use Rattle.dirgwako_c.specs.Numbers.{numbers_of}
use Rattle.snapshot_scan.specs.Snapshots.{as_answer}
use Rattle.dirgwako_c.proofs.Handing.{all_put}
use Rattle.dirgwako_c.proofs.numbers.hand_over_numbers.Goals as goal

pub returns : goal.returns
returns g c =
    let buffer = c.args.buffer.now in let id : ℕ = c.args.id in
    let vector = c.vector-vector.result.now in let totals = c.totals-totals.result.now in
    let numbers = numbers_of id (as_answer c.args.taken.now) in
    let is : vector ++ totals ≡ c.args.taken.now.vector ++ c.args.taken.now.totals
    = ap (λ (l : List ℕ). l ++ totals) c.vector-vector.ensures.numbers
    ∙ ap (λ (l : List ℕ). c.args.taken.now.vector ++ l) c.totals-totals.ensures.words in
    let long = length-append vector totals in let same = ap length is in
    let many : 1 + length vector + length totals ≡ length numbers = omega (arith, long, same) in (
      many,
      inl (
        refl,
        all_put buffer id vector totals c.put.new.buffer c.put-2.new.buffer c.if-len-buffer.false c.put.ensures c.put-2.ensures
            ∙ (ap (λ (l : List ℕ). (id ∷ l) ++ drop (1 + length vector + length totals) buffer) is
            ∙ ap (λ (n : ℕ). numbers ++ drop n buffer) many),
      ),
    )
