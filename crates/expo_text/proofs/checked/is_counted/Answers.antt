use Rattle.std.proofs.Common.{ℕ, sum, ap, arith, eq-eqb, eqb-true}
use Rattle.std.proofs.lemmas.List.{take_all}
use Rattle.std.proofs.lemmas.List.Sums.{sum_by_more, sum_by_more_le}
use Rattle.expo_text.proofs.Elements.{no}
use Rattle.expo_text.proofs.checked.is_counted.Goals as goal

pub loop-bucket-preserved : goal.loop-bucket-preserved
loop-bucket-preserved c =
    let i : ℕ = c.loop-bucket.bucket-index in
    let more = sum_by_more (λ (bucket : ℕ). bucket) c.args.totals.now.buckets i 0 (omega arith) in
    let taken = c.in-Some.ensures in
    omega arith

pub returns-in-None : goal.returns-in-None
returns-in-None c =
    let i : ℕ = c.loop-bucket.bucket-index in
    let more = sum_by_more_le (λ (bucket : ℕ). bucket) c.args.totals.now.buckets i 0 (omega arith) in
    let greater = c.in-None.ensures in
    no (λ same. omega arith)

pub returns : goal.returns
returns c =
    let i : ℕ = c.loop-bucket.bucket-index in
    let all = ap sum (take_all i c.args.totals.now.buckets (omega arith)) in
    (λ is. let none = eqb-true c.loop-bucket.rest 0 is in omega arith, λ same. eq-eqb c.loop-bucket.rest 0 (omega arith))
