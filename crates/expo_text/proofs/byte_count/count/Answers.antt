use Rattle.std.proofs.Common.{arith}
use Rattle.expo_text.proofs.Limits.{text-bounded}
use Rattle.expo_text.proofs.byte_count.count.Goals as goal

pub returns-clause-len : goal.returns-clause-len
returns-clause-len c =
    let bounded = text-bounded c.args.scrape.now c.put_groups.ensures.ordered c.put_groups.ensures.spelled in
    let count = c.put_groups.ensures.text (omega (arith, bounded)) in
    omega (arith, count)

pub returns-clause-bounded : goal.returns-clause-bounded
returns-clause-bounded c =
    let bounded = text-bounded c.args.scrape.now c.put_groups.ensures.ordered c.put_groups.ensures.spelled in
    let count = c.put_groups.ensures.text (omega (arith, bounded)) in
    omega (arith, count, bounded)
