use Rattle.std.proofs.Common.{◌≡◌, length, rules, arith}
use Rattle.snapshot_core.proofs.Summing.{added_step}
use Rattle.snapshot_core.proofs.words.add.Goals as goal

pub loop-k-preserved : goal.loop-k-preserved
loop-k-preserved g c =
    let l : c.len.result ≡ length c.args.words.now.items = search rules in
    let r : c.len-2.result ≡ length c.args.row.now = c.len-2.ensures.within in
    let m = c.min-both.ensures in let t = c.loop-k-test.true in
    added_step c.loop-k.k c.args.words.now.items c.loop-k.words.items c.args.row.now c.index.result.now c.word_at.result
    c.loop-k.invariant c.index.ensures c.word_at.ensures.word (omega arith) (omega arith)
