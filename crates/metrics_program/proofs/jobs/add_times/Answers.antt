use Rattle.std.proofs.Common.{◌<◌, arith}
use Rattle.std.specs.Vec.{vec_len, vec_capacity}
use Rattle.metrics_program.proofs.Pushed.{pushed_more, one_longer}
use Rattle.metrics_program.proofs.jobs.add_times.Goals as goal

pub loop-turn-preserved : goal.loop-turn-preserved
loop-turn-preserved g c =
    let inv = c.loop-turn.invariant in
    let more = c.loop-turn-test.true in
    let room : vec_len c.loop-turn.list < vec_capacity c.loop-turn.list = let left = inv.1 in omega (arith, left, more) in
    let ok = c.push.ensures.succeeds room in (
      pushed_more c.push.result _ _ _ _ _ ok c.push.ensures.items inv.0,
      let left = inv.1 in
          let longer = one_longer c.push.result _ _ ok c.push.ensures.len in
          let wide = c.push.ensures.capacity in
          omega (arith, left, longer, wide),
    )
