use Rattle.std.proofs.Common.{rules, arith}
use Rattle.scrape_history.proofs.Increasing.{fit_here, raised_here}
use Rattle.scrape_history.proofs.increase.raise.Goals as goal

pub add_to-requires : goal.add_to-requires
add_to-requires g c = (
  search rules,
  fit_here _ _ c.args.snapshot.now _ c.args.increases.now.items c.loop-place.place _ c.loop-place.invariant
      c.index.ensures (omega arith) c.requires.fit,
)

pub loop-place-preserved : goal.loop-place-preserved
loop-place-preserved g c =
    rw c.add_to.ensures (raised_here 0 0 c.args.snapshot.now _ c.args.increases.now.items c.loop-place.place _
    c.loop-place.invariant c.index.ensures (omega arith))
