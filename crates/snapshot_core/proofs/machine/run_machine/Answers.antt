use Rattle.std.proofs.Common.{◌≡◌, ℕ, length, rules, ◌∙◌, sym, ap}
use Rattle.snapshot_core.specs.Machine.{World, happens, world_of, world_at}
use Rattle.snapshot_core.proofs.Mirror.{world_next}
use Rattle.snapshot_core.proofs.machine.run_machine.Goals as goal

pub loop-at-preserved : goal.loop-at-preserved
loop-at-preserved g c = record {
  same = c.in_ok-happen.ensures.same ∙ c.loop-at.invariant.same;
  world = c.in_ok-happen.ensures.world
      ∙ ap (λ (n : ℕ). happens g.row.C g.row.H g.row.G n c.args.events.now (world_of c.loop-at.machine) c.loop-at.at
      c.index-events-at.result) c.loop-at.invariant.same
      ∙ ap (λ (w : World). happens g.row.C g.row.H g.row.G c.args.n c.args.events.now w c.loop-at.at c.index-events-at.result)
      c.loop-at.invariant.world
      ∙ sym (world_next g.row.C g.row.H g.row.G c.args.n c.args.events.now c.loop-at.at c.index-events-at.result
      (search rules) c.index-events-at.is);
}

pub loop-at-init : goal.loop-at-init
loop-at-init g c = record { same = c.in_ok-machine.ensures.same; world = c.in_ok-machine.ensures.world }

pub returns : goal.returns
returns g c =
    let k : c.loop-at.at ≡ length c.args.events.now = search rules in
    c.loop-at.invariant.world ∙ ap (world_at g.row.C g.row.H g.row.G c.args.n c.args.events.now) k
