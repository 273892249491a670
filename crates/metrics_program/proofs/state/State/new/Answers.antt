use Rattle.std.proofs.Common.{refl, ap}
use Rattle.registry_state.specs.Kept.{RegistryView}
use Rattle.metrics_program.proofs.Readying.{Scans}
use Rattle.metrics_program.proofs.state.State.new.Goals as goal

pub returns-in-Ok-clause-fresh : goal.returns-in-Ok-clause-fresh
returns-in-Ok-clause-fresh c =
    let made = c.in-Ok.ensures.made in
    record {
      board_is = refl;
      workers_are = refl;
      journal = ap (λ (r : RegistryView Scans). r.journal) made;
      families = ap (λ (r : RegistryView Scans). r.state) made;
      window = ap (λ (r : RegistryView Scans). r.window) made;
      children = c.in_ok-queue.ensures.children;
      queue = c.in_ok-queue.ensures.lists;
    }
