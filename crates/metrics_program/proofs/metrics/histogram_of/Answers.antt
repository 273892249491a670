use Rattle.std.proofs.Common.{ap, ◌∙◌}
use Rattle.registry_state.specs.Kept.{RegistryView}
use Rattle.snapshot_scan.specs.declared.scanner.Scanner.{Scanner}
use Rattle.metrics_program.specs.Services.{IsSameBoard}
use Rattle.metrics_program.proofs.ChildOf.{given_board}
use Rattle.metrics_program.proofs.metrics.histogram_of.Goals as goal

pub returns-in-Ok-Histogram-clause-same : goal.returns-in-Ok-Histogram-clause-same
returns-in-Ok-Histogram-clause-same c =
    let registered = c.in-Ok.ensures.registered in
    let board : IsSameBoard c.register.new.self c.child.new.self = given_board 64 8 16 _ _ _ _ _ c.in-Ok-Histogram.ensures.given
    in
    record {
      source = board.source ∙ ap (λ (r : RegistryView (Scanner 4 64 8 16)). r.source) registered;
      id = board.id ∙ ap (λ (r : RegistryView (Scanner 4 64 8 16)). r.id) registered;
    }
