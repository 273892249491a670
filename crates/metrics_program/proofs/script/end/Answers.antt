use Rattle.std.proofs.Common.{ap, ◌∙◌, map}
use Rattle.snapshot_update.specs.Workers.{index_of}
use Rattle.metrics_program.proofs.SettledFour.{has_all}
use Rattle.metrics_program.proofs.script.end.Goals as goal

pub unreachable-requires : goal.unreachable-requires
unreachable-requires c =
    let missing = c.in_default.ensures.missing in
    missing.none (has_all c.deref_mut.result.now (ap (map index_of) c.deref_mut.ensures.value ∙ c.requires.all) _ missing.inside)
