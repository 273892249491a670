use Rattle.std.proofs.Common.{ap, sym, subst, ◌∙◌}
use Rattle.snapshot_scan.specs.Scanners.{board_in}
use Rattle.snapshot_scan.specs.declared.scanner.Scanner.{Scanner}
use Rattle.registry_state.specs.Kept.{RegistryView}
use Rattle.registry_state.specs.Replay.{Replays}
use Rattle.metrics_program.specs.Families.{AreRegistered}
use Rattle.metrics_program.proofs.serve.Service.new.Goals as goal

pub returns : goal.returns
returns c =
    let same = c.in-Ok-new.ensures.same in
    let made = c.in-Ok.ensures.made in
    record {
      scans = ap (λ (r : RegistryView (Scanner 4 64 8 16)). board_in r.source) c.registry.view_is
          ∙ (ap board_in same.source
          ∙ (ap (λ (r : RegistryView (Scanner 4 64 8 16)). board_in r.source) made ∙ c.new-source.ensures.board));
      id = ap (λ (r : RegistryView (Scanner 4 64 8 16)). r.id) c.registry.view_is
          ∙ (same.id ∙ (ap (λ (r : RegistryView (Scanner 4 64 8 16)). r.id) made ∙ c.id.ensures));
      replays = subst (λ (r : RegistryView (Scanner 4 64 8 16)). Replays 4 64 8 16 r.journal r.state) (sym c.registry.view_is)
          c.journal.ensures.kept.replays;
      six = c.in-Ok-new.ensures.six;
      registered = subst (λ (r : RegistryView (Scanner 4 64 8 16)). AreRegistered r.id r.state.families c.in-Ok-new.metrics)
          (sym c.registry.view_is) c.in-Ok-new.ensures.registered;
    }
