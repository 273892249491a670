use Rattle.std.proofs.Common.{◌≡◌, ap, sym, ◌∙◌}
use Rattle.register_rule.specs.Seats.{board_id}
use Rattle.snapshot_scan.specs.Scanners.{board_in}
use Rattle.snapshot_scan.specs.declared.scanner.Scanner.{Scanner}
use Rattle.registry_state.specs.Kept.{RegistryView}
use Rattle.metric_registry.specs.Naming.{name_of}
use Rattle.metric_registry.proofs.registry.RegistryOf.new.Goals as goal

pub invariant_of-new-clause-is_of : goal.invariant_of-new-clause-is_of
invariant_of-new-clause-is_of g c =
    let made = c.in-Ok.ensures.made in
    let here : board_in c.in-Ok.state.source ≡ c.args.board.now =
    ap (λ (r : RegistryView (Scanner g.row.N g.row.C g.row.H g.row.G)). board_in r.source) made ∙ c.new.ensures.board in
    let id : c.in-Ok.state.id ≡ board_id (board_in c.in-Ok.state.source) =
    ap (λ (r : RegistryView (Scanner g.row.N g.row.C g.row.H g.row.G)). r.id) made ∙ c.id.ensures ∙ sym (ap board_id here) in
    (λ x named. ap name_of here ∙ c.requires.named x named, id)
