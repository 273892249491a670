use Rattle.std.proofs.Common.{◌≡◌, ◌≤◌, length, ap, subst, ◌∙◌, arith}
use Rattle.std.specs.Prelude.{Some, slice_get}
use Rattle.registry_state.specs.Journal.{scrapes}
use Rattle.snapshot_scan.specs.Snapshots.{as_answer}
use Rattle.dirgwako_c.proofs.Newest.{replays_last, none_left, newest_at}
use Rattle.dirgwako_c.proofs.readings.newest.Goals as goal

pub unreachable-requires : goal.unreachable-requires
unreachable-requires g c =
    let board = c.args.board.now in
    let last = replays_last g.row.N g.row.C g.row.H g.row.G board.journal board.state c.journal-journal.ensures.kept.replays in
    let some : 1 ≤ length (scrapes board.journal) = none_left (scrapes board.journal) board.state.last last c.requires in
    let kept = c.kept-kept.ensures in
    let count : c.len.result ≡ length (scrapes board.journal) = c.len.ensures ∙ ap length kept in
    c.in_default.ensures (omega (arith, some, count))

pub returns : goal.returns
returns g c =
    let board = c.args.board.now in
    let last = replays_last g.row.N g.row.C g.row.H g.row.G board.journal board.state c.journal-journal.ensures.kept.replays in
    let kept = c.kept-kept.ensures in let (some, is) = c.in-Some.ensures in
    let count : c.len.result ≡ length (scrapes board.journal) = c.len.ensures ∙ ap length kept in
    last ∙ newest_at (scrapes board.journal) c.in-Some.number (as_answer c.read.new.out) (omega (arith, some, is, count))
    (subst (λ l. slice_get l c.in-Some.number ≡ Some (as_answer c.read.new.out)) kept c.read.ensures)
