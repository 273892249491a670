use Rattle.std.proofs.Common.{◌+◌, subst, sym}
use Rattle.std.proofs.lemmas.Bool.{iff_false}
use Rattle.scrape_page.specs.declared.rooms.Room.{Room}
use Rattle.scrape_page.proofs.Roomy.{Beats, IsBest, best_none, best_stays, best_new, best_all, full_all}
use Rattle.scrape_page.proofs.rooms.roomiest.Goals as goal
use Rattle.scrape_page.proofs.rooms.roomiest.Goals.{then-beats, else-beats}

pub loop-board-init : goal.loop-board-init
loop-board-init g c =
    best_none g.row.C g.row.H g.row.G c.args.kind c.args.boards.now c.index-boards-0.result c.free_slots.result
    c.family_count.result c.requires c.index-boards-0.is c.free_slots.ensures c.family_count.ensures

pub loop-board-preserved : goal.loop-board-preserved
loop-board-preserved g c =
    let C = g.row.C in let H = g.row.H in let G = g.row.G in
    let P : Room → Type 0 = λ (best : Room). IsBest C H G c.args.kind c.args.boards.now (c.loop-board.board + 1) best.board
    best.free best.families in
    elim c.if-beats.branch [
      | then-beats w ↦ subst P (sym w.best-is)
          (best_new C H G c.args.kind c.args.boards.now c.loop-board.board c.loop-board.best.board c.loop-board.best.free
          c.loop-board.best.families c.index-boards-board.result c.free_slots-in-loop-board.result
          c.family_count-in-loop-board.result c.loop-board.invariant c.loop-board-test.true c.index-boards-board.is
          c.free_slots-in-loop-board.ensures c.family_count-in-loop-board.ensures (c.beats.ensures.0 w.if-beats.true))
      | else-beats w ↦ subst P (sym w.best-is)
          (best_stays C H G c.args.kind c.args.boards.now c.loop-board.board c.loop-board.best.board c.loop-board.best.free
          c.loop-board.best.families c.index-boards-board.result c.free_slots-in-loop-board.result
          c.family_count-in-loop-board.result c.loop-board.invariant c.loop-board-test.true c.index-boards-board.is
          c.free_slots-in-loop-board.ensures c.family_count-in-loop-board.ensures (iff_false
          {P = Beats c.free_slots-in-loop-board.result c.family_count-in-loop-board.result c.loop-board.best.free
          c.loop-board.best.families} c.beats.ensures w.if-beats.false))
    ]

pub returns : goal.returns
returns g c = record {
  roomiest = best_all g.row.C g.row.H g.row.G c.args.kind c.args.boards.now c.loop-board.board c.loop-board.best.board
      c.loop-board.best.free c.loop-board.best.families c.loop-board-test.false c.loop-board.invariant;
  full = full_all g.row.C g.row.H g.row.G c.args.kind c.args.boards.now c.loop-board.board c.loop-board.best.board
      c.loop-board.best.free c.loop-board.best.families c.loop-board-test.false c.loop-board.invariant;
}
