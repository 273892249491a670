use Rattle.std.proofs.Common.{rules, ◌≡◌, List, map, length, All, sym, ap, ◌∙◌, subst, arith}
use Rattle.std.proofs.lemmas.List.{length-map}
use Rattle.ledger_core.specs.Ops.{width}
use Rattle.segment_layout.specs.Layout.{depth}
use Rattle.register_rule.specs.declared.seats.WorkSeat.{WorkSeat}
use Rattle.register_rule.specs.Members.{workers_from}
use Rattle.register_rule.specs.Seats.{worker_of, IsWorkSeatOf}
use Rattle.snapshot_update.specs.Workers.{index_of, lists_of, scan_by, IsWorkerOf}
use Rattle.std.specs.Vec.Iter.{into_iter_items}
use Rattle.snapshot_update.proofs.Seating.{length-workers_from, next_worker, next_all, one_more, one_more_same, all_more}
use Rattle.snapshot_update.proofs.crew.to_workers.Goals as goal

pub loop-seat-init : goal.loop-seat-init
loop-seat-init g c =
    let began = c.into_iter-seat-iterator.ensures.into_iter_gives.0 in
    let w = width g.row.C g.row.H g.row.G in
    let d = depth g.row.N w in
    let long = sym (length-map c.args.seats.items worker_of)
    ∙ (ap length c.requires.fresh ∙ length-workers_from g.row.N w d 0 g.row.N) in
    record {
      of_board = subst (λ (z : List WorkSeat). All (IsWorkSeatOf c.args.board.now) z) (sym began) c.requires.of_board;
      count = omega (arith, ap (length {A = WorkSeat}) began, long);
      fresh = subst (λ (z : List WorkSeat). map worker_of z ≡ workers_from g.row.N w d 0 (length z)) (sym began)
          (c.requires.fresh ∙ ap (workers_from g.row.N w d 0) (sym long));
      made = search rules;
      all = search rules;
      new = search rules;
      scans = search rules;
    }

pub loop-seat-preserved : goal.loop-seat-preserved
loop-seat-preserved g c =
    let inv = c.loop-seat.invariant in
    let step = c.in-Some.ensures.steps.0 in
    let w = width g.row.C g.row.H g.row.G in
    let d = depth g.row.N w in
    let rest = into_iter_items c.next.new.self in
    record {
      of_board = (next_all (IsWorkSeatOf c.args.board.now) _ rest c.in-Some.seat step inv.of_board).1;
      count = omega (arith, ap (length {A = WorkSeat}) step, inv.count);
      fresh = (next_worker g.row.N w d c.loop-seat.index _ rest c.in-Some.seat step inv.fresh).1;
      made = all_more (IsWorkerOf c.args.board.now) _ _ _ c.in_ok-push.ensures.items inv.made c.in_ok-to_worker.ensures.of_board;
      all = one_more index_of _ _ _ _ c.in_ok-push.ensures.items inv.all c.in_ok-to_worker.ensures.index;
      new = one_more_same lists_of _ _ _ _ _ c.in_ok-push.ensures.items inv.new c.in_ok-to_worker.ensures.lists;
      scans = one_more_same scan_by _ _ _ _ _ c.in_ok-push.ensures.items inv.scans c.in_ok-to_worker.ensures.scan;
    }
