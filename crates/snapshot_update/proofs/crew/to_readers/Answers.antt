use Rattle.std.proofs.Common.{rules, ◌≡◌, List, map, length, All, sym, ap, ◌∙◌, subst, arith}
use Rattle.std.proofs.lemmas.List.{length_push, length-map}
use Rattle.ledger_core.specs.Ops.{width}
use Rattle.register_rule.specs.declared.seats.ReadSeat.{ReadSeat}
use Rattle.register_rule.specs.Members.{readers_from}
use Rattle.register_rule.specs.Seats.{reader_of, IsReadSeatOf}
use Rattle.snapshot_scan.specs.declared.reader.Reader.{Reader}
use Rattle.snapshot_scan.specs.Order.{IsAlone}
use Rattle.snapshot_scan.specs.Readers.{IsReaderOf, scan_by, index_of as reader_index}
use Rattle.std.specs.Vec.Iter.{into_iter_items}
use Rattle.snapshot_update.proofs.Seating.{length-readers_from, next_reader, next_all, one_more, one_more_same, all_more}
use Rattle.snapshot_update.proofs.crew.to_readers.Goals as goal

pub loop-seat-init : goal.loop-seat-init
loop-seat-init g c =
    let began = c.into_iter-seat-iterator.ensures.into_iter_gives.0 in
    let w = width g.row.C g.row.H g.row.G in
    let long = sym (length-map c.args.seats.items reader_of)
    ∙ (ap length c.requires.fresh ∙ length-readers_from g.row.N w 0 c.args.all) in
    record {
      of_board = subst (λ (z : List ReadSeat). All (IsReadSeatOf c.args.board.now) z) (sym began) c.requires.of_board;
      count = omega (
        arith,
        ap (length {A = ReadSeat}) began,
        long,
        ap (length {A = Reader g.row.N g.row.C g.row.H g.row.G}) c.new-readers.ensures.items,
      );
      fresh = subst (λ (z : List (Reader g.row.N g.row.C g.row.H g.row.G)). map reader_of
          (into_iter_items c.into_iter-seat-iterator.result) ≡ readers_from g.row.N w (length z)
          (length (into_iter_items c.into_iter-seat-iterator.result))) (sym c.new-readers.ensures.items)
          (subst (λ (z : List ReadSeat). map reader_of z ≡ readers_from g.row.N w 0 (length z)) (sym began)
          (c.requires.fresh ∙ ap (readers_from g.row.N w 0) (sym long)));
      made = search rules;
      alone = search rules;
      index = search rules;
      order = search rules;
      scans = search rules;
    }

pub loop-seat-preserved : goal.loop-seat-preserved
loop-seat-preserved g c =
    let inv = c.loop-seat.invariant in
    let step = c.in-Some.ensures.steps.0 in
    let w = width g.row.C g.row.H g.row.G in
    let rest = into_iter_items c.next.new.self in
    let long = ap (length {A = Reader g.row.N g.row.C g.row.H g.row.G}) c.in_ok-push.ensures.items
    ∙ length_push c.loop-seat.readers.items c.in_ok-to_reader.field-0 in
    record {
      of_board = (next_all (IsReadSeatOf c.args.board.now) _ rest c.in-Some.seat step inv.of_board).1;
      count = omega (arith, ap (length {A = ReadSeat}) step, inv.count, long);
      fresh = (next_reader g.row.N w (length c.loop-seat.readers.items) _ rest c.in-Some.seat step inv.fresh).1
          ∙ ap (λ z. readers_from g.row.N w z (length rest)) (omega (arith, long));
      made = all_more (IsReaderOf c.args.board.now) _ _ _ c.in_ok-push.ensures.items inv.made c.in_ok-to_reader.ensures.of_board;
      alone = all_more IsAlone _ _ _ c.in_ok-push.ensures.items inv.alone c.in_ok-to_reader.ensures.alone;
      index = omega (arith, long, inv.index);
      order = one_more reader_index _ _ _ _ c.in_ok-push.ensures.items inv.order c.in_ok-to_reader.ensures.index;
      scans = one_more_same scan_by _ _ _ _ _ c.in_ok-push.ensures.items inv.scans c.in_ok-to_reader.ensures.scan;
    }
