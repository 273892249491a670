use Rattle.std.proofs.Common.{lit<, ◌≡◌, ap, sym, ◌∙◌, subst, List, map, ◌++◌, ◌+◌, ◌-◌, All}
use Rattle.std.proofs.lemmas.List.Elements.{All-push}
use Rattle.ledger_core.specs.Ops.{width}
use Rattle.register_rule.specs.declared.seats.ReadSeat.{ReadSeat}
use Rattle.register_rule.specs.declared.view.Member.{Member}
use Rattle.register_rule.specs.Members.{first_of, new_reader, readers_from}
use Rattle.register_rule.specs.Seats.{table_of, members_of, reader_of, IsReadSeatOf}
use Rattle.register_rule.proofs.Start.{readers_in_order, one_reader, one_more, single}
use Rattle.register_rule.proofs.board.Board.part_readers.Goals as goal

pub part-one-requires : goal.part-one-requires
part-one-requires g c = (
  lit< tt,
  (
    c.loop-i.invariant.0 ∙ c.requires.of_board,
    (_, (one_reader _ _ _ c.args.readers _ c.loop-i-test.true c.loop-i.invariant.1).0),
  ),
)

pub into_read-requires-clause-one : goal.into_read-requires-clause-one
into_read-requires-clause-one g c =
    single _ _ (c.part-one.ensures.one ∙ (one_reader _ _ _ c.args.readers _ c.loop-i-test.true c.loop-i.invariant.1).0)

pub into_read-requires-clause-is : goal.into_read-requires-clause-is
into_read-requires-clause-is g c = ap (λ (z : List Member). (first_of z).who)
    (c.part-one.ensures.one ∙ (one_reader _ _ _ c.args.readers _ c.loop-i-test.true c.loop-i.invariant.1).0)

pub loop-i-preserved : goal.loop-i-preserved
loop-i-preserved g c =
    let is = one_reader _ _ _ c.args.readers _ c.loop-i-test.true c.loop-i.invariant.1 in
    let one : reader_of c.into_read.result ≡ new_reader g.row.N (width g.row.C g.row.H g.row.G) c.loop-i.i =
    ap (λ z. first_of (members_of z)) c.into_read.ensures.same ∙ ap first_of (c.part-one.ensures.one ∙ is.0) in (
      c.part-one.ensures.table.0 ∙ c.loop-i.invariant.0,
      c.part-one.ensures.others ∙ is.1,
      subst (λ (z : List ReadSeat). map reader_of z ++ readers_from g.row.N (width g.row.C g.row.H g.row.G) (c.loop-i.i + 1)
          (c.args.readers - (c.loop-i.i + 1)) ≡ readers_from g.row.N (width g.row.C g.row.H g.row.G) 0 c.args.readers)
          (sym c.in_ok-push.ensures.items)
          (one_more (readers_in_order g.row.N (width g.row.C g.row.H g.row.G)) reader_of c.loop-i.i c.args.readers
          c.loop-i.read.items c.into_read.result _ c.loop-i-test.true one c.loop-i.invariant.2),
      subst (All (IsReadSeatOf c.args.self.now)) (sym c.in_ok-push.ensures.items)
          (All-push (IsReadSeatOf c.args.self.now) c.loop-i.read.items c.into_read.result c.loop-i.invariant.3
          (ap table_of c.into_read.ensures.same ∙ (c.part-one.ensures.table.1 ∙ (c.loop-i.invariant.0 ∙ c.requires.of_board)))),
    )
