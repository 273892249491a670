use Rattle.std.proofs.Common.{lit<, ◌≡◌, ℕ, ◌<◌, ap, sym, ◌∙◌, subst, List, map, length, ◌++◌, ◌+◌, ◌-◌, All}
use Rattle.std.proofs.lemmas.List.Elements.{All-push}
use Rattle.ledger_core.specs.Ops.{width}
use Rattle.segment_layout.specs.Layout.{depth}
use Rattle.register_rule.specs.declared.seats.WorkSeat.{WorkSeat}
use Rattle.register_rule.specs.declared.view.Member.{Member}
use Rattle.register_rule.specs.Members.{first_of, new_worker, workers_from}
use Rattle.register_rule.specs.Seats.{table_of, members_of, worker_of, IsWorkSeatOf}
use Rattle.register_rule.proofs.Start.{workers_in_order, one_worker, one_more, single}
use Rattle.register_rule.proofs.board.Board.part_workers.Goals as goal

pub part-one-requires : goal.part-one-requires
part-one-requires g c = (
  lit< tt,
  (
    c.loop-i.invariant.0 ∙ c.requires.of_board,
    (_, (one_worker _ _ _ _ c.args.readers _ c.loop-i-test.true c.loop-i.invariant.1).0),
  ),
)

pub into_work-requires-clause-one : goal.into_work-requires-clause-one
into_work-requires-clause-one g c =
    single _ _ (c.part-one.ensures.one ∙ (one_worker _ _ _ _ c.args.readers _ c.loop-i-test.true c.loop-i.invariant.1).0)

pub into_work-requires-clause-is : goal.into_work-requires-clause-is
into_work-requires-clause-is g c = ap (λ (z : List Member). (first_of z).who)
    (c.part-one.ensures.one ∙ (one_worker _ _ _ _ c.args.readers _ c.loop-i-test.true c.loop-i.invariant.1).0)

pub into_work-requires-clause-counts : goal.into_work-requires-clause-counts
into_work-requires-clause-counts g c =
    sym (ap (λ (z : List Member). length (first_of z).work.made)
    (c.part-one.ensures.one ∙ (one_worker _ _ _ _ c.args.readers _ c.loop-i-test.true c.loop-i.invariant.1).0))

pub loop-i-preserved : goal.loop-i-preserved
loop-i-preserved g c =
    let is = one_worker _ _ _ _ c.args.readers _ c.loop-i-test.true c.loop-i.invariant.1 in
    let one : worker_of c.into_work.result ≡ new_worker g.row.N (width g.row.C g.row.H g.row.G)
    (depth g.row.N (width g.row.C g.row.H g.row.G)) c.loop-i.i =
    ap (λ z. first_of (members_of z)) c.into_work.ensures.same ∙ ap first_of (c.part-one.ensures.one ∙ is.0) in (
      c.part-one.ensures.table.0 ∙ c.loop-i.invariant.0,
      c.part-one.ensures.others ∙ is.1,
      subst (λ (z : List WorkSeat). map worker_of z ++ workers_from g.row.N (width g.row.C g.row.H g.row.G)
          (depth g.row.N (width g.row.C g.row.H g.row.G)) (c.loop-i.i + 1) (g.row.N - (c.loop-i.i + 1))
          ≡ workers_from g.row.N (width g.row.C g.row.H g.row.G) (depth g.row.N (width g.row.C g.row.H g.row.G)) 0 g.row.N)
          (sym c.in_ok-push.ensures.items)
          (one_more (workers_in_order g.row.N (width g.row.C g.row.H g.row.G) (depth g.row.N (width g.row.C g.row.H g.row.G)))
          worker_of c.loop-i.i g.row.N c.loop-i.work.items c.into_work.result _ c.loop-i-test.true one c.loop-i.invariant.2),
      subst (All (IsWorkSeatOf c.args.self.now)) (sym c.in_ok-push.ensures.items)
          (All-push (IsWorkSeatOf c.args.self.now) c.loop-i.work.items c.into_work.result c.loop-i.invariant.3 (
            ap table_of c.into_work.ensures.same ∙ (c.part-one.ensures.table.1 ∙ (c.loop-i.invariant.0 ∙ c.requires.of_board)),
            subst (λ (z : ℕ). z < g.row.N) (sym c.into_work.ensures.worker) c.loop-i-test.true,
          )),
    )
