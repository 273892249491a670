use Rattle.std.proofs.Common.{◌≡◌, ℕ, ap, sym, subst, ◌∙◌, arith}
use Rattle.ledger_core.specs.Ops.{width}
use Rattle.segment_layout.specs.Layout.{depth}
use Rattle.register_rule.specs.declared.view.Member.{Member}
use Rattle.register_rule.specs.declared.view.Who.{Who}
use Rattle.register_rule.specs.declared.view.Who.TheVariants.{Worker, Reader}
use Rattle.register_rule.specs.Members.{new_worker}
use Rattle.register_rule.specs.Seats.{worker_of, index_of}
use Rattle.library_tests.proofs.crew.new_worker.Goals as goal

abbrev number_of : Who → ℕ
number_of (Worker i) = i
number_of (Reader i) = i

pub new-requires : goal.new-requires
new-requires g c =
    let w : ℕ = width g.row.C g.row.H g.row.G in
    let same : index_of c.args.seat ≡ c.args.index =
    ap number_of (sym c.args.seat.is ∙ ap (λ (m : Member). m.who) c.requires.fresh) in (
      omega arith,
      (
        c.requires.geometry,
        (
          c.requires.of_board.1,
          subst (λ (i : ℕ). worker_of c.args.seat ≡ new_worker g.row.N w (depth g.row.N w) i)
              (sym same) c.requires.fresh,
        ),
      ),
    )
