use Rattle.std.proofs.Common.{rules, arith, ℕ, ◌≡◌, ◌+◌, ◌*◌, ◌<◌, length, sym, subst}
use lib.Arith.{digits_lt}
use Rattle.ledger_core.specs.Ops.{width}
use Rattle.segment_layout.specs.Layout.{depth, span}
use Rattle.register_rule.specs.Seats.{worker_of}
use Rattle.register_rule.specs.Words.{version_item}
use Rattle.register_rule.proofs.Keeping.{fill_allows}
use Rattle.register_rule.proofs.Words.{item_lt}
use Rattle.register_rule.proofs.board.Board.fill_at.Goals as goal

pub store_as-requires : goal.store_as-requires
store_as-requires g c =
    let b : ℕ = depth g.row.N (width g.row.C g.row.H g.row.G) in let seat = c.args.seat.now in
    let i : ℕ = seat.worker in let made : ℕ = length (worker_of seat).work.made in
    let inside : i * span b + version_item b (made + 1) c.args.item < g.row.N * span b =
    digits_lt c.requires.of_board.1 (item_lt b (made + 1) c.args.item c.requires.inside) in
    let start = c.requires.start in
    let at : c.args.start + c.args.item ≡ i * span b + version_item b (made + 1) c.args.item = omega (arith, start) in (
      search rules,
      subst (λ (z : ℕ). z < c.args.self.now.table.shared.table_id.words) (sym at)
          (subst (λ (z : ℕ). i * span b + version_item b (made + 1) c.args.item < z) (sym c.args.self.now.sized.1) inside),
      fill_allows _ _ _ _ _ _ _ _ _ i c.args.item c.args.word _ seat.alone seat.is c.requires.inside (omega arith)
          c.requires.bounded (subst (λ (z : ℕ). c.args.start + c.args.item ≡ i * span b + version_item b z c.args.item)
          (omega arith) at),
    )
