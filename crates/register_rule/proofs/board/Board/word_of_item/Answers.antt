use Rattle.std.proofs.Common.{arith, ℕ, ◌≡◌, ◌+◌, ◌*◌, ◌%◌, ◌<◌, ap, sym, subst}
use lib.Arith.{digits_lt}
use Rattle.ledger_core.specs.Ops.{width}
use Rattle.segment_layout.specs.Layout.{depth, span}
use Rattle.register_rule.specs.Words.{version_item}
use Rattle.register_rule.proofs.Words.{item_lt, place_is}
use Rattle.register_rule.proofs.board.Board.word_of_item.Goals as goal

pub returns-clause-place : goal.returns-clause-place
returns-clause-place g c =
    let b : ℕ = depth g.row.N (width g.row.C g.row.H g.row.G) in
    let p : ℕ = c.args.version % 2 * c.buffer_words.result in
    let q : ℕ = c.args.version % 2 * b in
    let same : p ≡ q = ap (λ (z : ℕ). c.args.version % 2 * z) c.buffer_words.ensures in
    let i : ℕ = c.args.segment * span b in
    let number : c.word_of_number.result ≡ i + 0 = c.word_of_number.ensures.0 in
    let sum : c.word_of_number.result + 1 + p + c.args.item ≡ i + (1 + q + c.args.item) = omega arith in
    let inside : i + version_item b c.args.version c.args.item < g.row.N * span b =
    digits_lt c.requires.0 (item_lt b c.args.version c.args.item c.requires.1) in (
      sum,
      subst (λ (z : ℕ). z < c.args.self.now.table.shared.table_id.words) (sym sum)
          (subst (λ (z : ℕ). i + version_item b c.args.version c.args.item < z) (sym c.args.self.now.sized.1) inside),
    )

pub returns-clause-part : goal.returns-clause-part
returns-clause-part g c = place_is g.row.N (width g.row.C g.row.H g.row.G) c.args.segment c.args.version c.args.item _
    (returns-clause-place g c).0
