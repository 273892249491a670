use Rattle.std.proofs.Common.{◌≡◌, ℕ, ◌<◌, length}
use mathlib.Core.Option.{some}
use lib.ListN.{get_elem?}
use Rattle.ledger_core.specs.Ops.{width}
use Rattle.dirgwako_c.specs.Registries.{recorders_in}
use Rattle.dirgwako_c.specs.Settling.{seats_on, published_in}
use Rattle.dirgwako_c.proofs.settling.set_totals.Given as goal

abbrev pub invariant-loop-word : goal.invariant-loop-word
invariant-loop-word g l = record {
  totals : (k : ℕ) → k < l.word → get_elem? l.out.totals k ≡ some (published_in (seats_on l.board (recorders_in l.spare)) k);
  wide : length l.out.totals ≡ width g.row.C g.row.H g.row.G;
  vector : l.out.vector ≡ l.fn.out.vector;
}
