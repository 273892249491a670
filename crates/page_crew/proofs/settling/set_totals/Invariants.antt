use Rattle.std.proofs.Common.{◌≡◌, ℕ, ◌<◌, length}
use mathlib.Core.Option.{some}
use lib.ListN.{get_elem?}
use Rattle.ledger_core.specs.Ops.{width}
use Rattle.page_crew.specs.Settling.{published_on}
use Rattle.page_crew.proofs.settling.set_totals.Given as goal

abbrev pub invariant-loop-word : goal.invariant-loop-word
invariant-loop-word g l = record {
  totals : (k : ℕ) → k < l.word → get_elem? l.out.totals k ≡ some (published_on l.board l.recorders k);
  wide : length l.out.totals ≡ width g.row.C g.row.H g.row.G;
  vector : l.out.vector ≡ l.fn.out.vector;
}
