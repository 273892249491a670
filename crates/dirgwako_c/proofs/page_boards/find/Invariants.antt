use Rattle.std.proofs.Common.{◌≡◌, ◌≢◌, All, take}
use Rattle.page_crew.specs.Owned.{page_of}
use Rattle.dirgwako_c.specs.Numbers.{Board}
use Rattle.dirgwako_c.proofs.page_boards.find.Given as goal

abbrev pub invariant-loop-place : goal.invariant-loop-place
invariant-loop-place g l = record {
  none : All (λ (board : Board g.row.N g.row.C g.row.H g.row.G). board.id ≢ l.id) (take l.place (page_of l.owner).boards);
  same : l.number ≡ l.fn.number;
}
