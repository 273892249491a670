use Rattle.std.proofs.Common.{◌≡◌, ◌≤◌, ◌++◌}
use Rattle.std.specs.List.{AllZip}
use Rattle.std.specs.Vec.{vec_len, vec_capacity}
use Rattle.std.specs.Vec.Iter.{into_iter_items}
use Rattle.scrape_merge.specs.Held.{IsShown}
use Rattle.scrape_merge.proofs.showing.show_all.Given as goal

-- the families so far are shown, and there is room for all
abbrev pub invariant-loop-frame : goal.invariant-loop-frame
invariant-loop-frame l = record {
  split : l.fn.frames.items ≡ l.yielded ++ into_iter_items l.frame-iterator;
  shown : AllZip IsShown l.yielded l.shown.items;
  room : vec_len l.fn.frames ≤ vec_capacity l.shown;
}
