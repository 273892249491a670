use Rattle.std.proofs.Common.{◌≡◌, ◌++◌, take, drop, map}
use Rattle.registry_state.specs.Shown.{child_shown}
use Rattle.registry_state.specs.Filled.{child_blank}
use Rattle.registry_state.proofs.shown.fill_children.Given as goal

abbrev pub invariant-loop-place : goal.invariant-loop-place
invariant-loop-place g l =
    l.shown ≡ map (child_shown g.row.C g.row.H l.snapshot.totals l.kind) (take l.place l.children) ++ map (child_blank l.kind)
    (drop l.place l.children)
