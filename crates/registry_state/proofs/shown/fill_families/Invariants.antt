use Rattle.std.proofs.Common.{◌≡◌, ◌++◌, take, drop}
use Rattle.registry_state.specs.Filled.{blanks, arranged}
use Rattle.registry_state.proofs.shown.fill_families.Given as goal

abbrev pub invariant-loop-place : goal.invariant-loop-place
invariant-loop-place g l =
    l.shown ≡ arranged g.row.C g.row.H l.snapshot.totals l.families (take l.place l.order) ++ blanks l.families
    (drop l.place l.order)
