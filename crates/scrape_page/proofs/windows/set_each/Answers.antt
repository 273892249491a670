use Rattle.std.proofs.Common.{◌++◌, map, sym, ap, ap₂, ◌∙◌, append-nil, refl, arith}
use Rattle.std.proofs.lemmas.List.{take_all, drop_all}
use Rattle.std.proofs.lemmas.List.Edits.{map_over_more}
use Rattle.std.specs.Prelude.{slice_set, List}
use Rattle.registry_state.specs.Kept.{RegistryView}
use Rattle.scrape_page.specs.Windows.{with_window}
use Rattle.scrape_page.proofs.windows.set_each.Goals as goal

pub loop-at-preserved : goal.loop-at-preserved
loop-at-preserved g c =
    ap (slice_set c.loop-at.boards c.loop-at.at) (c.in-Ok.ensures.set ∙ ap (with_window c.args.window) (sym c.index-boards-at.is))
    ∙ map_over_more (with_window c.args.window) c.args.boards.now c.loop-at.boards c.loop-at.at c.index-boards-at.result
    c.loop-at-test.true c.loop-at.invariant c.index-boards-at.is

pub returns : goal.returns
returns g c =
    let old = c.args.boards.now in
    c.loop-at.invariant
    ∙ (ap₂ (λ (front back : List (RegistryView g.row.S.Denot)). map (with_window c.args.window) front ++ back)
    (take_all c.loop-at.at old c.loop-at-test.false) (drop_all c.loop-at.at old c.loop-at-test.false)
    ∙ append-nil (map (with_window c.args.window) old))

pub loop-at-init : goal.loop-at-init
loop-at-init g c = refl

pub bounds-boards-at : goal.bounds-boards-at
bounds-boards-at g c = let same = c.loop-at.auto.boards in let lt = c.loop-at-test.true in omega (arith, same, lt)

pub unreachable-requires : goal.unreachable-requires
unreachable-requires g c = c.in-Err.ensures.refused c.requires
