use Rattle.std.proofs.Common.{◌<◌, length, get_or, All, subst, arith}
use Rattle.std.proofs.lemmas.List.{get_or_default, take_all}
use Rattle.std.proofs.lemmas.List.Elements.{All-more}
use Rattle.registry_state.specs.Replay.{Family, IsNew}
use Rattle.registry_state.specs.Calls.{IsFound}
use Rattle.registry_state.specs.Kept.{RegistryView}
use Rattle.registry_state.proofs.Making.{some_at, some_within}
use Rattle.scrape_page.specs.declared.family.Part.{Part}
use Rattle.scrape_page.specs.Places.{part_at, HasPart}
use Rattle.scrape_page.proofs.Listed.{part_board, part_new}
use Rattle.scrape_page.proofs.finding.find_child.Goals as goal

pub loop-part-init : goal.loop-part-init
loop-part-init g c = λ k d within. absurd (omega (arith, within))

pub bounds-boards-part : goal.bounds-boards-part
bounds-boards-part g c =
    some_within _ c.args.boards.now _ (c.requires c.loop-part.part-index (part_at 0 0) c.loop-part-test.true)

pub returns-in-Some-clause-found : goal.returns-in-Some-clause-found
returns-in-Some-clause-found g c =
    let part : Part = get_or c.args.parts.now c.loop-part.part-index (part_at 0 0) in
    let lt : c.loop-part.part-index < length c.args.parts.now = c.loop-part-test.true in (
      c.loop-part.part-index,
      part,
      lt,
      get_or_default c.args.parts.now c.loop-part.part-index part (part_at 0 0) lt,
      some_at (λ (board : RegistryView g.row.S.Denot). IsFound board.id board.state.families part.family.number c.args.values.now
          c.in-Some.handle)
          c.args.boards.now part.board c.index-boards-part.result (part_board c.args.boards.now part c.index-boards-part.result
          (c.requires c.loop-part.part-index (part_at 0 0) lt) c.index-boards-part.is) c.in-Some.ensures.found,
    )

pub returns-in-Some-clause-inside : goal.returns-in-Some-clause-inside
returns-in-Some-clause-inside g c = c.in-Some.ensures.inside

pub loop-part-preserved : goal.loop-part-preserved
loop-part-preserved g c =
    let P : Part → Type 0 = λ (part : Part). HasPart c.args.boards.now part
    (λ (board : RegistryView g.row.S.Denot) (family : Family). IsNew family c.args.values.now) in
    let lt : c.loop-part.part-index < length c.args.parts.now = c.loop-part-test.true in
    All-more P c.args.parts.now c.loop-part.part-index (part_at 0 0) lt c.loop-part.invariant
    (part_new c.args.boards.now (get_or c.args.parts.now c.loop-part.part-index (part_at 0 0)) c.index-boards-part.result
    (c.requires c.loop-part.part-index (part_at 0 0) lt) c.index-boards-part.is c.args.values.now c.in_default.ensures.found)

pub returns-clause-found : goal.returns-clause-found
returns-clause-found g c =
    subst (All (λ (part : Part). HasPart c.args.boards.now part
    (λ (board : RegistryView g.row.S.Denot) (family : Family). IsNew family c.args.values.now)))
    (take_all _ _ c.loop-part-test.false) c.loop-part.invariant

pub returns-clause-inside : goal.returns-clause-inside
returns-clause-inside g c = tt
