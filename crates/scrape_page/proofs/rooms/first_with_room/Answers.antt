use Rattle.std.proofs.Common.{◌≡◌, ◌<◌, Some, slice_get, get_or, length, All, subst, arith}
use Rattle.std.proofs.lemmas.List.{take_all}
use Rattle.std.proofs.lemmas.List.Elements.{All-more}
use Rattle.std.proofs.lemmas.Option.{slice_get-get_or}
use Rattle.registry_state.proofs.Making.{some_at}
use Rattle.scrape_page.specs.declared.family.Part.{Part}
use Rattle.scrape_page.specs.Places.{part_at}
use Rattle.scrape_page.specs.Rooms.{IsFirstWithRoom, IsFullPart}
use Rattle.scrape_page.proofs.Roomy.{full_part, room_at}
use Rattle.scrape_page.proofs.rooms.first_with_room.Goals as goal

pub returns-then-free_slots-gt0 : goal.returns-then-free_slots-gt0
returns-then-free_slots-gt0 g c =
    let C = g.row.C in let H = g.row.H in let G = g.row.G in
    let part : Part = get_or c.args.parts.now c.loop-place.place (part_at 0 0) in
    let lt : c.loop-place.place < length c.args.parts.now = c.loop-place-test.true in
    let at : slice_get c.args.parts.now c.loop-place.place ≡ Some part =
    slice_get-get_or c.args.parts.now c.loop-place.place (part_at 0 0) lt in
    some_at (IsFirstWithRoom C H G c.args.kind c.args.boards.now c.args.parts.now c.loop-place.place) c.args.parts.now
    c.loop-place.place part at (record {
      at = at;
      room = room_at C H G c.args.kind c.args.boards.now part c.index-boards-part.result c.free_slots.result
          (c.requires c.loop-place.place (part_at 0 0) lt) c.index-boards-part.is c.free_slots.ensures c.if-free_slots-gt0.true;
      full = c.loop-place.invariant;
    })

pub loop-place-preserved : goal.loop-place-preserved
loop-place-preserved g c =
    let C = g.row.C in let H = g.row.H in let G = g.row.G in
    let part : Part = get_or c.args.parts.now c.loop-place.place (part_at 0 0) in
    let lt : c.loop-place.place < length c.args.parts.now = c.loop-place-test.true in
    All-more (IsFullPart C H G c.args.kind c.args.boards.now) c.args.parts.now c.loop-place.place (part_at 0 0) lt
    c.loop-place.invariant
    (full_part C H G c.args.kind c.args.boards.now part c.index-boards-part.result c.free_slots.result
    (c.requires c.loop-place.place (part_at 0 0) lt) c.index-boards-part.is c.free_slots.ensures c.if-free_slots-gt0.false)

pub returns : goal.returns
returns g c =
    subst (All (IsFullPart g.row.C g.row.H g.row.G c.args.kind c.args.boards.now)) (take_all _ _ c.loop-place-test.false)
    c.loop-place.invariant

pub bounds-boards-part : goal.bounds-boards-part
bounds-boards-part g c = c.requires c.loop-place.place (part_at 0 0) c.loop-place-test.true

pub loop-place-init : goal.loop-place-init
loop-place-init g c = λ k d within. absurd (omega (arith, within))
