use Rattle.std.proofs.Common.{All, take}
use Rattle.scrape_page.specs.Rooms.{IsFullPart}
use Rattle.scrape_page.proofs.rooms.first_with_room.Given as goal

abbrev pub invariant-loop-place : goal.invariant-loop-place
invariant-loop-place g l = All (IsFullPart g.row.C g.row.H g.row.G l.kind l.boards) (take l.place l.parts)
