use Rattle.std.proofs.Common.{◌<◌, All, take}
use Rattle.rtrb.specs.Ring.{known_free}
use Rattle.page_crew.specs.News.{NewsRing}
use Rattle.page_crew.proofs.news.have_room.Given as goal

abbrev pub invariant-loop-ring : goal.invariant-loop-ring
invariant-loop-ring g l = All (λ (p : NewsRing g.row.N g.row.C g.row.H g.row.G). 0 < known_free p) (take l.ring-index l.rings)
