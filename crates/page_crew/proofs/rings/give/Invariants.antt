use Rattle.std.specs.Vec.Iter.{into_iter_items}
use Rattle.page_crew.proofs.Giving.{IsGiving}
use Rattle.page_crew.proofs.rings.give.Given as goal

abbrev pub invariant-loop-it : goal.invariant-loop-it
invariant-loop-it g l = IsGiving l.place l.fn.rings l.rings (into_iter_items l.it-iterator) l.fn.items.items
