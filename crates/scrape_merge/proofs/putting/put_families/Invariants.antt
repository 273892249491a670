use Rattle.std.proofs.Common.{◌≡◌, ◌++◌}
use Rattle.std.specs.List.{AllZip}
use Rattle.std.specs.Vec.Iter.{into_iter_items}
use Rattle.scrape_merge.specs.Held.{IsFed}
use Rattle.scrape_merge.proofs.putting.put_families.Given as goal

-- the families so far were put, and the rest are to come
abbrev pub invariant-loop-family : goal.invariant-loop-family
invariant-loop-family l = record {
  split : l.fn.families.items ≡ l.yielded ++ into_iter_items l.family-iterator;
  fed : AllZip (IsFed l.yielded) l.fn.frames l.frames;
}
