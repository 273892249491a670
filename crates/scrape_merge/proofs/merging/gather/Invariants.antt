use Rattle.std.proofs.Common.{◌≡◌, ◌≤◌, ◌++◌, All}
use Rattle.std.specs.Prelude.{flat_map}
use Rattle.std.specs.List.{AllZip}
use Rattle.std.specs.Vec.{vec_capacity}
use Rattle.std.specs.Vec.Iter.{into_iter_items}
use Rattle.expo_text.specs.Scraped.{Scraped}
use Rattle.expo_text.specs.Order.{IsFamily}
use Rattle.scrape_merge.specs.Merged.{families_of}
use Rattle.scrape_merge.specs.Held.{IsFed}
use Rattle.scrape_merge.proofs.merging.gather.Given as goal

-- the scrapes so far were merged, and the rest are to come
abbrev pub invariant-loop-part : goal.invariant-loop-part
invariant-loop-part l = record {
  split : l.fn.parts.items ≡ l.yielded ++ into_iter_items l.part-iterator;
  vector : l.vector.items ≡ l.fn.vector.items ++ flat_map (λ (part : Scraped). part.vector) l.yielded;
  room : vec_capacity l.fn.vector ≤ vec_capacity l.vector;
  fed : AllZip (IsFed (families_of l.yielded)) l.fn.frames l.frames;
  each : All IsFamily (families_of l.yielded);
}
