use Rattle.std.proofs.Common.{◌≡◌, ◌++◌, map}
use Rattle.std.specs.Vec.Iter.{into_iter_items}
use Rattle.dirgwako_c.specs.Registries.{scraper_in, unboxed}
use Rattle.dirgwako_c.proofs.opening.boxed_scrapers.Given as goal

abbrev pub invariant-loop-scraper : goal.invariant-loop-scraper
invariant-loop-scraper g l = map scraper_in (map unboxed l.made.items) ++ into_iter_items l.scraper-iterator ≡ l.fn.scrapers.items
