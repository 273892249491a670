use Rattle.std.proofs.Common.{length}
use Rattle.scrape_merge.proofs.putting.+compare.Given as goal

abbrev pub decreases-compare : goal.decreases-compare
decreases-compare l = length l.a.now
