use Rattle.std.proofs.Common.{take}
use Rattle.scrape_page.specs.Faults.{AreApart}
use Rattle.scrape_page.proofs.naming.first_clash.Given as goal

abbrev pub invariant-loop-number : goal.invariant-loop-number
invariant-loop-number l = AreApart (take l.number l.families) l.desc
