use Rattle.std.proofs.Common.{◌≢◌, All, take}
use Rattle.scrape_page.specs.Families.{PageFamily}
use Rattle.scrape_page.proofs.naming.number_named.Given as goal

abbrev pub invariant-loop-number : goal.invariant-loop-number
invariant-loop-number l = All (λ (family : PageFamily). family.desc.name ≢ l.name) (take l.number l.families)
