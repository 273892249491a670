use Rattle.std.proofs.Common.{◌≢◌, All, take}
use Rattle.scrape_page.specs.Families.{PageFamily}
use Rattle.scrape_page.proofs.boards.home_of_group.Given as goal

abbrev pub invariant-loop-family : goal.invariant-loop-family
invariant-loop-family l = All (λ (family : PageFamily). family.group ≢ l.group) (take l.family-index l.families)
