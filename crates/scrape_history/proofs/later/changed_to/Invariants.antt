use Rattle.std.proofs.Common.{◌≡◌, take}
use Rattle.scrape_history.specs.History.{changed_in}
use Rattle.scrape_history.proofs.later.changed_to.Given as goal

abbrev pub invariant-loop-place : goal.invariant-loop-place
invariant-loop-place l = l.changed ≡ changed_in (take l.place l.later.items)
