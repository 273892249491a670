use Rattle.std.proofs.Common.{◌≡◌, take}
use Rattle.scrape_history.specs.Increases.{raised_by}
use Rattle.scrape_history.proofs.increase.raise.Given as goal

abbrev pub invariant-loop-place : goal.invariant-loop-place
invariant-loop-place g l = l.snapshot ≡ raised_by l.initial.snapshot (take l.place l.increases.items)
