use Rattle.std.proofs.Common.{◌≡◌, ◌+◌, sum, take}
use Rattle.expo_text.proofs.checked.is_counted.Given as goal

-- what is left of the count, and the buckets before this place
abbrev pub invariant-loop-bucket : goal.invariant-loop-bucket
invariant-loop-bucket l = l.rest + sum (take l.bucket-index l.totals.buckets) ≡ l.totals.count
