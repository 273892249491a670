use Rattle.expo_text.specs.Walk.{bucket_lines}
use Rattle.expo_text.proofs.samples.put_buckets.Given as goal

-- the lines of the bounds so far
abbrev pub invariant-loop-place : goal.invariant-loop-place
invariant-loop-place g l = g.S.Sink.took l.fn.sink l.sink (bucket_lines l.front l.digits l.bounds l.cumulated l.place)
