use Rattle.std.proofs.Common.{◌≡◌, ℕ, ◌+◌, ◌<◌, ◌≤◌, length, slice_index, take}
use Rattle.std.specs.Prelude.{sum}
use Rattle.bucket_math.proofs.buckets.cumulate.Given as goal

abbrev pub invariant-loop-place : goal.invariant-loop-place
invariant-loop-place l = record {
  all_places : length l.cumulated ≡ 25;
  so_far : l.so_far ≡ sum (take l.place l.buckets);
  before : (k : ℕ) → k < l.place → slice_index l.cumulated k ≡ sum (take (k + 1) l.buckets);
  after : (k : ℕ) → l.place ≤ k → k < 25 → slice_index l.cumulated k ≡ sum l.buckets;
}
