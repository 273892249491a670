use Rattle.std.proofs.Common.{◌≤◌, ◌<◌, ◌^◌, ℕ, length}
use Rattle.std.specs.Prelude.{slice_index}
use Rattle.std.specs.List.{zip}
use Rattle.expo_text.proofs.Rows.{histogram-lines}
use Rattle.expo_text.proofs.samples.put_histogram.Goals as goal

pub returns-clause-text : goal.returns-clause-text
returns-clause-text g c =
    let chain = g.met.S.Sink.chain in
    let desc = c.args.desc.now in
    let labels = zip desc.labels c.args.values.now in
    let bounds = c.bounds_of-bounds.ensures.bounds in
    let few : length desc.bounds ≤ 24 = rw bounds at c.bounds_of-bounds.ensures.few in
    let small : (k : ℕ) → k < length desc.bounds → slice_index desc.bounds k < 2 ^ 64 = c.bounds_of-bounds.ensures.small in
    let values = rw bounds at c.cumulate-cumulated.ensures in
    let front = c.spell.ensures.front in
    let digits = c.digits-digits.ensures.digits in
    let buckets = rw (bounds, digits, c.bytes.ensures, front) at c.put_buckets.ensures in
    let lines = histogram-lines desc labels c.args.totals.now c.cumulate-cumulated.result few small values c.requires.count in
    let all = rw (c.bytes-2.ensures, front, c.sum_and_count-sum.ensures.count) at c.put_last_bucket.ensures in
    let sum = rw (digits, c.sum_and_count-sum.ensures.sum) at c.put_sample.ensures.text in
    let count = rw c.sum_and_count-sum.ensures.count at c.put_sample-2.ensures.text in
    let took = chain _ _ _ _ _ (chain _ _ _ _ _ (chain _ _ _ _ _ buckets all) sum) count in
    rw lines at took
