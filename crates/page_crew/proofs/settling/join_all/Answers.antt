use Rattle.std.proofs.Common.{◌<◌, length, get_or, arith}
use Rattle.std.proofs.lemmas.Option.{slice_get-get_or}
use Rattle.page_crew.proofs.Joining.{joined_nobody, joined_more}
use Rattle.page_crew.proofs.settling.join_all.Goals as goal

pub loop-place-init : goal.loop-place-init
loop-place-init g c = joined_nobody c.args.recorders.now

pub loop-place-preserved : goal.loop-place-preserved
loop-place-preserved g c =
    let now = c.loop-place.recorders in let place = c.loop-place.place in let r = c.index-recorders-place.result in
    let lt = c.loop-place-test.true in let many = c.loop-place.auto.recorders in
    let within : place < length now = omega (arith, lt, many) in
    joined_more c.args.recorders.now now place (get_or now place r) c.join-boards.new.self c.loop-place.invariant
    (slice_get-get_or now place r within)
    (record {
      came = c.join-boards.ensures.joined.0;
      recorders = c.join-boards.ensures.joined.1;
      first = c.join-boards.ensures.first;
      feed = c.join-boards.ensures.feed;
    })
