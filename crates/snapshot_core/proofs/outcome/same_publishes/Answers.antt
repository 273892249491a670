use Rattle.std.proofs.Common.{◌≡◌, length, arith, refl}
use Rattle.snapshot_core.specs.Turns.{published_of}
use Rattle.snapshot_core.proofs.Same.{same_next, same_there, same_all}
use Rattle.snapshot_core.proofs.outcome.same_publishes.Goals as goal

pub returns-then-not-same_publish : goal.returns-then-not-same_publish
returns-then-not-same_publish c =
    let long : length c.args.one.now ≡ length c.args.two.now = c.loop-k.invariant.long in
    let t = c.loop-k-test.true in (
      λ is. cc,
      λ same. c.if-not-same_publish.ensures.1
          (same_there published_of c.args.one.now c.args.two.now c.loop-k.k c.index-one-k.result c.index-two-k.result t
          (omega arith) c.index-one-k.is c.index-two-k.is same),
    )

pub loop-k-preserved : goal.loop-k-preserved
loop-k-preserved c =
    let long : length c.args.one.now ≡ length c.args.two.now = c.loop-k.invariant.long in
    let t = c.loop-k-test.true in
    record {
      long = long;
      same = same_next published_of c.args.one.now c.args.two.now c.loop-k.k c.index-one-k.result c.index-two-k.result t
          (omega arith) c.index-one-k.is c.index-two-k.is c.loop-k.invariant.same (c.if-not-same_publish.ensures.0 refl);
    }

pub returns : goal.returns
returns c =
    let long : length c.args.one.now ≡ length c.args.two.now = c.loop-k.invariant.long in
    let t = c.loop-k-test.false in
    (λ is. same_all published_of c.args.one.now c.args.two.now c.loop-k.k t (omega arith) c.loop-k.invariant.same, λ same. refl)
