use Rattle.std.proofs.Common.{arith, rules, subst, Contains, take}
use Rattle.std.proofs.lemmas.List.{take_all}
use Rattle.metric_desc.specs.Labels.{AreDistinct}
use Rattle.metric_desc.proofs.Distinct.{AreDistinct-next}
use Rattle.metric_desc.proofs.labels.first_duplicate.Goals as goal

pub loop-at-preserved : goal.loop-at-preserved
loop-at-preserved c =
    let fresh : Contains (take c.loop-at.at c.args.labels.now) c.index-labels-at.result → ⊥ = search rules in
    AreDistinct-next _ _ c.index-labels-at.result (omega arith) c.index-labels-at.is fresh c.loop-at.invariant

pub returns : goal.returns
returns c = subst AreDistinct (take_all _ _ (omega arith)) c.loop-at.invariant
