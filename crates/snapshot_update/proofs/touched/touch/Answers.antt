use Rattle.std.proofs.Common.{subst}
use Rattle.snapshot_update.specs.OpWords.{IsOnly}
use Rattle.snapshot_update.proofs.touched.touch.Goals as goal

pub returns-then-is_again-clause-inside : goal.returns-then-is_again-clause-inside
returns-then-is_again-clause-inside g c = (c.is_again.ensures.touched c.if-is_again.true).inside

pub returns-in_default-clause-one : goal.returns-in_default-clause-one
returns-in_default-clause-one g c = λ _ op is. absurd (subst (IsOnly c.args.ops.now) c.in_default.is c.requires.only op is)
