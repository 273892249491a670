use Rattle.std.proofs.Common.{◌+◌, ◌*◌}
use Rattle.dirgwako.proofs.stopping.+answer_by+fn-answer_by-join+arg3.Given as goal

abbrev pub decreases-answer_by : goal.decreases-answer_by
decreases-answer_by g l = 2 * l.others

abbrev pub decreases-join+arg3 : goal.decreases-join+arg3
decreases-join+arg3 g l = 2 * l.fewer + 1
