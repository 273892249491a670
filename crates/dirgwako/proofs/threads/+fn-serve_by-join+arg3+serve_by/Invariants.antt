use Rattle.std.proofs.Common.{◌+◌, ◌*◌}
use Rattle.dirgwako.proofs.threads.+fn-serve_by-join+arg3+serve_by.Given as goal

abbrev pub decreases-serve_by : goal.decreases-serve_by
decreases-serve_by g l = 2 * l.others

abbrev pub decreases-join+arg3 : goal.decreases-join+arg3
decreases-join+arg3 g l = 2 * l.fewer + 1
