use Rattle.std.proofs.Common.{ap, ◌∙◌}
use lib.ListN.{get_elem?}
use Rattle.snapshot_update.specs.Workers.{index_of}
use Rattle.dirgwako_c.proofs.settling.settle.Goals as goal

pub returns-in-Ok-clause-settled : goal.returns-in-Ok-clause-settled
returns-in-Ok-clause-settled g c = record {
  vector = λ p w at. ap (λ v. get_elem? v (index_of w)) c.set_totals.ensures.vector ∙ c.set_numbers.ensures p w at;
  totals = c.set_totals.ensures.totals;
}
