use Rattle.ledger_core.specs.declared.row.TheConstants.{MAX_WORD}
use Rattle.ledger_core.proofs.Places.{bounded_part}
use Rattle.ledger_core.proofs.Legal.{legal_ops, legal_sums, legal_buckets}
use Rattle.ledger_core.proofs.row.Row.hist.Goals as goal

pub returns-clause-bounded : goal.returns-clause-bounded
returns-clause-bounded g c = (
  rw c.buckets.ensures (bounded_part c.self.inside.words MAX_WORD _ 25 c.word.ensures.bounded),
  rw c.word.ensures.value (c.word.ensures.bounded _),
  rw c.word-2.ensures.value (c.word.ensures.bounded _),
)

pub returns-clause-legal : goal.returns-clause-legal
returns-clause-legal g c =
    legal_buckets g.row.C g.row.H c.args.slot c.self.inside.words c.word-2.result c.buckets.result c.requires
    c.word-2.ensures.within
    c.self.invariant c.word-2.ensures.value c.buckets.ensures

pub returns-clause-laws : goal.returns-clause-laws
returns-clause-laws g c = (legal_ops g.row.C g.row.H g.row.G, legal_sums g.row.C g.row.H)
