use Rattle.std.proofs.Common.{sym, arith}
use Rattle.ledger_core.proofs.Places.{read_first}
use Rattle.ledger_core.proofs.words.Words.buckets.Goals as goal

pub returns : goal.returns
returns g c =
    rw (c.copy_from_slice.ensures.after, ← c.self.view_is)
    (sym (read_first g.row.C g.row.H g.row.G _ _ _ c.self.invariant c.args.slot 25 c.requires (omega arith)))
