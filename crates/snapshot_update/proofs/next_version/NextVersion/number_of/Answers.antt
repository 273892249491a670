use Rattle.std.proofs.Common.{length, sym, refl}
use Rattle.ledger_core.specs.Ops.{width}
use Rattle.snapshot_update.proofs.VersionWords.{vector_word}
use Rattle.snapshot_update.proofs.next_version.NextVersion.number_of.Goals as goal

pub returns : goal.returns
returns g c =
    let v = c.args.self.now in
    sym (vector_word (width g.row.C g.row.H g.row.G) (length v.vector.now) v.row.now v.flag v.vector.now v.totals.now v.wide refl
    c.args.worker c.requires)
