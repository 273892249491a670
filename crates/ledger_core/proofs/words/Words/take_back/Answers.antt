use Rattle.std.proofs.Common.{rules}
use Rattle.std.proofs.lemmas.List.Elements.{All-get_or}
use Rattle.ledger_core.specs.Ops.{IsWithin}
use Rattle.ledger_core.proofs.Steps.{still_there}
use Rattle.ledger_core.proofs.words.Words.take_back.Goals as goal

pub take-requires : goal.take-requires
take-requires g c =
    let within = All-get_or (IsWithin g.row.C g.row.H g.row.G) c.args.ops.now _ _ c.loop-op-test.true c.requires.within in
    let added = still_there g.row.C g.row.H c.args.self.now c.loop-op.self c.args.ops.now _ _ c.loop-op-test.true
    c.loop-op.invariant c.requires.added in
    (search rules, (within, added))
