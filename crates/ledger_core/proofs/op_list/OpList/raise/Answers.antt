use Rattle.std.proofs.Common.{refl}
use Rattle.ledger_core.specs.declared.op.Op.TheVariants.{Inc, Observe, Up, Down}
use Rattle.ledger_core.proofs.Raising.{raised}
use Rattle.ledger_core.proofs.op_list.OpList.raise.Goals as goal
use Rattle.ledger_core.proofs.op_list.OpList.raise.Goals.{in-Inc, in-Observe, in-Up, in-Down}

pub returns : goal.returns
returns g c = λ op is.
    elim c.match-self-at.branch [
      | in-Inc w ↦ rw w.self-inside-is (raised c.self.inside.ops c.self.inside.count c.args.at c.args.amount c.args.self.now op
          (Inc w.in-Inc.counter w.in-Inc.by) _ c.self.view_is c.requires.inside is w.in-Inc.is refl)
      | in-Observe w ↦ rw w.self-inside-is
          (raised c.self.inside.ops c.self.inside.count c.args.at c.args.amount c.args.self.now op
          (Observe w.in-Observe.hist w.in-Observe.place w.in-Observe.value) _ c.self.view_is c.requires.inside is w.in-Observe.is
          refl)
      | in-Up w ↦ rw w.self-inside-is (raised c.self.inside.ops c.self.inside.count c.args.at c.args.amount c.args.self.now op
          (Up w.in-Up.gauge w.in-Up.by) _ c.self.view_is c.requires.inside is w.in-Up.is refl)
      | in-Down w ↦ rw w.self-inside-is (raised c.self.inside.ops c.self.inside.count c.args.at c.args.amount c.args.self.now op
          (Down w.in-Down.gauge w.in-Down.by) _ c.self.view_is c.requires.inside is w.in-Down.is refl)
    ]
