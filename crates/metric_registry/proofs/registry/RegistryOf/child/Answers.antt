use Rattle.metric_registry.proofs.Showing.{given_begins}
use Rattle.metric_registry.proofs.registry.RegistryOf.child.Goals as goal

pub invariant_of-deref_mut-clause-begins : goal.invariant_of-deref_mut-clause-begins
invariant_of-deref_mut-clause-begins g c = given_begins g.B.Named.first c.deref_mut.result.now.state c.child.new.self
    c.deref_mut.result.now.begins g.row.C g.row.H g.row.G c.args.family.number c.args.values.now c.child.result
    c.child.ensures.given c.child.ensures.unchanged

pub returns-in-Ok-clause-inside : goal.returns-in-Ok-clause-inside
returns-in-Ok-clause-inside g c = c.of_registry.ensures.inside g.row.C g.row.H g.row.G c.in-Ok.ensures.inside
