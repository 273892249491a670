use Rattle.metric_registry.proofs.Showing.{registered_begins}
use Rattle.metric_registry.proofs.registry.RegistryOf.register.Goals as goal

pub invariant_of-deref_mut-clause-begins : goal.invariant_of-deref_mut-clause-begins
invariant_of-deref_mut-clause-begins g c = registered_begins g.B.Named.first c.deref_mut.result.now.state c.register.new.self
    c.deref_mut.result.now.begins c.args.desc c.register.result c.register.ensures.registered c.register.ensures.unchanged
