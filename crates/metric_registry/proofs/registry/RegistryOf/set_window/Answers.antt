use Rattle.metric_registry.proofs.Showing.{windowed_begins}
use Rattle.metric_registry.proofs.registry.RegistryOf.set_window.Goals as goal

pub invariant_of-deref_mut-clause-begins : goal.invariant_of-deref_mut-clause-begins
invariant_of-deref_mut-clause-begins g c = windowed_begins g.B.Named.first c.deref_mut.result.now.state c.set_window-kept.new.self
    c.deref_mut.result.now.begins c.args.window c.set_window-kept.result c.set_window-kept.ensures.set
    c.set_window-kept.ensures.unchanged
