-- What a clause reads of a registry behind its lock.
use Rattle.std.specs.Prelude.{ℕ}
use Rattle.metric_registry.specs.declared.naming.Named.{Ghosts}
use Rattle.metric_registry.specs.declared.registry.RegistryOf.{RegistryOf}

module _ {B : Type 0} {N C H G : ℕ} {named : Ghosts B} where
  -- the id of its board
  abbrev pub id_of : RegistryOf B N C H G named → ℕ
  id_of r = r.id
