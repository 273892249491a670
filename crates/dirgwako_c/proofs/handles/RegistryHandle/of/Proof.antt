use Rattle.std.proofs.Common.{refl}
use base.Logic.{emp}
use contract.Monad.{fact_i}
use Rattle.dirgwako_c.specs.contracts.handles.RegistryHandle as mine
use Rattle.dirgwako_c.specs.contracts.handles.RegistryHandle.of.{clauses}
use Rattle.dirgwako_c.specs.contracts.handles.RegistryHandle.of.Key.{name as #self}
use Rattle.dirgwako_c.proofs.handles.RegistryHandle.of.Statement.{statement}
use Rattle.dirgwako_c.proofs.handles.RegistryHandle.of.Code as compiled
use Rattle.dirgwako_c.proofs.Rows.{held_registry}
use Rattle.dirgwako_c.proofs.Moved.{comes}

pub of_spec : {M : Type 1} → statement M
of_spec 𝓤 𝓛 𝓜 𝓡 wired =
    comes held_registry mine.the_row (λ h. record { at = h.at; live = h.live; value = h.value; empty = h.empty; full = h.full })
    (λ h vs. refl) 𝓤 𝓛 𝓜 𝓡 (clauses 𝓛 𝓜.mem 𝓡.returns) mine.struct.name #self (compiled.unfolded 𝓤 𝓛.H 𝓜 𝓡 wired)
    (λ κs h g. fact_i 𝓤 _ (emp 𝓤) refl)
