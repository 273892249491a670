use Rattle.std.proofs.Common.{refl}
use base.Logic.{emp}
use contract.Monad.{fact_i}
use Rattle.dirgwako_c.specs.contracts.handles.RecorderHandle as mine
use Rattle.dirgwako_c.specs.contracts.handles.RecorderHandle.of.{clauses}
use Rattle.dirgwako_c.specs.contracts.handles.RecorderHandle.of.Key.{name as #self}
use Rattle.dirgwako_c.proofs.handles.RecorderHandle.of.Statement.{statement}
use Rattle.dirgwako_c.proofs.handles.RecorderHandle.of.Code as compiled
use Rattle.dirgwako_c.proofs.Rows.{held_recorder}
use Rattle.dirgwako_c.proofs.Moved.{comes}

pub of_spec : {M : Type 1} → statement M
of_spec 𝓤 𝓛 𝓜 𝓡 wired =
    comes held_recorder mine.the_row (λ h. record { at = h.at; live = h.live; value = h.value; empty = h.empty; full = h.full })
    (λ h vs. refl) 𝓤 𝓛 𝓜 𝓡 (clauses 𝓛 𝓜.mem 𝓡.returns) mine.struct.name #self (compiled.unfolded 𝓤 𝓛.H 𝓜 𝓡 wired)
    (λ κs h g. fact_i 𝓤 _ (emp 𝓤) refl)
