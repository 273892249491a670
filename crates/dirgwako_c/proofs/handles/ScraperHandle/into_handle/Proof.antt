use Rattle.std.proofs.Common.{refl}
use base.Logic.{emp}
use contract.Monad.{fact_i}
use Rattle.dirgwako_c.specs.contracts.handles.ScraperHandle as mine
use Rattle.dirgwako_c.specs.contracts.handles.ScraperHandle.into_handle.{clauses}
use Rattle.dirgwako_c.specs.contracts.handles.ScraperHandle.into_handle.Key.{name as #self}
use Rattle.dirgwako_c.proofs.handles.ScraperHandle.into_handle.Statement.{statement}
use Rattle.dirgwako_c.proofs.handles.ScraperHandle.into_handle.Code as compiled
use Rattle.dirgwako_c.proofs.Rows.{held_scraper}
use Rattle.dirgwako_c.proofs.Moved.{parts}

pub into_handle_spec : {M : Type 1} → statement M
into_handle_spec 𝓤 𝓛 𝓜 𝓡 wired =
    parts held_scraper mine.the_row (λ h. record { at = h.at; live = h.live; value = h.value; empty = h.empty; full = h.full })
    (λ h vs. refl) (λ h. tt) (λ h f. refl) 𝓤 𝓛 𝓜 𝓡 (clauses 𝓛 𝓜.mem 𝓡.returns) mine.struct.name #self
    (compiled.unfolded 𝓤 𝓛.H 𝓜 𝓡 wired) (λ κs h g. fact_i 𝓤 _ (emp 𝓤) refl)
