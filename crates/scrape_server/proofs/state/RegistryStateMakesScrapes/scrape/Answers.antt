use Rattle.std.proofs.Common.{subst}
use Rattle.std.specs.Prelude.{IsSomeAnd}
use Rattle.registry_state.specs.Replay.{State}
use Rattle.registry_state.specs.Shown.{IsShown}
use Rattle.scrape_server.proofs.state.RegistryStateMakesScrapes.scrape.Goals as goal

pub returns-in-Ok : goal.returns-in-Ok
returns-in-Ok g c =
    let kept = c.in-Ok.ensures.scraped in record {
      kept = kept;
      quit_is = c.in-Ok.ensures.quit;
      shown = subst (λ (s : State). IsSomeAnd s.last (λ answer. IsShown g.row.C g.row.H s.families answer c.in-Ok.scrape))
          kept.state c.in-Ok.ensures.shown;
    }
