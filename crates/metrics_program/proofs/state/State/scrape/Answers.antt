use Rattle.std.proofs.Common.{refl, subst}
use Rattle.std.specs.Prelude.{IsSomeAnd}
use Rattle.registry_state.specs.Replay.{State}
use Rattle.registry_state.specs.Shown.{IsShown}
use Rattle.metrics_program.proofs.state.State.scrape.Goals as goal

pub returns-clause-scraped : goal.returns-clause-scraped
returns-clause-scraped c =
    let kept = c.in-Ok.ensures.scraped in
    let scrape = c.in-Ok.scrape in
    record {
      kept = kept;
      scrape = scrape;
      shown = subst (λ (s : State). IsSomeAnd s.last (λ answer. IsShown 64 8 s.families answer scrape)) kept.state
          c.in-Ok.ensures.shown;
      text_is = c.in_ok-render.ensures.text;
      beside = record { board = refl; workers = refl; settler = refl; children = refl; queue = refl };
    }
