use Rattle.std.proofs.Common.{subst, ◌∙◌, ℕ, List}
use Rattle.registry_state.specs.Journal.{RegistryChange}
use Rattle.metric_registry.specs.Naming.{BeginsWith}
use Rattle.metrics_program.specs.Counted.{all_of}
use Rattle.metrics_program.specs.Families.{AreRegistered}
use Rattle.metrics_program.proofs.ChildOf.{still_registered}
use Rattle.metrics_program.proofs.Counting.{back_again}
use Rattle.metrics_program.proofs.SettledFour.{has_all}
use Rattle.metrics_program.proofs.Totals.{all_counted}
use Rattle.metrics_program.proofs.serve.serve_counting.Goals as goal

pub unreachable-requires : goal.unreachable-requires
unreachable-requires g c =
    let four = back_again c.args.board.now c.args.service.metrics c.args.workers c.in-Some.four c.requires.new
    c.in-Some.ensures in
    let missing = c.in_default-settle.ensures.missing in
    missing.none (has_all (all_of c.in-Some.four) four.index _ missing.inside)

pub returns : goal.returns
returns g c =
    let service = c.args.service in
    let is = c.requires.service in
    let journal = c.in-Ok.journal in
    let state = c.in-Ok.ensures.replays.0 in
    let replays = c.in-Ok.ensures.replays.1 in
    let begins = subst (λ (first : List RegistryChange). BeginsWith first journal) c.requires.first c.in-Ok.ensures.begins in
    record {
      four = c.in-Some.four;
      counted = c.in-Some.ensures;
      number =
          c.replies.ensures
          ∙ all_counted service.metrics is.six c.args.board.now c.args.workers c.in-Some.four c.requires.new c.in-Some.ensures
          c.settle.new.out c.in-Ok.ensures.settled;
      out = c.settle.new.out;
      settled = c.in-Ok.ensures.settled;
      total = c.replies.ensures;
      state = state;
      replays = replays;
      begins = begins;
      registered = subst (λ (id : ℕ). ∥ AreRegistered id state.families service.metrics ∥₁) is.id
          (still_registered service.registry.journal journal service.registry.state state service.registry.id service.metrics
          is.replays replays begins is.registered);
      moments = c.in-Ok.ensures.moments;
    }
