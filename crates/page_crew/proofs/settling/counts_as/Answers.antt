use Rattle.std.proofs.Common.{sym, ap, ◌∙◌}
use Rattle.std.proofs.lemmas.Bool.Decides.{Decides-eqb}
use Rattle.snapshot_update.specs.Workers.{index_of}
use Rattle.page_crew.specs.Shared.{worker_in}
use Rattle.page_crew.proofs.OneBoard.{same_on}
use Rattle.page_crew.proofs.settling.counts_as.Goals as goal

pub returns-in-Some : goal.returns-in-Some
returns-in-Some g c = (
  λ yes. (
    c.in-Some.on.now,
    c.in-Some.ensures,
    sym c.index.ensures.index ∙ (Decides-eqb c.index.result c.args.worker).0 yes,
  ),
  λ seat. (Decides-eqb c.index.result c.args.worker).1 (c.index.ensures.index
      ∙ (ap (λ x. index_of (worker_in x)) (same_on c.args.board c.args.recorder.now c.in-Some.on.now seat.0 c.in-Some.ensures
      seat.1) ∙ seat.2)),
)
