-- Moments of what workers published, without the first of them.
use Rattle.std.proofs.Common.{ℕ, List, ◌++◌}
use Rattle.std.proofs.Math.Logic.{∥∥₁_map}
use Rattle.register_rule.specs.declared.view.Answer.{Answer}
use Rattle.snapshot_scan.proofs.Publishing.{along_later}
use Rattle.snapshot_update.specs.declared.worker.Worker.{Worker}
use Rattle.chain_law.specs.Settled.{AreMomentsOf}

pub moments_of_later : {N C H G : ℕ} (ws : List (Worker N C H G)) (older l : List Answer) → AreMomentsOf ws (older ++ l)
    → AreMomentsOf ws l
moments_of_later {N} {C} {H} {G} ws older l moments = ∥∥₁_map moments (λ was. record {
  history = was.history;
  accepted = was.accepted;
  along = along_later N C H G was.history 0 older l was.along;
  lists = was.lists;
})
