use Rattle.metrics_program.proofs.Counting.{counted_by}
use Rattle.metrics_program.proofs.threads.work.Goals as goal

pub returns : goal.returns
returns g c =
    let met = c.answer_all.ensures in
    counted_by (λ it. it.board.now) (λ it. it.metrics.now) (λ it. it.worker) met.0 _ _ c.requires.of_board met.1
