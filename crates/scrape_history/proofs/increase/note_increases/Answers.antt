use Rattle.scrape_history.proofs.Increasing.{adds_both}
use Rattle.scrape_history.proofs.increase.note_increases.Goals as goal

pub returns : goal.returns
returns g c = adds_both _ _ _ _ _ _ _ _ c.note_numbers.ensures.added c.note_totals.ensures
