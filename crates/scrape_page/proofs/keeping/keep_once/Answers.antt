use Rattle.scrape_page.proofs.Unshown.{shown_of, is_shown}
use Rattle.scrape_page.proofs.keeping.keep_once.Goals as goal

pub returns-in-Ok : goal.returns-in-Ok
returns-in-Ok g c =
    let kept = c.in-Ok.ensures.scraped in
    let families = c.args.board.now.state.families in (
      shown_of g.row.C g.row.H families kept.answer,
      record { kept = kept; quit_is = c.in-Ok.ensures.quit; shown = is_shown g.row.C g.row.H families kept.answer },
    )
