use Rattle.std.proofs.Common.{rules}
use Rattle.scrape_server.specs.declared.state.FromState.{FromState}
use Rattle.scrape_page.proofs.Again.{asked}
use Rattle.scrape_page.proofs.each.scrape_board.Goals as goal

pub returns : goal.returns
returns g c =
    asked (λ (source : FromState g.row.X.Denot). source.state.now) (λ (source : FromState g.row.X.Denot). source.state.ghost_name)
    g.X.MakesScrapes.made g.X.MakesScrapes.again _ _ c.scrape_again.new.source c.scrape_again.result (search rules) c.scrape_again.ensures
