use Rattle.std.proofs.Common.{ap, ◌∙◌}
use Rattle.registry_state.specs.Kept.{RegistryView}
use Rattle.registry_state.proofs.Windowed.{held_scrape, held_left, recorded_left, kept_of}
use Rattle.registry_state.proofs.registry.RegistryState.keep.Goals as goal

pub invariant_of-self-2 : goal.invariant_of-self-2
invariant_of-self-2 g c =
    let scraped = c.in_ok-note_scrape.ensures.scraped in
    held_scrape _ _ _ _ _ _ _ _ _ _ c.self.invariant _ _ scraped.0 scraped.1 scraped.3

pub returns-clause-scraped : goal.returns-clause-scraped
returns-clause-scraped g c =
    let scraped = c.in_ok-note_scrape.ensures.scraped in
    kept_of g.row.N g.row.C g.row.H g.row.G g.S.Source.recorded g.S.Source.gave _ c.self.inside.id c.self.inside.window
    c.self.inside.source c.note_scrape.new.source c.self.inside.journal c.note_scrape.new.self c.self.inside.families.items _ _
    scraped.0 c.self.view_is c.self.invariant scraped.1 scraped.2 scraped.3

pub invariant_of-self : goal.invariant_of-self
invariant_of-self g c =
    let left = c.in_err-note_scrape.ensures in
    held_left _ _ _ _ _ _ _ _ _ _ c.self.invariant _ _
    (recorded_left g.row.N g.S.Source.recorded g.S.Source.quit g.S.Source.gave_up _ _ c.in_err-note_scrape.field-0.0 left.fault)
    left.unchanged

pub returns-clause-quit : goal.returns-clause-quit
returns-clause-quit g c =
    c.in_ok-note_scrape.ensures.quit ∙ ap (λ (r : RegistryView g.row.S.Denot). g.S.Source.quit r.source) c.self.view_is
