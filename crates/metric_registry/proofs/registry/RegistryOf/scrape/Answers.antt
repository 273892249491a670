use Rattle.std.proofs.Common.{◌≡◌, sym, subst, ◌∙◌}
use Rattle.snapshot_scan.specs.Scanners.{recorded_in}
use Rattle.snapshot_scan.specs.declared.scanner.Scanner.{Scanner}
use Rattle.registry_state.specs.Kept.{RegistryView, IsKept}
use Rattle.metric_registry.proofs.Showing.{scraped_begins, shows_moment}
use Rattle.metric_registry.proofs.registry.RegistryOf.scrape.Goals as goal

pub invariant_of-deref_mut-clause-begins : goal.invariant_of-deref_mut-clause-begins
invariant_of-deref_mut-clause-begins g c = scraped_begins g.B.Named.first c.deref_mut.result.now.state c.scrape.new.self
    c.deref_mut.result.now.begins g.row.N g.row.C g.row.H g.row.G recorded_in _ c.scrape.result c.scrape.ensures.scraped
    c.scrape.ensures.unchanged

pub returns-clause-moment : goal.returns-clause-moment
returns-clause-moment g c =
    let e = c.deref.ensures ∙ sym c.deref_mut.ensures.value in
    let same : c.deref.result.now.state ≡ c.deref_mut.result.now.state = λ z. (e z).state in
    let was = subst (λ (r : RegistryView (Scanner g.row.N g.row.C g.row.H g.row.G)). IsKept g.row.N g.row.C g.row.H g.row.G
    (recorded_in r.source) r.journal r.window r.state) same c.journal.ensures.kept in
    shows_moment g.row.N g.row.C g.row.H g.row.G g.B.Named.first recorded_in _ c.deref_mut.result.now.state c.scrape.new.self
    c.scrape.result c.deref_mut.result.now.begins was c.scrape.ensures.scraped c.scrape.ensures.shown
