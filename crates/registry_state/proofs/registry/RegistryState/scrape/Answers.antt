use Rattle.std.proofs.Common.{◌≡◌, ℕ, List, ap, sym, subst, ◌∙◌, arith}
use Rattle.snapshot_scan.specs.Snapshots.{as_answer}
use Rattle.snapshot_scan.specs.Sources.{IsWhole}
use Rattle.register_rule.specs.declared.view.Answer.{Answer}
use Rattle.registry_state.specs.Replay.{Family}
use Rattle.registry_state.specs.Kept.{RegistryView}
use Rattle.registry_state.specs.Held.{AreShowable, IsOrder}
use Rattle.registry_state.specs.Filled.{blanks}
use Rattle.registry_state.specs.Shown.{IsShown}
use Rattle.registry_state.proofs.Making.{some_is}
use Rattle.registry_state.proofs.Windowed.{is_newest, is_some, held_scrape, held_left, recorded_left, kept_of}
use Rattle.registry_state.proofs.Showing.{showable}
use Rattle.registry_state.proofs.registry.RegistryState.scrape.Goals as goal

pub unreachable-requires : goal.unreachable-requires
unreachable-requires g c =
    let scraped = c.in_ok-note_scrape.ensures.scraped in
    is_some c.self.inside.window c.self.inside.journal c.note_scrape.new.self scraped.0 c.self.invariant.kept.room.0 scraped.3
    c.in_default-newest.ensures

pub fill-requires : goal.fill-requires
fill-requires g c =
    let scraped = c.in_ok-note_scrape.ensures.scraped in
    let families : c.deref.result.now ≡ c.deref-3.result.now = c.deref.ensures.value ∙ sym c.deref-3.ensures.value in
    let order : c.deref-2.result.now ≡ c.deref-4.result.now = c.deref-2.ensures.value ∙ sym c.deref-4.ensures.value in
    let blank : c.in-Ok.blank.families.items ≡ blanks c.deref-3.result.now c.deref-4.result.now =
    subst (λ (l : List Family). c.in-Ok.blank.families.items ≡ blanks l c.deref-4.result.now) families
    (subst (λ (o : List ℕ). c.in-Ok.blank.families.items ≡ blanks c.deref.result.now o) order c.in-Ok.ensures.families) in
    let shown : AreShowable g.row.C g.row.H g.row.G c.deref-3.result.now =
    subst (AreShowable g.row.C g.row.H g.row.G) (sym c.deref-3.ensures.value) (showable _ _ _ _ _ c.self.invariant.held) in
    let ordered : IsOrder c.deref-3.result.now c.deref-4.result.now =
    subst (λ (l : List Family). IsOrder l c.deref-4.result.now) (sym c.deref-3.ensures.value)
    (subst (λ (o : List ℕ). IsOrder c.self.inside.families.items o) (sym c.deref-4.ensures.value) c.self.invariant.ordered) in
    let same : scraped.0 ≡ as_answer c.in-Some.newest.now = is_newest c.self.inside.window c.self.inside.journal
    c.note_scrape.new.self scraped.0 (as_answer c.in-Some.newest.now) c.self.invariant.kept.room.0 scraped.3 c.in-Some.ensures in
    let whole : IsWhole g.row.N g.row.C g.row.H g.row.G (as_answer c.in-Some.newest.now) =
    subst (λ (a : Answer). IsWhole g.row.N g.row.C g.row.H g.row.G a) same scraped.1.whole in (
      omega arith,
      record {
        vector = c.in-Ok.ensures.vector;
        families = blank;
        showable = shown;
        ordered = ordered;
        slots = c.self.invariant.geometry.slots;
        whole = whole;
      },
    )

pub invariant_of-self-2 : goal.invariant_of-self-2
invariant_of-self-2 g c =
    let scraped = c.in_ok-note_scrape.ensures.scraped in
    held_scrape _ _ _ _ _ _ _ _ _ _ c.self.invariant _ _ scraped.0 scraped.1 scraped.3

pub returns-clause-scraped : goal.returns-clause-scraped
returns-clause-scraped g c =
    let scraped = c.in_ok-note_scrape.ensures.scraped in
    kept_of g.row.N g.row.C g.row.H g.row.G g.S.Source.recorded g.S.Source.gave _ c.self.inside.id c.self.inside.window
    c.self.inside.source c.note_scrape.new.source c.self.inside.journal c.note_scrape.new.self c.self.inside.families.items _ _
    scraped.0 c.self.view_is c.self.invariant scraped.1 scraped.2 scraped.3

pub new-requires : goal.new-requires
new-requires g c =
    subst (λ (l : List Family). IsOrder l c.deref-2.result.now) (sym c.deref.ensures.value)
    (subst (λ (o : List ℕ). IsOrder c.self.inside.families.items o) (sym c.deref-2.ensures.value) c.self.invariant.ordered)

pub invariant_of-self : goal.invariant_of-self
invariant_of-self g c =
    let left = c.in_err-note_scrape.ensures in
    held_left _ _ _ _ _ _ _ _ _ _ c.self.invariant _ _
    (recorded_left g.row.N g.S.Source.recorded g.S.Source.quit g.S.Source.gave_up _ _ c.in_err-note_scrape.field-0.0 left.fault)
    left.unchanged

pub returns-clause-quit : goal.returns-clause-quit
returns-clause-quit g c =
    c.in_ok-note_scrape.ensures.quit ∙ ap (λ (r : RegistryView g.row.S.Denot). g.S.Source.quit r.source) c.self.view_is

pub returns-clause-shown : goal.returns-clause-shown
returns-clause-shown g c =
    some_is (λ (answer : Answer). IsShown g.row.C g.row.H c.self.inside.families.items answer c.fill.result) _
    (as_answer c.in-Some.newest.now) c.in-Some.ensures
    (subst (λ (l : List Family). IsShown g.row.C g.row.H l (as_answer c.in-Some.newest.now) c.fill.result) c.deref-3.ensures.value
    c.fill.ensures)
