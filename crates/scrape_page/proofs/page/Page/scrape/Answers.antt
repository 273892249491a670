use Rattle.std.proofs.Common.{◌≡◌, ◌*◌, ◌<◌, ◌≤◌, List, length, All, Result, refl, sym, ap, subst, ◌∙◌}
use Rattle.expo_text.specs.Scraped.{Scraped}
use Rattle.registry_state.specs.Kept.{RegistryView}
use Rattle.scrape_http.specs.declared.source.NoScrape.{NoScrape}
use Rattle.scrape_page.specs.Families.{PageFamily, PageView}
use Rattle.scrape_page.specs.Scraping.{PageScrapes}
use Rattle.scrape_page.proofs.Again.{same_made, same_stopped}
use Rattle.scrape_page.proofs.Facts.{one_fits}
use Rattle.scrape_page.proofs.Faces.{held_still}
use Rattle.scrape_page.proofs.Mergeable.{numbers_below}
use Rattle.scrape_page.proofs.ShownWhole.{framed_as, can_merge, shows_page}
use Rattle.scrape_page.proofs.page.Page.scrape.Goals as goal
use Rattle.scrape_page.proofs.page.Page.scrape.Goals.{in-Ok-scrape_each, in-Err}

pub frames_of-requires : goal.frames_of-requires
frames_of-requires g c =
    subst (λ (families : List PageFamily). All (λ number. number < length families) c.deref-2.result.now) (sym
    c.deref.ensures.value)
    (subst (All (λ number. number < length c.self.inside.families.items)) (sym c.deref-2.ensures.value)
    (numbers_below c.self.inside.families.items c.self.inside.order.items c.self.invariant.ordered))

pub scrape_each-requires-room-X-MakesScrapes : goal.scrape_each-requires-room-X-MakesScrapes
scrape_each-requires-room-X-MakesScrapes g c κs within =
    one_fits (length c.as_slice-boards.result.now) _ _
    (subst (λ (boards : List (RegistryView g.row.S.Denot)). 0 < length boards) (sym c.as_slice-boards.ensures.value)
    c.self.invariant.page_is.some) c.as_slice-boards.type_inv.1

pub merge-requires : goal.merge-requires
merge-requires g c =
    let long : c.len.result ≡ length c.self.inside.boards.items = c.len.ensures ∙ c.self.inside.boards.ok.0 in
    let product : c.in-Some.numbers ≡ g.row.N * c.len.result = c.in-Some.ensures.1 in
    let numbers : c.in-Some.numbers ≡ g.row.N * length c.self.inside.boards.items = product ∙ ap (λ m. g.row.N * m) long in
    can_merge g.row.N g.row.C g.row.H g.row.G g.S.Source.recorded g.S.Source.quit g.S.Source.gave g.S.Source.gave_up
    c.self.inside.boards.items c.scrape_each.new.boards.items c.self.inside.families.items c.self.inside.order.items
    c.self.invariant
    c.in-Ok.frames
    (framed_as c.self.inside.families.items c.deref.result.now c.self.inside.order.items c.deref-2.result.now c.in-Ok.frames
    c.deref.ensures.value c.deref-2.ensures.value c.in-Ok.ensures.frames)
    c.in-Ok-scrape_each.parts.items c.in-Ok-scrape_each.ensures.each
    (subst (λ m. m ≤ c.in-Ok.frames.numbers) numbers c.in-Ok.ensures.numbers)

pub invariant_of-self : goal.invariant_of-self
invariant_of-self g c = elim c.match-scrape_each.branch [
  | in-Ok-scrape_each w ↦ held_still c.self.inside.boards.items c.scrape_each.new.boards.items
      (same_made g.row.N g.row.C g.row.H g.row.G g.S.Source.recorded g.S.Source.quit g.S.Source.gave g.S.Source.gave_up
      c.self.inside.boards.items c.scrape_each.new.boards.items w.in-Ok-scrape_each.parts.items w.in-Ok-scrape_each.ensures.each)
      c.self.inside.families.items c.self.inside.order.items c.self.invariant
  | in-Err w ↦ held_still c.self.inside.boards.items c.scrape_each.new.boards.items
      (same_stopped g.row.N g.row.C g.row.H g.row.G g.S.Source.recorded g.S.Source.quit g.S.Source.gave g.S.Source.gave_up
      c.self.inside.boards.items c.scrape_each.new.boards.items w.in-Err.why w.in-Err.ensures.stopped)
      c.self.inside.families.items c.self.inside.order.items c.self.invariant
]

pub returns : goal.returns
returns g c =
    let old : PageView g.row.S.Denot = record { boards = c.self.inside.boards.items; families = c.self.inside.families.items } in
    let new : PageView g.row.S.Denot = record { boards = c.scrape_each.new.boards.items; families = c.self.inside.families.items }
    in
    subst (λ (page : PageView g.row.S.Denot). PageScrapes g.row.N g.row.C g.row.H g.row.G g.S.Source.recorded g.S.Source.quit
    g.S.Source.gave g.S.Source.gave_up page new c.match-scrape_each.result) c.self.view_is
    (elim c.match-scrape_each.branch [
      | in-Ok-scrape_each w ↦
          subst (λ (result : Result Scraped NoScrape). PageScrapes g.row.N g.row.C g.row.H g.row.G g.S.Source.recorded
          g.S.Source.quit
          g.S.Source.gave g.S.Source.gave_up old new result) (sym w.result-is)
          (shows_page g.row.N g.row.C g.row.H g.row.G g.S.Source.recorded g.S.Source.quit g.S.Source.gave g.S.Source.gave_up
          c.self.inside.boards.items c.scrape_each.new.boards.items c.self.inside.families.items c.self.inside.order.items
          c.self.invariant c.in-Ok.frames
          (framed_as c.self.inside.families.items c.deref.result.now c.self.inside.order.items c.deref-2.result.now c.in-Ok.frames
          c.deref.ensures.value c.deref-2.ensures.value c.in-Ok.ensures.frames)
          w.in-Ok-scrape_each.parts.items w.in-Ok-scrape_each.ensures.each w.merge.result w.merge.ensures)
      | in-Err w ↦
          subst (λ (result : Result Scraped NoScrape). PageScrapes g.row.N g.row.C g.row.H g.row.G g.S.Source.recorded
          g.S.Source.quit
          g.S.Source.gave g.S.Source.gave_up old new result) (sym w.result-is)
          (record { families = refl; stopped = w.in-Err.ensures.stopped })
    ])
