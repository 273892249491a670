use Rattle.std.proofs.Common.{◌<◌, List, length, ap, subst, ◌∙◌}
use Rattle.scrape_page.specs.Families.{PageFamily, PageView}
use Rattle.scrape_page.specs.Faults.{AreApart, IsPageFamilyFault}
use Rattle.scrape_page.proofs.page.Page.family_refusal.Goals as goal

pub returns-in-Ok : goal.returns-in-Ok
returns-in-Ok g c =
    subst (λ (l : List PageFamily). AreApart l c.args.desc.now × (length l < 128))
    (c.deref.ensures.value ∙ ap (λ (p : PageView g.row.S.Denot). p.families) c.self.view_is) c.in-Ok.ensures.ok

pub returns-in-Err : goal.returns-in-Err
returns-in-Err g c =
    subst (λ (l : List PageFamily). IsPageFamilyFault l c.args.desc.now c.in-Err.fault)
    (c.deref.ensures.value ∙ ap (λ (p : PageView g.row.S.Denot). p.families) c.self.view_is) c.in-Err.ensures.fault
