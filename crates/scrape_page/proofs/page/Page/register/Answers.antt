use Rattle.std.proofs.Common.{◌≡◌, ◌<◌, List, length, ap, subst, ◌∙◌, rules}
use Rattle.scrape_page.specs.Families.{PageFamily, PageView}
use Rattle.scrape_page.specs.Faults.{AreApart, IsPageFamilyFault}
use Rattle.scrape_page.specs.Rooms.{IsHome}
use Rattle.scrape_page.proofs.page.Page.register.Goals as goal

pub add_family-requires : goal.add_family-requires
add_family-requires g c =
    let seen = c.deref.ensures.value ∙ ap (λ (p : PageView g.row.S.Denot). p.families) c.self.view_is in (
      search rules,
      (
        subst (λ (l : List PageFamily). AreApart l c.args.desc × (length l < 128)) seen c.in_ok-may_register.ensures.ok,
        subst (λ kind. IsHome g.row.C g.row.H g.row.G c.args.self.now kind c.args.group c.home_of-home.result) c.kind.ensures
            c.home_of-home.ensures,
      ),
    )

pub returns-in-Ok-clause-accepted : goal.returns-in-Ok-clause-accepted
returns-in-Ok-clause-accepted g c =
    subst (λ (l : List PageFamily). AreApart l c.args.desc × (length l < 128))
    (c.deref.ensures.value ∙ ap (λ (p : PageView g.row.S.Denot). p.families) c.self.view_is) c.in_ok-may_register.ensures.ok

pub returns-in-Ok-clause-registered : goal.returns-in-Ok-clause-registered
returns-in-Ok-clause-registered g c = (
  c.home_of-home.result,
  subst (λ kind. IsHome g.row.C g.row.H g.row.G c.args.self.now kind c.args.group c.home_of-home.result) c.kind.ensures
      c.home_of-home.ensures,
  c.in-Ok.ensures.registered,
)

pub returns-in-Err-clause-fault : goal.returns-in-Err-clause-fault
returns-in-Err-clause-fault g c =
    subst (λ (l : List PageFamily). AreApart l c.args.desc × (length l < 128))
    (c.deref.ensures.value ∙ ap (λ (p : PageView g.row.S.Denot). p.families) c.self.view_is) c.in_ok-may_register.ensures.ok

pub returns-in_err-may_register-clause-fault : goal.returns-in_err-may_register-clause-fault
returns-in_err-may_register-clause-fault g c =
    let is = subst (λ (l : List PageFamily). IsPageFamilyFault l c.args.desc c.in_err-may_register.field-0.0)
    (c.deref.ensures.value ∙ ap (λ (p : PageView g.row.S.Denot). p.families) c.self.view_is) c.in_err-may_register.ensures.fault
    in
    search (rules, is)
