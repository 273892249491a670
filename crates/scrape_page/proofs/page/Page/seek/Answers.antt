use Rattle.std.proofs.Common.{◌≡◌, Some, List, length, slice_get, refl, sym, subst}
use Rattle.std.specs.Prelude.{IsSomeAnd}
use Rattle.std.proofs.lemmas.Result.{IfOk-weaker, IfErr-weaker}
use Rattle.registry_state.specs.Kept.{RegistryView}
use Rattle.registry_state.proofs.Making.{read_at, some_at}
use Rattle.scrape_page.specs.declared.seeking.Sought.{Sought}
use Rattle.scrape_page.specs.Families.{PageFamily, PageView}
use Rattle.scrape_page.specs.Faults.{IsPageChildFault}
use Rattle.scrape_page.specs.Sought.{IsWhole, IsSought, IsRefused}
use Rattle.scrape_page.proofs.Facts.{one_fits}
use Rattle.scrape_page.proofs.Sought.{whole, refused}
use Rattle.scrape_page.proofs.page.Page.seek.Goals as goal

pub seek_of-requires : goal.seek_of-requires
seek_of-requires g c =
    let page : PageView g.row.S.Denot = record { boards = c.self.inside.boards.items; families = c.self.inside.families.items } in
    let it : PageFamily = c.in-Some.family.now in
    let there : slice_get page.families c.args.number ≡ Some it =
    read_at c.deref.result.now _ c.args.number it c.deref.ensures.value c.in-Some.ensures.lookup.3.0 c.in-Some.ensures.lookup.1 in
    let is : IsWhole c.deref-in-Some.result.now it =
    subst (λ (bs : List (RegistryView g.row.S.Denot)). IsWhole bs it) (sym c.deref-in-Some.ensures.value)
    (whole page c.self.inside.order.items c.self.invariant c.args.number it there) in
    (one_fits (length c.deref-in-Some.result.now) _ _ is.some c.deref-in-Some.type_inv.1, is)

pub returns-in-Some-clause-sought : goal.returns-in-Some-clause-sought
returns-in-Some-clause-sought g c =
    let page : PageView g.row.S.Denot = record { boards = c.self.inside.boards.items; families = c.self.inside.families.items } in
    let it : PageFamily = c.in-Some.family.now in
    let there : slice_get page.families c.args.number ≡ Some it =
    read_at c.deref.result.now _ c.args.number it c.deref.ensures.value c.in-Some.ensures.lookup.3.0 c.in-Some.ensures.lookup.1 in
    let of : List (RegistryView g.row.S.Denot) → Sought → PageFamily → Type 0 =
    λ boards sought. IsSought g.row.C g.row.H g.row.G boards c.args.values.now sought in
    IfOk-weaker c.seek_of.result (λ sought. of c.deref-in-Some.result.now sought it)
    (λ sought. IsSomeAnd (slice_get c.args.self.now.families c.args.number) (of c.args.self.now.boards sought))
    (λ sought is. subst (λ (p : PageView g.row.S.Denot). IsSomeAnd (slice_get p.families c.args.number) (of p.boards sought))
    c.self.view_is
    (some_at (of page.boards sought) page.families c.args.number it there
    (subst (λ bs. of bs sought it) c.deref-in-Some.ensures.value is))) c.seek_of.ensures.sought

pub returns-in-Some-clause-fault : goal.returns-in-Some-clause-fault
returns-in-Some-clause-fault g c =
    let page : PageView g.row.S.Denot = record { boards = c.self.inside.boards.items; families = c.self.inside.families.items } in
    let it : PageFamily = c.in-Some.family.now in
    let there : slice_get page.families c.args.number ≡ Some it =
    read_at c.deref.result.now _ c.args.number it c.deref.ensures.value c.in-Some.ensures.lookup.3.0 c.in-Some.ensures.lookup.1 in
    IfErr-weaker c.seek_of.result (λ fault. IsRefused c.deref-in-Some.result.now c.args.values.now fault it)
    (IsPageChildFault g.row.C g.row.H g.row.G c.args.self.now c.args.number c.args.values.now)
    (λ fault is. subst (λ (p : PageView g.row.S.Denot). IsPageChildFault g.row.C g.row.H g.row.G p c.args.number
    c.args.values.now fault)
    c.self.view_is (refused g.row.C g.row.H g.row.G page c.args.number it there c.args.values.now fault
    (subst (λ bs. IsRefused bs c.args.values.now fault it) c.deref-in-Some.ensures.value is))) c.seek_of.ensures.fault
