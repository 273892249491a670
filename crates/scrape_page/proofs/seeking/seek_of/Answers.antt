use Rattle.std.proofs.Common.{◌≡◌, ℕ, List, length, get_or, sym, ap, subst, ◌∙◌, arith, All}
use Rattle.metric_desc.specs.Desc.{Descriptor}
use Rattle.scrape_page.specs.declared.family.Part.{Part}
use Rattle.scrape_page.specs.Families.{PageFamily}
use Rattle.scrape_page.specs.Rooms.{IsFirstWithRoom, IsFullPart}
use Rattle.scrape_page.proofs.Asked.{first_at}
use Rattle.scrape_page.proofs.Sought.{unfound}
use Rattle.scrape_page.proofs.seeking.seek_of.Goals as goal

pub returns-in-Some-first_with_room-clause-sought : goal.returns-in-Some-first_with_room-clause-sought
returns-in-Some-first_with_room-clause-sought g c =
    let C = g.row.C in let H = g.row.H in let G = g.row.G in
    let boards = c.args.boards.now in
    let it : PageFamily = c.args.family.now in
    let view = c.family.view_is in
    let parts : c.deref-2.result.now ≡ it.parts = c.deref-2.ensures.value ∙ ap (λ (f : PageFamily). f.parts) view in
    let read : c.deref-4.result.now ≡ it.parts = c.deref-4.ensures.value ∙ ap (λ (f : PageFamily). f.parts) view in
    let desc : c.deref.result.now ≡ it.desc = c.deref.ensures ∙ ap (λ (f : PageFamily). f.desc) view in
    let labels = c.labels.ensures.labels ∙ ap (λ (d : Descriptor). d.labels) desc in
    let fit = sym c.if-want-got.false ∙ ap (λ (l : List (List ℕ)). length l) labels in
    let kind = c.kind-kind.ensures ∙ ap (λ (d : Descriptor). d.kind) (c.deref-3.ensures ∙ ap (λ (f : PageFamily). f.desc) view) in
    let children : c.family.inside.children ≡ it.children = ap (λ (f : PageFamily). f.children) view in
    let under = c.if-family-ge-MAX_CHILDREN.false in
    let place = c.in-Some-first_with_room.place in
    let first : IsFirstWithRoom C H G c.kind-kind.result boards c.deref-4.result.now place c.index.result.now =
    first_at C H G c.kind-kind.result boards c.deref-4.result.now place c.index.result.now c.in-Some-first_with_room.ensures
    (c.index.ensures ∙ ap (λ (l : List Part). get_or l place c.index.result.now) (sym c.deref-4.ensures.value)) in (
      unfound boards it c.args.values.now _ c.requires parts fit c.in_default.ensures.found,
      omega (arith, children, under),
      place,
      subst (λ k. IsFirstWithRoom C H G k boards it.parts place c.index.result.now) kind
          (subst (λ (l : List Part). IsFirstWithRoom C H G c.kind-kind.result boards l place c.index.result.now) read first),
    )

pub returns-in-None-clause-sought : goal.returns-in-None-clause-sought
returns-in-None-clause-sought g c =
    let boards = c.args.boards.now in
    let it : PageFamily = c.args.family.now in
    let parts : c.deref-2.result.now ≡ it.parts = c.deref-2.ensures.value ∙ ap (λ (f : PageFamily). f.parts) c.family.view_is in
    let full : All (IsFullPart g.row.C g.row.H g.row.G c.kind-kind.result boards) it.parts =
    subst (All (IsFullPart g.row.C g.row.H g.row.G c.kind-kind.result boards))
    (c.deref-4.ensures.value ∙ ap (λ (f : PageFamily). f.parts) c.family.view_is) c.in-None.ensures in
    let desc : c.deref.result.now ≡ it.desc = c.deref.ensures ∙ ap (λ (f : PageFamily). f.desc) c.family.view_is in
    let kind = c.kind-kind.ensures ∙ ap (λ (d : Descriptor). d.kind) (c.deref-3.ensures ∙ ap (λ (f : PageFamily). f.desc)
    c.family.view_is) in
    let labels = c.labels.ensures.labels ∙ ap (λ (d : Descriptor). d.labels) desc in
    let fit = sym c.if-want-got.false ∙ ap (λ (l : List (List ℕ)). length l) labels in
    let children : c.family.inside.children ≡ it.children = ap (λ (f : PageFamily). f.children) c.family.view_is in
    let under = c.if-family-ge-MAX_CHILDREN.false in (
      unfound boards it c.args.values.now _ c.requires parts fit c.in_default.ensures.found,
      omega (arith, children, under),
      kind,
      subst (λ k. All (IsFullPart g.row.C g.row.H g.row.G k boards) it.parts) kind full,
    )
