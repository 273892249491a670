use Rattle.std.proofs.Common.{refl, ◌∙◌, arith, inl, inr}
use Rattle.std.proofs.lemmas.List.{with_items_is}
use Rattle.page_crew.specs.News.{IsChildNews}
use Rattle.page_crew.proofs.Steady.{child_keeps, held_still}
use Rattle.page_crew.proofs.Told.{may_tell, are_told, was_found, was_made, told_there}
use Rattle.page_crew.proofs.owner.PageCrew.ask.Goals as goal

pub tell-requires : goal.tell-requires
tell-requires g c =
    let old = c.args.self.now in (
      omega arith,
      may_tell (IsChildNews c.args.family.number c.args.values.now) old.news.items c.deref.result.now c.deref_mut.result.now
          c.deref_mut.result.now
          c.deref_mut.result.now c.in-Ok.news.items c.deref.ensures.value c.deref_mut.ensures.value refl c.in-Ok.ensures,
    )

pub invariant_of-self : goal.invariant_of-self
invariant_of-self g c =
    held_still c.args.self.now c.child.new.self
    (child_keeps g.row.C g.row.H g.row.G c.args.self.now.page c.child.new.self c.args.family.number c.args.values.now
    c.child.result
    c.child.ensures.given c.child.ensures.leaves)

pub returns-then-children_of-before-clause-told : goal.returns-then-children_of-before-clause-told
returns-then-children_of-before-clause-told g c =
    let old = c.args.self.now in
    inl (
      was_found g.row.C g.row.H g.row.G c.args.family.number c.args.values.now c.in-Ok-child.handle old.page c.child.new.self
          c.children_of-before.result c.children_of.result c.children_of-before.ensures c.children_of.ensures
          c.if-children_of-before.true
          c.in-Ok-child.ensures.given,
      refl,
    )

pub returns-else-children_of-before-clause-told : goal.returns-else-children_of-before-clause-told
returns-else-children_of-before-clause-told g c =
    let old = c.args.self.now in
    let items = with_items_is old.news c.tell.new.rings (c.tell.ensures.many ∙ c.deref_mut.ensures.len) in
    inr (
      was_made g.row.C g.row.H g.row.G c.args.family.number c.args.values.now c.in-Ok-child.handle old.page c.child.new.self
          c.children_of-before.result c.children_of.result c.children_of-before.ensures c.children_of.ensures
          c.if-children_of-before.false
          c.in-Ok-child.ensures.given,
      are_told (IsChildNews c.args.family.number c.args.values.now) old.news.items c.deref.result.now
          c.deref_mut.result.now c.tell.new.rings _ c.in-Ok.news.items c.deref.ensures.value c.deref_mut.ensures.value items
          c.in-Ok.ensures
          c.tell.ensures,
    )

pub returns-in_default-clause-told : goal.returns-in_default-clause-told
returns-in_default-clause-told g c =
    told_there c.args.self.now c.args.family.number c.args.values.now c.child_there.result c.child_there.ensures.given
