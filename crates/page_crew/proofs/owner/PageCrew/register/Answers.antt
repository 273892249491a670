use Rattle.std.proofs.Common.{length, ap, refl, ◌∙◌, arith}
use Rattle.std.proofs.lemmas.List.{with_items_is}
use Rattle.page_crew.specs.News.{IsFamilyNews}
use Rattle.page_crew.proofs.Steady.{register_keeps, held_still, held_with}
use Rattle.page_crew.proofs.Told.{may_tell, are_told}
use Rattle.page_crew.proofs.owner.PageCrew.register.Goals as goal

pub tell-requires : goal.tell-requires
tell-requires g c =
    let old = c.args.self.now in (
      omega arith,
      may_tell (IsFamilyNews c.args.desc c.args.group) old.news.items c.deref.result.now c.deref_mut.result.now
          c.deref_mut.result.now
          c.deref_mut.result.now c.in-Ok.news.items c.deref.ensures.value c.deref_mut.ensures.value refl c.in-Ok.ensures,
    )

pub invariant_of-self : goal.invariant_of-self
invariant_of-self g c =
    let old = c.args.self.now in
    let few = old.readers in
    let same = ap length (with_items_is old.news c.tell.new.rings (c.tell.ensures.many ∙ c.deref_mut.ensures.len)) in
    let many = c.tell.ensures.many in
    let lent = ap length c.deref_mut.ensures.value in
    held_with old c.register.new.self
    (register_keeps g.row.C g.row.H g.row.G old.page c.register.new.self c.args.desc c.args.group c.register.result
    c.register.ensures.registered c.register.ensures.unchanged) old.window _ old.kept (omega (arith, few, same, many, lent))

pub invariant_of-self-in-Err-register : goal.invariant_of-self-in-Err-register
invariant_of-self-in-Err-register g c =
    held_still c.args.self.now c.register.new.self
    (register_keeps g.row.C g.row.H g.row.G c.args.self.now.page c.register.new.self c.args.desc c.args.group c.register.result
    c.register.ensures.registered c.register.ensures.unchanged)

pub returns-in-Ok-register-clause-told : goal.returns-in-Ok-register-clause-told
returns-in-Ok-register-clause-told g c =
    let old = c.args.self.now in
    let items = with_items_is old.news c.tell.new.rings (c.tell.ensures.many ∙ c.deref_mut.ensures.len) in
    are_told (IsFamilyNews c.args.desc c.args.group) old.news.items c.deref.result.now c.deref_mut.result.now c.tell.new.rings _
    c.in-Ok.news.items c.deref.ensures.value c.deref_mut.ensures.value items c.in-Ok.ensures c.tell.ensures
