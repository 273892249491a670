use Rattle.std.proofs.Common.{◌∙◌, subst, sym, ◌<◌}
use Rattle.std.specs.Vec.Iter.{into_iter_items}
use Rattle.std.specs.declared.alloc.Global.{Global}
use Rattle.rtrb.specs.Ring.{known_free}
use Rattle.rtrb.specs.declared.producer.Producer.{Producer}
use Rattle.rtrb.specs.declared.AnyItems.{AnyItems}
use Rattle.page_crew.specs.Rings.{IsGiven}
use Rattle.scrape_page.proofs.Facts.{all_there}
use Rattle.page_crew.proofs.Giving.{ring_kept, gives, all_given}
use Rattle.page_crew.proofs.rings.give.Goals as goal

pub push_reserved-requires : goal.push_reserved-requires
push_reserved-requires g c =
    let R = Producer g.row.T.Denot Global AnyItems in
    let rest = into_iter_items c.loop-it.it-iterator in
    let kept = ring_kept c.loop-it.place c.args.rings.now c.loop-it.rings rest c.args.items.items c.loop-it.invariant
    c.requires.many c.in-Some.it (into_iter_items c.next.new.self) c.in-Some.ensures.steps.0 c.index-rings-place.result
    c.index-rings-place.is in (
      subst (λ (p : R). 0 < known_free p) c.index-rings-place.is
          (all_there (λ (p : R). 0 < known_free p) c.args.rings.now c.loop-it.place c.index-rings-place.result kept
          c.requires.room),
      tt,
    )

pub loop-it-preserved : goal.loop-it-preserved
loop-it-preserved g c =
    gives c.loop-it.place c.args.rings.now c.loop-it.rings (into_iter_items c.loop-it.it-iterator)
    c.args.items.items c.loop-it.invariant c.requires.many c.in-Some.it (into_iter_items c.next.new.self)
    c.in-Some.ensures.steps.0 c.index-rings-place.result c.push_reserved.new.self c.index-rings-place.is
    (subst (λ (p : Producer g.row.T.Denot Global AnyItems). IsGiven p c.push_reserved.new.self c.in-Some.it) (sym
    c.index-rings-place.is)
    (c.push_reserved.ensures.ring, c.push_reserved.ensures.sent.0, c.push_reserved.ensures.sent.1))

pub returns : goal.returns
returns g c =
    all_given c.loop-it.place c.args.rings.now c.loop-it.rings (into_iter_items c.loop-it.it-iterator)
    c.args.items.items c.loop-it.invariant c.requires.many
    (sym c.loop-it.it-iterator.rest.ok.0 ∙ c.in-None.ensures.steps.0)
