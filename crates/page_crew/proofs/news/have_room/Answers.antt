use Rattle.std.proofs.Common.{◌≡◌, ◌<◌, All, false, true, refl, subst, ap, arith}
use Rattle.std.proofs.lemmas.List.{take_all}
use Rattle.std.proofs.lemmas.List.Elements.{All-more}
use Rattle.rtrb.specs.Ring.{known_free}
use Rattle.page_crew.specs.News.{NewsRing}
use Rattle.page_crew.proofs.news.have_room.Goals as goal

pub loop-ring-preserved : goal.loop-ring-preserved
loop-ring-preserved g c =
    let R = NewsRing g.row.N g.row.C g.row.H g.row.G in
    let free = c.cached_slots.ensures in
    let some = c.if-cached_slots-eq0.false in
    let has : 0 < known_free c.ring-item.result = omega (arith, free, some) in
    All-more (λ (p : R). 0 < known_free p) c.args.rings.now c.loop-ring.ring-index c.ring-item.result c.loop-ring-test.true
    c.loop-ring.invariant (subst (λ (p : R). 0 < known_free p) c.ring-item.is has)

pub returns : goal.returns
returns g c =
    let R = NewsRing g.row.N g.row.C g.row.H g.row.G in
    let all = subst (All (λ (p : R). 0 < known_free p)) (take_all _ _ c.loop-ring-test.false) c.loop-ring.invariant in
    ((λ _. all), (λ _. refl))

pub returns-then-cached_slots-eq0 : goal.returns-then-cached_slots-eq0
returns-then-cached_slots-eq0 g c =
    let R = NewsRing g.row.N g.row.C g.row.H g.row.G in (
      (λ (none : false ≡ true). absurd cc),
      (λ all. absurd (let some = all c.loop-ring.ring-index c.ring-item.result c.loop-ring-test.true in
          let same = ap (λ (p : R). known_free p) c.ring-item.is in
          let free = c.cached_slots.ensures in
          let none = c.if-cached_slots-eq0.true in
          omega (arith, some, same, free, none))),
    )
