use Rattle.std.proofs.Common.{◌≡◌, ◌+◌, List, ◌∷◌, ◌++◌, [], length, Box, refl, sym, ap, subst, ◌∙◌, arith}
use Rattle.std.specs.declared.alloc.Global.{Global}
use Rattle.std.proofs.lemmas.List.{length_push}
use Rattle.page_crew.specs.News.{unboxed, IsChildNews}
use Rattle.page_crew.specs.declared.news.PageNews.{PageNews}
use Rattle.snapshot_update.proofs.Seating.{all_more}
use Rattle.page_crew.proofs.news.child_news.Goals as goal

pub loop-ring-preserved : goal.loop-ring-preserved
loop-ring-preserved g c =
    let T = Box (PageNews g.row.N g.row.C g.row.H g.row.G) Global in
    let inv = c.loop-ring.invariant in
    let news : List T = c.loop-ring.news.items in
    let it : T = c.in_ok-new.field-0 in
    let is : c.push.new.self.items ≡ news ++ it ∷ [] = c.in_ok-push.ensures.items in
    record {
      many = ap length is ∙ length_push news it ∙ ap (λ n. n + 1) inv.many;
      says = all_more (λ (x : T). IsChildNews c.args.family.number c.args.values.now (unboxed x)) news c.push.new.self.items it is
          inv.says
          (subst (IsChildNews c.args.family.number c.args.values.now) (sym c.in_ok-new.ensures.ok) (
            refl,
            c.in_ok-values.ensures,
          ));
    }

pub returns : goal.returns
returns g c =
    let inv = c.loop-ring.invariant in
    let end = c.loop-ring-test.false in
    let within = c.loop-ring.auto._ring-end in
    let many = inv.many in
    record {
      many = omega (arith, many, end, within);
      room = c.have_room.ensures.0 c.if-not-have_room.false;
      says = inv.says;
    }
