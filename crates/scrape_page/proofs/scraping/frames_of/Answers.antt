use Rattle.std.proofs.Common.{◌≡◌, ℕ, ◌<◌, Option, length, get_or, ap, subst, sym, arith, ◌∙◌}
use Rattle.std.specs.Arc.{arc_value}
use Rattle.std.proofs.lemmas.List.{get_or_default}
use Rattle.scrape_merge.specs.Frames.{IsPushed}
use Rattle.scrape_page.specs.Families.{PageFamily}
use Rattle.scrape_page.proofs.Framing.{more_single, more_many}
use Rattle.scrape_page.proofs.scraping.frames_of.Goals as goal
use Rattle.scrape_page.proofs.scraping.frames_of.Goals.{then-len-le1, else-len-le1}

pub loop-number-preserved : goal.loop-number-preserved
loop-number-preserved c =
    let n : ℕ = get_or c.args.order.now c.loop-number.number-index 0 in
    let within : c.loop-number.number-index < length c.args.order.now = omega arith in
    let here : n ≡ get_or c.args.order.now c.loop-number.number-index n =
    get_or_default c.args.order.now c.loop-number.number-index 0 n within in
    let there : n < length c.args.families.now = c.requires c.loop-number.number-index 0 within in
    let family : PageFamily = record {
      desc = arc_value c.family.inside.desc;
      group = c.family.inside.group;
      home = c.family.inside.home;
      parts = c.family.inside.parts.items;
      children = c.family.inside.children;
    } in
    let view : family ≡ c.index-families-number.result = c.family.view_is in
    let is : family ≡ get_or c.args.families.now n family =
    view ∙ c.index-families-number.is ∙ ap (get_or c.args.families.now n) (sym view) in
    let pushed : IsPushed family.desc c.if-len-le1.room c.loop-number.frames c.push.new.self = c.in_ok-push.ensures.pushed in
    record {
      numbers = let kept = pushed.numbers in let old = c.loop-number.invariant.numbers in omega (arith, kept, old);
      frames = elim c.if-len-le1.branch [
        | then-len-le1 w ↦ more_single c.args.families.now c.args.order.now c.loop-number.number-index n family
            c.loop-number.frames
            c.push.new.self within here there is c.loop-number.invariant.frames
            (subst (λ (room : Option ℕ). IsPushed family.desc room c.loop-number.frames c.push.new.self) w.room-is pushed)
            (omega arith)
        | else-len-le1 w ↦ more_many c.args.families.now c.args.order.now c.loop-number.number-index n family c.loop-number.frames
            c.push.new.self within here there is c.loop-number.invariant.frames
            (subst (λ (room : Option ℕ). IsPushed family.desc room c.loop-number.frames c.push.new.self) w.room-is pushed)
      ];
    }
