use Rattle.std.proofs.Common.{◌≡◌, ◌+◌, List, [], ◌∷◌, ◌++◌, length, sym, ap, subst, ◌∙◌, append_assoc, length-append, arith}
use Rattle.std.specs.List.{AllZip}
use Rattle.std.specs.Vec.Iter.{into_iter_items}
use Rattle.expo_text.specs.Scraped.{Family}
use Rattle.scrape_merge.specs.declared.frames.Frame.{Frame as Held}
use Rattle.scrape_merge.specs.Held.{IsShown}
use Rattle.scrape_merge.proofs.Zipped.{zip_push, zip_length}
use Rattle.scrape_merge.proofs.showing.show_all.Goals as goal

pub loop-frame-preserved : goal.loop-frame-preserved
loop-frame-preserved c =
    let rest : List Held = into_iter_items c.next.new.self in
    record {
      split = c.loop-frame.invariant.split ∙ ap (λ (l : List Held). c.loop-frame.yielded ++ l) c.in-Some.ensures.steps.0
          ∙ sym (append_assoc c.loop-frame.yielded (c.in-Some.frame ∷ []) rest);
      shown = subst (λ (l : List Family). AllZip IsShown (c.loop-frame.yielded ++ c.in-Some.frame ∷ []) l) (sym
          c.in-Ok.ensures.items)
          (zip_push IsShown c.loop-frame.yielded c.loop-frame.shown.items c.in-Some.frame c.show.result
          c.loop-frame.invariant.shown
          c.show.ensures);
      room = omega arith;
    }

pub unreachable-requires : goal.unreachable-requires
unreachable-requires c =
    let rest : List Held = into_iter_items c.next.new.self in
    let split : c.args.frames.items ≡ c.loop-frame.yielded ++ c.in-Some.frame ∷ rest =
    c.loop-frame.invariant.split ∙ ap (λ (l : List Held). c.loop-frame.yielded ++ l) c.in-Some.ensures.steps.0 in
    let long : length c.args.frames.items ≡ length c.loop-frame.yielded + length (c.in-Some.frame ∷ rest) =
    ap length split ∙ length-append c.loop-frame.yielded (c.in-Some.frame ∷ rest) in
    let shown : length c.loop-frame.shown.items ≡ length c.loop-frame.yielded =
    zip_length IsShown c.loop-frame.yielded c.loop-frame.shown.items c.loop-frame.invariant.shown in
    let full = c.in_default.ensures.full in
    omega arith
