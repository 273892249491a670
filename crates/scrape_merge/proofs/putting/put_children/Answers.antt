use Rattle.std.proofs.Common.{◌++◌, List, AllPairs, sym, ap₂, subst, ◌∙◌, rules}
use mathlib.Core.Bool.{true≢false}
use Rattle.expo_text.specs.Scraped.{Child}
use Rattle.expo_text.specs.Order.{IsChildBefore}
use Rattle.scrape_merge.proofs.putting.put_children.Goals as goal
use Rattle.scrape_merge.proofs.putting.put_children.Goals.{then-frame-2, else-frame-2}

pub returns : goal.returns
returns c = record {
  desc = search rules;
  single = search rules;
  children = search rules;
  room = search rules;
  marked = λ marked now. elim c.if-frame-2.branch [
    | then-frame-2 w ↦
        subst (AllPairs IsChildBefore)
        (ap₂ (λ (xs ys : List Child). xs ++ ys) w.deref.ensures.value w.deref-then-frame-2.ensures.value ∙ sym
        c.in-Ok.ensures.items)
        (w.stand_before-frame.ensures (sym w.frame-is ∙ now)
        (subst (AllPairs IsChildBefore) (sym w.deref.ensures.value) (marked w.if-frame-2.true))
        (subst (AllPairs IsChildBefore) (sym w.deref-then-frame-2.ensures.value) c.requires.ordered))
    | else-frame-2 w ↦ absurd (true≢false (sym now ∙ w.frame-is ∙ w.if-frame-2.false))
  ];
}
