use Rattle.std.proofs.Common.{◌≡◌, ℕ, List, sym, ap, ap₂, ◌∙◌}
use Rattle.std.specs.Global.{Vec}
use Rattle.expo_text.specs.Scraped.{Child}
use Rattle.scrape_merge.proofs.Children.{joined_at, is_less, values_cmp}
use Rattle.scrape_merge.proofs.putting.stand_before.Goals as goal

pub returns : goal.returns
returns c = λ said front back.
    let last : c.deref-2.result.now ≡ c.in-Some.last.now.values = c.deref-2.ensures.value
    ∙ ap (λ (values : Vec (List ℕ)). values.items) c.deref.ensures ∙ ap (λ (child : Child). child.values) c.last-2.view_is in
    let first : c.deref-4.result.now ≡ c.in-Some-first.first.now.values = c.deref-4.ensures.value
    ∙ ap (λ (values : Vec (List ℕ)). values.items) c.deref-3.ensures ∙ ap (λ (child : Child). child.values) c.first-2.view_is in
    joined_at c.args.front.now c.args.back.now c.in-Some.last.now c.in-Some-first.first.now c.in-Some.ensures.item.3.1
    c.in-Some-first.ensures.item.3.1
    (sym (c.compare.ensures ∙ ap₂ values_cmp last first) ∙ is_less c.compare.result (sym c.is_lt.ensures ∙ said))
    front back
