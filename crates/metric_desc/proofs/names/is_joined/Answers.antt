use Rattle.std.proofs.Common.{◌≡◌, ◌↔◌, ◌++◌, IsTrue, sym, ap, ◌∙◌, rules}
use Rattle.std.proofs.lemmas.List.{append_cancel_left}
use Rattle.metric_desc.proofs.names.is_joined.Goals as goal

pub returns-in-Some : goal.returns-in-Some
returns-in-Some c =
    let h = c.in-Some.ensures.cases in
    let is : c.args.text.now ≡ c.args.front.now ++ c.in-Some.rest.now = h.1.1 ∙ ap (λ rest. c.args.front.now ++ rest) (sym h.2) in
    let same : IsTrue c.eq.result ↔ (c.in-Some.rest.now ≡ c.args.back.now) = search rules in (
      λ t. is ∙ ap (λ rest. c.args.front.now ++ rest) (same.0 t),
      λ e. same.1 (append_cancel_left c.args.front.now c.in-Some.rest.now c.args.back.now (sym is ∙ e)),
    )
