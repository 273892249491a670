use Rattle.std.proofs.Common.{◌≡◌, ◌++◌, inl, inr, sym, ap, ◌∙◌, rules}
use Rattle.metric_desc.proofs.Joined.{moved, one_begins}
use Rattle.metric_desc.proofs.names.same_name.Goals as goal

pub returns-in-Some : goal.returns-in-Some
returns-in-Some c =
    let h = c.in-Some.ensures.cases in
    let is : c.args.a.now ≡ c.args.b.now ++ c.in-Some.rest.now = h.1.1 ∙ ap (λ rest. c.args.b.now ++ rest) (sym h.2) in
    let m = moved c.args.a.now c.args.a_suffix.now c.args.b.now c.args.b_suffix.now c.in-Some.rest.now is in
    (λ t. m.0 (c.is_joined.ensures.0 t), λ e. c.is_joined.ensures.1 (m.1 e))

pub returns-in-Some-strip_prefix : goal.returns-in-Some-strip_prefix
returns-in-Some-strip_prefix c =
    let h = c.in-Some-strip_prefix.ensures.cases in
    let is : c.args.b.now ≡ c.args.a.now ++ c.in-Some-strip_prefix.rest.now = h.1.1
    ∙ ap (λ rest. c.args.a.now ++ rest) (sym h.2) in
    let m = moved c.args.b.now c.args.b_suffix.now c.args.a.now c.args.a_suffix.now c.in-Some-strip_prefix.rest.now is in
    let joined = c.is_joined-in-Some-strip_prefix.ensures in
    (λ t. sym (m.0 (joined.0 t)), λ e. joined.1 (m.1 (sym e)))

pub returns-in_default-strip_prefix : goal.returns-in_default-strip_prefix
returns-in_default-strip_prefix c = (
  λ t. absurd (search rules),
  λ e. elim (one_begins c.args.a.now c.args.a_suffix.now c.args.b.now c.args.b_suffix.now e) [
    | inl p ↦ absurd (c.in_default.ensures.cases p.0 p.1)
    | inr p ↦ absurd (c.in_default-strip_prefix.ensures.cases p.0 p.1)
  ],
)
