use Rattle.std.proofs.Common.{◌≡◌, ◌++◌, ℕ, List, [], get_or, map, Contains, IsTrue, refl, sym, ap, subst, ◌∙◌, arith, rules}
use Rattle.std.proofs.Math.ListN.{length-map}
use Rattle.std.specs.Borrow.{Bor}
use Rattle.metric_desc.specs.Desc.{suffixes_of}
use Rattle.metric_desc.proofs.Joined.{none_more, none_contained}
use Rattle.metric_desc.proofs.names.has_name.Goals as goal

pub loop-own-preserved : goal.loop-own-preserved
loop-own-preserved c =
    let is : c.as_str.result.now ≡ c.args.desc.now.name = c.as_str.ensures.text ∙ c.name.ensures in
    let none : Bor (List ℕ) = record { ref_ptr = (0, 0); now = [] } in
    let own : List ℕ = (get_or c.suffixes-own-items.result.now c.loop-own.own-index none).now in
    none_more (λ (o : Bor (List ℕ)). o.now) (λ o. c.args.desc.now.name ++ o ≡ c.args.name.now ++ c.args.suffix.now)
    c.suffixes-own-items.result.now c.loop-own.own-index none c.loop-own-test.true c.loop-own.invariant
    (λ e. let found : IsTrue c.same_name.result = c.same_name.ensures.1 (ap (λ name. name ++ own) is ∙ e) in
    absurd (search rules))

pub returns : goal.returns
returns c = (
  λ t. absurd (search rules),
  λ found. absurd (
      let all : map (λ (o : Bor (List ℕ)). o.now) c.suffixes-own-items.result.now ≡ suffixes_of c.args.desc.now.kind =
      c.suffixes-own-items.ensures ∙ ap suffixes_of c.kind.ensures in
      let some : Contains (map (λ o. c.args.desc.now.name ++ o)
      (map (λ (o : Bor (List ℕ)). o.now) c.suffixes-own-items.result.now)) (c.args.name.now ++ c.args.suffix.now) =
      subst (λ os. Contains (map (λ o. c.args.desc.now.name ++ o) os) (c.args.name.now ++ c.args.suffix.now))
      (sym all) found in
      none_contained (λ o. c.args.desc.now.name ++ o) (map (λ (o : Bor (List ℕ)). o.now) c.suffixes-own-items.result.now)
      (λ name. name ≡ c.args.name.now ++ c.args.suffix.now)
      (λ k d lt. c.loop-own.invariant k d
      (omega (arith, length-map c.suffixes-own-items.result.now (λ (o : Bor (List ℕ)). o.now))))
      (c.args.name.now ++ c.args.suffix.now) some refl
      ),
)
