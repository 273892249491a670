use Rattle.std.proofs.Common.{◌≡◌, ◌++◌, ℕ, ◌<◌, List, [], get_or, length, map, Contains, IsTrue, sym, ap, subst, ◌∙◌, arith}
use Rattle.std.proofs.Common.{rules}
use Rattle.std.proofs.Math.ListN.{length-map}
use Rattle.std.proofs.lemmas.List.{get_or-map}
use Rattle.std.specs.Borrow.{Bor}
use Rattle.metric_desc.specs.Desc.{names_of, suffixes_of}
use Rattle.metric_desc.proofs.Joined.{none_more, none_contained, one_contained}
use Rattle.metric_desc.proofs.names.clashes.Goals as goal

pub loop-suffix-preserved : goal.loop-suffix-preserved
loop-suffix-preserved c =
    let is : c.as_str.result.now ≡ c.args.a.now.name = c.as_str.ensures.text ∙ c.name.ensures in
    let none : Bor (List ℕ) = record { ref_ptr = (0, 0); now = [] } in
    let suffix : List ℕ = (get_or c.suffixes-suffix-items.result.now c.loop-suffix.suffix-index none).now in
    none_more (λ (o : Bor (List ℕ)). o.now) (λ o. Contains (names_of c.args.b.now) (c.args.a.now.name ++ o))
    c.suffixes-suffix-items.result.now c.loop-suffix.suffix-index none c.loop-suffix-test.true c.loop-suffix.invariant
    (λ e. let found : IsTrue c.has_name.result =
    c.has_name.ensures.1 (subst (λ name. Contains (names_of c.args.b.now) (name ++ suffix)) (sym is) e) in
    absurd (search rules))

pub returns-then-has_name : goal.returns-then-has_name
returns-then-has_name c = (
  λ t.
      let is : c.as_str.result.now ≡ c.args.a.now.name = c.as_str.ensures.text ∙ c.name.ensures in
      let none : Bor (List ℕ) = record { ref_ptr = (0, 0); now = [] } in
      let suffix : List ℕ = (get_or c.suffixes-suffix-items.result.now c.loop-suffix.suffix-index none).now in
      let all : map (λ (o : Bor (List ℕ)). o.now) c.suffixes-suffix-items.result.now ≡ suffixes_of c.args.a.now.kind =
      c.suffixes-suffix-items.ensures ∙ ap suffixes_of c.kind.ensures in
      let within : c.loop-suffix.suffix-index < length (map (λ (o : Bor (List ℕ)). o.now) c.suffixes-suffix-items.result.now) =
      omega (arith, length-map c.suffixes-suffix-items.result.now (λ (o : Bor (List ℕ)). o.now)) in
      let here : get_or (map (λ (o : Bor (List ℕ)). o.now) c.suffixes-suffix-items.result.now) c.loop-suffix.suffix-index
      [] ≡ suffix = get_or-map (λ (o : Bor (List ℕ)). o.now) c.suffixes-suffix-items.result.now c.loop-suffix.suffix-index
      none [] c.loop-suffix-test.true in
      let one : Contains (map (λ o. c.args.a.now.name ++ o)
      (map (λ (o : Bor (List ℕ)). o.now) c.suffixes-suffix-items.result.now)) (c.args.a.now.name ++ suffix) =
      subst (λ s. Contains (map (λ o. c.args.a.now.name ++ o)
      (map (λ (o : Bor (List ℕ)). o.now) c.suffixes-suffix-items.result.now)) (c.args.a.now.name ++ s)) here
      (one_contained (λ o. c.args.a.now.name ++ o) (map (λ (o : Bor (List ℕ)). o.now) c.suffixes-suffix-items.result.now)
      c.loop-suffix.suffix-index [] within) in
      let mine : Contains (names_of c.args.a.now) (c.args.a.now.name ++ suffix) =
      subst (λ os. Contains (map (λ o. c.args.a.now.name ++ o) os) (c.args.a.now.name ++ suffix)) all one in
      let yours : Contains (names_of c.args.b.now) (c.args.a.now.name ++ suffix) =
      subst (λ name. Contains (names_of c.args.b.now) (name ++ suffix)) is (c.has_name.ensures.0 (search rules)) in
      (c.args.a.now.name ++ suffix, mine, yours),
  λ _. search rules,
)

pub returns : goal.returns
returns c = (
  λ t. absurd (search rules),
  λ clash. absurd (
      let all : map (λ (o : Bor (List ℕ)). o.now) c.suffixes-suffix-items.result.now ≡ suffixes_of c.args.a.now.kind =
      c.suffixes-suffix-items.ensures ∙ ap suffixes_of c.kind.ensures in
      let some : Contains (map (λ o. c.args.a.now.name ++ o)
      (map (λ (o : Bor (List ℕ)). o.now) c.suffixes-suffix-items.result.now)) clash.0 =
      subst (λ os. Contains (map (λ o. c.args.a.now.name ++ o) os) clash.0) (sym all) clash.1 in
      none_contained (λ o. c.args.a.now.name ++ o) (map (λ (o : Bor (List ℕ)). o.now) c.suffixes-suffix-items.result.now)
      (λ name. Contains (names_of c.args.b.now) name)
      (λ k d lt. c.loop-suffix.invariant k d
      (omega (arith, length-map c.suffixes-suffix-items.result.now (λ (o : Bor (List ℕ)). o.now)))) clash.0 some clash.2
      ),
)
