use Rattle.std.proofs.Common.{rules, ◌≡◌, ℕ, List, [], ◌∷◌, ◌++◌, Bor, All, map, take, refl, inl, inr, ap, sym, subst, ◌∙◌}
use Rattle.std.proofs.Common.{arith}
use Rattle.std.proofs.lemmas.List.{take_all}
use Rattle.std.proofs.lemmas.List.Elements.{All-nil}
use Rattle.metric_names.specs.LabelName.{IsLabelName}
use Rattle.script_lines.specs.Language.{AreLabels}
use Rattle.metrics_program.proofs.Reading.{now, more_words, all_push, first_bad}
use Rattle.metrics_program.proofs.parts.read_labels.Goals as goal

pub loop-word-init : goal.loop-word-init
loop-word-init c = (
  subst (λ (l : List (Bor (List ℕ))). AreLabels c.args.labels.now (map now l)) (sym c.deref-word-items.ensures.value)
      c.in-Ok.ensures,
  c.in-Ok-with_capacity.ensures.items,
  subst (All IsLabelName) (sym c.in-Ok-with_capacity.ensures.items) (All-nil IsLabelName),
)

pub returns-in-Err-clause-fault : goal.returns-in-Err-clause-fault
returns-in-Err-clause-fault c =
    let kept = c.loop-word.invariant in
    inr (
      c.in-Err.fault,
      refl,
      first_bad c.args.labels.now c.deref-word-items.result.now c.loop-word.word-index _ c.in-Err.fault c.loop-word-test.true
          kept.0
          (subst (All IsLabelName) kept.1 kept.2) c.in-Err.ensures.fault,
    )

pub loop-word-preserved : goal.loop-word-preserved
loop-word-preserved c =
    let kept = c.loop-word.invariant in
    let pushed : c.push.new.self.items ≡ c.loop-word.names.items ++ c.in-Ok-read.name ∷ [] = search rules in (
      kept.0,
      pushed ∙ ap (λ (l : List (List ℕ)). l ++ c.in-Ok-read.name ∷ []) kept.1
          ∙ ap (λ (n : List ℕ). map now (take c.loop-word.word-index c.deref-word-items.result.now) ++ n ∷ [])
          c.in-Ok-read.ensures.text
          ∙ sym (more_words c.deref-word-items.result.now c.loop-word.word-index _ c.loop-word-test.true),
      subst (All IsLabelName) (sym pushed)
          (all_push IsLabelName c.loop-word.names.items c.in-Ok-read.name kept.2 c.in-Ok-read.ensures.grammar),
    )

pub returns-in_default-clause-fault : goal.returns-in_default-clause-fault
returns-in_default-clause-fault c = inl refl

pub returns-in_default-with_capacity-clause-fault : goal.returns-in_default-with_capacity-clause-fault
returns-in_default-with_capacity-clause-fault c = inl refl

pub returns-then-is_err-clause-fault : goal.returns-then-is_err-clause-fault
returns-then-is_err-clause-fault c = inl refl

pub returns-clause-read : goal.returns-clause-read
returns-clause-read c =
    let kept = c.loop-word.invariant in
    let end = c.loop-word-test.false in
    let all = take_all c.loop-word.word-index c.deref-word-items.result.now (omega (arith, end)) in
    subst (AreLabels c.args.labels.now) (ap (map now) (sym all) ∙ sym kept.1) kept.0

pub returns-clause-good : goal.returns-clause-good
returns-clause-good c =
    let kept = c.loop-word.invariant in
    let end = c.loop-word-test.false in
    let all = take_all c.loop-word.word-index c.deref-word-items.result.now (omega (arith, end)) in
    (c.loop-word.names.items, subst (AreLabels c.args.labels.now) (ap (map now) (sym all) ∙ sym kept.1) kept.0, kept.2)
