use Rattle.std.proofs.Common.{◌+◌, rules, ◌≡◌, ℕ, List, [], ◌∷◌, ◌++◌, Bor, All, map, take, refl, inl, sym, subst}
use Rattle.std.proofs.Common.{arith}
use Rattle.std.proofs.lemmas.List.{take_all}
use Rattle.std.proofs.lemmas.List.Elements.{All-nil}
use Rattle.script_lines.specs.Language.{AreValues}
use Rattle.metrics_program.specs.Parts.{AreWritten, IsGoodValue}
use Rattle.metrics_program.proofs.Reading.{now, more_words, all_push, written_push, word_writes, first_bad_value}
use Rattle.metrics_program.proofs.parts.read_values.Goals as goal

pub loop-word-init : goal.loop-word-init
loop-word-init c = (
  subst (λ (l : List (Bor (List ℕ))). AreValues c.args.values.now (map now l)) (sym c.deref-word-items.ensures.value)
      c.in-Ok.ensures,
  subst (λ (l : List (List ℕ)). AreWritten l []) (sym c.in-Ok-with_capacity.ensures.items) tt,
  All-nil IsGoodValue,
)

pub read_value-requires : goal.read_value-requires
read_value-requires c = word_writes c.args.values.now c.deref-word-items.result.now c.loop-word.word-index _ c.loop-word-test.true
    c.loop-word.invariant.0

pub returns-in-Err-clause-fault : goal.returns-in-Err-clause-fault
returns-in-Err-clause-fault c =
    let kept = c.loop-word.invariant in
    first_bad_value c.args.values.now c.deref-word-items.result.now c.loop-word.word-index _ c.in-Err.fault c.loop-word-test.true
    kept.0 kept.2 c.in-Err.ensures.fault

pub loop-word-preserved : goal.loop-word-preserved
loop-word-preserved c =
    let kept = c.loop-word.invariant in
    let pushed : c.push.new.self.items ≡ c.loop-word.read.items ++ c.in-Ok-read_value.value ∷ [] = search rules in
    let more = more_words c.deref-word-items.result.now c.loop-word.word-index _ c.loop-word-test.true in (
      kept.0,
      subst (λ (l : List (List ℕ)). AreWritten l (map now (take (c.loop-word.word-index + 1) c.deref-word-items.result.now)))
          (sym pushed)
          (subst (AreWritten (c.loop-word.read.items ++ c.in-Ok-read_value.value ∷ [])) (sym more)
          (written_push c.loop-word.read.items _ c.in-Ok-read_value.value _ kept.1 c.in-Ok-read_value.ensures.read)),
      subst (All IsGoodValue) (sym more) (all_push IsGoodValue _ _ kept.2 c.in-Ok-read_value.ensures.good),
    )

pub returns-in_default-clause-fault : goal.returns-in_default-clause-fault
returns-in_default-clause-fault c = inl refl

pub returns-in_default-with_capacity-clause-fault : goal.returns-in_default-with_capacity-clause-fault
returns-in_default-with_capacity-clause-fault c = inl refl

pub returns-then-is_err-clause-fault : goal.returns-then-is_err-clause-fault
returns-then-is_err-clause-fault c = inl refl

pub returns-clause-read : goal.returns-clause-read
returns-clause-read c =
    let kept = c.loop-word.invariant in
    let end = c.loop-word-test.false in
    let all = take_all c.loop-word.word-index c.deref-word-items.result.now (omega (arith, end)) in (
      map now c.deref-word-items.result.now,
      kept.0,
      subst (λ (l : List (Bor (List ℕ))). AreWritten c.loop-word.read.items (map now l)) all kept.1,
    )
