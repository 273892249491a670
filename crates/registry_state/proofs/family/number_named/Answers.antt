use Rattle.std.proofs.Common.{◌≢◌, All, subst, arith, rules}
use Rattle.std.proofs.lemmas.List.{take_all}
use Rattle.std.proofs.lemmas.List.Elements.{All-more}
use Rattle.registry_state.specs.Replay.{Family}
use Rattle.registry_state.proofs.family.number_named.Goals as goal

pub loop-place-preserved : goal.loop-place-preserved
loop-place-preserved c =
    let P : Family → Type 0 = λ (family : Family). family.desc.name ≢ c.args.name.now in
    let none : P c.index-families-place.result = search rules in
    All-more P _ _ c.index-families-place.result (omega arith) c.loop-place.invariant (subst P c.index-families-place.is none)

pub returns : goal.returns
returns c = subst (All (λ (family : Family). family.desc.name ≢ c.args.name.now)) (take_all _ _ (omega arith))
    c.loop-place.invariant
