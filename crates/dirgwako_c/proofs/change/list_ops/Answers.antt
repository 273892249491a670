use Rattle.std.proofs.Common.{arith, ℕ, ◌<◌, List, [], ◌∷◌, ◌++◌, All, take, map, length, ap, sym, ◌∙◌, subst}
use Rattle.std.specs.Prelude.{Option, Some}
use Rattle.std.proofs.lemmas.List.{take_more, take_all, take_more_set, length-set, map-append}
use Rattle.std.proofs.lemmas.List.Elements.{All-push}
use Rattle.ledger_core.specs.declared.op.Op.{Op}
use Rattle.dirgwako_c.specs.Changes.{op_in, IsOf}
use Rattle.dirgwako_c.specs.declared.change.Change.{Change}
use Rattle.dirgwako_c.proofs.Reading.{more_mapped}
use Rattle.dirgwako_c.proofs.change.list_ops.Goals as goal

pub loop-place-preserved : goal.loop-place-preserved
loop-place-preserved c =
    let kept = c.loop-place.invariant in
    let changes = c.args.changes.now in let list = c.loop-place.list in
    let place : ℕ = c.loop-place.place in let op : Op = c.in-Some.op in
    let lt = c.loop-place-test.true in let few = c.requires.few in let room = kept.room in
    let inside : place < length list = omega (arith, lt, few, room, c.loop-place.auto.place-end) in
    record {
      room = length-set list place op ∙ kept.room;
      listed = ap (map (λ (o : Op). Some o)) (take_more_set list place op inside)
          ∙ (map-append (λ (o : Op). Some o) (take place list) (op ∷ [])
          ∙ (ap (λ (l : List (Option Op)). l ++ Some op ∷ []) kept.listed
          ∙ (ap (λ (o : Option Op). take place (map op_in changes) ++ o ∷ []) c.in-Some.ensures
          ∙ sym (more_mapped op_in changes place _ lt))));
      of_it = subst (λ (l : List Change). All (IsOf c.args.registry) l) (sym (take_more changes place _ lt))
          (All-push (IsOf c.args.registry) (take place changes) _ kept.of_it c.if-changes-place.false);
    }

pub returns-clause-of_it : goal.returns-clause-of_it
returns-clause-of_it c =
    subst (λ (l : List Change). All (IsOf c.args.registry) l) (take_all c.loop-place.place c.args.changes.now
    (omega (arith, c.loop-place-test.false, c.loop-place.auto.place-end)))
    c.loop-place.invariant.of_it
