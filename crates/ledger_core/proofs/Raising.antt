-- A list of operations of which one adds another amount.
use Rattle.std.proofs.Common.{◌≡◌, ℕ, ◌<◌, List, Some, length, slice_get, get_or, set, take, sym, ap, ◌∙◌, arith}
use Rattle.std.proofs.Math.Seq.{take-set-lt}
use Rattle.std.proofs.lemmas.List.{length-take, get_or-take}
use Rattle.std.proofs.lemmas.Option.{get_or_from_slice_get}
use Rattle.ledger_core.specs.declared.op.Op.{Op}
use Rattle.ledger_core.specs.declared.op.Op.TheVariants.{Inc}
use Rattle.ledger_core.specs.Joining.{with_amount}

pub raised : (ops : List Op) (count at amount : ℕ) (now : List Op) (op here new : Op) → take count ops ≡ now → at < length now
    → slice_get now at ≡ Some op → get_or ops at (Inc 0 0) ≡ here → new ≡ with_amount amount here
    → take count (set ops at new) ≡ set now at (with_amount amount op)
raised ops count at amount now op here new e lt is h n =
    let long = length-take count ops in
    let same = ap length e in
    let below : at < count = omega arith in
    let here_is : op ≡ here =
    sym (get_or_from_slice_get now at op (Inc 0 0) is) ∙ ap (λ xs. get_or xs at (Inc 0 0)) (sym e)
    ∙ get_or-take count ops at (Inc 0 0) below ∙ h in
    take-set-lt count ops at new below ∙ ap (λ xs. set xs at new) e
    ∙ ap (λ x. set now at x) (n ∙ ap (λ x. with_amount amount x) (sym here_is))
