use Rattle.std.proofs.Common.{◌∙◌, sym, ap, cond, Some, None, Bool}
use Rattle.snapshot_core.proofs.Rows.{applied_by}
use Rattle.snapshot_core.proofs.words.apply.Goals as goal

pub returns-clause-applied : goal.returns-clause-applied
returns-clause-applied g c =
    applied_by g.row.C g.row.H g.row.G c.args.ops.now c.args.row.now c.try_apply.new.self c.try_apply.result
    (sym c.len.ensures.within ∙ c.len.ensures.width) c.try_apply.ensures.ok c.try_apply.ensures.accepted c.try_apply.ensures.fault
    ∙ ap (λ (b : Bool). cond b (Some c.try_apply.new.self) None) (sym c.is_ok.ensures.value)
