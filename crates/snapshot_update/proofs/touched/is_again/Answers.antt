use Rattle.std.proofs.Common.{◌≡◌, ℕ, [], ◌∷◌, sym, ◌∙◌, arith}
use Rattle.std.proofs.lemmas.List.Sums.{sum_by_push}
use Rattle.ledger_core.specs.declared.op.Op.{Op}
use Rattle.ledger_core.specs.Ops.{part, sum_ops}
use Rattle.snapshot_update.proofs.touched.is_again.Goals as goal

-- a list of one operation adds what this does
sum_of_one : (c h k : ℕ) (op : Op) → sum_ops c h (op ∷ []) k ≡ part c h op k
sum_of_one c h k op = let s = sum_by_push (λ o. part c h o k) [] op in omega (arith, s)

pub returns-clause-touched : goal.returns-clause-touched
returns-clause-touched g c = λ yes. record {
  listed = sym c.is_all.ensures ∙ c.if-is_all.false;
  rises = λ k none. sum_of_one g.row.C g.row.H k c.args.op.now
      ∙ c.is_one.ensures.rises yes k (rw c.as_slice.ensures.listed none);
  inside = λ j has. c.is_one.ensures.inside yes j (rw c.as_slice.ensures.listed has);
}
