use Rattle.std.proofs.Common.{◌<◌, subst, sym}
use Rattle.std.proofs.Math.Nat.{mod-lt}
use Rattle.expo_text.proofs.Filled.{ten-pos}
use Rattle.expo_text.proofs.shifting.put_pointed.Goals as goal

pub nonzero_div-number : goal.nonzero_div-number
nonzero_div-number g c = subst (λ k. 0 < k) (sym c.pow-unit.ensures) (ten-pos c.args.digits)

pub nonzero_rem-number : goal.nonzero_rem-number
nonzero_rem-number g c = subst (λ k. 0 < k) (sym c.pow-unit.ensures) (ten-pos c.args.digits)

pub put_fraction-requires-clause-below : goal.put_fraction-requires-clause-below
put_fraction-requires-clause-below g c =
    mod-lt c.args.number (subst (λ k. 0 < k) (sym c.pow-unit.ensures) (ten-pos c.args.digits))
