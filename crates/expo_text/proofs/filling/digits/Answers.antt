use Rattle.std.proofs.Common.{length, sym, ap, arith}
use Rattle.std.proofs.lemmas.Fmt.{decimal_digit}
use Rattle.expo_text.proofs.Filled.{digits-count}
use Rattle.expo_text.proofs.filling.digits.Goals as goal

pub returns-then-number-eq0 : goal.returns-then-number-eq0
returns-then-number-eq0 c = let none = c.if-number-eq0.true in ap length (sym (decimal_digit c.args.number (omega (arith, none))))

pub returns : goal.returns
returns c = sym (digits-count c.args.number c.ilog10.result c.ranges.number.fits c.ilog10.ensures.power_le
    c.ilog10.ensures.next_power_gt)
