use Rattle.std.proofs.Common.{sym, ◌∙◌, arith}
use Rattle.script_lines.proofs.Numbers.{number_says}
use Rattle.metrics_run.proofs.Words.{no_number, one_number}
use Rattle.metrics_run.proofs.arguments.read_count.Goals as goal

pub returns-in_default-clause-none : goal.returns-in_default-clause-none
returns-in_default-clause-none c count small is =
    no_number c.args.word.now count (omega (arith, small.1)) (sym c.in_default.is ∙ c.read_number.ensures) is

pub returns-then-number-eq0-clause-none : goal.returns-then-number-eq0-clause-none
returns-then-number-eq0-clause-none c count small is =
    let same = one_number c.args.word.now c.in-Some.number count (omega (arith, small.1))
    (sym c.in-Some.is ∙ c.read_number.ensures) is in
    absurd (omega (arith, small.0, same, c.if-number-eq0.true))

pub returns-then-number-gt1000000-clause-none : goal.returns-then-number-gt1000000-clause-none
returns-then-number-gt1000000-clause-none c count small is =
    let same = one_number c.args.word.now c.in-Some.number count (omega (arith, small.1))
    (sym c.in-Some.is ∙ c.read_number.ensures) is in
    absurd (omega (arith, small.1, same, c.if-number-gt1000000.true))

pub returns-clause-some : goal.returns-clause-some
returns-clause-some c =
    let says = number_says c.args.word.now c.in-Some.number (sym c.read_number.ensures ∙ c.in-Some.is) in
    ((omega (arith, c.if-number-eq0.false), omega (arith, c.if-number-gt1000000.false)), says.1)
