use Rattle.std.proofs.Common.{sym, ◌∙◌, arith}
use Rattle.script_lines.proofs.Numbers.{number_says}
use Rattle.metrics_run.proofs.Words.{no_number, one_number}
use Rattle.metrics_run.proofs.arguments.read_port.Goals as goal

pub returns-in_default-clause-none : goal.returns-in_default-clause-none
returns-in_default-clause-none c port small is =
    no_number c.args.word.now port (omega (arith, small)) (sym c.in_default.is ∙ c.read_number.ensures) is

pub returns-then-number-gt65535-clause-none : goal.returns-then-number-gt65535-clause-none
returns-then-number-gt65535-clause-none c port small is =
    let same = one_number c.args.word.now c.in-Some.number port (omega (arith, small)) (sym c.in-Some.is ∙ c.read_number.ensures)
    is in
    absurd (omega (arith, small, same, c.if-number-gt65535.true))

pub returns-clause-some : goal.returns-clause-some
returns-clause-some c =
    let says = number_says c.args.word.now c.in-Some.number (sym c.read_number.ensures ∙ c.in-Some.is) in (
      omega (arith, c.if-number-gt65535.false),
      says.1,
    )
