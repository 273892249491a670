use Rattle.script_lines.proofs.OneLine.{some_line, only_line, no_line}
use Rattle.script_lines.proofs.line.read_line.Goals as goal

pub returns-clause-some : goal.returns-clause-some
returns-clause-some c = some_line c.args.text.now c.read_text.result c.read_text.ensures

pub returns-clause-only : goal.returns-clause-only
returns-clause-only c = only_line c.args.text.now c.read_text.result c.read_text.ensures

pub returns-clause-none : goal.returns-clause-none
returns-clause-none c = no_line c.args.text.now c.read_text.result c.read_text.ensures
