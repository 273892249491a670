use Rattle.std.specs.Io.Buffered.{reader_remaining}
use Rattle.script_lines.proofs.LinesIn.{takes_line}
use Rattle.script_lines.specs.Lines.{unread}
use Rattle.script_lines.proofs.lines.Lines.next.Goals as goal

pub returns-clause-line : goal.returns-clause-line
returns-clause-line g c =
    takes_line (unread g.R.Read.remaining c.args.self.now) (reader_remaining g.R.Read.remaining c.cut_line.new.reader)
    c.cut_line.new.line.items c.cut_line.result c.cut_line.ensures.whole c.cut_line.ensures.ok
