use Rattle.std.proofs.Common.{◌≤◌, ◌-◌, vec_len, vec_capacity}
use Rattle.std.specs.Io.KnownBytes.{Consumes}
use Rattle.script_lines.specs.Language.{Lacks, feed}
use Rattle.script_lines.proofs.lines.cut_line.Given as goal

-- the line so far was taken of the reader
abbrev pub invariant-loop-reader : goal.invariant-loop-reader
invariant-loop-reader g l = record {
  room : 4096 ≤ vec_capacity l.line;
  short : vec_len l.line ≤ 4096;
  whole : Lacks feed l.line.items;
  took : Consumes (g.R.Read.remaining l.initial.reader) (g.R.Read.remaining l.reader) l.line.items;
}

abbrev pub decreases-loop-reader : goal.decreases-loop-reader
decreases-loop-reader g l = 4096 - vec_len l.line
