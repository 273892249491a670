use Rattle.std.proofs.Common.{length, string_bytes}
use denote.Text.{Utf8}
use denote.Shadow.{shadow}
use Rattle.script_lines.proofs.Writings.{SaidSoFar}
use Rattle.script_lines.proofs.writing.unescape.Given as goal

-- what stands in front of the rest is in the text
abbrev pub invariant-loop-plain : goal.invariant-loop-plain
invariant-loop-plain l = shadow (Utf8 l.rest) × SaidSoFar l.written l.rest (string_bytes l.text)

abbrev pub decreases-loop-plain : goal.decreases-loop-plain
decreases-loop-plain l = length l.rest
