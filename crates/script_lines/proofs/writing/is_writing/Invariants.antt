use Rattle.std.proofs.Common.{◌≡◌, false, drop}
use Rattle.script_lines.specs.Reading.{ends_well}
use Rattle.script_lines.proofs.writing.is_writing.Given as goal

-- the text ends well where what is left does
abbrev pub invariant-loop-byte : goal.invariant-loop-byte
invariant-loop-byte l = ends_well l.escaped (drop l.byte-index l.byte-items) ≡ ends_well false l.text
