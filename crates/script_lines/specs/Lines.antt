-- What contracts see of the lines of a reader.
use Rattle.std.specs.Prelude.{ℕ, List, Option}
use Rattle.std.specs.Io.Buffered.{reader_remaining}
use Rattle.script_lines.specs.declared.lines.Lines.{Lines}

-- the bytes of the line that was cut last
abbrev pub line_bytes : {R : Type 0} → Lines R → List ℕ
line_bytes lines = lines.line.items

-- the bytes that are not cut yet, where those of the reader are known
abbrev pub unread : {R : Type 0} → (R → Option (List ℕ)) → Lines R → Option (List ℕ)
unread remaining lines = reader_remaining remaining lines.reader
