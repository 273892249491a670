-- What the reading of a line says of the text.
use Rattle.std.proofs.Common.{◌≡◌, Option, Some, None, IfSome, IfNone, List, ℕ, option_map, sym}
use Rattle.script_lines.specs.Language.{Saying, IsLine}
use Rattle.script_lines.specs.declared.line.Line.{Line}
use Rattle.script_lines.specs.Line.{saying_of}
use Rattle.script_lines.specs.Reading.{line_of}
use Rattle.script_lines.proofs.WholeLine.{line_says, line_found}

pub some_line : (text : List ℕ) (r : Option Line) → option_map saying_of r ≡ line_of text
    → IfSome r (λ line. IsLine text (saying_of line))
some_line text None h = tt
some_line text (Some line) h = line_says text (saying_of line) (sym h)

pub only_line : (text : List ℕ) (r : Option Line) → option_map saying_of r ≡ line_of text
    → IfSome r (λ line. (other : Saying) → IsLine text other → other ≡ saying_of line)
only_line text None h = tt
only_line text (Some line) h = λ other is. cc (h, line_found text other is)

pub no_line : (text : List ℕ) (r : Option Line) → option_map saying_of r ≡ line_of text
    → IfNone r ((other : Saying) → ¬ (IsLine text other))
no_line text None h = λ other is. absurd (cc (h, line_found text other is))
no_line text (Some line) h = tt
