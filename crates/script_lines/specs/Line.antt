-- What the values of the reader's types say.
use Rattle.script_lines.specs.Language.{Saying}
use Rattle.script_lines.specs.Language as language
use Rattle.script_lines.specs.declared.line.Line.{Line}
use Rattle.script_lines.specs.declared.line.Line.TheVariants.{Nothing, Counter, Gauge, Histogram, Child, Count, Go, Scrape}
use Rattle.script_lines.specs.declared.line.Line.TheVariants.{Settle, Window}

-- what a line says
abbrev pub saying_of : Line → Saying
saying_of Nothing = language.Nothing
saying_of (Counter name labels help) = language.Counter name.now labels.now help.now
saying_of (Gauge name labels help) = language.Gauge name.now labels.now help.now
saying_of (Histogram name labels bounds help) = language.Histogram name.now labels.now bounds.now help.now
saying_of (Child name values) = language.Child name.now values.now
saying_of (Count what worker child by times) = language.Count what worker child by times
saying_of Go = language.Go
saying_of Scrape = language.Scrape
saying_of Settle = language.Settle
saying_of (Window size) = language.Window size
