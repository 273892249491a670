-- How a script ends, and the exit statuses of the program.
use Rattle.std.specs.Prelude.{◌≡◌, ℕ, List, Option, Result, Ok, Err, IsOk}
use Rattle.std.specs.Io.KnownBytes.{Appends, Keeps}
use Rattle.metrics_program.specs.Printed.{Begins}
use Rattle.metrics_program.specs.LineFault.{number_of}
use Rattle.metrics_program.specs.ScriptLines.{refused_line}
use Rattle.metrics_program.specs.declared.refused.Refused.{Refused as Refusal}
use Rattle.metrics_program.specs.declared.script.Stop.{Stop}
use Rattle.metrics_program.specs.declared.script.Stop.TheVariants as stop
use Rattle.metrics_program.specs.declared.script.ScriptEnd.{ScriptEnd}
use Rattle.metrics_program.specs.declared.script.ScriptEnd.TheVariants.{Done, Refused, Broken}

-- 0 after the last line, 1 after a refused line, 3 where the reader or the writer failed
abbrev pub status_of : ScriptEnd → ℕ
status_of Done = 0
status_of (Refused line number) = 1
status_of Broken = 3

-- where the reader or the writer has failed, a beginning of the line that tells a refusal is written, if there was one, and else
-- nothing
abbrev pub Breaks : (ran : Result Unit Stop) → (before after : Option (List ℕ)) → Type 0
Breaks (Ok done) before after = Keeps before after
Breaks (Err (stop.Refused refusal)) before after = Begins before after (refused_line refusal.line (number_of refusal.fault))
Breaks (Err stop.Broken) before after = Keeps before after

-- a script that ran so ends so, and writes this beside what its lines printed: nothing after its last line, and the
-- line that tells the refusal, with the number of its cause, after a refused line
abbrev pub IsEnd : (ran : Result Unit Stop) → (before after : Option (List ℕ)) → ScriptEnd → Type 0
IsEnd ran before after Done = IsOk ran × Keeps before after
IsEnd ran before after (Refused line number) =
    (refusal : Refusal) × (ran ≡ Err (stop.Refused refusal)) × (line ≡ refusal.line) × (number ≡ number_of refusal.fault)
    × Appends before after (refused_line line number)
IsEnd ran before after Broken = Breaks ran before after
