-- What a run of a script comes to.
use Rattle.std.specs.Prelude.{◌≡◌, ◌⊎◌, ℕ, ◌+◌, ◌≤◌, List, [], ◌∷◌, ◌++◌, length, Option}
use Rattle.std.specs.Str.{IsUtf8}
use Rattle.std.specs.Io.KnownBytes.{Appends, Keeps}
use Rattle.script_lines.specs.Cuts.{Cuts}
use Rattle.script_lines.specs.Language.{Saying, IsLine}
use Rattle.script_lines.specs.declared.lines.Next.TheVariants as next
use Rattle.metrics_program.specs.Printed.{Begins}
use Rattle.metrics_program.specs.Done.{IsStepped}
use Rattle.metrics_program.specs.Refusals.{IsLineRefused}
use Rattle.metrics_program.specs.declared.line_fault.LineFault.TheVariants as fault
use Rattle.metrics_program.specs.declared.script.Stop.{Stop}
use Rattle.metrics_program.specs.declared.script.Stop.TheVariants as stop
use Rattle.metrics_program.specs.declared.state.State.{State}

-- the bytes that a reader has left or a writer holds, where they are known
abbrev pub Known : Type 0
Known = Option (List ℕ)

-- the line of this number, which has this text, was done, and it printed these bytes
abbrev pub IsLineStepped : (old : State) (number : ℕ) (text printed : List ℕ) (new : State) → Type 0
IsLineStepped old number text printed new = (saying : Saying) × IsLine text saying × IsStepped old number saying printed new

-- the lines of these texts, the first of them of this number, were done one after the other, each from the state that
-- the one before it left, and this is what they printed together
abbrev pub Runs : (old : State) (number : ℕ) (texts : List (List ℕ)) (printed : List ℕ) (new : State) → Type 0
Runs old number [] printed new = (new ≡ old) × (printed ≡ [])
Runs old number (text ∷ texts) printed new =
    (between : State) × (first rest : List ℕ) × IsLineStepped old number text first between
    × Runs between (number + 1) texts rest new
    × (printed ≡ first ++ rest)

-- these are the next lines of a reader
abbrev pub AreNextLines : (input : Known) (texts : List (List ℕ)) (input_then : Known) → Type 0
AreNextLines input [] input_then = input_then ≡ input
AreNextLines input (text ∷ texts) input_then = (between : Known) × Cuts input between text next.Line
    × AreNextLines between texts input_then

-- the next lines of a reader, from the first line on, were done: these are their texts, and what they printed was written
pub record HasRun (old : State) (input output : Known) (texts : List (List ℕ)) (new : State)
    (input_then output_then : Known) : Type 0 where
  pub few : length texts ≤ 1000000
  pub lines : AreNextLines input texts input_then
  pub printed : List ℕ
  pub runs : Runs old 1 texts printed new
  pub written : Appends output output_then printed

-- how a line of this text stops a script: it is refused, and nothing is written for it; or it was done, but the
-- writer failed, which has taken a beginning of what the line prints
abbrev pub StopsStep : (old : State) (number : ℕ) (text : List ℕ) (output output_then : Known) (new : State) → Stop → Type 0
StopsStep old number text output output_then new (stop.Refused refused) = IsLineRefused old number text refused new
    × Keeps output output_then
StopsStep old number text output output_then new stop.Broken =
    (printed : List ℕ) × IsLineStepped old number text printed new × Begins output output_then printed

-- the reader's next line is none of a script, where so many were done: it is too long, it is no text, or it is one too many
abbrev pub IsBadNext : (done : ℕ) (input input_then : Known) → Type 0
IsBadNext done input input_then =
    ((line : List ℕ) × Cuts input input_then line next.TooLong)
    ⊎ ((line : List ℕ) × Cuts input input_then line next.Line × (¬ (IsUtf8 line)))
    ⊎ ((line : List ℕ) × Cuts input input_then line next.Line × (1000000 ≤ done))

-- how a script stops where so many lines were done: at its next line; or that is none of a script, or the reader fails, and
-- nothing has changed then
abbrev pub StopsNext : (old : State) (done : ℕ) (input output : Known) (new : State) (input_then output_then : Known) → Stop
    → Type 0
StopsNext old done input output new input_then output_then why =
    ((text : List ℕ) × Cuts input input_then text next.Line × StopsStep old (done + 1) text output output_then new why)
    ⊎ (IsBadNext done input input_then × (why ≡ stop.Refused (record { line = done + 1; fault = fault.BadLine })) × (new ≡ old)
    × Keeps output output_then)
    ⊎ ((why ≡ stop.Broken) × (new ≡ old) × Keeps output output_then)

-- lines were done, and then the script stopped
pub record HasStopped (old : State) (input output : Known) (new : State) (input_then output_then : Known) (why : Stop) : Type 0
  where
    pub texts : List (List ℕ)
    pub between : State
    pub left : Known
    pub held : Known
    pub run : HasRun old input output texts between left held
    pub stops : StopsNext between (length texts) left held new input_then output_then why
