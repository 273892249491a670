-- Lines that were done, and one more.
use Rattle.std.proofs.Common.{◌≡◌, ℕ, ◌+◌, ◌<◌, ◌≤◌, List, [], ◌∷◌, ◌++◌, length, length-append, refl, sym, subst, ap, ◌∙◌}
use Rattle.std.proofs.Common.{append-nil, append_assoc, arith, inl, inr}
use Rattle.std.specs.Io.KnownBytes.{Appends, Keeps}
use Rattle.std.specs.Prelude.{Result, Ok, Err, IfErr, IsErrAnd}
use Rattle.std.proofs.KnownBytes.{Appends-nil, Appends-trans, Keeps-refl}
use Rattle.script_lines.specs.Cuts.{Cuts}
use Rattle.script_lines.specs.declared.lines.Next.{Next}
use Rattle.script_lines.specs.declared.lines.Next.TheVariants as next
use Rattle.metrics_program.specs.Ran.{Known, IsLineStepped, Runs, AreNextLines, HasRun, HasStopped, IsBadNext, StopsNext}
use Rattle.metrics_program.specs.Ran.{StopsStep}
use Rattle.metrics_program.specs.declared.line_fault.LineFault.TheVariants as fault
use Rattle.metrics_program.specs.declared.script.Stop.{Stop}
use Rattle.metrics_program.specs.declared.script.Stop.TheVariants as stop
use Rattle.metrics_program.specs.declared.state.State.{State}

one_line : (old new : State) (n : ℕ) (text printed : List ℕ) → IsLineStepped old n text printed new
    → Runs old n (text ∷ []) printed new
one_line old new n text printed step = (new, printed, [], step, (refl, refl), sym (append-nil printed))

runs_more : (old between new : State) (n m : ℕ) (texts : List (List ℕ)) (printed text more : List ℕ) → m ≡ n + length texts
    → Runs old n texts printed between → IsLineStepped between m text more new
    → Runs old n (texts ++ text ∷ []) (printed ++ more) new
runs_more old between new n m [] printed text more is runs step =
    let here : IsLineStepped old n text more new =
    subst (λ (s : State). IsLineStepped s n text more new) runs.0
    (subst (λ (k : ℕ). IsLineStepped between k text more new) (omega (arith, is)) step) in
    subst (λ (l : List ℕ). Runs old n (text ∷ []) (l ++ more) new) (sym runs.1) (one_line old new n text more here)
runs_more old between new n m (first ∷ texts) printed text more is runs step =
    let mid = runs.0 in
    let later : Runs mid (n + 1) (texts ++ text ∷ []) (runs.2 ++ more) new =
    runs_more mid between new (n + 1) m texts runs.2 text more (omega (arith, is)) runs.4 step in
    (mid, runs.1, runs.2 ++ more, runs.3, later, ap (λ (l : List ℕ). l ++ more) runs.5 ∙ append_assoc runs.1 runs.2 more)

lines_more : (input between after : Known) (texts : List (List ℕ)) (text : List ℕ) → AreNextLines input texts between
    → Cuts between after text next.Line
    → AreNextLines input (texts ++ text ∷ []) after
lines_more input between after [] text are cuts = (after, subst (λ (k : Known). Cuts k after text next.Line) are cuts, refl)
lines_more input between after (first ∷ texts) text are cuts =
    (are.0, are.1, lines_more are.0 between after texts text are.2 cuts)

-- no line yet
pub run_none : (old : State) (input output : Known) → HasRun old input output [] old input output
run_none old input output = record {
  few = omega arith;
  lines = refl;
  printed = [];
  runs = (refl, refl);
  written = Appends-nil output;
}

-- one line more
pub run_more : (old between new : State) (input left after output held written : Known) (texts : List (List ℕ)) (m : ℕ)
    (text more : List ℕ)
    → m ≡ length texts → m < 1000000 → HasRun old input output texts between left held → Cuts left after text next.Line
    → IsLineStepped between (m + 1) text more new
    → Appends held written more → HasRun old input output (texts ++ text ∷ []) new after written
run_more old between new input left after output held written texts m text more is few run cuts step appends =
    let longer : length (texts ++ text ∷ []) ≡ length texts + 1 = length-append texts (text ∷ []) in
    record {
      few = omega (arith, is, few, longer);
      lines = lines_more input left after texts text run.lines cuts;
      printed = run.printed ++ more;
      runs = runs_more old between new 1 (m + 1) texts run.printed text more (omega (arith, is)) run.runs step;
      written = Appends-trans output held written run.printed more run.written appends;
    }

-- what follows where the reader or the writer has failed
pub err_broken : (r : Result Unit Stop) (P : Stop → Type 0) → IsErrAnd r (λ why. why ≡ stop.Broken) → P stop.Broken → IfErr r P
err_broken (Ok done) P is p = tt
err_broken (Err why) P is p = subst P (sym is) p

pub err_same : (r : Result Unit Stop) (e : Stop) (P : Stop → Type 0) → IsErrAnd r (λ why. why ≡ e) → P e → IfErr r P
err_same (Ok done) e P is p = tt
err_same (Err why) e P is p = subst P (sym is) p

module _ (old between new : State) (input left after output held written : Known) (texts : List (List ℕ)) (m : ℕ)
    (is : m ≡ length texts)
    (run : HasRun old input output texts between left held) where
  stopped : (why : Stop) → StopsNext between m left held new after written why → HasStopped old input output new after written why
  stopped why stops = record {
    texts = texts;
    between = between;
    left = left;
    held = held;
    run = run;
    stops = subst (λ (n : ℕ). StopsNext between n left held new after written why) is stops;
  }

  -- at a line
  pub stopped_at : (why : Stop) (text : List ℕ) → Cuts left after text next.Line
      → StopsStep between (m + 1) text held written new why
      → HasStopped old input output new after written why
  stopped_at why text cuts stops = stopped why (inl (text, cuts, stops))

module _ (old between : State) (input left after output held : Known) (texts : List (List ℕ)) (m : ℕ) (is : m ≡ length texts)
    (run : HasRun old input output texts between left held) where
  -- at what is no line
  pub stopped_before : (why : Stop) → why ≡ stop.Refused (record { line = m + 1; fault = fault.BadLine }) → IsBadNext m left after
      → HasStopped old input output between after held why
  stopped_before why told bad = stopped old between between input left after output held held texts m is run why
      (inr (inl (bad, told, refl, Keeps-refl held)))

  -- where the reader has failed
  pub stopped_broken : HasStopped old input output between after held stop.Broken
  stopped_broken = stopped old between between input left after output held held texts m is run stop.Broken
      (inr (inr (refl, refl, Keeps-refl held)))

-- the end of the input
pub kept_at_end : (input after : Known) (line : List ℕ) (n : Next) → n ≡ next.End → Cuts input after line n → Keeps input after
kept_at_end input after line n end cuts = (subst (Cuts input after line) end cuts).1

-- a line of another text, which is the same
pub cuts_text : (input after : Known) (line text : List ℕ) (n : Next) → n ≡ next.Line → text ≡ line → Cuts input after line n
    → Cuts input after text next.Line
cuts_text input after line text n is same cuts = subst (λ (l : List ℕ). Cuts input after l next.Line) (sym same)
    (subst (Cuts input after line) is cuts)

-- one line too many
pub bad_over : (m : ℕ) (input after : Known) (line : List ℕ) (n : Next) → 1000000 ≤ m → (n ≡ next.End → ⊥)
    → Cuts input after line n → IsBadNext m input after
bad_over m input after line next.Line most none cuts = inr (inr (line, cuts, most))
bad_over m input after line next.TooLong most none cuts = inl (line, cuts)
bad_over m input after line next.End most none cuts = absurd (none refl)
