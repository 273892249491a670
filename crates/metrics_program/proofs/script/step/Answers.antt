use Rattle.std.proofs.Common.{[], List, ℕ, refl, inl, inr, sym, subst}
use Rattle.std.specs.Io.KnownBytes.{Appends}
use Rattle.std.proofs.KnownBytes.{Appends-nil, Keeps-refl}
use Rattle.script_lines.specs.Language.{IsLine}
use Rattle.script_lines.specs.Language as language
use Rattle.script_lines.specs.Line.{saying_of}
use Rattle.metrics_program.specs.Printed.{Begins}
use Rattle.metrics_program.proofs.Printing.{begun}
use Rattle.metrics_program.specs.Ran.{StopsStep}
use Rattle.metrics_program.proofs.Readying.{act_refused, done_stepped}
use Rattle.metrics_program.proofs.Running.{err_broken}
use Rattle.metrics_program.specs.ScriptLines.{settled_line, kept_line}
use Rattle.metrics_program.specs.State.{IsSame}
use Rattle.metrics_program.specs.declared.state.State.{State}
use Rattle.metrics_program.proofs.script.step.Goals as goal

same_state : (state : State) → IsSame state state
same_state state = record {
  beside = record { board = refl; workers = refl; settler = refl; children = refl; queue = refl };
  registry = refl;
}

pub returns-in_err-send-in-Ok-scrape-clause-stopped : goal.returns-in_err-send-in-Ok-scrape-clause-stopped
returns-in_err-send-in-Ok-scrape-clause-stopped g c =
    let before = g.W.Write.contents c.args.writer.now in
    let after = g.W.Write.contents c.send.new.writer in
    let line = subst (λ it. IsLine c.args.text.now (saying_of it)) c.in-Scrape.is c.in-Some.ensures.some in
    let front = c.in_err-send-in-Ok-scrape.ensures.front in
    let begins = subst (Begins before after) c.deref.ensures.value (begun before after front.0 c.deref.result.now front.1) in
    err_broken c.from_residual.result (StopsStep c.args.state.now c.args.number c.args.text.now before after c.scrape.new.self)
    c.from_residual.ensures.1
    (c.in-Ok-scrape.text.items, (language.Scrape, line, c.in-Ok-scrape.ensures.scraped), begins)

pub returns-in-Ok-clause-stepped : goal.returns-in-Ok-clause-stepped
returns-in-Ok-clause-stepped g c =
    let line = subst (λ it. IsLine c.args.text.now (saying_of it)) c.in-Go.is c.in-Some.ensures.some in
    ([], (language.Go, line, (refl, c.in-Ok.ensures.gone)), Appends-nil (g.W.Write.contents c.args.writer.now))

pub returns-in-Ok-act : goal.returns-in-Ok-act
returns-in-Ok-act g c =
    let this = c.in-Some.line in
    let old = c.args.state.now in
    let new = c.act.new.state in
    let line = c.in-Some.ensures.some in
    record {
      ready = c.in-Ok-act.ensures.ready;
      stepped = (
        [],
        (
          saying_of this,
          line,
          done_stepped old new c.args.number this c.in_default-line.not-Go c.in_default-line.not-Scrape
              c.in_default-line.not-Settle c.in_default-line.not-Window
              c.in-Ok-act.ensures.done,
        ),
        Appends-nil (g.W.Write.contents c.args.writer.now),
      );
      stopped = tt;
    }

pub returns-in-Err-act : goal.returns-in-Err-act
returns-in-Err-act g c =
    let this = c.in-Some.line in
    let old = c.args.state.now in
    let new = c.act.new.state in
    let writer = g.W.Write.contents c.args.writer.now in
    let line = c.in-Some.ensures.some in
    let refused = act_refused old new c.args.number this c.in-Err-act.fault c.in-Err-act.ensures.refused
    c.in-Err-act.ensures.unchanged in
    record {
      ready = tt;
      stepped = tt;
      stopped = subst (StopsStep old c.args.number c.args.text.now writer writer new) (sym c.stop_at-in-Err-act.ensures)
          (inr (saying_of this, line, refused), Keeps-refl writer);
    }

pub returns-in_default-clause-stopped : goal.returns-in_default-clause-stopped
returns-in_default-clause-stopped g c =
    let old = c.args.state.now in
    let writer = g.W.Write.contents c.args.writer.now in
    subst (StopsStep old c.args.number c.args.text.now writer writer old) (sym c.stop_at.ensures)
    (inl (c.in_default.ensures.none, (refl, refl), same_state old), Keeps-refl writer)

pub returns-in-Err-clause-stopped : goal.returns-in-Err-clause-stopped
returns-in-Err-clause-stopped g c =
    let line = subst (λ it. IsLine c.args.text.now (saying_of it)) c.in-Go.is c.in-Some.ensures.some in
    (inr (language.Go, line, (c.in-Err.ensures.fault, c.in-Err.ensures.lost)), Keeps-refl (g.W.Write.contents c.args.writer.now))

pub returns-in_ok-send-in-Ok-scrape-clause-stepped : goal.returns-in_ok-send-in-Ok-scrape-clause-stepped
returns-in_ok-send-in-Ok-scrape-clause-stepped g c =
    let before = g.W.Write.contents c.args.writer.now in
    let after = g.W.Write.contents c.send.new.writer in
    let line = subst (λ it. IsLine c.args.text.now (saying_of it)) c.in-Scrape.is c.in-Some.ensures.some in (
      c.in-Ok-scrape.text.items,
      (language.Scrape, line, c.in-Ok-scrape.ensures.scraped),
      subst (Appends before after) c.deref.ensures.value c.in_ok-send-in-Ok-scrape.ensures.sent,
    )

pub returns-in-Err-scrape-clause-stopped : goal.returns-in-Err-scrape-clause-stopped
returns-in-Err-scrape-clause-stopped g c =
    let writer = g.W.Write.contents c.args.writer.now in
    let line = subst (λ it. IsLine c.args.text.now (saying_of it)) c.in-Scrape.is c.in-Some.ensures.some in
    subst (StopsStep c.args.state.now c.args.number c.args.text.now writer writer c.scrape.new.self)
    (sym c.stop_at-in-Err-scrape.ensures)
    (inr (language.Scrape, line, (refl, c.in-Err-scrape.ensures.fault)), Keeps-refl writer)

pub returns-in_err-tell_settled-in-Settle-clause-stopped : goal.returns-in_err-tell_settled-in-Settle-clause-stopped
returns-in_err-tell_settled-in-Settle-clause-stopped g c =
    let before = g.W.Write.contents c.args.writer.now in
    let after = g.W.Write.contents c.tell_settled.new.writer in
    let new = c.settle.new.self in
    let line = subst (λ it. IsLine c.args.text.now (saying_of it)) c.in-Settle.is c.in-Some.ensures.some in
    let begins = subst (λ (vector : List ℕ). Begins before after (settled_line vector)) c.vector.ensures.numbers
    c.in_err-tell_settled-in-Settle.ensures.front in
    err_broken c.from_residual-in_err-tell_settled-in-Settle.result
    (StopsStep c.args.state.now c.args.number c.args.text.now before after new)
    c.from_residual-in_err-tell_settled-in-Settle.ensures.1
    (settled_line new.settled.vector, (language.Settle, line, (refl, c.settle.ensures.settled)), begins)

pub returns-in_ok-tell_settled-in-Settle-clause-stepped : goal.returns-in_ok-tell_settled-in-Settle-clause-stepped
returns-in_ok-tell_settled-in-Settle-clause-stepped g c =
    let before = g.W.Write.contents c.args.writer.now in
    let after = g.W.Write.contents c.tell_settled.new.writer in
    let line = subst (λ it. IsLine c.args.text.now (saying_of it)) c.in-Settle.is c.in-Some.ensures.some in (
      settled_line c.settle.new.self.settled.vector,
      (language.Settle, line, (refl, c.settle.ensures.settled)),
      subst (λ (vector : List ℕ). Appends before after (settled_line vector)) c.vector.ensures.numbers
          c.in_ok-tell_settled-in-Settle.ensures.told,
    )

pub returns-in_err-tell_number-in-Ok-set_window-clause-stopped : goal.returns-in_err-tell_number-in-Ok-set_window-clause-stopped
returns-in_err-tell_number-in-Ok-set_window-clause-stopped g c =
    let before = g.W.Write.contents c.args.writer.now in
    let after = g.W.Write.contents c.tell_number.new.writer in
    let kept = c.in-Ok-set_window.kept in
    let line = subst (λ it. IsLine c.args.text.now (saying_of it)) c.in-Window.is c.in-Some.ensures.some in
    err_broken c.from_residual-in_err-tell_number-in-Ok-set_window.result
    (StopsStep c.args.state.now c.args.number c.args.text.now before after c.set_window.new.self)
    c.from_residual-in_err-tell_number-in-Ok-set_window.ensures.1 (
      kept_line kept,
      (language.Window c.in-Window.size, line, (kept, refl, c.in-Ok-set_window.ensures.windowed)),
      c.in_err-tell_number-in-Ok-set_window.ensures.front,
    )

pub returns-in_ok-tell_number-in-Ok-set_window-clause-stepped : goal.returns-in_ok-tell_number-in-Ok-set_window-clause-stepped
returns-in_ok-tell_number-in-Ok-set_window-clause-stepped g c =
    let kept = c.in-Ok-set_window.kept in
    let line = subst (λ it. IsLine c.args.text.now (saying_of it)) c.in-Window.is c.in-Some.ensures.some in (
      kept_line kept,
      (language.Window c.in-Window.size, line, (kept, refl, c.in-Ok-set_window.ensures.windowed)),
      c.in_ok-tell_number-in-Ok-set_window.ensures.told,
    )

pub returns-in-Err-set_window-clause-stopped : goal.returns-in-Err-set_window-clause-stopped
returns-in-Err-set_window-clause-stopped g c =
    let writer = g.W.Write.contents c.args.writer.now in
    let line = subst (λ it. IsLine c.args.text.now (saying_of it)) c.in-Window.is c.in-Some.ensures.some in
    subst (StopsStep c.args.state.now c.args.number c.args.text.now writer writer c.set_window.new.self)
    (sym c.stop_at-in-Err-set_window.ensures) (
      inr (
        language.Window c.in-Window.size,
        line,
        ((refl, c.in-Err-set_window.ensures.fault), c.in-Err-set_window.ensures.unchanged),
      ),
      Keeps-refl writer,
    )
