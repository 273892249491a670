use Rattle.std.proofs.Common.{◌≡◌, ◌+◌, ◌++◌, ◌∷◌, [], ℕ, length-append, inl, inr, subst, ap, ◌∙◌, arith}
use Rattle.script_lines.specs.Cuts.{Cuts}
use Rattle.script_lines.specs.Lines.{line_bytes, unread}
use Rattle.metrics_program.specs.Ran.{HasStopped}
use Rattle.metrics_program.specs.declared.line_fault.LineFault.TheVariants as fault
use Rattle.metrics_program.specs.declared.script.Stop.TheVariants as stop
use Rattle.metrics_program.proofs.Running.{bad_over, cuts_text, err_broken, err_same, kept_at_end, run_more, stopped_at}
use Rattle.metrics_program.proofs.Running.{stopped_before, stopped_broken}
use Rattle.metrics_program.proofs.script.run_lines.Goals as goal

pub returns-in_err-next-clause-stopped : goal.returns-in_err-next-clause-stopped
returns-in_err-next-clause-stopped g c =
    let inv = c.loop-done.invariant in
    err_broken c.from_residual.result
    (HasStopped c.args.state.now (unread g.R.Read.remaining c.args.lines.now) (g.W.Write.contents c.args.writer.now)
    c.loop-done.state (unread g.R.Read.remaining c.next.new.self) (g.W.Write.contents c.loop-done.writer))
    c.from_residual.ensures.1
    (stopped_broken c.args.state.now c.loop-done.state _ (unread g.R.Read.remaining c.loop-done.lines)
    (unread g.R.Read.remaining c.next.new.self) _ (g.W.Write.contents c.loop-done.writer) inv.1.0 c.loop-done.done inv.1.1
    inv.1.2)

pub returns-in_err-next-2-clause-stopped : goal.returns-in_err-next-2-clause-stopped
returns-in_err-next-2-clause-stopped g c =
    let inv = c.loop-done.invariant in
    err_broken c.from_residual-in_err-next-2.result
    (HasStopped c.args.state.now (unread g.R.Read.remaining c.args.lines.now) (g.W.Write.contents c.args.writer.now)
    c.loop-done.state (unread g.R.Read.remaining c.next-2.new.self) (g.W.Write.contents c.loop-done.writer))
    c.from_residual-in_err-next-2.ensures.1
    (stopped_broken c.args.state.now c.loop-done.state _ (unread g.R.Read.remaining c.loop-done.lines)
    (unread g.R.Read.remaining c.next-2.new.self) _ (g.W.Write.contents c.loop-done.writer) inv.1.0 c.loop-done.done inv.1.1
    inv.1.2)

pub returns-in-End-clause-ran : goal.returns-in-End-clause-ran
returns-in-End-clause-ran g c =
    let inv = c.loop-done.invariant in (
      inv.1.0,
      (unread g.R.Read.remaining c.loop-done.lines),
      inv.1.2,
      kept_at_end (unread g.R.Read.remaining c.loop-done.lines) (unread g.R.Read.remaining c.next.new.self) _
          c.in_ok-next.field-0 c.in-End.is c.in_ok-next.ensures.ok,
    )

pub returns-in-End-2-clause-ran : goal.returns-in-End-2-clause-ran
returns-in-End-2-clause-ran g c =
    let inv = c.loop-done.invariant in (
      inv.1.0,
      (unread g.R.Read.remaining c.loop-done.lines),
      inv.1.2,
      kept_at_end (unread g.R.Read.remaining c.loop-done.lines) (unread g.R.Read.remaining c.next-2.new.self) _
          c.in_ok-next-2.field-0 c.in-End-2.is c.in_ok-next-2.ensures.ok,
    )

pub returns-in-TooLong-clause-stopped : goal.returns-in-TooLong-clause-stopped
returns-in-TooLong-clause-stopped g c =
    let inv = c.loop-done.invariant in
    let cuts = subst (Cuts (unread g.R.Read.remaining c.loop-done.lines) (unread g.R.Read.remaining c.next.new.self)
    (line_bytes c.next.new.self)) c.in-TooLong.is c.in_ok-next.ensures.ok in
    stopped_before c.args.state.now c.loop-done.state _ (unread g.R.Read.remaining c.loop-done.lines)
    (unread g.R.Read.remaining c.next.new.self) _ (g.W.Write.contents c.loop-done.writer) inv.1.0 c.loop-done.done inv.1.1
    inv.1.2 _ c.stop_at.ensures (inl (_, cuts))

pub returns-in-Err-clause-stopped : goal.returns-in-Err-clause-stopped
returns-in-Err-clause-stopped g c =
    let inv = c.loop-done.invariant in
    let cuts = cuts_text (unread g.R.Read.remaining c.loop-done.lines) (unread g.R.Read.remaining c.next.new.self)
    (line_bytes c.next.new.self) c.bytes.result.now c.in_ok-next.field-0 c.in-Line.is c.bytes.ensures.value
    c.in_ok-next.ensures.ok in
    stopped_before c.args.state.now c.loop-done.state _ (unread g.R.Read.remaining c.loop-done.lines)
    (unread g.R.Read.remaining c.next.new.self) _ (g.W.Write.contents c.loop-done.writer) inv.1.0 c.loop-done.done inv.1.1
    inv.1.2 _ c.stop_at-in-Err.ensures
    (inr (inl (c.bytes.result.now, cuts, c.in-Err.ensures.cases.0)))

pub returns-in_err-step-in-Ok-clause-stopped : goal.returns-in_err-step-in-Ok-clause-stopped
returns-in_err-step-in-Ok-clause-stopped g c =
    let inv = c.loop-done.invariant in
    let same = c.in-Ok.ensures.cases.0 ∙ c.bytes.ensures.value in
    let cuts = cuts_text (unread g.R.Read.remaining c.loop-done.lines) (unread g.R.Read.remaining c.next.new.self)
    (line_bytes c.next.new.self) c.in-Ok.text.now c.in_ok-next.field-0 c.in-Line.is same c.in_ok-next.ensures.ok in
    let why = c.in_err-step-in-Ok.field-0.0 in
    err_same c.from_residual-in_err-step-in-Ok.result why
    (HasStopped c.args.state.now (unread g.R.Read.remaining c.args.lines.now) (g.W.Write.contents c.args.writer.now)
    c.step.new.state (unread g.R.Read.remaining c.next.new.self) (g.W.Write.contents c.step.new.writer))
    c.from_residual-in_err-step-in-Ok.ensures.1
    (stopped_at c.args.state.now c.loop-done.state c.step.new.state (unread g.R.Read.remaining c.args.lines.now)
    (unread g.R.Read.remaining c.loop-done.lines) (unread g.R.Read.remaining c.next.new.self)
    (g.W.Write.contents c.args.writer.now) (g.W.Write.contents c.loop-done.writer) (g.W.Write.contents c.step.new.writer)
    inv.1.0 c.loop-done.done inv.1.1 inv.1.2 why c.in-Ok.text.now cuts
    c.in_err-step-in-Ok.ensures.stopped)

pub returns-in_default : goal.returns-in_default
returns-in_default g c =
    let inv = c.loop-done.invariant in
    let most = c.loop-done-test.false in
    let end = c.loop-done.auto.done-end in
    let over : 1000001 ≡ c.loop-done.done + 1 = omega (arith, most, end) in
    let told = c.stop_at-in_default.ensures ∙ ap (λ (n : ℕ). stop.Refused (record { line = n; fault = fault.BadLine })) over in
    let bad = bad_over c.loop-done.done (unread g.R.Read.remaining c.loop-done.lines)
    (unread g.R.Read.remaining c.next-2.new.self) (line_bytes c.next-2.new.self) c.in_ok-next-2.field-0 (omega (arith, most))
    c.in_default.not-End c.in_ok-next-2.ensures.ok in
    record {
      ready = tt;
      ran = tt;
      ended = tt;
      stopped = stopped_before c.args.state.now c.loop-done.state _ (unread g.R.Read.remaining c.loop-done.lines)
          (unread g.R.Read.remaining c.next-2.new.self) _ (g.W.Write.contents c.loop-done.writer) inv.1.0 c.loop-done.done inv.1.1
          inv.1.2 _ told bad;
    }

pub loop-done-preserved : goal.loop-done-preserved
loop-done-preserved g c =
    let inv = c.loop-done.invariant in
    let same = c.in-Ok.ensures.cases.0 ∙ c.bytes.ensures.value in
    let cuts = cuts_text (unread g.R.Read.remaining c.loop-done.lines) (unread g.R.Read.remaining c.next.new.self)
    (line_bytes c.next.new.self) c.in-Ok.text.now c.in_ok-next.field-0 c.in-Line.is same c.in_ok-next.ensures.ok in
    let stepped = c.in_ok-step-in-Ok.ensures.stepped in
    let longer = length-append inv.1.0 (c.in-Ok.text.now ∷ []) in
    let is = inv.1.1 in (
      c.in_ok-step-in-Ok.ensures.ready,
      (
        inv.1.0 ++ c.in-Ok.text.now ∷ [],
        omega (arith, is, longer),
        run_more c.args.state.now c.loop-done.state c.step.new.state (unread g.R.Read.remaining c.args.lines.now)
            (unread g.R.Read.remaining c.loop-done.lines)
            (unread g.R.Read.remaining c.next.new.self) (g.W.Write.contents c.args.writer.now)
            (g.W.Write.contents c.loop-done.writer) (g.W.Write.contents c.step.new.writer)
            inv.1.0 c.loop-done.done c.in-Ok.text.now stepped.0 inv.1.1 c.loop-done-test.true inv.1.2 cuts stepped.1 stepped.2,
      ),
    )
