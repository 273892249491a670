use Rattle.std.proofs.Common.{inl, inr, sym, subst}
use Rattle.script_lines.specs.Line.{saying_of}
use Rattle.metrics_program.specs.Done.{IsDone}
use Rattle.metrics_program.specs.Refusals.{IsActRefusal}
use Rattle.metrics_program.specs.State.{IsRegistered}
use Rattle.metrics_program.proofs.Pushed.{if_err_from, on_ok_from}
use Rattle.metrics_program.proofs.Readying.{registered_ready}
use Rattle.metrics_program.proofs.script.act.Goals as goal

pub returns-in-Err-clause-refused : goal.returns-in-Err-clause-refused
returns-in-Err-clause-refused c =
    subst (λ line. IsActRefusal c.args.state.now (saying_of line) c.in-Err.fault) (sym c.in-Counter.is)
    (inl c.in-Err.ensures.fault)

pub returns-in-Err-gauge_of-clause-refused : goal.returns-in-Err-gauge_of-clause-refused
returns-in-Err-gauge_of-clause-refused c =
    subst (λ line. IsActRefusal c.args.state.now (saying_of line) c.in-Err-gauge_of.fault) (sym c.in-Gauge.is)
    (inl c.in-Err-gauge_of.ensures.fault)

pub returns-in-Err-histogram_of-clause-refused : goal.returns-in-Err-histogram_of-clause-refused
returns-in-Err-histogram_of-clause-refused c =
    subst (λ line. IsActRefusal c.args.state.now (saying_of line) c.in-Err-histogram_of.fault) (sym c.in-Histogram.is)
    (inl c.in-Err-histogram_of.ensures.fault)

pub returns-in-Ok-histogram_of-clause-ready : goal.returns-in-Ok-histogram_of-clause-ready
returns-in-Ok-histogram_of-clause-ready c =
    let state = c.args.state.now in
    let new = c.register-in-Ok-histogram_of.new.self in
    on_ok_from c.register-in-Ok-histogram_of.result
    (λ (registered : IsRegistered c.in-Ok-histogram_of.desc state new). registered_ready state new c.in-Ok-histogram_of.desc
    registered c.requires.ready)
    c.register-in-Ok-histogram_of.ensures.registered

pub returns-in-Ok-histogram_of-clause-done : goal.returns-in-Ok-histogram_of-clause-done
returns-in-Ok-histogram_of-clause-done c =
    let state = c.args.state.now in
    let new = c.register-in-Ok-histogram_of.new.self in
    let desc = c.in-Ok-histogram_of.desc in
    on_ok_from c.register-in-Ok-histogram_of.result
    (λ (registered : IsRegistered desc state new). subst (λ line. IsDone state c.args.number (saying_of line) new)
    (sym c.in-Histogram.is) (
      desc,
      c.in-Ok-histogram_of.ensures.read,
      registered,
    ))
    c.register-in-Ok-histogram_of.ensures.registered

pub returns-in-Ok-histogram_of-clause-refused : goal.returns-in-Ok-histogram_of-clause-refused
returns-in-Ok-histogram_of-clause-refused c =
    let state = c.args.state.now in
    let desc = c.in-Ok-histogram_of.desc in
    if_err_from c.register-in-Ok-histogram_of.result
    (λ fault why. subst (λ line. IsActRefusal state (saying_of line) fault) (sym c.in-Histogram.is)
    (inr (desc, c.in-Ok-histogram_of.ensures.read, why)))
    c.register-in-Ok-histogram_of.ensures.fault

pub returns-in-Child-clause-refused : goal.returns-in-Child-clause-refused
returns-in-Child-clause-refused c =
    if_err_from c.child.result (λ fault why. subst (λ line. IsActRefusal c.args.state.now (saying_of line) fault)
    (sym c.in-Child.is) why) c.child.ensures.fault
