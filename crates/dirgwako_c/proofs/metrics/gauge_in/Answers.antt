use Rattle.std.proofs.Common.{ℕ, List, []}
use Rattle.ledger_core.specs.declared.handles.Gauge.{Gauge}
use Rattle.dirgwako.specs.Registering.{family_of}
use Rattle.metric_desc.specs.declared.kind.Kind.TheVariants as Kinds
use Rattle.registry_state.specs.declared.handle.Handle.TheVariants as Handles
use Rattle.dirgwako_c.proofs.Made.{metric_made, metric_refused}
use Rattle.dirgwako_c.proofs.metrics.gauge_in.Goals as goal

pub returns-in-Ok : goal.returns-in-Ok
returns-in-Ok g c =
    metric_made (λ (x : Gauge). Handles.Gauge x) c.args.registrar.now.at c.gauge.new.self.at c.args.gauge.now c.in-Ok.made
    c.args.name.now c.args.help.now (λ (n h : List ℕ). family_of Kinds.Gauge n h [] []) c.in-Some-Some.name.now
    c.in-Some-Some.help.now c.in-Some-Some.ensures c.in-Some-Some.ensures' c.in-Ok.ensures.made

pub returns-in-Err : goal.returns-in-Err
returns-in-Err g c =
    metric_refused (λ (x : Gauge). Handles.Gauge x) c.args.registrar.now.at c.gauge.new.self.at c.args.gauge.now c.args.gauge.now
    c.args.name.now c.args.help.now (λ (n h : List ℕ). family_of Kinds.Gauge n h [] []) c.in-Some-Some.name.now
    c.in-Some-Some.help.now c.in-Err.refused.fault c.answer_of.result c.answer_of.ensures c.in-Some-Some.ensures
    c.in-Some-Some.ensures'
    c.in-Err.ensures.fault
