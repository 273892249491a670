use Rattle.std.proofs.Common.{rules, ◌≡◌, ap, ◌∙◌}
use Rattle.ledger_core.specs.declared.handles.Gauge.{Gauge}
use Rattle.dirgwako.specs.Refused.{child_refusal_number}
use Rattle.dirgwako.specs.Texts.{texts_of}
use Rattle.metric_desc.specs.declared.kind.Kind.TheVariants as Kinds
use Rattle.registry_state.specs.declared.handle.Handle.TheVariants as Handles
use Rattle.dirgwako_c.proofs.Made.{child_given, child_refused}
use Rattle.dirgwako_c.proofs.families.gauge_of_in.Goals as goal

pub returns-in-Ok-gauge_of : goal.returns-in-Ok-gauge_of
returns-in-Ok-gauge_of g c =
    child_given (λ (x : Gauge). Handles.Gauge x) c.args.registrar.now.at c.gauge_of.new.self.at c.args.gauge.now
    c.in-Ok-gauge_of.given
    c.args.family.now.registry c.args.family.now.id (texts_of c.args.values.now) Kinds.Gauge (texts_of c.deref.result.now)
    (ap texts_of c.deref.ensures.value ∙ c.in-Ok.ensures.texts) c.in-Ok.ensures.all c.of-family.result.registry
    c.of-family.result.id
    c.of-family.ensures.registry c.of-family.ensures.id c.in-Ok-gauge_of.ensures.given

pub returns : goal.returns
returns g c =
    let number : c.from.result ≡ child_refusal_number c.in-Err-gauge_of.refused.fault = search rules in
    child_refused (λ (x : Gauge). Handles.Gauge x) c.args.registrar.now.at c.gauge_of.new.self.at c.args.gauge.now
    c.args.gauge.now
    c.args.family.now.registry c.args.family.now.id (texts_of c.args.values.now) Kinds.Gauge (texts_of c.deref.result.now)
    (ap texts_of c.deref.ensures.value ∙ c.in-Ok.ensures.texts) c.in-Ok.ensures.all c.of-family.result.registry
    c.of-family.result.id
    c.of-family.ensures.registry c.of-family.ensures.id c.in-Err-gauge_of.refused.fault c.from.result number
    c.in-Err-gauge_of.ensures.fault
