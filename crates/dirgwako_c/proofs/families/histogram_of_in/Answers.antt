use Rattle.std.proofs.Common.{rules, ◌≡◌, ap, ◌∙◌}
use Rattle.ledger_core.specs.declared.handles.Histogram.{Histogram}
use Rattle.dirgwako.specs.Refused.{child_refusal_number}
use Rattle.dirgwako.specs.Texts.{texts_of}
use Rattle.metric_desc.specs.declared.kind.Kind.TheVariants as Kinds
use Rattle.registry_state.specs.declared.handle.Handle.TheVariants as Handles
use Rattle.dirgwako_c.proofs.Made.{child_given, child_refused}
use Rattle.dirgwako_c.proofs.families.histogram_of_in.Goals as goal

pub returns-in-Ok-histogram_of : goal.returns-in-Ok-histogram_of
returns-in-Ok-histogram_of g c =
    child_given (λ (x : Histogram). Handles.Histogram x) c.args.registrar.now.at c.histogram_of.new.self.at c.args.histogram.now
    c.in-Ok-histogram_of.given
    c.args.family.now.registry c.args.family.now.id (texts_of c.args.values.now) Kinds.Histogram (texts_of c.deref.result.now)
    (ap texts_of c.deref.ensures.value ∙ c.in-Ok.ensures.texts) c.in-Ok.ensures.all c.of-family.result.registry
    c.of-family.result.id
    c.of-family.ensures.registry c.of-family.ensures.id c.in-Ok-histogram_of.ensures.given

pub returns : goal.returns
returns g c =
    let number : c.from.result ≡ child_refusal_number c.in-Err-histogram_of.refused.fault = search rules in
    child_refused (λ (x : Histogram). Handles.Histogram x) c.args.registrar.now.at c.histogram_of.new.self.at c.args.histogram.now
    c.args.histogram.now
    c.args.family.now.registry c.args.family.now.id (texts_of c.args.values.now) Kinds.Histogram (texts_of c.deref.result.now)
    (ap texts_of c.deref.ensures.value ∙ c.in-Ok.ensures.texts) c.in-Ok.ensures.all c.of-family.result.registry
    c.of-family.result.id
    c.of-family.ensures.registry c.of-family.ensures.id c.in-Err-histogram_of.refused.fault c.from.result number
    c.in-Err-histogram_of.ensures.fault
