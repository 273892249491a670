use Rattle.std.proofs.Common.{rules, ◌≡◌, ap, ◌∙◌}
use Rattle.ledger_core.specs.declared.handles.Counter.{Counter}
use Rattle.dirgwako.specs.Refused.{child_refusal_number}
use Rattle.dirgwako.specs.Texts.{texts_of}
use Rattle.metric_desc.specs.declared.kind.Kind.TheVariants as Kinds
use Rattle.registry_state.specs.declared.handle.Handle.TheVariants as Handles
use Rattle.dirgwako_c.proofs.Made.{child_given, child_refused}
use Rattle.dirgwako_c.proofs.families.counter_of_in.Goals as goal

pub returns-in-Ok-counter_of : goal.returns-in-Ok-counter_of
returns-in-Ok-counter_of g c =
    child_given (λ (x : Counter). Handles.Counter x) c.args.registrar.now.at c.counter_of.new.self.at c.args.counter.now
    c.in-Ok-counter_of.given
    c.args.family.now.registry c.args.family.now.id (texts_of c.args.values.now) Kinds.Counter (texts_of c.deref.result.now)
    (ap texts_of c.deref.ensures.value ∙ c.in-Ok.ensures.texts) c.in-Ok.ensures.all c.of-family.result.registry
    c.of-family.result.id
    c.of-family.ensures.registry c.of-family.ensures.id c.in-Ok-counter_of.ensures.given

pub returns : goal.returns
returns g c =
    let number : c.from.result ≡ child_refusal_number c.in-Err-counter_of.refused.fault = search rules in
    child_refused (λ (x : Counter). Handles.Counter x) c.args.registrar.now.at c.counter_of.new.self.at c.args.counter.now
    c.args.counter.now
    c.args.family.now.registry c.args.family.now.id (texts_of c.args.values.now) Kinds.Counter (texts_of c.deref.result.now)
    (ap texts_of c.deref.ensures.value ∙ c.in-Ok.ensures.texts) c.in-Ok.ensures.all c.of-family.result.registry
    c.of-family.result.id
    c.of-family.ensures.registry c.of-family.ensures.id c.in-Err-counter_of.refused.fault c.from.result number
    c.in-Err-counter_of.ensures.fault
