use Rattle.std.proofs.Common.{rules, ◌≡◌, ℕ, List, ap, ◌∙◌}
use Rattle.dirgwako.specs.Refused.{family_refusal_number}
use Rattle.dirgwako.specs.Texts.{texts_of}
use Rattle.dirgwako_c.specs.Registries.{shape_of}
use Rattle.dirgwako_c.specs.declared.family.Asked.{Asked}
use Rattle.dirgwako_c.specs.declared.family.Family.{Family}
use Rattle.metric_desc.specs.Desc.{Descriptor}
use Rattle.dirgwako_c.proofs.Made.{family_made, family_refused}
use Rattle.dirgwako_c.proofs.families.family_in.Goals as goal

abbrev said : Asked → (digits : ℕ) → (name help : List ℕ) → (labels : List (List ℕ)) → Descriptor
said asked digits name help labels = record {
  name = name;
  help = help;
  labels = labels;
  kind = (shape_of asked).0;
  bounds = (shape_of asked).1;
  digits = digits;
}

pub returns-in-Ok-ask : goal.returns-in-Ok-ask
returns-in-Ok-ask g c =
    family_made c.args.registrar.now.at c.ask.new.registrar.at c.args.family.now c.in-Ok-ask.made c.args.group
    (λ (f : Family). f.id) (λ (f : Family). f.registry) c.args.name.now c.args.help.now (texts_of c.args.labels.now)
    (said c.args.asked c.args.digits) c.in-Some-Some.name.now c.in-Some-Some.help.now (texts_of c.deref.result.now)
    c.in-Some-Some.ensures
    c.in-Some-Some.ensures' (ap texts_of c.deref.ensures.value ∙ c.in-Ok.ensures.texts) c.in-Ok.ensures.all
    c.in-Ok-ask.ensures.registry c.in-Ok-ask.ensures.made

pub returns : goal.returns
returns g c =
    let number : c.from.result ≡ family_refusal_number c.in-Err-ask.refused.fault = search rules in
    family_refused c.args.registrar.now.at c.ask.new.registrar.at c.args.family.now c.args.family.now c.args.group
    (λ (f : Family). f.id) (λ (f : Family). f.registry) c.args.name.now c.args.help.now (texts_of c.args.labels.now)
    (said c.args.asked c.args.digits) c.in-Some-Some.name.now c.in-Some-Some.help.now (texts_of c.deref.result.now)
    c.in-Err-ask.refused.fault
    c.from.result number c.in-Some-Some.ensures c.in-Some-Some.ensures'
    (ap texts_of c.deref.ensures.value ∙ c.in-Ok.ensures.texts) c.in-Ok.ensures.all c.in-Err-ask.ensures.fault
