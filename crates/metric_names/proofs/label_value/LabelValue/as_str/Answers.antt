use Rattle.metric_names.proofs.Escapes.{label_alone}
use Rattle.metric_names.proofs.label_value.LabelValue.as_str.Goals as goal

pub returns-clause-written : goal.returns-clause-written
returns-clause-written c = label_alone c.args.self.now
