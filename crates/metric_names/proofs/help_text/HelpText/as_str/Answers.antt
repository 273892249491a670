use Rattle.metric_names.proofs.Escapes.{help_alone}
use Rattle.metric_names.proofs.help_text.HelpText.as_str.Goals as goal

pub returns-clause-written : goal.returns-clause-written
returns-clause-written c = help_alone c.args.self.now
