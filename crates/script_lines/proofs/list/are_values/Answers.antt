use Rattle.std.proofs.Common.{lit<, rules}
use Rattle.std.proofs.lemmas.Iterator.Splits.{YieldsList-from_str_split}
use Rattle.std.proofs.lemmas.Iterator.Search.{all_from_yields_List}
use Rattle.script_lines.specs.Reading.{is_value, are_values}
use Rattle.script_lines.proofs.list.are_values.Goals as goal

pub returns : goal.returns
unfolding are_values
returns c =
    all_from_yields_List is_value _ _ _ c.all.ensures.ran
    (YieldsList-from_str_split 32 c.args.text.now (lit< tt) c.split.ensures.text c.split.ensures.has_more
    c.split.ensures.pattern) (λ x b q k. search rules)
