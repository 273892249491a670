use Rattle.std.proofs.Common.{is_some, lit<, rules}
use Rattle.std.proofs.lemmas.Iterator.Splits.{YieldsList-from_str_split}
use Rattle.std.proofs.lemmas.Iterator.Search.{all_from_yields_List}
use Rattle.script_lines.specs.Reading.{number_written, are_bounds}
use Rattle.script_lines.proofs.list.are_bounds.Goals as goal

pub returns-else-eq : goal.returns-else-eq
unfolding are_bounds
returns-else-eq c =
    let all = all_from_yields_List (λ w. is_some (number_written w)) _ _ _ c.all.ensures.ran
    (YieldsList-from_str_split 44 c.args.word.now (lit< tt) c.split.ensures.text c.split.ensures.has_more
    c.split.ensures.pattern) (λ x b q k. search rules) in
    search rules
