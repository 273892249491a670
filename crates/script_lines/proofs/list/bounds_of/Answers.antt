use Rattle.std.proofs.Common.{ap, ◌∙◌, lit<, rules}
use Rattle.std.specs.Str.Iter.{split_text, split_has_more, split_pattern}
use Rattle.std.proofs.lemmas.Iterator.{items_from_collect}
use Rattle.std.proofs.lemmas.Iterator.Splits.{YieldsList-from_str_split}
use Rattle.std.proofs.lemmas.Iterator.Consumers.{YieldsList-from_filter_map}
use Rattle.script_lines.specs.Reading.{number_written}
use Rattle.script_lines.proofs.Parts.{bounds_are}
use Rattle.script_lines.proofs.list.bounds_of.Goals as goal

pub returns : goal.returns
returns c =
    bounds_are c.args.bounds.now c.requires.0 c.in_ok-numbers.numbers.items c.requires.1
    (rw c.in_ok-numbers.was at (items_from_collect c.collect.result c.collect.ensures.ran
    (YieldsList-from_filter_map _ number_written
    (YieldsList-from_str_split 44 c.args.bounds.now (lit< tt)
    (ap split_text c.filter_map.ensures.source ∙ c.split.ensures.text)
    (ap split_has_more c.filter_map.ensures.source ∙ c.split.ensures.has_more)
    (ap split_pattern c.filter_map.ensures.source ∙ c.split.ensures.pattern))
    c.filter_map.ensures.closure (λ x r q k. search rules))))
