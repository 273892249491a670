use Rattle.std.proofs.lemmas.Str.Pattern.{split_parts}
use Rattle.std.proofs.Common.{lit<}
use Rattle.script_lines.proofs.Cut.{cut_is}
use Rattle.script_lines.proofs.word.cut.Goals as goal

pub returns : goal.returns
returns c = cut_is c.args.text.now c.split_once.result
    (split_parts 32 c.args.text.now c.split_once.result c.split_once.ensures.cases (lit< tt))
