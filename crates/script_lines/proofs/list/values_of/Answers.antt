use Rattle.std.proofs.Common.{List, ℕ, Bor, map, lit<, rules}
use Rattle.std.proofs.lemmas.Iterator.Splits.{YieldsList-from_str_split}
use Rattle.std.proofs.lemmas.Iterator.Consumers.{map_from_collect}
use Rattle.script_lines.proofs.Parts.{values_are}
use Rattle.script_lines.proofs.list.values_of.Goals as goal

pub returns : goal.returns
returns c =
    values_are c.args.values.now c.requires.0 (map (λ (n : Bor (List ℕ)). n.now) c.in_ok-words.words.items)
    (search rules) c.requires.1
    (rw c.in_ok-words.was at
    (map_from_collect c.collect.result c.collect.ensures.ran
    (YieldsList-from_str_split 32 c.args.values.now (lit< tt) c.split.ensures.text c.split.ensures.has_more
    c.split.ensures.pattern)))
