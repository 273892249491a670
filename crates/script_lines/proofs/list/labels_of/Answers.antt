use Rattle.std.proofs.Common.{List, ℕ, Bor, map, lit<, rules}
use Rattle.std.proofs.lemmas.Iterator.Splits.{YieldsList-from_str_split}
use Rattle.std.proofs.lemmas.Iterator.Consumers.{map_from_collect}
use Rattle.script_lines.proofs.Parts.{labels_are}
use Rattle.script_lines.proofs.list.labels_of.Goals as goal

pub returns : goal.returns
returns c =
    labels_are c.args.labels.now (map (λ (n : Bor (List ℕ)). n.now) c.in_ok-names.names.items) (search rules)
    (rw c.in_ok-names.was at
    (map_from_collect c.collect.result c.collect.ensures.ran
    (YieldsList-from_str_split 44 c.args.labels.now (lit< tt) c.split.ensures.text c.split.ensures.has_more
    c.split.ensures.pattern)))
