use Rattle.std.proofs.Common.{Box, Global, List, length, map, sym, ap, subst, arith}
use Rattle.std.proofs.lemmas.List.{with_items_is}
use Rattle.dirgwako_c.specs.Settling.{HasStranger}
use Rattle.dirgwako_c.specs.declared.held.HeldRecorder.{HeldRecorder}
use Rattle.dirgwako_c.proofs.spare.Spare.join.Goals as goal

pub returns-clause-stranger : goal.returns-clause-stranger
returns-clause-stranger g c = λ no.
    let vec = c.args.self.now.recorders in let new = c.join_all.new.recorders in
    let same = c.join_all.auto.recorders in let was = ap length c.deref_mut.ensures.value in let len = vec.ok.0 in
    subst (λ (l : List (Box (HeldRecorder g.row.N g.row.C g.row.H g.row.G) Global)). HasStranger c.args.board (map (λ b. b.value)
    l))
    (sym (with_items_is vec new (omega (arith, same, was, len)))) (c.join_all.ensures.stranger no)
