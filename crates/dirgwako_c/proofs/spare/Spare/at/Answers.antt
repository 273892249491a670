use Rattle.std.proofs.Common.{sym, ap, ◌∙◌, arith}
use Rattle.std.proofs.lemmas.List.{length-map}
use mathlib.Core.Option.{some}
use Rattle.register_rule.proofs.Words.{there}
use Rattle.dirgwako_c.proofs.Settled.{mapped_here}
use Rattle.dirgwako_c.proofs.spare.Spare.at.Goals as goal

pub returns : goal.returns
returns g c =
    let items = c.args.self.now.recorders.items in let it = c.index.result.now in
    let lt = c.requires in let many = length-map items (λ b. b.value) in
    mapped_here (λ b. b.value) items c.args.place it (there items c.args.place it (omega (arith, lt, many)) ∙ ap some (sym
    c.index.ensures))
    ∙ ap some (sym c.deref.ensures)
