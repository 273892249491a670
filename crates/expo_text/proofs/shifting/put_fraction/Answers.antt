use Rattle.std.proofs.Common.{◌≡◌, length, take, ap, ◌∙◌, subst, arith}
use Rattle.std.proofs.lemmas.List.{length-take-le}
use Rattle.expo_text.specs.Shifted.{pointed}
use Rattle.expo_text.proofs.Fractions.{pointed_some}
use Rattle.expo_text.proofs.shifting.put_fraction.Goals as goal

pub returns-then-count-gt0 : goal.returns-then-count-gt0
returns-then-count-gt0 g c =
    let told = c.fill_fraction-count in
    let places = told.new.places in
    let within = told.ensures.within in
    let long = told.array_long in
    let count : length (take told.result places) ≡ told.result = length-take-le told.result places (omega (arith, within, long))
    in
    let some = c.if-count-gt0.true in
    let is = pointed_some (take told.result places) (omega (arith, count, some)) ∙ ap pointed told.ensures.filled in
    subst (g.S.Sink.took c.args.sink.now c.put-then-count-gt0.new.self) is
    (g.met.S.Sink.chain _ _ _ _ _ c.put.ensures c.put-then-count-gt0.ensures)
