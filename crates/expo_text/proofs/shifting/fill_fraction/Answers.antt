use Rattle.std.proofs.Common.{◌+◌, ◌-◌, ◌/◌, ◌%◌, ◌<◌, [], ◌∷◌, ◌++◌, length, take, sym, ap, ◌∙◌, arith, append_assoc}
use Rattle.std.proofs.lemmas.List.{take_more_set, length-set}
use Rattle.expo_text.specs.Shifted.{fraction}
use Rattle.expo_text.proofs.Fractions.{next_digit}
use Rattle.expo_text.proofs.shifting.fill_fraction.Goals as goal

pub loop-filled-preserved : goal.loop-filled-preserved
loop-filled-preserved c =
    let loop = c.loop-filled in
    let d = c.args.digits in
    let tenth = loop.unit / 10 in
    let digit = 48 + loop.rest / tenth in
    let start = take loop.filled loop.places in
    let left = fraction (d - (loop.filled + 1)) (loop.rest % tenth) in
    let before = loop.invariant in
    let next = next_digit d loop.filled loop.unit loop.rest c.loop-filled-test.true before.0 c.if-rest-eq0.false in
    let within : loop.filled < length loop.places = (let test = c.loop-filled-test.true in let few = c.requires.few in
    let count = before.3 in omega (arith, test, few, count)) in (
      next.0,
      next.1,
      ap (λ l. l ++ left) (take_more_set loop.places loop.filled digit within)
          ∙ append_assoc start (digit ∷ []) left
          ∙ ap (λ l. start ++ l) (sym next.2)
          ∙ before.2,
      length-set loop.places loop.filled digit ∙ before.3,
    )
