use Rattle.std.proofs.Common.{◌+◌, inl, refl, sym}
use Rattle.std.proofs.lemmas.List.{get_or-drop}
use Rattle.dirgwako_c.specs.declared.geometry.TheConstants.{WORKERS}
use Rattle.dirgwako_c.proofs.numbers.dirgwako_c_counter_total.Goals as goal

pub returns : goal.returns
returns c = inl (
  refl,
  (c.if-numbers-ne-NUMBERS.false, c.if-numbers-counter.false, c.if-counter-ge-COUNTERS.false),
  sym (get_or-drop (1 + WORKERS) c.args.numbers.now c.args.counter.now.slot 0),
)
