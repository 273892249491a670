use Rattle.std.proofs.Common.{w32, arith}
use Rattle.std.proofs.lemmas.Nat.Bits.{bit_at_set_same, bit_at_set_other}
use Rattle.snapshot_update.proofs.run.Run.add.Goals as goal

pub returns-clause-set : goal.returns-clause-set
returns-clause-set c = let lt = c.requires in bit_at_set_same w32 c.args.self.now.seen c.args.place (omega (arith, lt))

pub returns-clause-others : goal.returns-clause-others
returns-clause-others c = λ k ne. let lt = c.requires in
    bit_at_set_other w32 c.args.self.now.seen c.args.place (omega (arith, lt)) k ne
