use Rattle.std.proofs.Common.{◌≡◌, ℕ, ◌+◌, ◌-◌, not, nat_eq, true, false, Bool, get_or, subst, arith}
use Rattle.std.proofs.Common.{below_more}
use Rattle.std.proofs.lemmas.Nat.{le_or_l, le_or_r}
use Rattle.std.proofs.lemmas.Bool.{eqb-true}
use lib.Bits.{bit_xor}
use Rattle.snapshot_scan.proofs.Moving.{no_bits}
use Rattle.snapshot_scan.proofs.exchange.differ.Goals as goal

pub loop-k-preserved : goal.loop-k-preserved
loop-k-preserved c = λ none.
    let bits = c.loop-k.bits in let k = c.loop-k.k in let old = c.args.old.now in let new = c.args.new.now in
    let x = bit_xor (get_or old (c.args.from + k) 0) (get_or new (c.args.from + k) 0) in
    let a = le_or_l bits x in let b = le_or_r bits x in
    below_more (λ (j : ℕ). get_or old (c.args.from + j) 0 ≡ get_or new (c.args.from + j) 0) k
    (c.loop-k.invariant (omega (arith, a, none)))
    (no_bits (get_or old (c.args.from + k) 0) (get_or new (c.args.from + k) 0) (omega (arith, b, none)))

is_zero : (b : Bool) → not b ≡ false → b ≡ true
is_zero true e = λ _. true
is_zero false e = absurd (cc)

pub returns : goal.returns
returns c = λ same k above below.
    let from = c.args.from in let t = c.loop-k-test.false in let old = c.args.old.now in let new = c.args.new.now in
    let none = eqb-true c.loop-k.bits 0 (is_zero (nat_eq c.loop-k.bits 0) same) in
    let e : from + (k - from) ≡ k = omega (arith, above) in
    subst (λ (j : ℕ). get_or old j 0 ≡ get_or new j 0) e (c.loop-k.invariant none (k - from) (omega (arith, t, below, above)))
