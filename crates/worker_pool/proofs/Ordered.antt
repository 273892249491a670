-- The order of faults is one.
use Rattle.std.proofs.Common.{arith}
use Rattle.worker_pool.specs.declared.fault.PoolFault.{PoolFault}
use Rattle.worker_pool.specs.declared.fault.PoolFault.TheVariants.{Refused, GateShut, NoThread, NoMemory}
use Rattle.worker_pool.specs.Faults.{ComesBefore}

pub not_itself : (f : PoolFault) → ¬ (ComesBefore f f)
not_itself (Refused line number) h = omega (arith, h)
not_itself (GateShut worker) h = omega (arith, h)
not_itself (NoThread worker) h = omega (arith, h)
not_itself NoMemory h = h

pub before_both : (f g h : PoolFault) → ComesBefore f g → ComesBefore g h → ComesBefore f h
before_both (Refused a m) (Refused b n) (Refused c o) x y = omega (arith, x, y)
before_both (Refused a m) (Refused b n) (GateShut c) x y = tt
before_both (Refused a m) (Refused b n) (NoThread c) x y = tt
before_both (Refused a m) (Refused b n) NoMemory x y = tt
before_both (Refused a m) (GateShut b) (Refused c o) x y = absurd y
before_both (Refused a m) (GateShut b) (GateShut c) x y = tt
before_both (Refused a m) (GateShut b) (NoThread c) x y = tt
before_both (Refused a m) (GateShut b) NoMemory x y = tt
before_both (Refused a m) (NoThread b) (Refused c o) x y = absurd y
before_both (Refused a m) (NoThread b) (GateShut c) x y = absurd y
before_both (Refused a m) (NoThread b) (NoThread c) x y = tt
before_both (Refused a m) (NoThread b) NoMemory x y = tt
before_both (Refused a m) NoMemory h x y = absurd y
before_both (GateShut a) (Refused b n) h x y = absurd x
before_both (GateShut a) (GateShut b) (Refused c o) x y = absurd y
before_both (GateShut a) (GateShut b) (GateShut c) x y = omega (arith, x, y)
before_both (GateShut a) (GateShut b) (NoThread c) x y = tt
before_both (GateShut a) (GateShut b) NoMemory x y = tt
before_both (GateShut a) (NoThread b) (Refused c o) x y = absurd y
before_both (GateShut a) (NoThread b) (GateShut c) x y = absurd y
before_both (GateShut a) (NoThread b) (NoThread c) x y = tt
before_both (GateShut a) (NoThread b) NoMemory x y = tt
before_both (GateShut a) NoMemory h x y = absurd y
before_both (NoThread a) (Refused b n) h x y = absurd x
before_both (NoThread a) (GateShut b) h x y = absurd x
before_both (NoThread a) (NoThread b) (Refused c o) x y = absurd y
before_both (NoThread a) (NoThread b) (GateShut c) x y = absurd y
before_both (NoThread a) (NoThread b) (NoThread c) x y = omega (arith, x, y)
before_both (NoThread a) (NoThread b) NoMemory x y = tt
before_both (NoThread a) NoMemory h x y = absurd y
before_both NoMemory g h x y = absurd x

-- what comes before f comes before all that do not come before f
pub still_before : (h f g : PoolFault) → ComesBefore h f → ¬ (ComesBefore g f) → ComesBefore h g
still_before (Refused a m) (Refused c o) (Refused b n) x late = omega (arith, x, late)
still_before (Refused a m) (GateShut c) (Refused b n) x late = absurd (late tt)
still_before (Refused a m) (NoThread c) (Refused b n) x late = absurd (late tt)
still_before (Refused a m) NoMemory (Refused b n) x late = absurd (late tt)
still_before (Refused a m) f (GateShut b) x late = tt
still_before (Refused a m) f (NoThread b) x late = tt
still_before (Refused a m) f NoMemory x late = tt
still_before (GateShut a) (Refused c o) g x late = absurd x
still_before (GateShut a) (GateShut c) (Refused b n) x late = absurd (late tt)
still_before (GateShut a) (GateShut c) (GateShut b) x late = omega (arith, x, late)
still_before (GateShut a) (NoThread c) (Refused b n) x late = absurd (late tt)
still_before (GateShut a) (NoThread c) (GateShut b) x late = absurd (late tt)
still_before (GateShut a) NoMemory (Refused b n) x late = absurd (late tt)
still_before (GateShut a) NoMemory (GateShut b) x late = absurd (late tt)
still_before (GateShut a) f (NoThread b) x late = tt
still_before (GateShut a) f NoMemory x late = tt
still_before (NoThread a) (Refused c o) g x late = absurd x
still_before (NoThread a) (GateShut c) g x late = absurd x
still_before (NoThread a) (NoThread c) (Refused b n) x late = absurd (late tt)
still_before (NoThread a) (NoThread c) (GateShut b) x late = absurd (late tt)
still_before (NoThread a) (NoThread c) (NoThread b) x late = omega (arith, x, late)
still_before (NoThread a) NoMemory (Refused b n) x late = absurd (late tt)
still_before (NoThread a) NoMemory (GateShut b) x late = absurd (late tt)
still_before (NoThread a) NoMemory (NoThread b) x late = absurd (late tt)
still_before (NoThread a) f NoMemory x late = tt
still_before NoMemory f g x late = absurd x
