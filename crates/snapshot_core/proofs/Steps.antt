-- Every answer is all segments at one event of its turn, and a scan makes at most n + 2 tries.
use Rattle.std.proofs.Common.{ℕ, zero, suc, ◌+◌, ◌≤◌, List, [], sym, refl, subst, arith}
use Rattle.std.specs.Prelude.{slice_get}
use Rattle.std.proofs.lemmas.List.{length-replicate, get_or-replicate}
use Rattle.std.proofs.lemmas.Option.{none-some}
use mathlib.Core.Option.{some-ne-none}
use Rattle.ledger_core.specs.declared.op.Op.{Op}
use Rattle.ledger_core.specs.Ops.{width, sum_ops}
use Rattle.snapshot_core.specs.declared.event.Event.{Event}
use Rattle.snapshot_core.specs.Faithful.{AreOneStep, AreFew}
use Rattle.snapshot_core.specs.Machine.{idle_of, blank_of, start, world_at}
use Rattle.snapshot_core.proofs.Events.{happens_ok}
use Rattle.snapshot_core.proofs.Worlds.{SegOk, ActOk, Inv, in_several}
use Rattle.snapshot_core.proofs.Grows.{world_ordered}

start_ok : (adds : List Op → ℕ → ℕ) (w n : ℕ) → 1 ≤ n → n ≤ 32 → Inv adds w n 0 (start n w)
start_ok adds w n least most = record {
  some = least;
  most = most;
  inside = λ q p e. absurd (some-ne-none p (sym e));
  count = length-replicate n (blank_of w);
  people = length-replicate (n + 4) (idle_of w n);
  answers = λ q a e. absurd (some-ne-none a (sym e));
  segment = λ i s is. subst (SegOk adds w n [] 0 i) (in_several n (blank_of w) i s is)
      (record {
        number = refl;
        words = length-replicate w 0;
        row = λ x l. get_or-replicate w x 0 0 l;
        small = λ x l. omega arith;
        lends = λ v e. absurd (none-some v e);
      });
  actor = λ i a is. subst (ActOk adds w n [] 0 i) (in_several (n + 4) (idle_of w n) i a is) (length-replicate w 0, tt);
}

-- the world before every event
pub world_ok : (c h g n : ℕ) → 1 ≤ n → n ≤ 32 → (es : List Event) (k : ℕ)
    → Inv (sum_ops c h) (width c h g) n k (world_at c h g n es k)
world_ok c h g n least most es zero = start_ok (sum_ops c h) (width c h g) n least most
world_ok c h g n least most es (suc k) = happens_ok c h g n k (world_at c h g n es k) (world_ok c h g n least most es k)
    (world_ordered c h g n es k) es (slice_get es k)

pub one_step : (c h g n : ℕ) (es : List Event) → 1 ≤ n → n ≤ 32 → (k : ℕ) → AreOneStep n c h g (world_at c h g n es k).publishes
    (world_at c h g n es k).answers
one_step c h g n es least most k q a v is seen = ((world_ok c h g n least most es k).answers q a is).1.step v seen

pub few_tries : (c h g n : ℕ) (es : List Event) → 1 ≤ n → n ≤ 32 → (k : ℕ) → AreFew n (world_at c h g n es k).answers
few_tries c h g n es least most k q a is = ((world_ok c h g n least most es k).answers q a is).1.tries.1
