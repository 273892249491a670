-- What every list of events comes to.
use Rattle.std.proofs.Common.{◌≡◌, ◌⊎◌, ⊎_elim, ℕ, suc, ◌+◌, ◌<◌, ◌≤◌, List, length, sym, subst}
use mathlib.Core.Option.{some}
use lib.ListN.{get_elem?}
use Rattle.ledger_core.specs.Ops.{width, sum_ops}
use Rattle.snapshot_core.specs.declared.event.Event.{Event}
use Rattle.snapshot_core.specs.declared.trace.ScanEnd.{ScanEnd}
use Rattle.snapshot_core.specs.Turns.{Answered, IsTurn, own_reads}
use Rattle.snapshot_core.specs.Faithful.{IsJustified, IsOutcome}
use Rattle.snapshot_core.specs.Machine.{World, world_at}
use Rattle.snapshot_core.proofs.Calm.{Scans, not_justified, undisturbed}
use Rattle.snapshot_core.proofs.Faithful.{ps, zs, before_event, turns, justified, answers_rise, publishes_rise, faithful_with}
use Rattle.snapshot_core.proofs.Faithful.{HasNoAnswer}
use Rattle.snapshot_core.proofs.Grows.{world_ordered}
use Rattle.snapshot_core.proofs.Progress.{progress, lends_from}
use Rattle.snapshot_core.proofs.Steps.{one_step, few_tries}
use Rattle.snapshot_core.proofs.Turns.{open_after}
use Rattle.snapshot_core.proofs.Whole.{Run, whole_reads}

module _ (c h g n : ℕ) (es : List Event) (one : 1 ≤ n) (most : n ≤ 32) where
  worlds : ℕ → World
  worlds k = world_at c h g n es k

  goes_on : (actor b m : ℕ) → IsTurn n c h g es (ps c h g n es) (zs c h g n es) actor b → b + m < length es
      → Scans n (ps c h g n es) (zs c h g n es) (own_reads es actor (suc b) m)
      ⊎ ((q : ℕ) × (a : Answered) × (get_elem? (zs c h g n es) q ≡ some a) × (a.actor ≡ actor) × (a.begin ≡ b)
      × (a.end ≤ b + m))
  goes_on = progress c h g n es (ps c h g n es) (zs c h g n es) (λ k. world_at c h g n es k) (before_event c h g n es one most)

  never_justified : (actor b m : ℕ) → IsTurn n c h g es (ps c h g n es) (zs c h g n es) actor b → HasNoAnswer c h g n es actor b
      → b + m < length es → (tries : ℕ) (how : ScanEnd) (view : _) → ¬ IsJustified n (ps c h g n es) (zs c h g n es)
      (own_reads es actor (suc b) m) tries how view
  never_justified actor b m turn none inside tries how view = ⊎_elim
      (λ s. not_justified n (ps c h g n es) (zs c h g n es) (own_reads es actor (suc b) m) s tries how view)
      (λ t. absurd (none t.0 t.1 t.2 t.3 t.4))
      (goes_on actor b m turn inside)

  known : Run n (width c h g) (sum_ops c h) es (ps c h g n es) (zs c h g n es)
  known = record {
    some = one;
    justified = justified c h g n es one most;
    rise = answers_rise c h g n es one most;
    steps = λ q a v at is. one_step c h g n es one most (length es) q a v at is;
    ordered = λ q a at. open_after n c h g es (ps c h g n es) (zs c h g n es) a.end a.actor a.begin
        (turns c h g n es one most q a at).0;
    lends = lends_from c h g n es (ps c h g n es) (zs c h g n es) (λ k. world_at c h g n es k) (before_event c h g n es one most)
        (publishes_rise c h g n es one most) (answers_rise c h g n es one most)
        (world_ordered c h g n es (length es)).publishes;
  }

  pub outcome : IsOutcome n c h g es (ps c h g n es) (zs c h g n es)
  outcome = record {
    faithful = faithful_with c h g n es one most never_justified;
    steps = one_step c h g n es one most (length es);
    few = few_tries c h g n es one most (length es);
    direct = undisturbed n c h g es (ps c h g n es) (zs c h g n es) (justified c h g n es one most) goes_on;
    whole = whole_reads n (width c h g) (sum_ops c h) es (ps c h g n es) (zs c h g n es) known;
  }

  -- the same of the machine that has run them
  pub outcome_of : (w : World) → w ≡ world_at c h g n es (length es) → IsOutcome n c h g es w.publishes w.answers
  outcome_of w is = subst (λ (z : World). IsOutcome n c h g es z.publishes z.answers) (sym is) outcome
