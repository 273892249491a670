-- Turns: from a Begin that applies to the end of what it begins.
use Rattle.std.specs.Prelude.{◌≡◌, ◌⊎◌, ℕ, zero, suc, ◌+◌, ◌<◌, ◌≤◌, ◌==◌, cond, Bool, true, false, Option, Some, None, List, []}
use Rattle.std.specs.Prelude.{◌∷◌, ◌++◌, slice_get}
use mathlib.Core.Option.{some}
use lib.ListN.{get_elem?}
use Rattle.ledger_core.specs.declared.op.Op.{Op}
use Rattle.ledger_core.specs.Ops.{sum_ops}
use Rattle.ledger_core.specs.Row.{Accepts}
use Rattle.snapshot_core.specs.declared.event.Event.{Event}
use Rattle.snapshot_core.specs.declared.event.Event.TheVariants.{Begin, Step, Torn}
use Rattle.snapshot_core.specs.declared.trace.ScanEnd.{ScanEnd}
use Rattle.snapshot_core.specs.declared.trace.ScanEnd.TheVariants.{Direct, Lent, GaveUp}
use Rattle.snapshot_core.specs.declared.trace.Answer.{Answer}
use Rattle.snapshot_core.specs.declared.trace.Publish.{Publish}
use Rattle.snapshot_core.specs.Tries.{View}
use Rattle.snapshot_core.specs.History.{Published, number_at, row_at}

-- an answer, whose view is none where the scan gave up
pub record Answered : Type 0 where
  pub actor : ℕ
  pub begin : ℕ
  pub end : ℕ
  pub tries : ℕ
  pub how : ScanEnd
  pub view : Option View

-- the view of a scan that ended so: a scan that gave up has none
abbrev pub view_of : ScanEnd → View → Option View
view_of Direct v = Some v
view_of (Lent from) v = Some v
view_of GaveUp v = None

-- an answer of a trace by its values
abbrev pub answered_of : Answer → Answered
answered_of a = record {
  actor = a.actor;
  begin = a.begin;
  end = a.end;
  tries = a.tries;
  how = a.how;
  view = view_of a.how (record { vector = a.vector.items; totals = a.totals.items });
}

-- a publish of a trace by its values
abbrev pub published_of : Publish → Published
published_of p = record { at = p.at; worker = p.worker; ops = p.ops.items }

-- n workers; rows of c counters, h histograms and g gauges; a list of events, and what it came to
module _ (n c h g : ℕ) (es : List Event) (ps : List Published) (answers : List Answered) where
  -- these operations may begin at the event e: a worker's row accepts them and its number is not the greatest, or a
  -- reader has none
  abbrev pub MayBegin : (e actor : ℕ) → List Op → Type 0
  MayBegin e actor ops = ((actor < n) × (number_at ps e actor < 18446744073709551615)
      × Accepts c h g (row_at (sum_ops c h) ps e actor) ops)
      ⊎ ((n ≤ actor) × (actor < n + 4) × (ops ≡ []))

  -- the event is a Begin of the actor that may begin
  abbrev pub BeginsAt : (e actor : ℕ) → Option Event → Type 0
  BeginsAt e actor (Some (Begin who ops)) = (who ≡ actor) × MayBegin e actor ops.items
  BeginsAt e actor _ = ⊥

  -- what the actor has begun ends at the event e: a worker's update with its publish, a reader's scan with its answer
  abbrev pub EndsAt : (e actor : ℕ) → Type 0
  EndsAt e actor = ((actor < n) × ((q : ℕ) × (p : Published) × (get_elem? ps q ≡ some p) × (p.worker ≡ actor) × (p.at ≡ e)))
      ⊎ ((n ≤ actor) × ((q : ℕ) × (a : Answered) × (get_elem? answers q ≡ some a) × (a.actor ≡ actor) × (a.end ≡ e)))

  -- just before the event e the actor's turn that begins at b is open: its Begin applies where no turn is open, and it
  -- is open until it ends
  abbrev pub IsOpen : (e actor b : ℕ) → Type 0
  IsOpen zero actor b = ⊥
  IsOpen (suc e) actor b = (IsOpen e actor b × (¬ EndsAt e actor))
      ⊎ ((b ≡ e) × BeginsAt e actor (slice_get es e) × ((d : ℕ) → ¬ IsOpen e actor d))

  -- the actor has a turn that begins at b
  abbrev pub IsTurn : (actor b : ℕ) → Type 0
  IsTurn actor b = IsOpen (suc b) actor b

-- the actor's own read at an event, as its index and whether it is torn
abbrev pub own : (actor e : ℕ) → Option Event → List (ℕ × Bool)
own actor e (Some (Step who)) = cond (who == actor) ((e, false) ∷ []) []
own actor e (Some (Torn who)) = cond (who == actor) ((e, true) ∷ []) []
own actor e _ = []

-- the actor's Steps and Torns among m events from e on
abbrev pub own_reads : List Event → (actor e m : ℕ) → List (ℕ × Bool)
own_reads es actor e zero = []
own_reads es actor e (suc m) = own actor e (slice_get es e) ++ own_reads es actor (suc e) m

-- the operations that the event begins
abbrev pub ops_of : Option Event → List Op
ops_of (Some (Begin who ops)) = ops.items
ops_of _ = []
