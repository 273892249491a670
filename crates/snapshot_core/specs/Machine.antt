-- The machine of events, as plain lists: what each of its private functions does. No public clause cites it.
use Rattle.std.specs.Prelude.{ℕ, zero, suc, ◌+◌, ◌-◌, ◌%◌, ◌^◌, ◌==◌, ◌&&◌, not, nat_lt, nat_le, cond, Bool, true, false, Option}
use Rattle.std.specs.Prelude.{Some, None, option_map, List, [], ◌∷◌, ◌++◌, length, take, slice_get, slice_index, slice_set, map}
use Rattle.std.specs.Prelude.{replicate}
use Rattle.bucket_math.specs.Words.{greatest_word}
use Rattle.ledger_core.specs.declared.op.Op.{Op}
use Rattle.ledger_core.specs.declared.op.Op.TheVariants.{Inc, Observe, Up, Down}
use Rattle.ledger_core.specs.Ops.{width, part}
use Rattle.snapshot_core.specs.declared.event.Event.{Event}
use Rattle.snapshot_core.specs.declared.event.Event.TheVariants.{Begin, Step, Torn}
use Rattle.snapshot_core.specs.declared.trace.ScanEnd.{ScanEnd}
use Rattle.snapshot_core.specs.declared.trace.ScanEnd.TheVariants as how
use Rattle.snapshot_core.specs.declared.actor.Lent.{Lent}
use Rattle.snapshot_core.specs.declared.actor.Segment.{Segment}
use Rattle.snapshot_core.specs.declared.actor.Phase.{Phase}
use Rattle.snapshot_core.specs.declared.actor.Phase.TheVariants as phase
use Rattle.snapshot_core.specs.declared.actor.Actor.{Actor}
use Rattle.snapshot_core.specs.declared.actor.Machine.{Machine}
use Rattle.snapshot_core.specs.declared.next.Next.{Next}
use Rattle.snapshot_core.specs.declared.next.Next.TheVariants as next
use Rattle.snapshot_core.specs.declared.scan.Scan.{Scan}
use Rattle.snapshot_core.specs.Scan.{new_scan, first_by, second_by, asked_by}
use Rattle.snapshot_core.specs.Told.{vector_of}
use Rattle.snapshot_core.specs.Tries.{View, from_on}
use Rattle.snapshot_core.specs.History.{Published}
use Rattle.snapshot_core.specs.Turns.{Answered, ops_of, answered_of, published_of}

-- a segment: how often its worker has published, its row, and the view that its version lends
pub record Seg : Type 0 where
  pub number : ℕ
  pub row : List ℕ
  pub view : Option View

-- an actor: what it is at, the event of its Begin, its scan, the sums of the rows of this try,
-- and the view of its scan once that is over
pub record Act : Type 0 where
  pub phase : Phase
  pub begin : ℕ
  pub scan : Scan
  pub totals : List ℕ
  pub view : Option View

-- all segments and actors, and what was published and answered so far
pub record World : Type 0 where
  pub segments : List Seg
  pub actors : List Act
  pub publishes : List Published
  pub answers : List Answered

-- what a version lends, as a view
abbrev pub lent_of : Lent → View
lent_of l = record { vector = l.vector.items; totals = l.totals.items }

-- a segment of the machine by its values
abbrev pub seg_of : {C H G : ℕ} → Segment C H G → Seg
seg_of s = record { number = s.number; row = s.row; view = option_map lent_of s.view }

-- an actor of the machine by its values
abbrev pub act_of : Actor → Act
act_of a = record {
  phase = a.phase;
  begin = a.begin;
  scan = a.scan.scan;
  totals = a.totals.items;
  view = option_map lent_of a.view;
}

-- the whole machine by its values
abbrev pub world_of : {C H G : ℕ} → Machine C H G → World
world_of m = record {
  segments = map seg_of m.segments.items;
  actors = map act_of m.actors.items;
  publishes = map published_of m.publishes.items;
  answers = map answered_of m.answers.items;
}

-- rows of c counters, h histograms and g gauges

-- the operation names a slot of the row
abbrev pub is_within : (c h g : ℕ) → Op → Bool
is_within c h g (Inc counter by) = nat_lt counter c
is_within c h g (Observe hist place value) = nat_lt hist h && nat_lt place 25
is_within c h g (Up gauge by) = nat_lt gauge g
is_within c h g (Down gauge by) = nat_lt gauge g

-- each of the words k, k + 1, .. , m of them, is at most 2^48 - 1 with the operation
abbrev pub has_room : (c h : ℕ) → List ℕ → Op → (k m : ℕ) → Bool
has_room c h row op k zero = true
has_room c h row op k (suc m) = nat_le (slice_index row k + part c h op k) greatest_word && has_room c h row op (suc k) m

-- the row with one operation
abbrev pub raised : (c h g : ℕ) → List ℕ → Op → List ℕ
raised c h g row op = map (λ k. slice_index row k + part c h op k) (from_on 0 (width c h g))

-- the row with the operations, if it accepts them
abbrev pub applied : (c h g : ℕ) → List ℕ → List Op → Option (List ℕ)
applied c h g row [] = Some row
applied c h g row (op ∷ ops) = cond (is_within c h g op && has_room c h row op 0 (width c h g))
    (applied c h g (raised c h g row op) ops) None

-- two lists word by word, as words of 64 bits
abbrev pub added : List ℕ → List ℕ → List ℕ
added [] row = []
added (x ∷ totals) [] = x ∷ totals
added (x ∷ totals) (y ∷ row) = (x + y) % 2 ^ 64 ∷ added totals row

-- an actor that has nothing begun
abbrev pub idle_of : (w n : ℕ) → Act
idle_of w n = record { phase = phase.Rest; begin = 0; scan = new_scan n; totals = replicate w 0; view = None }

-- the actor with a scan that it begins at the event `at`
abbrev pub begun_of : (n at : ℕ) → Act → Act
begun_of n at a = record a { phase = phase.Scan; begin = at; scan = new_scan n; view = None }

-- a segment that nothing was published to
abbrev pub blank_of : (w : ℕ) → Seg
blank_of w = record { number = 0; row = replicate w 0; view = None }

-- the world before the first event: n workers and four readers, and rows of w words
abbrev pub start : (n w : ℕ) → World
start n w = record { segments = replicate n (blank_of w); actors = replicate (n + 4) (idle_of w n); publishes = []; answers = [] }

-- what a read meets, unless it is torn
abbrev pub not_torn : Bool → Option (List ℕ) → Option (List ℕ)
not_torn true v = None
not_torn false v = v

-- the actor after its next read, of this segment
abbrev pub read_by : Seg → (torn : Bool) → Act → Next → Act
read_by s torn a (next.First place) = record a {
  scan = first_by s.number (not torn) a.scan a.scan.next;
  totals = cond torn a.totals (cond (place == 0) s.row (added a.totals s.row));
}
read_by s torn a (next.Second place) = record a { scan = second_by s.number a.scan a.scan.next }
read_by s torn a (next.Ask place) = record a { scan = asked_by (not_torn torn (vector_of s.view)) a.scan a.scan.next }
read_by s torn a _ = a

-- which segment is read next
abbrev pub place_in : Next → Option ℕ
place_in (next.First p) = Some p
place_in (next.Second p) = Some p
place_in (next.Ask p) = Some p
place_in _ = None

-- how the scan ended, and its view, where it ended with this read of this segment
abbrev pub end_by : Seg → Act → Next → Option (ScanEnd × Option View)
end_by s a next.Direct = Some (how.Direct, Some (record { vector = take a.scan.n a.scan.opened; totals = a.totals }))
end_by s a (next.Lent from) = Some (how.Lent from, s.view)
end_by s a (next.GaveUp worker first last) = Some (how.GaveUp, None)
end_by s a _ = None

-- a scan's end by its values
abbrev pub ended_of : ScanEnd × Option Lent → ScanEnd × Option View
ended_of e = (e.0, option_map lent_of e.1)

-- the view, or an empty one where there is none
abbrev pub or_blank : Option View → View
or_blank None = record { vector = []; totals = [] }
or_blank (Some v) = v

-- what an actor is at once its scan is over: a worker publishes next
abbrev pub phase_after : (is_worker : Bool) → Phase
phase_after true = phase.Ready
phase_after false = phase.Rest

-- the actor, whose scan ended so if it ended
abbrev pub finished : (is_worker : Bool) → Act → Option (ScanEnd × Option View) → Act
finished is_worker a None = a
finished is_worker a (Some e) = record a { phase = phase_after is_worker; view = e.1 }

-- its answer, if its scan ended
abbrev pub told : (at who : ℕ) → Act → Option (ScanEnd × Option View) → List Answered
told at who a None = []
told at who a (Some e) = record { actor = who; begin = a.begin; end = at; tries = a.scan.tries; how = e.0; view = e.1 } ∷ []

-- the actor after its read of this segment
abbrev pub read_of : Act → Seg → (torn : Bool) → Act
read_of a s torn = read_by s torn a a.scan.next

-- how its scan ended with this read, and the view, if it ended
abbrev pub end_of : Act → Seg → (torn : Bool) → Option (ScanEnd × Option View)
end_of a s torn = end_by s (read_of a s torn) (read_of a s torn).scan.next

-- the actor after this read, and after the end of its scan if it ended
abbrev pub ended_by : (is_worker : Bool) → Act → Seg → (torn : Bool) → Act
ended_by is_worker a s torn = finished is_worker (read_of a s torn) (end_of a s torn)

-- the answer that this read brings, if it brings one
abbrev pub told_by : (at who : ℕ) → Act → Seg → (torn : Bool) → List Answered
told_by at who a s torn = told at who (read_of a s torn) (end_of a s torn)

-- n workers
module _ (c h g n : ℕ) where
  -- there is a row
  abbrev pub is_some : Option (List ℕ) → Bool
  is_some None = false
  is_some (Some r) = true

  -- the operations may begin: a worker's row accepts them and its number is not the greatest, a reader has none
  abbrev pub accepts : List Op → Option Seg → Bool
  accepts ops None = length ops == 0
  accepts ops (Some s) = nat_lt s.number (2 ^ 64 - 1) && is_some (applied c h g s.row ops)

  -- a Begin, of an actor that there is
  abbrev pub begins_if : World → (at who : ℕ) → List Op → Act → Phase → World
  begins_if w at who ops a phase.Rest = cond (accepts ops (slice_get w.segments who))
      (record w { actors = slice_set w.actors who (begun_of n at a) }) w
  begins_if w at who ops a _ = w

  -- a Begin of the actor of this number, which changes nothing where there is none
  abbrev pub begins : World → (at who : ℕ) → List Op → Option Act → World
  begins w at who ops None = w
  begins w at who ops (Some a) = begins_if w at who ops a a.phase

  -- an actor whose scan is over: a worker publishes next
  abbrev pub over : Option Seg → Phase
  over None = phase.Rest
  over (Some s) = phase.Ready

  -- the world after a read by which the actor's scan ended so, if it ended
  abbrev pub ends : World → (at who : ℕ) → Act → Option (ScanEnd × Option View) → World
  ends w at who a None = record w { actors = slice_set w.actors who a }
  ends w at who a (Some e) = record w {
    actors = slice_set w.actors who (record a { phase = over (slice_get w.segments who); view = e.1 });
    answers = w.answers ++ record { actor = who; begin = a.begin; end = at; tries = a.scan.tries; how = e.0; view = e.1 } ∷ [];
  }

  -- the read of a segment, and the end of the scan where it ends
  abbrev pub reads_segment : World → (at who : ℕ) → Act → (torn : Bool) → Seg → World
  reads_segment w at who a torn s = ends w at who (read_by s torn a a.scan.next)
      (end_by s (read_by s torn a a.scan.next) (read_by s torn a a.scan.next).scan.next)

  -- a read of this segment, if there is one
  abbrev pub reads_from : World → (at who : ℕ) → Act → (torn : Bool) → Option Seg → World
  reads_from w at who a torn None = w
  reads_from w at who a torn (Some s) = reads_segment w at who a torn s

  -- a read of the segment at this place, if one is to be read
  abbrev pub reads_place : World → (at who : ℕ) → Act → (torn : Bool) → Option ℕ → World
  reads_place w at who a torn None = w
  reads_place w at who a torn (Some place) = reads_from w at who a torn (slice_get w.segments place)

  -- a publish
  abbrev pub publishes_row : World → (at who : ℕ) → List Op → Act → Seg → Option (List ℕ) → World
  publishes_row w at who ops a s None = w
  publishes_row w at who ops a s (Some row) = cond (nat_lt s.number (2 ^ 64 - 1)) (record w {
    segments = slice_set w.segments who (record { number = s.number + 1; row = row; view = a.view });
    actors = slice_set w.actors who (record a { phase = phase.Rest; view = None });
    publishes = w.publishes ++ record { at = at; worker = who; ops = ops } ∷ [];
  }) w

  -- a publish of a worker; an actor without a segment is none
  abbrev pub publishes_as : World → (at who : ℕ) → List Op → Act → Option Seg → World
  publishes_as w at who ops a None = w
  publishes_as w at who ops a (Some s) = publishes_row w at who ops a s (applied c h g s.row ops)

  -- a read by the actor of this number, which changes nothing where there is none
  abbrev pub reads : World → (at who : ℕ) → (torn : Bool) → Option Act → World
  reads w at who torn None = w
  reads w at who torn (Some a) = reads_place w at who a torn (place_in a.scan.next)

  -- a publish by the actor of this number, which changes nothing where there is none
  abbrev pub publishes_by : World → (at who : ℕ) → List Op → Option Act → World
  publishes_by w at who ops None = w
  publishes_by w at who ops (Some a) = publishes_as w at who ops a (slice_get w.segments who)

  -- what an actor does at an event of its own: by its phase nothing, a read or a publish
  abbrev pub steps_in : List Event → World → (at who : ℕ) → (torn : Bool) → Act → Phase → World
  steps_in events w at who torn a phase.Rest = w
  steps_in events w at who torn a phase.Scan = reads_place w at who a torn (place_in a.scan.next)
  steps_in events w at who torn a phase.Ready =
      cond torn w (publishes_as w at who (ops_of (slice_get events a.begin)) a (slice_get w.segments who))

  -- the same, of the actor of this number, if there is one
  abbrev pub steps : List Event → World → (at who : ℕ) → (torn : Bool) → Option Act → World
  steps events w at who torn None = w
  steps events w at who torn (Some a) = steps_in events w at who torn a a.phase

  -- the world after an event
  abbrev pub happens : List Event → World → (at : ℕ) → Event → World
  happens events w at (Begin who ops) = begins w at who ops.items (slice_get w.actors who)
  happens events w at (Step who) = steps events w at who false (slice_get w.actors who)
  happens events w at (Torn who) = steps events w at who true (slice_get w.actors who)

  -- the same, if there is such an event
  abbrev pub happens_at : List Event → World → (at : ℕ) → Option Event → World
  happens_at events w at None = w
  happens_at events w at (Some e) = happens events w at e

  -- the world before the event k
  abbrev pub world_at : List Event → (k : ℕ) → World
  world_at events zero = start n (width c h g)
  world_at events (suc k) = happens_at events (world_at events k) k (slice_get events k)
