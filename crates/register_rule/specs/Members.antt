-- What steps do to members and to views.
use Rattle.std.specs.Prelude.{ℕ, zero, suc, ◌+◌, ◌==◌, max, Bool, false, cond, Option, Some, None, List, [], ◌∷◌, ◌++◌, map}
use Rattle.std.specs.Prelude.{length, take, replicate, slice_index, slice_set}
use Rattle.ledger_core.specs.declared.op.Op.{Op}
use Rattle.register_rule.specs.declared.view.Who.{Who}
use Rattle.register_rule.specs.declared.view.Who.TheVariants.{Worker, Reader}
use Rattle.register_rule.specs.declared.view.Answer.{Answer}
use Rattle.register_rule.specs.declared.view.PublishEntry.{PublishEntry}
use Rattle.register_rule.specs.declared.view.ScanLog.{ScanLog}
use Rattle.register_rule.specs.declared.view.Member.{Member}
use Rattle.register_rule.specs.declared.view.SeatView.{SeatView}
use Rattle.register_rule.specs.ScanSteps.{at_rest, upper}

-- the view of these members
abbrev pub group : List Member → SeatView
group ms = record { members = ms }

-- the scans of a member that has made no step: n workers, rows of w words
abbrev pub fresh_scan : (n w : ℕ) → ScanLog
fresh_scan n w = record {
  opened = [];
  confirmed = [];
  before = [];
  asked = [];
  recorded = [];
  quit = 0;
  seen = replicate n 0;
  remembered = replicate n (record { number = 0; row = replicate w 0 });
  trying = at_rest;
}

-- worker i, which has made no step: both its buffers are b zeros
abbrev pub new_worker : (n w b i : ℕ) → Member
new_worker n w b i = record {
  who = Worker i;
  work = record { made = []; hidden = replicate b 0; shown = replicate b 0 };
  scan = fresh_scan n w;
}

-- reader i, which has made no step: it has no buffers
abbrev pub new_reader : (n w i : ℕ) → Member
new_reader n w i = record { who = Reader i; work = record { made = []; hidden = []; shown = [] }; scan = fresh_scan n w }

-- the new workers from i on, k of them
abbrev pub workers_from : (n w b i k : ℕ) → List Member
workers_from n w b i zero = []
workers_from n w b i (suc k) = new_worker n w b i ∷ workers_from n w b (i + 1) k

-- the new readers from i on, k of them
abbrev pub readers_from : (n w i k : ℕ) → List Member
readers_from n w i zero = []
readers_from n w i (suc k) = new_reader n w i ∷ readers_from n w (i + 1) k

-- all members of a new board: n workers, and so many readers
abbrev pub everyone : (n w b readers : ℕ) → SeatView
everyone n w b readers = group (workers_from n w b 0 n ++ readers_from n w 0 readers)

-- the first of the members that a seat has: its steps are this one's (with no members, a reader that has done nothing)
abbrev pub first_of : List Member → Member
first_of [] = new_reader 0 0 0
first_of (m ∷ ms) = m

-- these members, of whom `f` has changed the first
abbrev pub led : (Member → Member) → List Member → List Member
led f [] = []
led f (m ∷ ms) = f m ∷ ms

-- this member, of which `f` has changed what it learned by its scans
abbrev pub scan_changed : (ScanLog → ScanLog) → Member → Member
scan_changed f m = record m { scan = f m.scan }

-- a store of x into the item k of the hidden buffer
abbrev pub filled : (k x : ℕ) → Member → Member
filled k x m = record m { work = record m.work { hidden = slice_set m.work.hidden k x } }

-- the last of these answers, if there is one
abbrev pub newest : List Answer → Option Answer
newest [] = None
newest (a ∷ []) = Some a
newest (a ∷ x ∷ xs) = newest (x ∷ xs)

-- a publish of these operations, which lends the last answer that the member recorded, or nothing
abbrev pub made_of : List Op → (lends : Bool) → Member → PublishEntry
made_of ops lends m = record { ops = ops; lends = cond lends (newest m.scan.recorded) None }

-- the store of worker i's own number: the buffers change their roles, and the worker knows its new row
abbrev pub published : (w i : ℕ) → List Op → (lends : Bool) → Member → Member
published w i ops lends m = record m {
  work = record { made = m.work.made ++ made_of ops lends m ∷ []; hidden = m.work.shown; shown = m.work.hidden };
  scan = record m.scan {
    seen = slice_set m.scan.seen i (suc (length m.work.made));
    remembered = slice_set m.scan.remembered i (record { number = suc (length m.work.made); row = take w m.work.hidden });
  };
}

-- both are one worker, or one reader
abbrev pub same_who : Who → Who → Bool
same_who (Worker i) (Worker j) = i == j
same_who (Reader i) (Reader j) = i == j
same_who _ _ = false

-- the members of this name
abbrev pub picked : Who → List Member → List Member
picked who [] = []
picked who (m ∷ ms) = cond (same_who who m.who) (m ∷ picked who ms) (picked who ms)

-- the members of any other name
abbrev pub without : Who → List Member → List Member
without who [] = []
without who (m ∷ ms) = cond (same_who who m.who) (without who ms) (m ∷ without who ms)

-- these numbers, in which a worker's own one is at least how often it has published
abbrev pub raised_by : Who → (made : ℕ) → List ℕ → List ℕ
raised_by (Worker i) made seen = slice_set seen i (max (slice_index seen i) made)
raised_by (Reader r) made seen = seen

-- what a member has seen, and of its own segment all that it made
abbrev pub reach : Member → List ℕ
reach m = raised_by m.who (length m.work.made) m.scan.seen

-- the greatest that any of them has seen or made
abbrev pub greatest : List Member → List ℕ
greatest [] = []
greatest (m ∷ ms) = upper (reach m) (greatest ms)

-- this member, which has seen these numbers, too
abbrev pub raised : List ℕ → Member → Member
raised seen m = record m { scan = record m.scan { seen = upper m.scan.seen seen } }

-- members that meet have all seen what one of them has seen or made
abbrev pub met : List Member → List Member
met ms = map (raised (greatest ms)) ms
