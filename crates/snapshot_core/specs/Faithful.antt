-- When what a list of events came to is right.
use Rattle.std.specs.Prelude.{◌≡◌, ◌≢◌, ℕ, suc, ◌+◌, ◌-◌, ◌*◌, ◌<◌, ◌≤◌, ◌==◌, ◌&&◌, nat_lt, cond, Bool, false, Option, Some}
use Rattle.std.specs.Prelude.{None, List, [], ◌∷◌, ◌++◌, map, length, slice_get}
use mathlib.Core.Option.{some}
use lib.ListN.{get_elem?}
use Rattle.ledger_core.specs.Ops.{width, sum_ops}
use Rattle.snapshot_core.specs.declared.event.Event.{Event}
use Rattle.snapshot_core.specs.declared.event.Event.TheVariants.{Step, Torn}
use Rattle.snapshot_core.specs.declared.trace.ScanEnd.{ScanEnd}
use Rattle.snapshot_core.specs.declared.trace.ScanEnd.TheVariants.{Direct, Lent, GaveUp}
use Rattle.snapshot_core.specs.Tries.{View, Read, Try, number_met, reads_of, Failed, AllFailed, EndsDirectly, EndsLent, floor_of}
use Rattle.snapshot_core.specs.Tries.{base_of}
use Rattle.snapshot_core.specs.History.{Published, number_at, OneStep}
use Rattle.snapshot_core.specs.Turns.{Answered, IsOpen, IsTurn, own, own_reads, ops_of}

-- the event of worker i's last publish before the event e; of none of these, `found`
abbrev pub last_publish : List Published → (e i : ℕ) → Option ℕ → Option ℕ
last_publish [] e i found = found
last_publish (p ∷ ps) e i found = last_publish ps e i (cond (nat_lt p.at e && p.worker == i) (Some p.at) found)

-- the view of worker i's last answer before the event e; of none of these, `found`
abbrev pub last_view : List Answered → (e i : ℕ) → Option View → Option View
last_view [] e i found = found
last_view (a ∷ answers) e i found = last_view answers e i (cond (nat_lt a.end e && a.actor == i) a.view found)

-- the view of worker i's last answer before its publish at this event
abbrev pub lent_since : List Answered → (i : ℕ) → Option ℕ → Option View
lent_since answers i None = None
lent_since answers i (Some at) = last_view answers at i None

-- the view of worker i's last publish before the event e: that of its last answer before that publish
abbrev pub lent_at : List Published → List Answered → (e i : ℕ) → Option View
lent_at ps answers e i = lent_since answers i (last_publish ps e i None)

-- a read meets the number and the view of its moment
pub record Meets (ps : List Published) (answers : List Answered) (r : Read) : Type 0 where
  pub number : r.number ≡ number_at ps r.at r.place
  pub view : r.view ≡ lent_at ps answers r.at r.place

-- the event of a read, and whether it is torn
abbrev pub where_and_torn : Read → ℕ × Bool
where_and_torn r = (r.at, r.torn)

-- the last try ends the scan so: directly, where the vector is the numbers of its first collect; with a view that is
-- lent; or not at all, after n + 2 tries
abbrev pub Ends : (n : ℕ) → List Try → Try → ScanEnd → Option View → Type 0
Ends n before last Direct None = ⊥
Ends n before last Direct (Some v) = EndsDirectly n last × (v.vector ≡ map number_met last.first)
Ends n before last (Lent from) view = EndsLent n (floor_of before last) (base_of before last) from view last
Ends n before last GaveUp view = Failed n (floor_of before last) (base_of before last) last × (length before ≡ n + 1)
    × (view ≡ None)

-- these reads are a scan of so many tries, of which no other than the last ends it
pub record IsScan (n : ℕ) (reads : List Read) (tries : ℕ) (how : ScanEnd) (view : Option View) : Type 0 where
  pub before : List Try
  pub last : Try
  pub all : reads ≡ reads_of (before ++ last ∷ [])
  pub count : tries ≡ length before + 1
  pub failed : AllFailed n (floor_of before last) (base_of before last) before
  pub ends : Ends n before last how view

-- an actor's own reads, with what each of them meets, are such a scan
pub record IsJustified (n : ℕ) (ps : List Published) (answers : List Answered) (reads : List (ℕ × Bool)) (tries : ℕ)
    (how : ScanEnd) (view : Option View) : Type 0 where
  pub met : List Read
  pub same : map where_and_torn met ≡ reads
  pub meets : (q : ℕ) (r : Read) → get_elem? met q ≡ some r → Meets ps answers r
  pub scan : IsScan n met tries how view

-- the event e is the actor's first Step after the event d
pub record IsFirstStep (es : List Event) (actor d e : ℕ) : Type 0 where
  pub after : d < e
  pub step : slice_get es e ≡ Some (Step actor)
  pub first : (i : ℕ) → d < i → i < e → slice_get es i ≢ Some (Step actor)

-- the reads of an answer's turn, from its begin to its end
abbrev pub reads_in : List Event → Answered → List (ℕ × Bool)
reads_in es a = own_reads es a.actor (suc a.begin) (a.end - a.begin)

-- what the events came to is faithful to them: n workers; rows of c counters, h histograms and g gauges
pub record IsFaithful (n c h g : ℕ) (es : List Event) (ps : List Published) (answers : List Answered) : Type 0 where
  -- each answer is of a turn that is open at its end, which is one of the actor's reads; no turn has two
  pub turns : (q : ℕ) (a : Answered) → get_elem? answers q ≡ some a → IsOpen n c h g es ps answers a.end a.actor a.begin
      × ((torn : Bool) × (own a.actor a.end (slice_get es a.end) ≡ (a.end, torn) ∷ []))
  pub once : (q r : ℕ) (a b : Answered) → get_elem? answers q ≡ some a → get_elem? answers r ≡ some b → a.actor ≡ b.actor
      → a.begin ≡ b.begin → q ≡ r
  -- each answer is justified by its reads, and where a turn has none, no beginning of its reads would justify one
  pub justified : (q : ℕ) (a : Answered) → get_elem? answers q ≡ some a
      → IsJustified n ps answers (reads_in es a) a.tries a.how a.view
  pub unanswered : (actor b m : ℕ) → IsTurn n c h g es ps answers actor b
      → ((q : ℕ) (a : Answered) → get_elem? answers q ≡ some a → a.actor ≡ actor → a.begin ≢ b)
      → b + m < length es → (tries : ℕ) (how : ScanEnd) (view : Option View)
      → ¬ IsJustified n ps answers (own_reads es actor (suc b) m) tries how view
  -- a publish is of a worker, has its Begin's operations and stands at the worker's first Step after its answer's end, and
  -- where there is such a Step there is a publish at it
  pub published : (q : ℕ) (p : Published) → get_elem? ps q ≡ some p → (p.worker < n)
      × ((r : ℕ) × (a : Answered) × (get_elem? answers r ≡ some a) × (a.actor ≡ p.worker)
      × (p.ops ≡ ops_of (slice_get es a.begin)) × IsFirstStep es a.actor a.end p.at)
  pub publishes : (r e : ℕ) (a : Answered) → get_elem? answers r ≡ some a → a.actor < n → IsFirstStep es a.actor a.end e
      → (q : ℕ) × (p : Published) × (get_elem? ps q ≡ some p) × (p.worker ≡ a.actor) × (p.at ≡ e)
  -- publishes stand in the order of their events, and answers in that of their ends
  pub publishes_rise : (q r : ℕ) (p s : Published) → get_elem? ps q ≡ some p → get_elem? ps r ≡ some s → q < r → p.at < s.at
  pub answers_rise : (q r : ℕ) (a b : Answered) → get_elem? answers q ≡ some a → get_elem? answers r ≡ some b → q < r
      → a.end < b.end

-- each answer that was not given up is all segments at one event of its turn
abbrev pub AreOneStep : (n c h g : ℕ) → List Published → List Answered → Type 0
AreOneStep n c h g ps answers = (q : ℕ) (a : Answered) (v : View) → get_elem? answers q ≡ some a → a.view ≡ Some v
    → OneStep (sum_ops c h) n (width c h g) ps a.begin a.end v

-- a scan makes at most n + 2 tries
abbrev pub AreFew : (n : ℕ) → List Answered → Type 0
AreFew n answers = (q : ℕ) (a : Answered) → get_elem? answers q ≡ some a → a.tries ≤ n + 2

-- none of these reads is torn
abbrev pub NoneTorn : List (ℕ × Bool) → Type 0
NoneTorn reads = (q : ℕ) (x : ℕ × Bool) → get_elem? reads q ≡ some x → x.1 ≡ false

-- a turn that makes 2n reads, none torn, while nobody publishes, is answered directly in one try
abbrev pub UndisturbedIsDirect : (n c h g : ℕ) → List Event → List Published → List Answered → Type 0
UndisturbedIsDirect n c h g es ps answers = (actor b m : ℕ) → IsTurn n c h g es ps answers actor b → b + m < length es
    → length (own_reads es actor (suc b) m) ≡ 2 * n → NoneTorn (own_reads es actor (suc b) m)
    → ((q : ℕ) (p : Published) → get_elem? ps q ≡ some p → b < p.at → ¬ (p.at ≤ b + m))
    → (q : ℕ) × (a : Answered) × (get_elem? answers q ≡ some a) × (a.actor ≡ actor) × (a.begin ≡ b) × (a.how ≡ Direct)
    × (a.tries ≡ 1)

-- how many reads a scan of n workers has made in so many tries where it ended so; a scan that gave up is not counted
abbrev pub reads_by : (n tries : ℕ) → ScanEnd → ℕ
reads_by n tries Direct = 2 * n * tries
reads_by n tries (Lent from) = 2 * n * tries + 1
reads_by n tries GaveUp = 0

-- where no event is torn, no scan is given up, and a scan makes 2n reads a try, and one more where its view is lent: the
-- first worker that is asked lends. So every update publishes a view: a worker that has published lends one
abbrev pub WholeReadsAnswer : List Event → (n : ℕ) → List Published → List Answered → Type 0
WholeReadsAnswer es n ps answers = ((e actor : ℕ) → slice_get es e ≢ Some (Torn actor))
    → ((q : ℕ) (a : Answered) → get_elem? answers q ≡ some a → (a.how ≢ GaveUp)
    × (length (reads_in es a) ≡ reads_by n a.tries a.how))
    × ((e i : ℕ) → i < n → 0 < number_at ps e i → (v : View) × (lent_at ps answers e i ≡ Some v))

-- the publishes and the answers are what the events come to: all that `run` promises of them. Of all lists, one of publishes
-- and one of answers are
pub record IsOutcome (n c h g : ℕ) (es : List Event) (ps : List Published) (answers : List Answered) : Type 0 where
  pub faithful : IsFaithful n c h g es ps answers
  pub steps : AreOneStep n c h g ps answers
  pub few : AreFew n answers
  pub direct : UndisturbedIsDirect n c h g es ps answers
  pub whole : WholeReadsAnswer es n ps answers
