-- What the rule says of a member's scans. n workers, rows of w words; made i is what worker i has published, so that
-- its number is the length of it, and `history` is the workers that published, in order.
use Rattle.std.specs.Prelude.{◌≡◌, ◌⊎◌, ℕ, ◌+◌, ◌<◌, ◌≤◌, false, List, length, map, take}
use mathlib.Core.Option.{some}
use lib.ListN.{get_elem?}
use Rattle.ledger_core.specs.declared.op.Op.{Op}
use Rattle.register_rule.specs.declared.view.PublishEntry.{PublishEntry}
use Rattle.register_rule.specs.declared.view.Look.{Look}
use Rattle.register_rule.specs.declared.view.Version.{Version}
use Rattle.register_rule.specs.declared.view.Answer.{Answer}
use Rattle.register_rule.specs.declared.view.Asked.{Asked}
use Rattle.register_rule.specs.declared.view.ScanLog.{ScanLog}
use Rattle.register_rule.specs.History.{IsCut, Below}
use Rattle.register_rule.specs.Sums.{word_after, vector_total}
use Rattle.register_rule.specs.Shown.{Shows}
use Rattle.register_rule.specs.Loads.{AreOrdered}

-- the number that the opening load of the look found
abbrev pub opened_at : Look → ℕ
opened_at l = l.number

module _ (n w : ℕ) (adds : List Op → ℕ → ℕ) (made : ℕ → List PublishEntry) where
  -- each number is at most the number of the segment at its place
  abbrev pub AtMost : List ℕ → Type 0
  AtMost vector = (i s : ℕ) → get_elem? vector i ≡ some s → s ≤ length (made i)

  -- loads of numbers of segments that there are, each found no greater than it is
  abbrev pub AreLoads : List (ℕ × ℕ) → Type 0
  AreLoads xs = (q : ℕ) (x : ℕ × ℕ) → get_elem? xs q ≡ some x → (x.0 < n) × (x.1 ≤ length (made x.0))

  -- the number opened here was not found again, and is no longer the number of the segment
  abbrev pub IsStale : Look → Type 0
  IsStale l = (l.sure ≡ false) × (l.number < length (made l.place))

  -- words that were read under a number are those of its version, or the number has moved; they are the items of the
  -- buffer from `from` on
  pub record IsLook (from : ℕ) (l : Look) : Type 0 where
    pub inside : l.place < n
    pub old : l.number ≤ length (made l.place)
    pub risen : (l.found ≡ 0) ⊎ ((l.number ≤ l.found) × (l.found ≤ length (made l.place)))
    pub right : (k x : ℕ) → get_elem? l.words k ≡ some x → Shows n w adds (take l.number (made l.place)) (from + k) x ⊎ IsStale l

  -- some place of a try is stale: it is not confirmed, and its segment has been published since it was opened
  abbrev pub HasStale : List Look → Type 0
  HasStale looks = (q : ℕ) × (l : Look) × (get_elem? looks q ≡ some l) × IsStale l

  -- the row of a version of worker i, which never changes
  pub record IsVersion (i : ℕ) (v : Version) : Type 0 where
    pub old : v.number ≤ length (made i)
    pub wide : length v.row ≡ w
    pub row : (k x : ℕ) → get_elem? v.row k ≡ some x → x ≡ word_after adds (take v.number (made i)) k

  -- the answer of a scan is all segments at one moment: the numbers, and the sums of the rows of these versions
  pub record IsOneMoment (history : List ℕ) (a : Answer) : Type 0 where
    pub low : AtMost a.vector
    pub moment : IsCut n history a.vector
    pub totals : (k : ℕ) → k < w → get_elem? a.totals k ≡ some (vector_total adds made 0 a.vector k)

  -- what was read of a worker that was asked is right
  pub record IsAsked (e : Asked) : Type 0 where
    pub inside : e.worker < n
    pub risen : e.number ≤ e.again
    pub old : e.again ≤ length (made e.worker)
    -- where the number was found again, the words are those of its version, from the flag on
    pub shown : e.number ≡ e.again → (k x : ℕ) → get_elem? e.words k ≡ some x → Shows n w adds (take e.number (made e.worker))
        (w + k) x

  -- all that a member has loaded, remembers, asked and recorded is right
  pub record IsSound (history : List ℕ) (c : ScanLog) : Type 0 where
    pub opened : AreLoads c.opened
    pub confirmed : AreLoads c.confirmed
    -- a confirming load is not below the opening loads of its place before it, and what a look found is not below its number
    pub ordered : AreOrdered c.opened c.confirmed c.before c.trying.looks
    pub asked : (q : ℕ) (e : Asked) → get_elem? c.asked q ≡ some e → IsAsked e
    pub recorded : (q : ℕ) (a : Answer) → get_elem? c.recorded q ≡ some a → IsOneMoment history a × Below a.vector c.seen
    pub seen : AtMost c.seen
    pub seen_wide : length c.seen ≡ n
    pub remembered : (i : ℕ) (v : Version) → get_elem? c.remembered i ≡ some v → IsVersion i v
    pub remembered_wide : length c.remembered ≡ n
    -- the look q of a try is of the place q
    pub looks : (q : ℕ) (l : Look) → get_elem? c.trying.looks q ≡ some l → IsLook 0 l × (l.place ≡ q)
    pub asks : (q : ℕ) (l : Look) → get_elem? c.trying.asks q ≡ some l → IsLook w l
    -- a try that has opened all places has a stale place, or its numbers are those of one moment
    pub whole : length c.trying.looks ≡ n → HasStale c.trying.looks ⊎ IsCut n history (map opened_at c.trying.looks)
