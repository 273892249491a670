-- The rule over all words of the board and the views of all seats.
use Rattle.std.specs.Prelude.{◌≢◌, ◌∷◌, ◌≡◌, ℕ, suc, ◌*◌, ◌<◌, ◌≤◌, Some, List, [], length}
use Rattle.bucket_math.specs.Words.{greatest_word}
use mathlib.Core.Option.{some}
use lib.ListN.{get_elem?}
use Rattle.atomic_table.specs.Table.{State}
use Rattle.segment_layout.specs.Layout.{span}
use Rattle.ledger_core.specs.declared.op.Op.{Op}
use Rattle.register_rule.specs.declared.view.PublishEntry.{PublishEntry}
use Rattle.register_rule.specs.declared.view.Who.{Who}
use Rattle.register_rule.specs.declared.view.Who.TheVariants.{Worker, Reader}
use Rattle.register_rule.specs.declared.view.Answer.{Answer}
use Rattle.register_rule.specs.declared.view.Work.{Work}
use Rattle.register_rule.specs.declared.view.Member.{Member}
use Rattle.register_rule.specs.declared.view.SeatView.{SeatView}
use Rattle.register_rule.specs.Words.{version_item, seg}
use Rattle.register_rule.specs.History.{count}
use Rattle.register_rule.specs.Sums.{AcceptedInTurn, last_lent}
use Rattle.register_rule.specs.Shown.{Shows}
use Rattle.register_rule.specs.SoundScans.{IsOneMoment, IsSound}

-- none of these members has this name
abbrev pub AreOthers : Who → List Member → Type 0
AreOthers who ms = (q : ℕ) (o : Member) → get_elem? ms q ≡ some o → o.who ≢ who

-- no two of these members have one name
abbrev pub AreApart : List Member → Type 0
AreApart [] = Unit {0}
AreApart (m ∷ ms) = AreOthers m.who ms × AreApart ms

-- n workers, rows of w words, buffers of b words
module _ (n w b : ℕ) (adds : List Op → ℕ → ℕ) (made : ℕ → List PublishEntry) where
  -- what worker i knows of its own segment: all its publishes, and the exact words of both buffers
  pub record IsWork (words : List ℕ) (i : ℕ) (m : Work) : Type 0 where
    pub inside : i < n
    pub all : m.made ≡ made i
    pub hidden_deep : length m.hidden ≡ b
    pub shown_deep : length m.shown ≡ b
    pub hidden : (k x : ℕ) → get_elem? m.hidden k ≡ some x → seg b words i (version_item b (suc (length (made i))) k) ≡ x
    pub shown : (k x : ℕ) → get_elem? m.shown k ≡ some x → seg b words i (version_item b (length (made i)) k) ≡ x

  -- a worker writes its own segment, has seen its own number, and what it lends are answers of its own scans
  pub record IsWorker (words : List ℕ) (i : ℕ) (m : Member) : Type 0 where
    pub work : IsWork words i m.work
    pub own_number : get_elem? m.scan.seen i ≡ some (length (made i))
    pub lends : (q : ℕ) (x : PublishEntry) (a : Answer) → get_elem? m.work.made q ≡ some x → x.lends ≡ Some a
        → (p : ℕ) × (get_elem? m.scan.recorded p ≡ some a)

  -- what a member knows by its role: a worker of its own segment, a reader nothing more
  abbrev pub IsRole : (words : List ℕ) → Member → Who → Type 0
  IsRole words m (Worker i) = IsWorker words i m
  IsRole words m (Reader r) = Unit {0}

  -- m is a member of the view of the seat j, and of no other: `owner` has one seat for each. What it knows by its role and by its
  -- scans is right
  pub record IsMember (owner : Who → ℕ) (history words : List ℕ) (j : ℕ) (m : Member) : Type 0 where
    pub here : owner m.who ≡ j
    pub role : IsRole words m m.who
    pub scan : IsSound n w adds made history m.scan

-- What holds of words and views before and after each atomic step of a board; what holds of recorded vectors in pairs is
-- `AllCompare`, and both together are `KeepsRule`, of Told. n workers, w words a row, buffers of b words. `adds` tells what a
-- list of operations adds to each word of a row, and `accepts` which lists a row of these words accepts.
pub record Rule (n w b : ℕ) (adds : List Op → ℕ → ℕ) (accepts : (ℕ → ℕ) → List Op → Type 0) (s : State (Unit {0}) SeatView) : Type
    0 where
  -- what each worker has published, the seat of each member, and the workers that published, in order
  pub made : ℕ → List PublishEntry
  pub owner : Who → ℕ
  pub history : List ℕ
  pub counted : (i : ℕ) → i < n → count i history ≡ length (made i)
  pub legal : (i : ℕ) → i < n → AcceptedInTurn adds accepts [] (made i)
  pub wide : length s.words ≡ n * span b
  pub number : (i : ℕ) → i < n → seg b s.words i 0 ≡ length (made i)
  -- the buffer that the number shows is the version after all publishes
  pub shown : (i k : ℕ) → i < n → k < b → Shows n w adds (made i) k (seg b s.words i (version_item b (length (made i)) k))
  -- what a version lends is right
  pub lent : (i : ℕ) (a : Answer) → i < n → last_lent (made i) ≡ Some a → IsOneMoment n w adds made history a
  -- every word of a row, shown or hidden, is at most 2^48 - 1
  pub bounded : (i v k : ℕ) → i < n → k < w → seg b s.words i (version_item b v k) ≤ greatest_word
  pub apart : (j : ℕ) (v : SeatView) → get_elem? s.views j ≡ some v → AreApart v.members
  pub each : (j : ℕ) (v : SeatView) → get_elem? s.views j ≡ some v → (p : ℕ) (m : Member) → get_elem? v.members p ≡ some m
      → IsMember n w b adds made owner history s.words j m
