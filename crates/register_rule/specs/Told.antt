-- What a step tells of the rule.
use Rattle.std.specs.Prelude.{◌≡◌, ◌≢◌, ◌⊎◌, ℕ, ◌+◌, ◌*◌, ◌<◌, ◌≤◌, Bool, false, List, [], ◌∷◌, ◌++◌, length, map, slice_index}
use Rattle.bucket_math.specs.Words.{greatest_word}
use mathlib.Core.Option.{some}
use lib.ListN.{get_elem?}
use Rattle.atomic_table.specs.Table.{State}
use Rattle.ledger_core.specs.declared.op.Op.{Op}
use Rattle.register_rule.specs.declared.view.Who.TheVariants.{Worker}
use Rattle.register_rule.specs.declared.view.Look.{Look}
use Rattle.register_rule.specs.declared.view.PublishEntry.{PublishEntry}
use Rattle.register_rule.specs.declared.view.Asked.{Asked}
use Rattle.register_rule.specs.declared.view.Answer.{Answer}
use Rattle.register_rule.specs.declared.view.Member.{Member}
use Rattle.register_rule.specs.declared.view.SeatView.{SeatView}
use Rattle.register_rule.specs.declared.load.Load.{Load}
use Rattle.register_rule.specs.declared.load.Load.TheVariants.{Open, Read, Confirm, Ask, EndAsk}
use Rattle.segment_layout.specs.Layout.{span}
use Rattle.register_rule.specs.Words.{version_item, seg}
use Rattle.register_rule.specs.History.{count, Comparable}
use Rattle.register_rule.specs.Sums.{AcceptedInTurn}
use Rattle.register_rule.specs.SoundScans.{opened_at, IsSound}
use Rattle.register_rule.specs.Members.{first_of, made_of, led, scan_changed}
use Rattle.register_rule.specs.Shown.{Shows}
use Rattle.register_rule.specs.Rule.{Rule, AreApart}
use Rattle.ledger_core.specs.Ops.{width, sum_ops}
use Rattle.ledger_core.specs.Row.{Accepts}
use Rattle.register_rule.specs.declared.view.ScanLog.{ScanLog}
use Rattle.register_rule.specs.declared.seats.Bundle.{Bundle}
use Rattle.register_rule.specs.Seats.{table_of, members_of}

-- x is the number of the segment i: it is at least each number that the first member found there before or has seen,
-- and where worker i is among the members, it is just how often that worker published
pub record IsNumber (i : ℕ) (ms : List Member) (x : ℕ) : Type 0 where
  pub opened : (q y : ℕ) → get_elem? (first_of ms).scan.opened q ≡ some (i, y) → y ≤ x
  pub confirmed : (q y : ℕ) → get_elem? (first_of ms).scan.confirmed q ≡ some (i, y) → y ≤ x
  pub asked : (q : ℕ) (e : Asked) → get_elem? (first_of ms).scan.asked q ≡ some e → e.worker ≡ i → e.again ≤ x
  pub seen : (y : ℕ) → get_elem? (first_of ms).scan.seen i ≡ some y → y ≤ x
  pub own_number : (p : ℕ) (m : Member) → get_elem? ms p ≡ some m → m.who ≡ Worker i → x ≡ length m.work.made

-- the load is of a word of the board, where a buffer has b words
abbrev pub IsLoad : (n b : ℕ) → Load → Type 0
IsLoad n b (Open place) = place < n
IsLoad n b (Read place number item) = (place < n) × (item < b)
IsLoad n b (Confirm place) = place < n
IsLoad n b (Ask place) = place < n
IsLoad n b (EndAsk place) = place < n

-- where the word of this load stands on the board, whose buffers have b words
abbrev pub word_of : (b : ℕ) → Load → ℕ
word_of b (Open place) = place * span b + 0
word_of b (Read place number item) = place * span b + version_item b number item
word_of b (Confirm place) = place * span b + 0
word_of b (Ask place) = place * span b + 0
word_of b (EndAsk place) = place * span b + 0

-- a load tells that it found a number, or that a word of a row is at most 2^48 - 1
abbrev pub LoadTells : (w : ℕ) → Load → List Member → ℕ → Type 0
LoadTells w (Open place) ms x = IsNumber place ms x
LoadTells w (Read place number item) ms x = item < w → x ≤ greatest_word
LoadTells w (Confirm place) ms x = IsNumber place ms x
LoadTells w (Ask place) ms x = IsNumber place ms x
LoadTells w (EndAsk place) ms x = IsNumber place ms x

-- all that the rule says of these members: there are publishes of all workers, in one order, of which those of the
-- workers among them are a part, and by which the scans of each of them are right
pub record AreRuled (n w : ℕ) (adds : List Op → ℕ → ℕ) (accepts : (ℕ → ℕ) → List Op → Type 0) (ms : List Member) : Type 0 where
  pub made : ℕ → List PublishEntry
  pub history : List ℕ
  pub counted : (i : ℕ) → i < n → count i history ≡ length (made i)
  pub legal : (i : ℕ) → i < n → AcceptedInTurn adds accepts [] (made i)
  pub workers : (p i : ℕ) (m : Member) → get_elem? ms p ≡ some m → m.who ≡ Worker i → (i < n) × (m.work.made ≡ made i)
      × (get_elem? m.scan.seen i ≡ some (length (made i)))
  pub scans : (p : ℕ) (m : Member) → get_elem? ms p ≡ some m → IsSound n w adds made history m.scan
  pub apart : AreApart ms

-- some members, in pairs: n workers, of whom i has the number `number i`
module _ (n : ℕ) (number : ℕ → ℕ) (Is : Member → Type 0) where
  -- a is an answer that one of them recorded
  abbrev pub HaveRecorded : Answer → Type 0
  HaveRecorded a = (m : Member) × Is m × ((q : ℕ) × (get_elem? m.scan.recorded q ≡ some a))

  -- these are the places of a try of one of them, and all are opened
  abbrev pub Tries : List Look → Type 0
  Tries looks = (m : Member) × Is m × (m.scan.trying.looks ≡ looks) × (length looks ≡ n)

  -- at some place that is not confirmed the number that stands on the board is no longer the one opened: the try cannot become
  -- clean
  abbrev pub IsDoomed : List Look → Type 0
  IsDoomed looks = (q : ℕ) × (l : Look) × (get_elem? looks q ≡ some l) × (l.sure ≡ false) × (number l.place ≢ l.number)

  -- any two recorded vectors are comparable; of two tries one is doomed or their vectors are comparable; and a try is
  -- doomed or its vector is comparable with each recorded one
  pub record AreComparable : Type 0 where
    pub recorded : (a c : Answer) → HaveRecorded a → HaveRecorded c → Comparable a.vector c.vector
    pub tries : (looks others : List Look) → Tries looks → Tries others → (IsDoomed looks ⊎ IsDoomed others)
        ⊎ Comparable (map opened_at looks) (map opened_at others)
    pub between : (looks : List Look) (a : Answer) → Tries looks → HaveRecorded a → IsDoomed looks
        ⊎ Comparable (map opened_at looks) a.vector

-- m is a member of some seat's view
abbrev pub Sits : State (Unit {0}) SeatView → Member → Type 0
Sits s m = (j : ℕ) × (p : ℕ) × (v : SeatView) × (get_elem? s.views j ≡ some v) × (get_elem? v.members p ≡ some m)

-- the members of all seats compare, by the numbers that stand on the board
abbrev pub AllCompare : (n b : ℕ) → State (Unit {0}) SeatView → Type 0
AllCompare n b s = AreComparable n (λ i. seg b s.words i 0) (Sits s)

-- all that the rule says of these members at one moment, alone and in pairs: x is then the number of the segment i, and the
-- members compare by the numbers of that moment
abbrev pub AreRuledAt : (n w : ℕ) → (List Op → ℕ → ℕ) → ((ℕ → ℕ) → List Op → Type 0) → (i : ℕ) → List Member → (x : ℕ) → Type 0
AreRuledAt n w adds accepts i ms x = (r : AreRuled n w adds accepts ms) × (x ≡ length (r.made i))
    × AreComparable n (λ j. length (r.made j)) (λ m. (p : ℕ) × (get_elem? ms p ≡ some m))

-- the hidden buffer of b words holds the version that this publish makes
abbrev pub HoldsNext : (n w b : ℕ) → (List Op → ℕ → ℕ) → List Op → (lends : Bool) → Member → Type 0
HoldsNext n w b adds ops lends m = (k : ℕ) → k < b → Shows n w adds (m.work.made ++ made_of ops lends m ∷ []) k
    (slice_index m.work.hidden k)

-- the rule, and what it says of members in pairs
abbrev pub KeepsRule : (n w b : ℕ) → (List Op → ℕ → ℕ) → ((ℕ → ℕ) → List Op → Type 0) → State (Unit {0}) SeatView → Type 0
KeepsRule n w b adds accepts s = Rule n w b adds accepts s × AllCompare n b s

-- the first member's scans have changed by `f`, no other member has, and all that the rule says of the members is told:
-- a board of n workers, c counters, h histograms and g gauges
pub record ScanChangesBy (n c h g : ℕ) (f : ScanLog → ScanLog) (old new : Bundle) : Type 0 where
  pub table : table_of new ≡ table_of old
  pub member : members_of new ≡ led (scan_changed f) (members_of old)
  pub ruled : AreRuled n (width c h g) (sum_ops c h) (Accepts c h g) (members_of new)
