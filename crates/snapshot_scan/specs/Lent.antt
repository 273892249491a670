-- Workers among the members of a seat.
use Rattle.std.specs.Prelude.{◌≡◌, ◌≢◌, ℕ, ◌<◌, ◌≤◌, List, [], ◌∷◌, length, slice_index}
use mathlib.Core.Option.{some}
use lib.ListN.{get_elem?}
use Rattle.register_rule.specs.declared.view.Member.{Member}
use Rattle.register_rule.specs.declared.view.ScanLog.{ScanLog}
use Rattle.register_rule.specs.declared.view.Who.TheVariants.{Worker, Reader}
use Rattle.snapshot_scan.specs.Shape.{scan_of}

-- worker i is one of these members, and is m
abbrev pub IsWorkerAmong : (i : ℕ) → Member → List Member → Type 0
IsWorkerAmong i m ms = (p : ℕ) × (get_elem? ms p ≡ some m) × (m.who ≡ Worker i)

-- each of n workers is one of them
abbrev pub AllWorkersAmong : (n : ℕ) → List Member → Type 0
AllWorkersAmong n ms = (i : ℕ) → i < n → (m : Member) × IsWorkerAmong i m ms

-- the vector has the number of each worker among them
abbrev pub HasNumbers : List Member → (vector : List ℕ) → Type 0
HasNumbers ms vector = (i : ℕ) (m : Member) → IsWorkerAmong i m ms → get_elem? vector i ≡ some (length m.work.made)

-- the first of them has seen what each worker among them has published
abbrev pub HasSeen : List Member → Type 0
HasSeen ms = (i : ℕ) (m : Member) → IsWorkerAmong i m ms → (i < length (scan_of ms).seen)
    × (length m.work.made ≤ slice_index (scan_of ms).seen i)

-- all members but the first
abbrev pub behind : List Member → List Member
behind [] = []
behind (m ∷ ms) = ms

-- none of them is a reader
abbrev pub NoneIsReader : List Member → Type 0
NoneIsReader ms = (p k : ℕ) (m : Member) → get_elem? ms p ≡ some m → m.who ≢ Reader k

-- each worker that stood among the first stands among the second, as it was
abbrev pub StayLent : (old new : List Member) → Type 0
StayLent old new = (i : ℕ) (m : Member) → IsWorkerAmong i m old → IsWorkerAmong i m new

-- one worker alone, which has seen its own number
abbrev pub IsWorkerAlone : List Member → Type 0
IsWorkerAlone ms = (i : ℕ) × (m : Member) × (ms ≡ m ∷ []) × (m.who ≡ Worker i)
    × (get_elem? m.scan.seen i ≡ some (length m.work.made))

-- what was seen is seen, or more
abbrev pub SeesMore : (old new : List ℕ) → Type 0
SeesMore old new = (i x : ℕ) → get_elem? old i ≡ some x → (z : ℕ) × (get_elem? new i ≡ some z) × (x ≤ z)

-- only what was seen has changed, and none of it fell
pub record HasSeenMore (old new : ScanLog) : Type 0 where
  pub only : new ≡ record old { seen = new.seen }
  pub more : SeesMore old.seen new.seen
