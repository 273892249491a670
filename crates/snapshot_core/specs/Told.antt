-- The reads that a scan was told.
use Rattle.std.specs.Prelude.{◌≡◌, ℕ, ◌+◌, not, cond, false, Option, Some, None, List, [], ◌∷◌, ◌++◌, map, length, slice_index}
use Rattle.std.specs.Prelude.{slice_index_or}
use Rattle.snapshot_core.specs.declared.next.Next.{Next}
use Rattle.snapshot_core.specs.declared.scan.Scan.{Scan}
use Rattle.snapshot_core.specs.declared.scan_state.ScanState.{ScanState}
use Rattle.snapshot_core.specs.Tries.{View, Read, Try, number_met, from_on, reads_of, AllFailed, floor_of, base_of}
use Rattle.snapshot_core.specs.Next.{Follows}

-- how many workers the scan is of
abbrev pub workers_of : ScanState → ℕ
workers_of s = s.scan.n

-- what comes next in it
abbrev pub next_of : ScanState → Next
next_of s = s.scan.next

-- the vector of a view, where there is one
abbrev pub vector_of : Option View → Option (List ℕ)
vector_of None = None
vector_of (Some v) = Some v.vector

-- the vector that a read of an asked worker meets: none where it is torn or meets no view
abbrev pub lent_by : Read → Option (List ℕ)
lent_by r = cond r.torn None (vector_of r.view)

-- a scan that was told these reads: `before` are the tries that failed, and `now` is the try in progress, or the last one
pub record IsScanAfter (s : Scan) (reads : List Read) : Type 0 where
  pub before : List Try
  pub now : Try
  pub all : reads ≡ reads_of (before ++ now ∷ [])
  pub count : s.tries ≡ length before + 1
  pub failed : AllFailed s.n (floor_of before now) (base_of before now) before
  pub follows : Follows s.n before now s.next
  -- what this try's collects have read stands in the arrays, at the reads' places
  pub opened : map number_met now.first ≡ map (λ (r : Read). slice_index s.opened r.place) now.first
  pub whole : map (λ (r : Read). not r.torn) now.first ≡ map (λ (r : Read). slice_index_or s.whole r.place false) now.first
  pub found : map number_met now.second ≡ map (λ (r : Read). slice_index s.found r.place) now.second
  -- once the first try has made both its collects, the arrays have its floor and its base
  pub floor : length (base_of before now) ≡ s.n → floor_of before now ≡ map (slice_index s.floor) (from_on 0 s.n)
  pub base : length (base_of before now) ≡ s.n → base_of before now ≡ map (slice_index s.base) (from_on 0 s.n)

-- the state is that of a scan that was told these reads
abbrev pub WasTold : ScanState → List Read → Type 0
WasTold s reads = IsScanAfter s.scan reads
