-- Workers that are lent to one reader, one behind the other.
use Rattle.std.specs.Prelude.{◌≡◌, ◌≢◌, ℕ, ◌+◌, ◌<◌, ◌≤◌, List}
use mathlib.Core.Option.{some}
use lib.ListN.{get_elem?}
use Rattle.register_rule.specs.declared.view.Member.{Member}
use Rattle.snapshot_scan.specs.declared.reader.Reader.{Reader}
use Rattle.snapshot_scan.specs.Lent.{IsWorkerAmong}
use Rattle.snapshot_scan.specs.Readers.{members_with}
use Rattle.snapshot_update.specs.declared.worker.Worker.{Worker}
use Rattle.snapshot_update.specs.Workers.{index_of, member_of}
use Rattle.snapshot_update.specs.Workers.{IsLentAs, IsLent}

module _ {N C H G : ℕ} where
  -- worker v is now w, and is lent: it stands at this place of the reader's members, with all that it had made
  pub record IsLentFrom (place : ℕ) (v w : Worker N C H G) (r : Reader N C H G) : Type 0 where
    pub index : index_of w ≡ index_of v
    pub member : Member
    pub at : get_elem? (members_with r) place ≡ some member
    pub made : member.work.made ≡ (member_of v).work.made
    pub lent : IsLentAs member w r

  -- the first k of them are lent, one behind the other, from this place on
  abbrev pub AreLentFrom : (place k : ℕ) (vs ws : List (Worker N C H G)) → Reader N C H G → Type 0
  AreLentFrom place k vs ws r = (p : ℕ) (v w : Worker N C H G) → p < k → get_elem? vs p ≡ some v → get_elem? ws p ≡ some w
      → IsLentFrom (place + p) v w r

  -- no two of them are the same worker
  abbrev pub AreDistinct : List (Worker N C H G) → Type 0
  AreDistinct ws = (p q : ℕ) (v w : Worker N C H G) → p < q → get_elem? ws p ≡ some v → get_elem? ws q ≡ some w
      → index_of v ≢ index_of w

  -- those from place k on are lent to the reader
  abbrev pub AreLent : (k : ℕ) → List (Worker N C H G) → Reader N C H G → Type 0
  AreLent k ws r = (p : ℕ) (w : Worker N C H G) → k ≤ p → get_elem? ws p ≡ some w → IsLent w r

  -- who stands behind the reader stood there before, and is none of the first k of them
  abbrev pub HaveLeft : (k : ℕ) → List (Worker N C H G) → (old new : Reader N C H G) → Type 0
  HaveLeft k ws old new = (i : ℕ) (m : Member) → IsWorkerAmong i m (members_with new)
      → IsWorkerAmong i m (members_with old) × ((p : ℕ) (w : Worker N C H G) → p < k → get_elem? ws p ≡ some w → index_of w ≢ i)

  -- worker v was lent to the reader and is now w, as whom it stood there
  pub record IsBackFrom (v w : Worker N C H G) (r : Reader N C H G) : Type 0 where
    pub index : index_of w ≡ index_of v
    pub stood : IsWorkerAmong (index_of v) (member_of w) (members_with r)

  -- the first k of them are back
  abbrev pub AreBackFrom : (k : ℕ) (vs ws : List (Worker N C H G)) → Reader N C H G → Type 0
  AreBackFrom k vs ws r = (p : ℕ) (v w : Worker N C H G) → p < k → get_elem? vs p ≡ some v → get_elem? ws p ≡ some w
      → IsBackFrom v w r
