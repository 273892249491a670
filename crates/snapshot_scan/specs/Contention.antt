-- Who stood in the way of a scan.
use Rattle.std.specs.Prelude.{◌≡◌, ℕ, ◌<◌, List, length, slice_index}
use Rattle.register_rule.specs.declared.view.ScanLog.{ScanLog}
use Rattle.snapshot_scan.specs.declared.contended.Contended.{Contended}
use Rattle.snapshot_scan.specs.Scanned.{IsGivenUp}

-- the least worker whose number was found to have risen, and its two numbers
pub record IsFirstMoved (first last : List ℕ) (e : Contended) : Type 0 where
  pub inside : e.worker < length first
  pub first_is : slice_index first e.worker ≡ e.first
  pub last_is : slice_index last e.worker ≡ e.last
  pub rose : e.first < e.last
  pub least : (k : ℕ) → k < e.worker → slice_index first k ≡ slice_index last k

-- from c to c' a scan was given up, and e says where
pub record IsContended (n : ℕ) (c c' : ScanLog) (e : Contended) : Type 0 where
  pub first : List ℕ
  pub last : List ℕ
  pub gave_up : IsGivenUp n c c' first last
  pub moved : IsFirstMoved first last e
