-- What the steps of an update need of the seat, of the images of its buffers and of what is remembered.
use Rattle.std.specs.Prelude.{◌≡◌, ℕ, ◌<◌, ◌≤◌, Bool, true, false, List, Contains, length, slice_index}
use mathlib.Core.Option.{some}
use lib.ListN.{get_elem?}
use Rattle.ledger_core.specs.Ops.{width}
use Rattle.segment_layout.specs.Layout.{IsGeometry, depth}
use Rattle.register_rule.specs.declared.board.Board.{Board}
use Rattle.register_rule.specs.declared.seats.WorkSeat.{WorkSeat}
use Rattle.register_rule.specs.declared.view.Version.{Version}
use Rattle.register_rule.specs.Seats.{worker_of, index_of, IsWorkSeatOf}
use Rattle.snapshot_scan.specs.declared.scan_end.ScanEnd.{ScanEnd}
use Rattle.snapshot_scan.specs.declared.scan_end.ScanEnd.TheVariants.{Direct}
use Rattle.snapshot_scan.specs.declared.scan_memory.ScanMemory.{ScanMemory}
use Rattle.snapshot_scan.specs.ChangedItems.{ChangedView}
use Rattle.snapshot_scan.specs.ScanMemories.{rows_of, answer_of}
use Rattle.snapshot_update.specs.declared.buffer_images.BufferImages.{BufferImages}
use Rattle.snapshot_update.specs.declared.next_version.NextVersion.{NextVersion}
use Rattle.snapshot_update.specs.BufferImages.{DifferAt, version_words, with_hidden, target_of}
use Rattle.snapshot_update.specs.Fit.{AreInside, AreImages}

-- words of the hidden buffer may be stored by this seat: it is of the board, and its worker's hidden buffer holds these words
pub record MayStore {N C H G : ℕ} (b : Board N C H G) (s : WorkSeat) (hidden : List ℕ) : Type 0 where
  pub of_board : IsWorkSeatOf b s
  pub exact : (worker_of s).work.hidden ≡ hidden

-- after such stores it is the seat of the same worker, whose hidden buffer holds these words now; of its member nothing else has
-- changed
pub record HasFilled {N C H G : ℕ} (b : Board N C H G) (hidden : List ℕ) (s s' : WorkSeat) : Type 0 where
  pub stores : MayStore b s' hidden
  pub index : index_of s' ≡ index_of s
  pub member : worker_of s' ≡ with_hidden hidden (worker_of s)

-- the hidden buffer may be filled with the version: by the seat of a worker whose hidden buffer holds these words; `recent` lists
-- where it differs from the shown one, and where it `is_listed` (`know_next` said yes, and no list stands for all items) that the
-- shown one differs from the version at no items but the late and the touched ones, all three lists are whole
pub record MayFill {N C H G : ℕ} (b : Board N C H G) (s : WorkSeat) (hidden shown : List ℕ) (recent late touched : ChangedView)
    (version : NextVersion C H G) (is_listed : Bool) : Type 0 where
  pub stores : MayStore b s hidden
  pub lengths : (length hidden ≡ depth N (width C H G)) × (length shown ≡ depth N (width C H G))
      × (length (target_of version) ≡ depth N (width C H G))
  -- the words of the greatest buffer, for 32 workers, 256 counters, 32 histograms and 64 gauges
  pub few : depth N (width C H G) ≤ 2529
  pub inside : AreInside (depth N (width C H G)) recent × AreInside (depth N (width C H G)) late
      × AreInside (depth N (width C H G)) touched
  pub listed : is_listed ≡ true → (recent.all ≡ false) × (late.all ≡ false) × (touched.all ≡ false)
  pub differ : DifferAt recent hidden shown
  pub known : is_listed ≡ true → (j : ℕ) → j < depth N (width C H G) → ¬ (Contains late.items j) → ¬ (Contains touched.items j)
      → slice_index shown j ≡ slice_index (target_of version) j

-- the hidden buffer may be made the version of this row with the answer of a scan that ended so: by the seat of a worker whose
-- buffers have these images. Where it `is_known`, the scan ended direct, and what an update of nothing would publish is
-- this version but for the touched words
pub record MayMakeVersion {N C H G : ℕ} (b : Board N C H G) (s : WorkSeat) (row : List ℕ) (memory : ScanMemory N C H G)
    (im : BufferImages) (ended : ScanEnd) (is_known : Bool) : Type 0 where
  pub stores : MayStore b s im.hidden.items
  pub geometry : IsGeometry N C H G
  pub touched : AreInside (width C H G) im.touched
  pub images : (idle : List ℕ) × AreImages (depth N (width C H G)) idle im
      × (is_known ≡ true → (im.touched.all ≡ false) × ((quiet : Bool) × (ended ≡ Direct quiet))
      × ((j : ℕ) → j < depth N (width C H G) → ¬ (Contains im.touched.items j)
      → slice_index idle j ≡ slice_index (version_words row 1 (answer_of memory ended).vector (answer_of memory ended).totals) j))

-- the new row of the worker of this index may be remembered: where it `is_known`, it differs from the remembered one at the
-- touched words alone
pub record MayLearn {N C H G : ℕ} (memory : ScanMemory N C H G) (index : ℕ) (row : List ℕ) (im : BufferImages)
    (is_known : Bool) : Type 0 where
  pub geometry : IsGeometry N C H G
  pub inside : index < N
  pub touched : AreInside (width C H G) im.touched
  pub known : is_known ≡ true → (v : Version) → get_elem? (rows_of memory) index ≡ some v → (k : ℕ) → k < width C H G
      → ¬ (Contains im.touched.items k) → slice_index v.row k ≡ slice_index row k
