-- What a publish by a plan needs, and what it leaves.
use Rattle.std.specs.Prelude.{◌≡◌, ℕ, ◌+◌, ◌<◌, Bool, true, false, cond, List, [], ◌∷◌, ◌++◌, Contains, length, slice_index}
use Rattle.std.specs.Prelude.{slice_set}
use mathlib.Core.Option.{some}
use lib.ListN.{get_elem?}
use Rattle.ledger_core.specs.declared.op.Op.{Op}
use Rattle.ledger_core.specs.Ops.{width, sum_ops}
use Rattle.ledger_core.specs.Row.{Accepts}
use Rattle.segment_layout.specs.Layout.{IsGeometry, depth}
use Rattle.register_rule.specs.declared.board.Board.{Board}
use Rattle.register_rule.specs.declared.seats.WorkSeat.{WorkSeat}
use Rattle.register_rule.specs.declared.view.Answer.{Answer}
use Rattle.register_rule.specs.declared.view.Member.{Member}
use Rattle.register_rule.specs.declared.view.Version.{Version}
use Rattle.register_rule.specs.Members.{published}
use Rattle.register_rule.specs.Sums.{word_after}
use Rattle.register_rule.specs.Seats.{worker_of, index_of, IsWorkSeatOf}
use Rattle.snapshot_scan.specs.declared.scan_end.ScanEnd.{ScanEnd}
use Rattle.snapshot_scan.specs.declared.scan_end.ScanEnd.TheVariants.{GaveUp}
use Rattle.snapshot_scan.specs.declared.scan_memory.ScanMemory.{ScanMemory}
use Rattle.snapshot_scan.specs.ScanMemories.{rows_of, totals_in, answer_of, HasView, IsReady}
use Rattle.snapshot_update.specs.declared.buffer_images.BufferImages.{BufferImages}
use Rattle.snapshot_update.specs.declared.plan.Plan.{Plan}
use Rattle.snapshot_update.specs.BufferImages.{DifferAt, version_words, with_hidden}
use Rattle.snapshot_update.specs.Conditions.{MayStore}
use Rattle.snapshot_update.specs.Fit.{AreInside, AreImages, IsNoneOf, AreLate, AreJoined, idle_words}
use Rattle.snapshot_update.specs.Known.{IsNext}
use Rattle.snapshot_update.specs.Noting.{words_of}
use Rattle.snapshot_update.specs.Plans.{is_known, is_same, is_repeat}

-- a version of this row may be published, which adds these operations, with the answer of the scan that ended so: by the seat
-- of a worker that has made this scan
pub record MayPublish {N C H G : ℕ} (b : Board N C H G) (s : WorkSeat) (row : List ℕ) (memory : ScanMemory N C H G)
    (ended : ScanEnd) (ops : List Op) : Type 0 where
  pub of_board : IsWorkSeatOf b s
  pub geometry : IsGeometry N C H G
  pub room : length (worker_of s).work.made + 1 < 18446744073709551616
  pub wide : length row ≡ width C H G
  pub sums : (k : ℕ) → k < width C H G → slice_index row k ≡ word_after (sum_ops C H) (worker_of s).work.made k
      + sum_ops C H ops k
  pub accepted : Accepts C H G (word_after (sum_ops C H) (worker_of s).work.made) ops
  pub ready : IsReady (worker_of s).scan memory
  pub view : HasView ended → (older : List Answer) × ((worker_of s).scan.recorded ≡ older ++ answer_of memory ended ∷ [])

-- the images of the worker of this index are of m's buffers, and tell of the version that is published next what this plan
-- says; `before` is the row to which these operations were added
pub record IsPlanned (n c h g index : ℕ) (ops : List Op) (row : List ℕ) (memory : ScanMemory n c h g) (ended : ScanEnd)
    (im : BufferImages) (m : Member) (plan : Plan) : Type 0 where
  pub before : List ℕ
  pub wide : length before ≡ width c h g
  pub sums : (k : ℕ) → slice_index row k ≡ slice_index before k + sum_ops c h ops k
  pub hidden_is : m.work.hidden ≡ im.hidden.items
  pub shown_is : m.work.shown ≡ im.shown.items
  pub images : AreImages (depth n (width c h g)) (idle_words before (rows_of memory) (totals_in memory)) im
  pub touched : AreInside (width c h g) im.touched
  pub rises : im.touched.all ≡ false → (k : ℕ) → ¬ (Contains im.touched.items k) → sum_ops c h ops k ≡ 0
  pub known : is_known plan ≡ true → (im.touched.all ≡ false)
      × IsNext n c h g index (length m.work.made) before memory ended im
  pub late : is_same plan ≡ true → im.late.all ≡ false → AreLate n (width c h g) index im.touched im.late
  pub repeats : is_repeat plan ≡ true → (im.row_known ≡ true) × AreJoined im.recent im.late im.touched
  pub one : is_repeat plan ≡ true → (op : Op) → ops ≡ op ∷ [] → im.touched.items ≡ words_of c h op

-- a version may be published so by an update that repeats the one before it: the hidden buffer holds these words, which differ
-- from the version at no items but the worker's own number, these `touched` words of the row and their totals, and the
-- remembered row is its row but for the touched words
pub record MayRepeat {N C H G : ℕ} (b : Board N C H G) (s : WorkSeat) (row : List ℕ) (memory : ScanMemory N C H G)
    (hidden touched : List ℕ) (ended : ScanEnd) (ops : List Op) : Type 0 where
  pub may : MayPublish b s row memory ended ops
  pub stores : MayStore b s hidden
  pub lends : HasView ended
  pub deep : length hidden ≡ depth N (width C H G)
  pub inside : (k : ℕ) → Contains touched k → k < width C H G
  pub kept : (j : ℕ) → j < depth N (width C H G) → ¬ (Contains touched j) → IsNoneOf N (width C H G) (index_of s) touched j
      → slice_index hidden j ≡ slice_index (version_words row 1 (answer_of memory ended).vector (answer_of memory ended).totals) j
  pub remembered : (v : Version) → get_elem? (rows_of memory) (index_of s) ≡ some v → (k : ℕ) → k < width C H G
      → ¬ (Contains touched k) → slice_index v.row k ≡ slice_index row k

-- it was published: by the same seat, whose buffers have changed their roles; the shown one holds this row, with the answer of
-- the scan if the version `lends` it, and the row is remembered as the worker's own
pub record HasPublished {N C H G : ℕ} (b : Board N C H G) (s s' : WorkSeat) (row : List ℕ) (memory memory' : ScanMemory N C H G)
    (shown hidden' shown' : List ℕ) (ended : ScanEnd) (ops : List Op) (lends : Bool) : Type 0 where
  pub of_board : IsWorkSeatOf b s'
  pub index : index_of s' ≡ index_of s
  pub member : worker_of s' ≡ published (width C H G) (index_of s) ops lends (with_hidden shown' (worker_of s))
  pub hidden_is : hidden' ≡ shown
  pub shown_is : shown' ≡ version_words row (cond lends 1 0) (answer_of memory ended).vector (answer_of memory ended).totals
  pub view : lends ≡ true → HasView ended
  pub none : lends ≡ false → ended ≡ GaveUp
  pub rows : rows_of memory' ≡ slice_set (rows_of memory) (index_of s)
      (record { number = length (worker_of s').work.made; row = row })
  pub sums : (v : Version) → get_elem? (rows_of memory) (index_of s) ≡ some v → (k : ℕ) → k < width C H G
      → slice_index (totals_in memory') k + slice_index v.row k ≡ slice_index (totals_in memory) k + slice_index row k

-- the lists of the images tell of both buffers after the publish, on a board of n workers and rows of w words
pub record AreTurned (n w index : ℕ) (plan : Plan) (im im' : BufferImages) : Type 0 where
  pub touched : im'.touched ≡ im.touched
  pub recent : DifferAt im'.recent im'.hidden.items im'.shown.items
  pub recent_inside : AreInside (depth n w) im'.recent
  pub unknown : is_known plan ≡ false → im'.late.all ≡ true
  pub late : im'.late.all ≡ false → AreLate n w index im'.touched im'.late
  pub late_inside : AreInside (depth n w) im'.late
  pub joined : im'.joined ≡ true → AreJoined im'.recent im'.late im'.touched
