-- What a worker's data say of its member.
use Rattle.std.specs.Prelude.{◌≡◌, ◌≢◌, ℕ, ◌+◌, ◌<◌, true, false, List, Contains, length, map, slice_index}
use mathlib.Core.Option.{some}
use lib.ListN.{get_elem?}
use Rattle.ledger_core.specs.Ops.{width, sum_ops}
use Rattle.segment_layout.specs.Layout.{depth}
use Rattle.register_rule.specs.declared.view.Member.{Member}
use Rattle.register_rule.specs.declared.view.Version.{Version}
use Rattle.register_rule.specs.declared.view.Who.TheVariants.{Worker}
use Rattle.register_rule.specs.Sums.{word_after}
use Rattle.snapshot_scan.specs.declared.scan_memory.ScanMemory.{ScanMemory}
use Rattle.snapshot_scan.specs.ScanMemories.{rows_of, totals_in, IsReady}
use Rattle.snapshot_scan.specs.ChangedItems.{ChangedView}
use Rattle.snapshot_update.specs.declared.buffer_images.BufferImages.{BufferImages}
use Rattle.snapshot_update.specs.BufferImages.{DifferAt, version_words}

-- all items that are listed are items of a buffer of b words
abbrev pub AreInside : (b : ℕ) → ChangedView → Type 0
AreInside b changed = (j : ℕ) → Contains changed.items j → j < b

-- the number of a version
abbrev pub number_in : Version → ℕ
number_in v = v.number

-- the words that an update of nothing would publish now, if its scan found all that is remembered
abbrev pub idle_words : (row : List ℕ) → List Version → (sums : List ℕ) → List ℕ
idle_words row rows sums = version_words row 1 (map number_in rows) sums

-- images of both buffers, of b words; where they differ from each other, and where the shown one differs from the words `idle`
pub record AreImages (b : ℕ) (idle : List ℕ) (im : BufferImages) : Type 0 where
  pub idle_deep : length idle ≡ b
  pub hidden_deep : length im.hidden.items ≡ b
  pub shown_deep : length im.shown.items ≡ b
  pub recent : DifferAt im.recent im.hidden.items im.shown.items
  pub recent_inside : AreInside b im.recent
  pub late : DifferAt im.late im.shown.items idle
  pub late_inside : AreInside b im.late

-- in a buffer of rows of w words on a board of n workers: this item is neither the worker's own number nor the total of a touched
-- word
abbrev pub IsNoneOf : (n w index : ℕ) → (touched : List ℕ) → ℕ → Type 0
IsNoneOf n w index touched j = (j ≢ w + 1 + index) × ((k : ℕ) → Contains touched k → j ≢ w + 1 + n + k)

-- just the worker's own number and the totals of the touched words are late
pub record AreLate (n w index : ℕ) (touched late : ChangedView) : Type 0 where
  pub number : (j : ℕ) → ¬ (Contains late.items j) → j ≢ w + 1 + index
  pub totals : (k : ℕ) → ¬ (Contains late.items (w + 1 + n + k)) → ¬ (Contains touched.items k)
  pub only : (j : ℕ) → IsNoneOf n w index touched.items j → ¬ (Contains late.items j)

-- just the late and the touched items are recent; none of the three lists stands for all items
pub record AreJoined (recent late touched : ChangedView) : Type 0 where
  pub listed : (recent.all ≡ false) × (late.all ≡ false) × (touched.all ≡ false)
  pub late_too : (j : ℕ) → ¬ (Contains recent.items j) → ¬ (Contains late.items j)
  pub touched_too : (j : ℕ) → ¬ (Contains recent.items j) → ¬ (Contains touched.items j)
  pub only : (j : ℕ) → ¬ (Contains late.items j) → ¬ (Contains touched.items j) → ¬ (Contains recent.items j)

-- the member is the worker of this index, which has published `number` times; this is its row, and these are images of its
-- buffers. Where `row_known` is true, the row that is remembered of its own segment is this row
pub record IsFit (n c h g index number : ℕ) (row : List ℕ) (memory : ScanMemory n c h g) (im : BufferImages) (m : Member)
    : Type 0 where
  pub who : m.who ≡ Worker index
  pub counts : number ≡ length m.work.made
  pub words : (k : ℕ) → k < width c h g → slice_index row k ≡ word_after (sum_ops c h) m.work.made k
  pub wide : length row ≡ width c h g
  pub row_known : im.row_known ≡ true → get_elem? (rows_of memory) index ≡ some (record { number = number; row = row })
  pub ready : IsReady m.scan memory
  pub hidden_is : m.work.hidden ≡ im.hidden.items
  pub shown_is : m.work.shown ≡ im.shown.items
  pub images : AreImages (depth n (width c h g)) (idle_words row (rows_of memory) (totals_in memory)) im
  pub late : im.late.all ≡ false → AreLate n (width c h g) index im.touched im.late
  pub joined : im.joined ≡ true → AreJoined im.recent im.late im.touched

-- a worker's data, of this index, fit a member whose seat has the index `seat`: the indexes are one, the worker has published as
-- often as it counted, and the data fit by the member's own index and number. So a call whose step changes the member says what
-- fits by the member alone, and what the worker's fields say follows from the two equations
abbrev pub IsFitOfSeat : (n c h g index number : ℕ) (row : List ℕ) (memory : ScanMemory n c h g) (im : BufferImages) (seat : ℕ)
    (m : Member) → Type 0
IsFitOfSeat n c h g index number row memory im seat m =
    (seat ≡ index) × (number ≡ length m.work.made) × IsFit n c h g seat (length m.work.made) row memory im m

-- worker i has seen its own number
abbrev pub HasSeenOwn : (i : ℕ) → Member → Type 0
HasSeenOwn i m = get_elem? m.scan.seen i ≡ some (length m.work.made)
