-- Where each word of a board stands. The layout is this project's own.
use Rattle.std.specs.Prelude.{◌≡◌, ⊤, ℕ, ◌+◌, ◌*◌, ◌<◌}
use Rattle.ledger_core.specs.Limits.{AreWorkers, AreSlots}
use Rattle.segment_layout.specs.declared.part.Part.{Part}
use Rattle.segment_layout.specs.declared.part.Part.TheVariants.{Number, Row, Flag, Vector, Lent}
use Rattle.segment_layout.specs.declared.part.Item.{Item}
use Rattle.segment_layout.specs.declared.part.Item.TheVariants.{Row as RowItem, Flag as FlagItem, Vector as VectorItem}
use Rattle.segment_layout.specs.declared.part.Item.TheVariants.{Lent as LentItem}

-- 1 to 32 workers, and a row of at most 256 counters, 32 histograms and 64 gauges
pub record IsGeometry (n c h g : ℕ) : Type 0 where
  pub workers : AreWorkers n
  pub slots : AreSlots c h g

-- how many words a buffer has, for n workers and rows of w words: two rows, a flag, one word for each worker
abbrev pub depth : (n w : ℕ) → ℕ
depth n w = 2 * w + 1 + n

-- how many words a segment has, of buffers of b words: its number and two buffers
abbrev pub span : (b : ℕ) → ℕ
span b = 1 + 2 * b

-- how many words a board has: a segment for each worker
abbrev pub words : (n w : ℕ) → ℕ
words n w = n * span (depth n w)

-- each segment has this part: there are two buffers, w words in a row, n workers
abbrev pub IsPart : (n w : ℕ) → Part → Type 0
IsPart n w Number = ⊤
IsPart n w (Row buffer word) = (buffer < 2) × (word < w)
IsPart n w (Flag buffer) = buffer < 2
IsPart n w (Vector buffer worker) = (buffer < 2) × (worker < n)
IsPart n w (Lent buffer word) = (buffer < 2) × (word < w)

-- each buffer has this item: w words in a row, n workers
abbrev pub IsItem : (n w : ℕ) → Item → Type 0
IsItem n w (RowItem word) = word < w
IsItem n w FlagItem = ⊤
IsItem n w (VectorItem worker) = worker < n
IsItem n w (LentItem word) = word < w

-- the place of an item in its buffer: the row, the flag, the vector's numbers and the lent totals, in this order
abbrev pub item_at : (n w : ℕ) → Item → ℕ
item_at n w (RowItem word) = word
item_at n w FlagItem = w
item_at n w (VectorItem worker) = w + 1 + worker
item_at n w (LentItem word) = w + 1 + n + word

-- the place in a segment of an item of a buffer: the segment's number stands before both buffers
abbrev pub in_buffer : (n w buffer item : ℕ) → ℕ
in_buffer n w buffer item = 1 + buffer * depth n w + item

-- the place in a segment of a part: its number, and the items of both buffers
abbrev pub in_segment : (n w : ℕ) → Part → ℕ
in_segment n w Number = 0
in_segment n w (Row buffer word) = in_buffer n w buffer (item_at n w (RowItem word))
in_segment n w (Flag buffer) = in_buffer n w buffer (item_at n w FlagItem)
in_segment n w (Vector buffer worker) = in_buffer n w buffer (item_at n w (VectorItem worker))
in_segment n w (Lent buffer word) = in_buffer n w buffer (item_at n w (LentItem word))

-- the place on the board of a part of a segment
abbrev pub place : (n w segment : ℕ) → Part → ℕ
place n w segment part = segment * span (depth n w) + in_segment n w part

-- no other part of the board stands at this place
abbrev pub StandsAlone : (n w segment : ℕ) → Part → (at : ℕ) → Type 0
StandsAlone n w segment part at =
    (other : ℕ) (another : Part) → other < n → IsPart n w another → place n w other another ≡ at
    → (other ≡ segment) × (another ≡ part)
