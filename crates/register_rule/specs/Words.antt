-- The words of the board, by segment and item.
use Rattle.std.specs.Prelude.{◌≡◌, ℕ, ◌+◌, ◌*◌, ◌%◌, List, slice_index}
use Rattle.segment_layout.specs.declared.part.Part.{Part}
use Rattle.segment_layout.specs.declared.part.Part.TheVariants.{Row, Flag, Vector, Lent}
use Rattle.segment_layout.specs.declared.part.Item.{Item}
use Rattle.segment_layout.specs.declared.part.Item.TheVariants.{Row as RowItem, Flag as FlagItem, Vector as VectorItem}
use Rattle.segment_layout.specs.declared.part.Item.TheVariants.{Lent as LentItem}
use Rattle.segment_layout.specs.Layout.{span, item_at, place}

-- in a segment the number stands at place 0, and the item k of the version s at this place; b is the length of a buffer. It is
-- where `in_buffer` of segment_layout puts the part that the item is: `IsPlaceOf` says so
abbrev pub version_item : (b s k : ℕ) → ℕ
version_item b s k = 1 + s % 2 * b + k

-- the word at the place x of the segment i
abbrev pub seg : (b : ℕ) → List ℕ → (i x : ℕ) → ℕ
seg b words i x = slice_index words (i * span b + x)

-- the part that an item of the version s is, in the buffer of this version
abbrev pub part_of : (s : ℕ) → Item → Part
part_of s (RowItem word) = Row (s % 2) word
part_of s FlagItem = Flag (s % 2)
part_of s (VectorItem worker) = Vector (s % 2) worker
part_of s (LentItem word) = Lent (s % 2) word

-- this is the place of the part that the item k of the version s of the segment i is: a word of the row, the flag, a number
-- of the vector or a lent total
abbrev pub IsPlaceOf : (n w i s k at : ℕ) → Type 0
IsPlaceOf n w i s k at = (item : Item) → k ≡ item_at n w item → at ≡ place n w i (part_of s item)
