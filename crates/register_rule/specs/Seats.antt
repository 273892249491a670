-- What a clause reads of a board and of seats.
use Rattle.std.specs.Prelude.{◌≡◌, ℕ, ◌+◌, ◌*◌, ◌<◌, List, ◌∷◌, length}
use Rattle.atomic_table.specs.Seated.{TableId}
use Rattle.segment_layout.specs.Layout.{depth, span}
use Rattle.register_rule.specs.Words.{version_item}
use Rattle.register_rule.specs.declared.view.Member.{Member}
use Rattle.register_rule.specs.declared.seats.Bundle.{Bundle}
use Rattle.register_rule.specs.declared.seats.WorkSeat.{WorkSeat}
use Rattle.register_rule.specs.declared.seats.ReadSeat.{ReadSeat}
use Rattle.register_rule.specs.declared.board.Board.{Board}
use Rattle.register_rule.specs.Members.{first_of}

-- which board's words a seat is made for
abbrev pub table_of : Bundle → TableId
table_of s = s.seat.table_id

-- what the seat knows
abbrev pub members_of : Bundle → List Member
members_of s = s.seat.me.0.members

-- the seat has a member: the first one makes its steps
abbrev pub HasMember : List Member → Type 0
HasMember ms = (m : Member) × (others : List Member) × (ms ≡ m ∷ others)

-- the seat of one worker as a bundle
abbrev pub work_bundle : WorkSeat → Bundle
work_bundle s = s.bundle

-- the worker as a member: the seat has no other. Its index, which `WorkSeat::worker` gives, is `index_of`
abbrev pub worker_of : WorkSeat → Member
worker_of s = first_of (members_of (work_bundle s))

-- the worker whose seat it is
abbrev pub index_of : WorkSeat → ℕ
index_of s = s.worker

-- where the hidden buffer of the worker begins on a board of n workers, of rows of w words: that of the version after all that it
-- has published
abbrev pub start_of : (n w : ℕ) → WorkSeat → ℕ
start_of n w s = index_of s * span (depth n w) + version_item (depth n w) (length (worker_of s).work.made + 1) 0

-- the seat of one reader as a bundle
abbrev pub read_bundle : ReadSeat → Bundle
read_bundle s = s.bundle

-- the reader as a member: the seat has no other
abbrev pub reader_of : ReadSeat → Member
reader_of s = first_of (members_of (read_bundle s))

module _ {N C H G : ℕ} where
  -- the id that the board was made with
  abbrev pub board_id : Board N C H G → ℕ
  board_id b = b.table.shared.key.id

  -- the seat is one of this board: of its table
  abbrev pub IsSeatOf : Board N C H G → Bundle → Type 0
  IsSeatOf b s = table_of s ≡ b.table.shared.table_id

  -- and can make steps of a scan
  abbrev pub MayScan : Board N C H G → Bundle → Type 0
  MayScan b s = IsSeatOf b s × HasMember (members_of s)

  -- the seat is that of one of its workers
  abbrev pub IsWorkSeatOf : Board N C H G → WorkSeat → Type 0
  IsWorkSeatOf b s = IsSeatOf b (work_bundle s) × (index_of s < N)

  -- the seat is that of a reader, made for this board
  abbrev pub IsReadSeatOf : Board N C H G → ReadSeat → Type 0
  IsReadSeatOf b s = IsSeatOf b (read_bundle s)
