-- What a clause reads of a worker.
use Rattle.std.specs.Prelude.{◌≡◌, ◌≢◌, ℕ, ◌<◌, Option, Some, None, List, [], ◌∷◌, ◌++◌, map, length, replicate, IsSomeAnd}
use Rattle.std.specs.List.{range_with_len}
use Rattle.ledger_core.specs.declared.op.Op.{Op}
use Rattle.ledger_core.specs.Ops.{width, sum_ops}
use Rattle.ledger_core.specs.Row.{Accepts}
use Rattle.ledger_core.specs.OpFault.{IsOpFault}
use Rattle.register_rule.specs.declared.view.PublishEntry.{PublishEntry}
use Rattle.register_rule.specs.declared.view.Member.{Member}
use Rattle.register_rule.specs.declared.view.ScanLog.{ScanLog}
use Rattle.register_rule.specs.declared.seats.WorkSeat.{WorkSeat}
use Rattle.register_rule.specs.declared.board.Board.{Board}
use Rattle.register_rule.specs.Sums.{word_after}
use Rattle.register_rule.specs.Members.{new_worker, fresh_scan}
use Rattle.register_rule.specs.Seats.{worker_of, IsWorkSeatOf}
use Rattle.snapshot_update.specs.declared.worker.Worker.{Worker}
use Rattle.snapshot_update.specs.declared.faults.ApplyFault.{ApplyFault}
use Rattle.snapshot_update.specs.declared.faults.ApplyFault.TheVariants.{Exhausted, Refused}
use Rattle.snapshot_update.specs.declared.faults.CountFault.{CountFault}
use Rattle.snapshot_update.specs.declared.faults.CountFault.TheVariants.{WrongRegistry, Apply}
use Rattle.snapshot_update.specs.Updated.{IsUpdated}
use Rattle.snapshot_scan.specs.declared.reader.Reader.{Reader}
use Rattle.snapshot_scan.specs.Lent.{IsWorkerAmong}
use Rattle.snapshot_scan.specs.Readers.{members_with, scan_by as scan_of_reader, index_of as reader_index}
use Rattle.snapshot_update.specs.Fit.{IsFitOfSeat}

-- the member of a worker's seat; where the seat is away, a blank one stands for it
abbrev pub member_in : Option WorkSeat → Member
member_in None = new_worker 0 0 0 0
member_in (Some s) = worker_of s

-- the operations that a publish added
abbrev pub ops_in : PublishEntry → List Op
ops_in x = x.ops

module _ {N C H G : ℕ} where
  -- which worker it is
  abbrev pub index_of : Worker N C H G → ℕ
  index_of w = w.index

  -- a worker that is not lent, as a member
  abbrev pub member_of : Worker N C H G → Member
  member_of w = member_in w.seat

  -- all lists of operations that it has published, in order
  abbrev pub lists_of : Worker N C H G → List (List Op)
  lists_of w = map ops_in (member_of w).work.made

  -- what it has learned by its scans
  abbrev pub scan_by : Worker N C H G → ScanLog
  scan_by w = (member_of w).scan

  -- it is a worker of this board, and its seat is not lent to a reader
  abbrev pub IsWorkerOf : Board N C H G → Worker N C H G → Type 0
  IsWorkerOf b w = IsSomeAnd w.seat (IsWorkSeatOf b)

  -- one version was published, which adds this one operation, by a handle of the registry `id`; the row accepts it, and the
  -- worker's number was not the greatest that there is
  pub record IsCounted (id registry : ℕ) (op : Op) (w w' : Worker N C H G) : Type 0 where
    pub of_it : registry ≡ id
    pub updated : IsUpdated N C H G (index_of w) (op ∷ []) (member_of w) (member_of w')
    pub lists : lists_of w' ≡ lists_of w ++ (op ∷ []) ∷ []
    pub accepted : Accepts C H G (word_after (sum_ops C H) (member_of w).work.made) (op ∷ [])
    pub room : length (member_of w).work.made < 18446744073709551615

-- the member after it has scanned
abbrev pub after_scan : ScanLog → Member → Member
after_scan c m = record m { scan = c }

-- why a worker refuses a list: its number is the greatest that there is, or else its row does not accept the list. A row of
-- c counters, h histograms and g gauges
abbrev pub IsApplyFault : (c h g : ℕ) → Member → List Op → ApplyFault → Type 0
IsApplyFault c h g m ops Exhausted = length m.work.made ≡ 18446744073709551615
IsApplyFault c h g m ops (Refused fault) = (length m.work.made < 18446744073709551615)
    × IsOpFault c h g (word_after (sum_ops c h) m.work.made) ops fault

-- why a worker refuses an operation by a handle: the handle is not of the registry `id`, or else as above
abbrev pub IsCountFault : (c h g id registry : ℕ) → Op → Member → CountFault → Type 0
IsCountFault c h g id registry op m WrongRegistry = registry ≢ id
IsCountFault c h g id registry op m (Apply fault) = (registry ≡ id) × IsApplyFault c h g m (op ∷ []) fault

module _ {N C H G : ℕ} where
  -- the worker is lent to this reader, behind which it stands as this member
  pub record IsLentAs (m : Member) (w : Worker N C H G) (r : Reader N C H G) : Type 0 where
    pub away : w.seat ≡ None
    pub there : IsWorkerAmong w.index m (members_with r)
    pub fits : IsFitOfSeat N C H G w.index w.number w.row.value w.memory w.images w.index m

  -- the worker is lent to this reader
  abbrev pub IsLent : Worker N C H G → Reader N C H G → Type 0
  IsLent w r = (m : Member) × IsLentAs m w r

  -- workers and readers that have made no step: none has scanned, and there are so many readers, in order
  pub record AreFresh (many : ℕ) (ws : List (Worker N C H G)) (rs : List (Reader N C H G)) : Type 0 where
    pub workers : map scan_by ws ≡ replicate N (fresh_scan N (width C H G))
    pub order : map reader_index rs ≡ range_with_len 0 many
    pub readers : map scan_of_reader rs ≡ replicate many (fresh_scan N (width C H G))
