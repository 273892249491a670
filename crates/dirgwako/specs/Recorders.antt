-- What a clause reads of a recorder.
use Rattle.std.specs.Prelude.{◌≡◌, ◌≢◌, ℕ, ◌<◌, List, [], ◌∷◌, ◌++◌, map, length, All}
use Rattle.ledger_core.specs.Ops.{sum_ops}
use Rattle.ledger_core.specs.Row.{Accepts}
use Rattle.ledger_core.specs.Tally.{Tallied, AcceptsAlike}
use Rattle.register_rule.specs.declared.board.Board.{Board}
use Rattle.register_rule.specs.Seats.{board_id}
use Rattle.register_rule.specs.Sums.{word_after}
use Rattle.snapshot_update.specs.declared.faults.CountFault.{CountFault}
use Rattle.snapshot_update.specs.declared.faults.CountFault.TheVariants.{WrongRegistry, Apply}
use Rattle.snapshot_update.specs.declared.worker.Worker.{Worker}
use Rattle.snapshot_update.specs.Updated.{IsUpdated}
use Rattle.snapshot_update.specs.Workers.{index_of, member_of, lists_of, IsApplyFault}
use Rattle.page_crew.specs.Changes.{op_in, IsOf}
use Rattle.page_crew.specs.Publishing.{IsRefusedAlike}
use Rattle.page_crew.specs.declared.change.Change.{Change}
use Rattle.dirgwako.specs.declared.recorder.Recorder.{Recorder}

module _ {N C H G : ℕ} where
  -- its board
  abbrev pub board_in : Recorder N C H G → Board N C H G
  board_in r = r.board.now

  -- its worker
  abbrev pub worker_in : Recorder N C H G → Worker N C H G
  worker_in r = r.worker

  -- the id of its board
  abbrev pub id_in : Recorder N C H G → ℕ
  id_in r = board_id r.board.now

  -- it counts on this board
  abbrev pub IsOn : Board N C H G → Recorder N C H G → Type 0
  IsOn b r = r.board.now ≡ b

  -- one version was published, which adds all these changes; they are by handles of its board, the row accepts them,
  -- and the worker's number was not the greatest that there is
  pub record ArePublished (changes : List Change) (r r' : Recorder N C H G) : Type 0 where
    pub of_it : All (IsOf (id_in r)) changes
    pub updated : IsUpdated N C H G (index_of r.worker) (map op_in changes) (member_of r.worker) (member_of r'.worker)
    pub lists : lists_of r'.worker ≡ lists_of r.worker ++ map op_in changes ∷ []
    pub accepted : Accepts C H G (word_after (sum_ops C H) (member_of r.worker).work.made) (map op_in changes)
    pub room : length (member_of r.worker).work.made < 18446744073709551615

  -- why nothing was published: some change is not by a handle of its board, or else as for a list of operations
  abbrev pub IsPublishFault : List Change → Recorder N C H G → CountFault → Type 0
  IsPublishFault changes r WrongRegistry = ¬ (All (IsOf (id_in r)) changes)
  IsPublishFault changes r (Apply fault) = All (IsOf (id_in r)) changes
      × IsApplyFault C H G (member_of r.worker) (map op_in changes) fault

  -- one version was published, which adds all that a tally had; it is of the registry of its board, the row accepts
  -- it, and each list that it adds up to, and the worker's number was not the greatest that there is
  pub record IsFlushed (t : Tallied) (r r' : Recorder N C H G) : Type 0 where
    pub of_it : t.registry ≡ id_in r
    pub updated : IsUpdated N C H G (index_of r.worker) t.ops (member_of r.worker) (member_of r'.worker)
    pub lists : lists_of r'.worker ≡ lists_of r.worker ++ t.ops ∷ []
    pub accepted : Accepts C H G (word_after (sum_ops C H) (member_of r.worker).work.made) t.ops
    pub alike : AcceptsAlike C H G (word_after (sum_ops C H) (member_of r.worker).work.made) t.ops
    pub room : length (member_of r.worker).work.made < 18446744073709551615

  -- why a tally was not published: it is not of the registry of the board, or else as for a list of operations, but never 11
  abbrev pub IsFlushFault : Tallied → Recorder N C H G → CountFault → Type 0
  IsFlushFault t r WrongRegistry = t.registry ≢ id_in r
  IsFlushFault t r (Apply fault) = (t.registry ≡ id_in r) × IsApplyFault C H G (member_of r.worker) t.ops fault
      × IsRefusedAlike C H G t.ops (member_of r.worker) fault
