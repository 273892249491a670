-- What the recorder at a place does.
use Rattle.std.proofs.Common.{◌≡◌, ℕ, ◌+◌, ◌<◌, ◌≤◌, List, [], ◌∷◌, ◌++◌, Some, length, slice_get, set, sym, ap, arith}
use Rattle.std.specs.Prelude.{vec_capacity}
use Rattle.std.proofs.Math.ListN.{length-set}
use Rattle.ledger_core.specs.declared.op.Op.{Op}
use Rattle.snapshot_update.specs.declared.faults.CountFault.{CountFault}
use Rattle.snapshot_update.specs.declared.faults.CountFault.TheVariants.{WrongRegistry, Apply}
use Rattle.snapshot_update.specs.Workers.{member_of, IsCounted, IsCountFault}
use Rattle.register_rule.specs.Seats.{board_id}
use Rattle.rtrb.specs.Ring.{received}
use Rattle.page_crew.specs.declared.page_recorder.PageRecorder.{PageRecorder}
use Rattle.page_crew.specs.declared.shared_recorder.SharedRecorder.{SharedRecorder}
use Rattle.page_crew.specs.Shared.{id_in, worker_in}
use Rattle.page_crew.specs.Counting.{AreInRow, AreTaken, IsPublished, IsRefused, IsPublishedOn, IsRefusedOn, IsSameSeat}
use Rattle.page_crew.proofs.Rows.{one_did, row_set}
use Rattle.page_crew.proofs.Taken.{taken_set}

module _ {N C H G : ℕ} (id : ℕ) (old mid : List (SharedRecorder N C H G)) (op : Op) (place : ℕ) (before after : SharedRecorder N C
    H G)
    (came : (came : List (SharedRecorder N C H G)) × (mid ≡ old ++ came)) (at : slice_get mid place ≡ Some before)
    (of_it : id_in before ≡ id) (seat : IsSameSeat before after) where
  -- it was counted
  pub one_counted : IsCounted (id_in before) id op (worker_in before) (worker_in after)
      → IsPublishedOn id (op ∷ []) old (set mid place after)
  one_counted counted = one_did id old mid (IsPublished (op ∷ [])) place before after came at of_it seat (record {
    updated = counted.updated;
    lists = counted.lists;
    accepted = counted.accepted;
    room = counted.room;
  })

  -- it was refused, and not for another board's handle, since the recorder is of that board
  pub one_refused : (fault : CountFault) → member_of (worker_in after) ≡ member_of (worker_in before)
      → IsCountFault C H G (id_in before) id op (member_of (worker_in before)) fault
      → IsRefusedOn id (op ∷ []) old (set mid place after) fault
  one_refused WrongRegistry same why = absurd (why (sym of_it))
  one_refused (Apply fault) same why =
      one_did id old mid (IsRefused (op ∷ []) (Apply fault)) place before after came at of_it seat (same, why.1)

-- what is so of a page's recorder stays so, where the one at a place did something
pub held_on : {N C H G : ℕ} (r : PageRecorder N C H G) (place : ℕ) (before after : SharedRecorder N C H G)
    → slice_get r.recorders.items place ≡ Some before → IsSameSeat before after → record {
      ids : AreInRow r.first (set r.recorders.items place after);
      low : r.first + 96 < 18446744073709551616;
      few : length (set r.recorders.items place after) ≤ 96;
      room : 96 ≤ vec_capacity r.recorders;
      taken : AreTaken (received r.more) (set r.recorders.items place after);
    }
held_on r place before after at seat =
    let few = r.few in
    let many = length-set r.recorders.items place after in
    record {
      ids = row_set r.first r.recorders.items r.ids place before after at (ap board_id seat.0);
      low = r.low;
      few = omega (arith, few, many);
      room = r.room;
      taken = taken_set (received r.more) r.recorders.items place before after at seat r.taken;
    }
