-- What the calls of C by a recorder's handle come to.
use Rattle.std.specs.Prelude.{◌≡◌, ℕ, [], ◌∷◌, Result, OnOk, IfErr}
use Rattle.ledger_core.specs.declared.op.Op.{Op}
use Rattle.page_crew.specs.Counting.{IsPublishedOn, IsRefusedOn}
use Rattle.page_crew.specs.Held.{recorders_of, first_of, feed_of}
use Rattle.page_crew.specs.declared.page_recorder.PageRecorder.{PageRecorder}
use Rattle.rtrb.specs.Ring.{SameConsumer}
use Rattle.snapshot_update.specs.Faults.{count_fault_number}
use Rattle.snapshot_update.specs.declared.faults.CountFault.{CountFault}
use Rattle.dirgwako_c.specs.Held.{answer_of}

module _ {N C H G : ℕ} where
  -- the recorder is of the same page: its first board has the same id, and its workers of boards that come are given by the same
  -- ring
  abbrev pub IsSamePage : (before after : PageRecorder N C H G) → Type 0
  IsSamePage before after = (first_of after ≡ first_of before) × SameConsumer (feed_of before) (feed_of after)

  -- The recorder is of the same page. It did this, and the answer is 0, or the number of its refusal: it has published this one
  -- operation, by a handle of the board of this id, as one version of that board; or it has refused it for that reason, and no
  -- number has changed. Boards that came may have been met. No refusal's number is 0
  pub record Counts (id : ℕ) (op : Op) (answer : ℕ) (before after : PageRecorder N C H G) : Type 0 where
    pub page : IsSamePage before after
    pub did : Result (Unit {0}) CountFault
    pub answer_is : answer ≡ answer_of count_fault_number did
    pub counted : OnOk did (IsPublishedOn id (op ∷ []) (recorders_of before) (recorders_of after))
    pub refused : IfErr did (IsRefusedOn id (op ∷ []) (recorders_of before) (recorders_of after))
