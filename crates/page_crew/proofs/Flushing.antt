-- Why what a tally has is not published, and where it is.
use Rattle.std.proofs.Common.{ℕ, List, All}
use Rattle.ledger_core.specs.declared.op.Op.{Op}
use Rattle.ledger_core.specs.declared.op_fault.OpFault.TheVariants.{OutOfGeometry, TooLarge}
use Rattle.ledger_core.specs.Ops.{sum_ops, IsWithin}
use Rattle.ledger_core.specs.Tally.{Tallied}
use Rattle.ledger_core.proofs.Alike.{accepts_alike, none_outside, refuses_alike}
use Rattle.register_rule.specs.Sums.{word_after}
use Rattle.register_rule.specs.declared.view.Member.{Member}
use Rattle.snapshot_update.specs.declared.faults.ApplyFault.{ApplyFault}
use Rattle.snapshot_update.specs.declared.faults.ApplyFault.TheVariants.{Exhausted, Refused}
use Rattle.snapshot_update.specs.declared.faults.CountFault.{CountFault}
use Rattle.snapshot_update.specs.declared.faults.CountFault.TheVariants.{WrongRegistry, Apply}
use Rattle.snapshot_update.specs.Workers.{member_of, IsApplyFault}
use Rattle.page_crew.specs.Counting.{OneDid, IsPublished, IsRefused, IsPublishedOn, IsRefusedOn}
use Rattle.page_crew.specs.Publishing.{IsRefusedAlike, IsFlushed, IsFlushRefused}
use Rattle.page_crew.specs.Shared.{worker_in}
use Rattle.page_crew.specs.declared.shared_recorder.SharedRecorder.{SharedRecorder}

pub refused_alike : (c h g : ℕ) (ops : List Op) (m : Member) (fault : ApplyFault) → All (IsWithin c h g) ops
    → IsApplyFault c h g m ops fault → IsRefusedAlike c h g ops m fault
refused_alike c h g ops m Exhausted within why = tt
refused_alike c h g ops m (Refused (OutOfGeometry place)) within why =
    absurd (none_outside c h g (word_after (sum_ops c h) m.work.made) ops place within why.1)
refused_alike c h g ops m (Refused (TooLarge place)) within why =
    refuses_alike c h g (word_after (sum_ops c h) m.work.made) ops place why.1

module _ {N C H G : ℕ} (id : ℕ) (old new : List (SharedRecorder N C H G)) where
  -- what the one did is more than this
  one_more : (Did Does : SharedRecorder N C H G → SharedRecorder N C H G → Type 0)
      → ((before after : SharedRecorder N C H G) → Did before after → Does before after) → OneDid id old new Did → OneDid id old
      new Does
  one_more Did Does more one = record {
    came = one.came;
    place = one.place;
    before = one.before;
    after = one.after;
    at = one.at;
    new_is = one.new_is;
    of_it = one.of_it;
    seat = one.seat;
    did = more one.before one.after one.did;
  }

  -- what a tally had was published, and is accepted in whatever order
  pub flushed : (ops : List Op) → IsPublishedOn id ops old new → OneDid id old new (IsFlushed ops)
  flushed ops = one_more (IsPublished ops) (IsFlushed ops) (λ before after did. record {
    published = did;
    alike = accepts_alike C H G (word_after (sum_ops C H) (member_of (worker_in before)).work.made) ops did.accepted;
  })

pub flush_refused : {N C H G : ℕ} (t : Tallied) (old new : List (SharedRecorder N C H G)) (fault : CountFault) → All (IsWithin C H
    G) t.ops
    → IsRefusedOn t.registry t.ops old new fault → IsFlushRefused t old new fault
flush_refused t old new WrongRegistry within why = why
flush_refused {N} {C} {H} {G} t old new (Apply fault) within why =
    one_more t.registry old new (IsRefused t.ops (Apply fault))
    (λ before after. IsRefused t.ops (Apply fault) before after × IsRefusedAlike C H G t.ops (member_of (worker_in before)) fault)
    (λ before after did. (did, refused_alike C H G t.ops (member_of (worker_in before)) fault within did.1)) why
