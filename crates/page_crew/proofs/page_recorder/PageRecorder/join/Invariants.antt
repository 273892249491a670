use Rattle.std.proofs.Common.{◌≡◌, ℕ, ◌≤◌, List, ◌++◌, length}
use Rattle.std.specs.declared.alloc.Global.{Global}
use Rattle.rtrb.specs.Ring.{SameConsumer}
use Rattle.rtrb.specs.declared.consumer.Consumer.{Consumer}
use Rattle.rtrb.specs.declared.AnyItems.{AnyItems}
use Rattle.page_crew.specs.declared.shared_recorder.SharedRecorder.{SharedRecorder}
use Rattle.page_crew.proofs.page_recorder.PageRecorder.join.Given as goal

abbrev Feed : (N C H G : ℕ) → Type 0
Feed N C H G = Consumer (SharedRecorder N C H G) Global AnyItems

pub record IsJoined {N C H G : ℕ} (first first' at : ℕ) (old new : List (SharedRecorder N C H G))
    (feed feed' : Feed N C H G) : Type 0 where
  pub came : (came : List (SharedRecorder N C H G)) × (new ≡ old ++ came)
  pub first_is : first' ≡ first
  pub few : length new ≤ at
  pub same : SameConsumer feed feed'

abbrev pub invariant-loop-more : goal.invariant-loop-more
invariant-loop-more g l = IsJoined l.fn.self.first l.self.first l._more l.fn.self.recorders.items l.self.recorders.items
    l.fn.self.more l.self.more
