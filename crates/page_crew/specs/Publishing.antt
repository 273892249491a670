-- Several changes, and what a tally has, as one version of one board.
use Rattle.std.specs.Prelude.{◌≡◌, ℕ, List, [], ◌∷◌, map, All}
use Rattle.ledger_core.specs.Ops.{sum_ops}
use Rattle.ledger_core.specs.Tally.{Tallied, AcceptsAlike, RefusesAlike}
use Rattle.ledger_core.specs.declared.op.Op.{Op}
use Rattle.ledger_core.specs.declared.op_fault.OpFault.TheVariants.{OutOfGeometry, TooLarge}
use Rattle.register_rule.specs.Sums.{word_after}
use Rattle.register_rule.specs.declared.view.Member.{Member}
use Rattle.snapshot_update.specs.Faults.{count_fault_number}
use Rattle.snapshot_update.specs.Workers.{member_of}
use Rattle.snapshot_update.specs.declared.faults.ApplyFault.{ApplyFault}
use Rattle.snapshot_update.specs.declared.faults.ApplyFault.TheVariants.{Exhausted, Refused}
use Rattle.snapshot_update.specs.declared.faults.CountFault.{CountFault}
use Rattle.snapshot_update.specs.declared.faults.CountFault.TheVariants.{WrongRegistry, Apply}
use Rattle.page_crew.specs.Changes.{op_in, IsOf}
use Rattle.page_crew.specs.Counting.{OneDid, NoneIs, IsPublished, IsRefused, IsPublishedOn, IsRefusedOn}
use Rattle.page_crew.specs.Shared.{worker_in}
use Rattle.page_crew.specs.declared.change.Change.{Change}
use Rattle.page_crew.specs.declared.fault.PublishFault.{PublishFault}
use Rattle.page_crew.specs.declared.fault.PublishFault.TheVariants.{TwoBoards, Count}
use Rattle.page_crew.specs.declared.shared_recorder.SharedRecorder.{SharedRecorder}

-- the number of each reason
abbrev pub publish_fault_number : PublishFault → ℕ
publish_fault_number TwoBoards = 47
publish_fault_number (Count fault) = count_fault_number fault

-- what else is so where a worker does not take what a tally has: where a word would pass 2^48 - 1, it would in whatever order it
-- were counted; 11 is never the reason
abbrev pub IsRefusedAlike : (c h g : ℕ) → List Op → Member → ApplyFault → Type 0
IsRefusedAlike c h g ops m Exhausted = Unit {0}
IsRefusedAlike c h g ops m (Refused (OutOfGeometry _)) = ⊥
IsRefusedAlike c h g ops m (Refused (TooLarge _)) = RefusesAlike c h g (word_after (sum_ops c h) m.work.made) ops

module _ {N C H G : ℕ} where
  -- changes were published: all are by handles of one board, and they were one version of it; of no changes nothing was
  abbrev pub ArePublishedOn : List Change → (old new : List (SharedRecorder N C H G)) → Type 0
  ArePublishedOn [] old new = new ≡ old
  ArePublishedOn (change ∷ changes) old new = All (IsOf change.registry) (change ∷ changes)
      × IsPublishedOn change.registry (map op_in (change ∷ changes)) old new

  -- why they were not: they are by handles of two boards, and nothing happened; or else as for a list of operations
  abbrev pub IsPublishRefused : List Change → (old new : List (SharedRecorder N C H G)) → PublishFault → Type 0
  IsPublishRefused [] old new fault = ⊥
  IsPublishRefused (change ∷ changes) old new TwoBoards = ¬ (All (IsOf change.registry) (change ∷ changes)) × (new ≡ old)
  IsPublishRefused (change ∷ changes) old new (Count fault) = All (IsOf change.registry) (change ∷ changes)
      × IsRefusedOn change.registry (map op_in (change ∷ changes)) old new fault

  -- what a tally had was published as one version; the worker's row accepts it, and each list that it adds up to
  pub record IsFlushed (ops : List Op) (before after : SharedRecorder N C H G) : Type 0 where
    pub published : IsPublished ops before after
    pub alike : AcceptsAlike C H G (word_after (sum_ops C H) (member_of (worker_in before)).work.made) ops

  -- it was, on the board whose handles the tally takes
  abbrev pub IsFlushedOn : Tallied → (old new : List (SharedRecorder N C H G)) → Type 0
  IsFlushedOn t old new = OneDid t.registry old new (IsFlushed t.ops)

  -- why it was not: none that it has is of the board of its id, after those that came; or else as for a list of operations, but
  -- never 11
  abbrev pub IsFlushRefused : Tallied → (old new : List (SharedRecorder N C H G)) → CountFault → Type 0
  IsFlushRefused t old new WrongRegistry = NoneIs t.registry old new
  IsFlushRefused t old new (Apply fault) = OneDid t.registry old new (λ before after. IsRefused t.ops (Apply fault) before after
      × IsRefusedAlike C H G t.ops (member_of (worker_in before)) fault)
