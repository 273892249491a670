-- Changes that are by handles of the board of the first of them.
use Rattle.std.proofs.Common.{◌≡◌, ℕ, ◌<◌, List, [], ◌∷◌, map, length, All, sym, subst, arith}
use Rattle.std.proofs.lemmas.List.Elements.{All-head}
use Rattle.ledger_core.specs.declared.op.Op.{Op}
use Rattle.snapshot_update.specs.declared.faults.CountFault.{CountFault}
use Rattle.page_crew.specs.Changes.{op_in, IsOf}
use Rattle.page_crew.specs.Counting.{IsPublishedOn, IsRefusedOn}
use Rattle.page_crew.specs.Publishing.{ArePublishedOn, IsPublishRefused}
use Rattle.page_crew.specs.declared.change.Change.{Change}
use Rattle.page_crew.specs.declared.fault.PublishFault.TheVariants.{Count}
use Rattle.page_crew.specs.declared.shared_recorder.SharedRecorder.{SharedRecorder}

module _ {N C H G : ℕ} (old new : List (SharedRecorder N C H G)) where
  -- they were published as one version of that board
  pub first_published : (changes : List Change) (id : ℕ) (ops : List Op) → All (IsOf id) changes → 0 < length changes
      → ops ≡ map op_in changes → IsPublishedOn id ops old new → ArePublishedOn changes old new
  first_published [] id ops all some is did = absurd (omega (arith, some))
  first_published (change ∷ changes) id ops all some is did =
      subst (λ (i : ℕ). All (IsOf i) (change ∷ changes) × IsPublishedOn i (map op_in (change ∷ changes)) old new)
      (sym (All-head (IsOf id) change changes all)) (all, subst (λ (l : List Op). IsPublishedOn id l old new) is did)

  -- they were refused there
  pub first_refused : (changes : List Change) (id : ℕ) (ops : List Op) (fault : CountFault) → All (IsOf id) changes → 0 < length
      changes
      → ops ≡ map op_in changes → IsRefusedOn id ops old new fault → IsPublishRefused changes old new (Count fault)
  first_refused [] id ops fault all some is did = absurd (omega (arith, some))
  first_refused (change ∷ changes) id ops fault all some is did =
      subst (λ (i : ℕ). All (IsOf i) (change ∷ changes) × IsRefusedOn i (map op_in (change ∷ changes)) old new fault)
      (sym (All-head (IsOf id) change changes all)) (all, subst (λ (l : List Op). IsRefusedOn id l old new fault) is did)
