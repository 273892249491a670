-- What one call of a page's recorder does to the recorders that it has.
use Rattle.std.specs.Prelude.{◌≡◌, ◌≢◌, ℕ, ◌+◌, ◌<◌, List, [], ◌∷◌, ◌++◌, Some, length, slice_get, slice_set, All}
use Rattle.bucket_math.specs.Bounds.{place_of}
use Rattle.ledger_core.specs.Ops.{sum_ops}
use Rattle.ledger_core.specs.Row.{Accepts}
use Rattle.ledger_core.specs.declared.op.Op.{Op}
use Rattle.ledger_core.specs.declared.op.Op.TheVariants.{Inc, Observe, Up, Down}
use Rattle.register_rule.specs.Sums.{word_after}
use Rattle.snapshot_update.specs.declared.faults.CountFault.{CountFault}
use Rattle.snapshot_update.specs.declared.faults.CountFault.TheVariants.{WrongRegistry, Apply}
use Rattle.snapshot_update.specs.Updated.{IsUpdated}
use Rattle.snapshot_update.specs.Workers.{index_of, member_of, lists_of, IsApplyFault}
use Rattle.page_crew.specs.declared.count.Count.{Count}
use Rattle.page_crew.specs.declared.count.Count.TheVariants as Counts
use Rattle.page_crew.specs.declared.shared_recorder.SharedRecorder.{SharedRecorder}
use Rattle.page_crew.specs.Shared.{board_in, worker_in, id_in}

-- of which registry the handle is by which something is counted
abbrev pub registry_of : Count → ℕ
registry_of (Counts.Inc counter by) = counter.now.registry
registry_of (Counts.Observe hist value) = hist.now.registry
registry_of (Counts.Up gauge by) = gauge.now.registry
registry_of (Counts.Down gauge by) = gauge.now.registry

-- which operation it is
abbrev pub op_of : Count → Op
op_of (Counts.Inc counter by) = Inc counter.now.slot by
op_of (Counts.Observe hist value) = Observe hist.now.slot (place_of hist.now.bounds value) value
op_of (Counts.Up gauge by) = Up gauge.now.slot by
op_of (Counts.Down gauge by) = Down gauge.now.slot by

module _ {N C H G : ℕ} where
  -- the recorders are those of the boards whose ids follow each other, from this one on
  abbrev pub AreInRow : (first : ℕ) → List (SharedRecorder N C H G) → Type 0
  AreInRow first recorders = (k : ℕ) (r : SharedRecorder N C H G) → slice_get recorders k ≡ Some r → id_in r ≡ first + k

  -- the recorder is of the same board and of the same worker
  abbrev pub IsSameSeat : (before after : SharedRecorder N C H G) → Type 0
  IsSameSeat before after = (board_in after ≡ board_in before) × (index_of (worker_in after) ≡ index_of (worker_in before))

  -- the recorders are those that were taken out of a ring, in order: each is of the same board and of the same worker
  abbrev pub AreTaken : (taken recorders : List (SharedRecorder N C H G)) → Type 0
  AreTaken taken recorders = (length recorders ≡ length taken) × ((k : ℕ) (t r : SharedRecorder N C H G) → slice_get taken k ≡
      Some t
      → slice_get recorders k ≡ Some r → IsSameSeat t r)

  -- Boards may have come. The recorder of the board of this id did this, and each other one is as it was
  pub record OneDid (id : ℕ) (old new : List (SharedRecorder N C H G)) (Did : SharedRecorder N C H G → SharedRecorder N C H G →
      Type 0)
      : Type 0 where
    pub came : List (SharedRecorder N C H G)
    pub place : ℕ
    pub before : SharedRecorder N C H G
    pub after : SharedRecorder N C H G
    pub at : slice_get (old ++ came) place ≡ Some before
    pub new_is : new ≡ slice_set (old ++ came) place after
    pub of_it : id_in before ≡ id
    pub seat : IsSameSeat before after
    pub did : Did before after

  -- boards may have come, none has this id, and no recorder did anything
  abbrev pub NoneIs : (id : ℕ) → (old new : List (SharedRecorder N C H G)) → Type 0
  NoneIs id old new = ((came : List (SharedRecorder N C H G)) × (new ≡ old ++ came))
      × All (λ (r : SharedRecorder N C H G). id_in r ≢ id) new

  -- these operations were published as one version, which the worker's row accepts, and its number was not the greatest that
  -- there is
  pub record IsPublished (ops : List Op) (before after : SharedRecorder N C H G) : Type 0 where
    pub updated : IsUpdated N C H G (index_of (worker_in before)) ops (member_of (worker_in before)) (member_of (worker_in after))
    pub lists : lists_of (worker_in after) ≡ lists_of (worker_in before) ++ ops ∷ []
    pub accepted : Accepts C H G (word_after (sum_ops C H) (member_of (worker_in before)).work.made) ops
    pub room : length (member_of (worker_in before)).work.made < 18446744073709551615

  -- they were refused for this reason, and the worker is as it was
  abbrev pub IsRefused : List Op → CountFault → (before after : SharedRecorder N C H G) → Type 0
  IsRefused ops WrongRegistry before after = ⊥
  IsRefused ops (Apply fault) before after = (member_of (worker_in after) ≡ member_of (worker_in before))
      × IsApplyFault C H G (member_of (worker_in before)) ops fault

  -- operations, by handles of the board of this id, were published as one version of that board
  abbrev pub IsPublishedOn : (id : ℕ) → List Op → (old new : List (SharedRecorder N C H G)) → Type 0
  IsPublishedOn id ops old new = OneDid id old new (IsPublished ops)

  -- why they were not: none that it has is of the board of this id, after those that came; or that board's worker has refused
  -- them
  abbrev pub IsRefusedOn : (id : ℕ) → List Op → (old new : List (SharedRecorder N C H G)) → CountFault → Type 0
  IsRefusedOn id ops old new WrongRegistry = NoneIs id old new
  IsRefusedOn id ops old new (Apply fault) = OneDid id old new (IsRefused ops (Apply fault))
