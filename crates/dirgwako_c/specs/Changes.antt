-- Changes that C publishes as one version.
use Rattle.std.specs.Prelude.{◌≡◌, ◌==◌, if◌then◌else◌, ◌⊎◌, ℕ, ◌<◌, ◌≤◌, List, map, length, All, Option, Some, None, IsSome}
use Rattle.std.specs.Prelude.{Result, OnOk, IfErr}
use Rattle.ledger_core.specs.declared.op.Op.{Op}
use Rattle.ledger_core.specs.declared.op.Op.TheVariants.{Inc, Observe, Up, Down}
use Rattle.page_crew.specs.Counting.{IsPublishedOn, IsRefusedOn}
use Rattle.page_crew.specs.Held.{recorders_of}
use Rattle.page_crew.specs.declared.page_recorder.PageRecorder.{PageRecorder}
use Rattle.snapshot_update.specs.Faults.{count_fault_number}
use Rattle.snapshot_update.specs.declared.faults.CountFault.{CountFault}
use Rattle.dirgwako_c.specs.Held.{answer_of}
use Rattle.dirgwako_c.specs.Recorders.{IsSamePage}
use Rattle.dirgwako_c.specs.declared.change.Change.{Change}

-- its operation, if it is of a kind
abbrev pub op_in : Change → Option Op
op_in c = if c.kind == 0 then Some (Inc c.slot c.by) else if c.kind == 1 then Some (Observe c.slot c.by c.value)
    else if c.kind == 2 then Some (Up c.slot c.by) else if c.kind == 3 then Some (Down c.slot c.by) else None

-- it is by a handle of the board of this id
abbrev pub IsOf : (id : ℕ) → Change → Type 0
IsOf id c = c.registry ≡ id

-- some change is of no kind (39)
abbrev pub HasNoKind : List Change → (answer : ℕ) → Type 0
HasNoKind changes answer = (answer ≡ 39) × ¬ (All (λ c. IsSome (op_in c)) changes)

-- why there is no list of operations of this board: some change is by a handle of another one (47), or is of no kind
abbrev pub IsNoList : (id : ℕ) → List Change → (answer : ℕ) → Type 0
IsNoList id changes answer = ((answer ≡ 47) × ¬ (All (IsOf id) changes)) ⊎ HasNoKind changes answer

-- why there is no list of operations of one board: there is no board whose handles made all changes (47), or some change is of no
-- kind
abbrev pub AreOfNoBoard : List Change → (answer : ℕ) → Type 0
AreOfNoBoard changes answer = ((answer ≡ 47) × ((id : ℕ) → ¬ (All (IsOf id) changes))) ⊎ HasNoKind changes answer

module _ {N C H G : ℕ} where
  -- The recorder is of the same page, and all changes are by handles of one board. It did this, and the answer is 0, or the
  -- number of its refusal: it has published the operations of all these changes as one version of that board; or it has refused
  -- them for that reason, and no number has changed. Boards that came may have been met. No refusal's number is 0
  pub record PublishesAll (changes : List Change) (answer : ℕ) (before after : PageRecorder N C H G) : Type 0 where
    pub page : IsSamePage before after
    pub id : ℕ
    pub ops : List Op
    pub are : map Some ops ≡ map op_in changes
    pub of_it : All (IsOf id) changes
    pub did : Result (Unit {0}) CountFault
    pub answer_is : answer ≡ answer_of count_fault_number did
    pub published : OnOk did (IsPublishedOn id ops (recorders_of before) (recorders_of after))
    pub refused : IfErr did (IsRefusedOn id ops (recorders_of before) (recorders_of after))

  -- some changes, at most so many, were published as one version; or there is none, and nothing was published; or there are more
  -- (33), or they are no list of one board, and nothing has changed
  abbrev pub Publishes : (most : ℕ) → List Change → (answer : ℕ) → (before after : PageRecorder N C H G) → Type 0
  Publishes most changes answer before after = ((length changes ≡ 0) × (answer ≡ 0) × (after ≡ before))
      ⊎ (((most < length changes) × (answer ≡ 33) × (after ≡ before))
      ⊎ ((AreOfNoBoard changes answer × (after ≡ before))
      ⊎ ((0 < length changes) × (length changes ≤ most) × PublishesAll changes answer before after)))
