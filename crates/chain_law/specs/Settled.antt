-- What a snapshot of all workers says.
use Rattle.std.specs.Prelude.{◌≡◌, ℕ, ◌<◌, List, [], length, map, ◌∷◌, ◌++◌}
use mathlib.Core.Option.{some}
use lib.ListN.{get_elem?}
use Rattle.ledger_core.specs.Ops.{width, sum_ops}
use Rattle.register_rule.specs.declared.view.Answer.{Answer}
use Rattle.register_rule.specs.declared.view.PublishEntry.{PublishEntry}
use Rattle.snapshot_scan.specs.Moments.{Publish, AreAccepted, AreAlong, lists_by}
use Rattle.snapshot_scan.specs.Snapshots.{Taken}
use Rattle.snapshot_update.specs.declared.worker.Worker.{Worker}
use Rattle.snapshot_update.specs.Workers.{index_of, lists_of, member_of}
use Rattle.ledger_core.specs.declared.op.Op.{Op}

-- lists of operations, joined
abbrev pub joined : List (List Op) → List Op
joined [] = []
joined (ops ∷ lists) = ops ++ joined lists

module _ {N C H G : ℕ} where
  -- all operations that these workers have published
  abbrev pub made_all : List (Worker N C H G) → List Op
  made_all [] = []
  made_all (w ∷ ws) = joined (lists_of w) ++ made_all ws

module _ {N C H G : ℕ} where
  -- worker i is one of them
  abbrev pub HasIndex : List (Worker N C H G) → ℕ → Type 0
  HasIndex ws i = (p : ℕ) × (w : Worker N C H G) × (get_elem? ws p ≡ some w) × (index_of w ≡ i)

  -- the vector is how often each of them has published, and each total is exactly the sum of all that they published
  pub record IsSettled (ws : List (Worker N C H G)) (out : Taken) : Type 0 where
    pub vector : (p : ℕ) (w : Worker N C H G) → get_elem? ws p ≡ some w
        → get_elem? out.vector (index_of w) ≡ some (length (lists_of w))
    pub totals : (k : ℕ) → k < width C H G → get_elem? out.totals k ≡ some (sum_ops C H (made_all ws) k)

  -- worker i is the least of N that is none of them
  pub record IsMissing (ws : List (Worker N C H G)) (i : ℕ) : Type 0 where
    pub inside : i < N
    pub none : ¬ (HasIndex ws i)
    pub least : (j : ℕ) → j < i → HasIndex ws j

  -- what a worker has published, each list with what its version lends
  abbrev pub made_by : Worker N C H G → List PublishEntry
  made_by w = (member_of w).work.made

  -- they are the workers that they were, and each has published what it had, and lends what it lent
  pub record AreSame (old new : List (Worker N C H G)) : Type 0 where
    pub index : map index_of new ≡ map index_of old
    pub lists : map lists_of new ≡ map lists_of old
    pub made : map made_by new ≡ map made_by old

  -- a history along which these answers stand, and in which each of the workers published exactly its lists
  pub record HaveHistoryOf (ws : List (Worker N C H G)) (answers : List Answer) : Type 0 where
    pub history : List Publish
    pub accepted : AreAccepted N C H G [] history
    pub along : AreAlong N C H G history 0 answers
    pub lists : (p : ℕ) (w : Worker N C H G) → get_elem? ws p ≡ some w → lists_by (index_of w) history ≡ lists_of w

  -- the answers are moments of the one history of what these workers published, in order
  abbrev pub AreMomentsOf : List (Worker N C H G) → List Answer → Type 0
  AreMomentsOf ws answers = ∥ HaveHistoryOf ws answers ∥₁
