-- Answers of scans as moments of one history of publishes.
use Rattle.std.specs.Prelude.{◌≡◌, ℕ, ◌<◌, ◌≤◌, ◌==◌, cond, List, [], ◌∷◌, ◌++◌, length, take, slice_index, sum_by}
use Rattle.ledger_core.specs.declared.op.Op.{Op}
use Rattle.ledger_core.specs.Ops.{width, sum_ops}
use Rattle.ledger_core.specs.Row.{Accepts}
use Rattle.register_rule.specs.declared.view.Answer.{Answer}
use Rattle.register_rule.specs.History.{tab}

-- a publish: the worker that made it, and its list of operations
pub record Publish : Type 0 where
  pub worker : ℕ
  pub ops : List Op

-- the lists that worker i published, in order
abbrev pub lists_by : (i : ℕ) → List Publish → List (List Op)
lists_by i [] = []
lists_by i (p ∷ ps) = cond (p.worker == i) (p.ops ∷ lists_by i ps) (lists_by i ps)

-- what these lists add to the word k, in a row of c counters and h histograms: the plain sum
abbrev pub sum_lists : (c h : ℕ) → List (List Op) → ℕ → ℕ
sum_lists c h lists k = sum_by (λ ops. sum_ops c h ops k) lists

-- what all these publishes add to it
abbrev pub sum_all : (c h : ℕ) → List Publish → ℕ → ℕ
sum_all c h publishes k = sum_by (λ p. sum_ops c h p.ops k) publishes

-- n workers, and rows of c counters, h histograms and g gauges
module _ (n c h g : ℕ) where
  -- after those before it, each publish is of one of the workers, whose row of what it published before accepts the list
  abbrev pub AreAccepted : (before publishes : List Publish) → Type 0
  AreAccepted before [] = Unit {0}
  AreAccepted before (p ∷ ps) = (p.worker < n) × Accepts c h g (sum_lists c h (lists_by p.worker before)) p.ops
      × AreAccepted (before ++ p ∷ []) ps

  -- the answer is what these publishes come to: how often each worker published, and of each word the plain sum of all lists
  pub record IsAfter (publishes : List Publish) (a : Answer) : Type 0 where
    pub numbers : a.vector ≡ tab 0 n (λ i. length (lists_by i publishes))
    pub totals : (k : ℕ) → k < width c h g → slice_index a.totals k ≡ sum_all c h publishes k

  -- each answer is what a beginning of the history comes to, which is no shorter than that of the answer before it
  abbrev pub AreAlong : (history : List Publish) → (from : ℕ) → List Answer → Type 0
  AreAlong history from [] = Unit {0}
  AreAlong history from (a ∷ rest) = (t : ℕ) × (from ≤ t) × (t ≤ length history) × IsAfter (take t history) a
      × AreAlong history t rest

  -- a history of publishes along which these answers stand
  pub record HaveHistory (answers : List Answer) : Type 0 where
    pub history : List Publish
    pub accepted : AreAccepted [] history
    pub along : AreAlong history 0 answers

  -- the answers are moments of one history of publishes, in order
  abbrev pub AreMoments : List Answer → Type 0
  AreMoments answers = ∥ HaveHistory answers ∥₁

  -- these answers stand along a history, and the numbers and totals of all of it are this count and this row: those
  -- of a source of one worker
  pub record ComeTo (count : ℕ) (row : List ℕ) (answers : List Answer) : Type 0 where
    pub history : List Publish
    pub accepted : AreAccepted [] history
    pub along : AreAlong history 0 answers
    pub all : IsAfter history (record { vector = count ∷ []; totals = row })
