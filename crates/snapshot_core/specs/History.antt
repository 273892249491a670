-- What a list of publishes has made of the segments, before each event.
use Rattle.std.specs.Prelude.{◌≡◌, ℕ, ◌+◌, ◌<◌, ◌≤◌, ◌==◌, ◌&&◌, nat_lt, cond, List, [], ◌∷◌, length, slice_index}
use Rattle.ledger_core.specs.declared.op.Op.{Op}
use Rattle.snapshot_core.specs.Tries.{View}

-- a publish: the event at which it stands, the worker, and the operations that it adds
pub record Published : Type 0 where
  pub at : ℕ
  pub worker : ℕ
  pub ops : List Op

-- worker i has published so often before the event j: its number there
abbrev pub number_at : List Published → (j i : ℕ) → ℕ
number_at [] j i = 0
number_at (p ∷ ps) j i = cond (nat_lt p.at j && p.worker == i) 1 0 + number_at ps j i

-- `adds` tells what a list of operations adds to a word
module _ (adds : List Op → ℕ → ℕ) where
  -- the word k of worker i's row before the event j
  abbrev pub row_at : List Published → (j i k : ℕ) → ℕ
  row_at [] j i k = 0
  row_at (p ∷ ps) j i k = cond (nat_lt p.at j && p.worker == i) (adds p.ops k) 0 + row_at ps j i k

  -- the word k of all that was published before the event j: the plain sum
  abbrev pub total_at : List Published → (j k : ℕ) → ℕ
  total_at [] j k = 0
  total_at (p ∷ ps) j k = cond (nat_lt p.at j) (adds p.ops k) 0 + total_at ps j k

  -- the view is all segments just before the event j: n numbers, w totals
  pub record IsMoment (n w : ℕ) (ps : List Published) (j : ℕ) (v : View) : Type 0 where
    pub vector_wide : length v.vector ≡ n
    pub totals_wide : length v.totals ≡ w
    pub numbers : (i : ℕ) → i < n → slice_index v.vector i ≡ number_at ps j i
    pub sums : (k : ℕ) → k < w → slice_index v.totals k ≡ total_at ps j k

  -- the view is all segments at one event, not before the one and not after the other
  pub record OneStep (n w : ℕ) (ps : List Published) (begin end : ℕ) (v : View) : Type 0 where
    pub at : ℕ
    pub after : begin ≤ at
    pub by : at ≤ end
    pub right : IsMoment n w ps at v
