-- Workers that are asked.
use Rattle.std.specs.Prelude.{◌≡◌, ◌⊎◌, ℕ, suc, ◌+◌, ◌<◌, nat_le, true, cond, List, [], ◌∷◌, ◌++◌, length, take, drop}
use Rattle.std.specs.Prelude.{slice_index, ◌≢◌}
use mathlib.Core.Option.{some}
use lib.ListN.{get_elem?}
use Rattle.ledger_core.specs.Vectors.{is_above}
use Rattle.register_rule.specs.declared.view.Asked.{Asked}
use Rattle.register_rule.specs.declared.view.ScanLog.{ScanLog}
use Rattle.register_rule.specs.ScanSteps.{rest, given_up_if_spent}

-- the vector is below the floor at some place
abbrev pub IsBelow : (floor vector : List ℕ) → Type 0
IsBelow floor vector = (q x y : ℕ) × (get_elem? floor q ≡ some x) × (get_elem? vector q ≡ some y) × (y < x)

-- an asked worker does not lend: it was not found under the same number again, its flag was read as 0, or its vector as
-- below the floor
abbrev pub DoesNotLend : (n : ℕ) → (floor : List ℕ) → Asked → Type 0
DoesNotLend n floor e = (e.number ≢ e.again) ⊎ ((get_elem? e.words 0 ≡ some 0) ⊎ IsBelow floor (take n (drop 1 e.words)))

-- an asked worker lends: it was found under the same number again, all its words were read, its flag is 1, and its vector is
-- below the floor nowhere
pub record Lends (n w : ℕ) (floor : List ℕ) (e : Asked) : Type 0 where
  pub same : e.number ≡ e.again
  pub all : length e.words ≡ 1 + n + w
  pub flag : slice_index e.words 0 ≡ 1
  pub above : is_above floor (take n (drop 1 e.words)) ≡ true

-- one worker more was asked
abbrev pub asked_too : Asked → ScanLog → ScanLog
asked_too e c = record c { asked = c.asked ++ e ∷ [] }

-- the first worker to be asked did not lend
abbrev pub refused : Asked → ScanLog → ScanLog
refused e c = record c { asked = c.asked ++ e ∷ []; trying = record c.trying { due = rest c.trying.due; asks = [] } }

-- the workers from q on that are to be asked: those whose number was found 2 or more above the base
abbrev pub due_from : (q : ℕ) → (base found : List ℕ) → List ℕ
due_from q [] found = []
due_from q (x ∷ base) [] = []
due_from q (x ∷ base) (f ∷ found) = cond (nat_le (x + 2) f) (q ∷ due_from (suc q) base found) (due_from (suc q) base found)

-- which worker was asked
abbrev pub asked_worker : Asked → ℕ
asked_worker e = e.worker

-- these workers were asked, one by one, and did not lend
abbrev pub refused_all : (n : ℕ) → List Asked → ScanLog → ScanLog
refused_all n [] c = c
refused_all n (e ∷ es) c = refused_all n es (given_up_if_spent n (refused e c))

-- these workers are to be asked next, under this floor
pub record MayAsk (low workers : List ℕ) (c : ScanLog) : Type 0 where
  pub due : c.trying.due ≡ workers
  pub looks : c.trying.looks ≡ []
  pub asks : c.trying.asks ≡ []
  pub floor : workers ≢ [] → c.trying.floor ≡ low
