-- What lists of publishes add to each word of a row. `adds` tells what a list of operations adds to a word, and `accepts` which
-- lists a row of these words accepts. They are parameters, so that the rule is proved without a word of counters and buckets; the
-- contracts of the code give `sum_ops` and `Accepts` of ledger_core.
use Rattle.std.specs.Prelude.{ℕ, suc, ◌+◌, Option, Some, None, List, [], ◌∷◌, ◌++◌, take}
use Rattle.ledger_core.specs.declared.op.Op.{Op}
use Rattle.register_rule.specs.declared.view.PublishEntry.{PublishEntry}
use Rattle.register_rule.specs.declared.view.Answer.{Answer}

module _ (adds : List Op → ℕ → ℕ) where
  -- the word k of the row after these publishes
  abbrev pub word_after : List PublishEntry → ℕ → ℕ
  word_after [] k = 0
  word_after (x ∷ xs) k = adds x.ops k + word_after xs k

  -- the total of the word k at this vector: the sum of the rows of the workers from i on, at its versions; made i is what worker
  -- i published
  abbrev pub vector_total : (ℕ → List PublishEntry) → (i : ℕ) → List ℕ → (k : ℕ) → ℕ
  vector_total made i [] k = 0
  vector_total made i (s ∷ vector) k = word_after (take s (made i)) k + vector_total made (suc i) vector k

  -- each list was accepted by the row of those before it
  abbrev pub AcceptedInTurn : ((ℕ → ℕ) → List Op → Type 0) → (before after : List PublishEntry) → Type 0
  AcceptedInTurn accepts before [] = Unit {0}
  AcceptedInTurn accepts before (x ∷ xs) = accepts (word_after before) x.ops × AcceptedInTurn accepts (before ++ x ∷ []) xs

-- what the last version lends
abbrev pub last_lent : List PublishEntry → Option Answer
last_lent [] = None
last_lent (m ∷ []) = m.lends
last_lent (m ∷ x ∷ xs) = last_lent (x ∷ xs)

-- a flag is 1 where something is lent
abbrev pub flag_of : Option Answer → ℕ
flag_of None = 0
flag_of (Some a) = 1
