-- The words that a list of one operation adds to.
use Rattle.std.specs.Prelude.{◌≡◌, ◌≢◌, ℕ, Option, Some, None, List, [], ◌∷◌, IsSomeAnd}
use Rattle.ledger_core.specs.declared.op.Op.{Op}
use Rattle.snapshot_update.specs.declared.op_words.OpWords.{OpWords}
use Rattle.snapshot_update.specs.declared.op_words.OpWords.TheVariants.{One, Three, Unknown}
use Rattle.snapshot_update.specs.Noting.{words_of}

-- the operation of a list of one; none is that of another list
abbrev pub IsOnly : List Op → Option Op → Type 0
IsOnly ops (Some op) = ops ≡ op ∷ []
IsOnly ops None = (op : Op) → ops ≢ op ∷ []

-- it is a list of one operation, which adds to these words of a row of c counters and h histograms
abbrev pub AreOnly : (c h : ℕ) → List Op → List ℕ → Type 0
AreOnly c h ops words = (op : Op) × (ops ≡ op ∷ []) × (words_of c h op ≡ words)

-- where they are known, these are the words of a list of one operation
abbrev pub AreOf : (c h : ℕ) → List Op → OpWords → Type 0
AreOf c h ops (One word) = AreOnly c h ops (word ∷ [])
AreOf c h ops (Three words) = AreOnly c h ops words
AreOf c h ops Unknown = Unit

-- where they are known, these are the words of this operation
abbrev pub AreWordsOf : (c h : ℕ) → Option Op → OpWords → Type 0
AreWordsOf c h only (One word) = IsSomeAnd only (λ op. words_of c h op ≡ word ∷ [])
AreWordsOf c h only (Three words) = IsSomeAnd only (λ op. words_of c h op ≡ words)
AreWordsOf c h only Unknown = Unit
