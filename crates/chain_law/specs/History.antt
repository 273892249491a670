-- One history of publishes through a list of vectors.
use Rattle.std.specs.Prelude.{◌≡◌, ℕ, suc, ◌+◌, ◌<◌, ◌≤◌, ◌==◌, cond, List, [], ◌∷◌, ◌++◌, length, map, take, replicate}
use mathlib.Core.Option.{some}
use lib.ListN.{get_elem?}
use Rattle.register_rule.specs.History.{Below}
use Rattle.snapshot_scan.specs.Snapshots.{Taken}
use Rattle.chain_law.specs.declared.turns.Turn.{Turn}
use Rattle.chain_law.specs.declared.turns.ChainFault.{ChainFault}
use Rattle.chain_law.specs.declared.turns.ChainFault.TheVariants.{NotChain, NoMemory}

-- their vectors
abbrev pub vectors_of : List Taken → List (List ℕ)
vectors_of = map (λ t. t.vector)

-- how often worker i published in these turns
abbrev pub by_of : (i : ℕ) → List Turn → ℕ
by_of i [] = 0
by_of i (t ∷ ts) = cond (t.worker == i) t.by 0 + by_of i ts

-- the turns from u to v of the workers below k: one for each whose number rose, workers rising
pub record IsPiece (k : ℕ) (u v : List ℕ) (turns : List Turn) : Type 0 where
  pub sums : (i x y : ℕ) → i < k → get_elem? u i ≡ some x → get_elem? v i ≡ some y → x + by_of i turns ≡ y
  pub turn : (p : ℕ) (t : Turn) → get_elem? turns p ≡ some t → (t.worker < k) × (0 < t.by)
  pub rise : (p : ℕ) (s t : Turn) → get_elem? turns p ≡ some s → get_elem? turns (suc p) ≡ some t → s.worker < t.worker

-- behind the old turns stand those from u to v
abbrev pub IsGrown : (k : ℕ) (u v : List ℕ) (old new : List Turn) → Type 0
IsGrown k u v old new = (piece : List Turn) × (new ≡ old ++ piece) × IsPiece k u v piece

-- u is what stands before vector k, and before the first one n zeros
pub record IsBefore (n : ℕ) (vectors : List (List ℕ)) (k : ℕ) (u : List ℕ) : Type 0 where
  pub all : length u ≡ n
  pub zeros : k ≡ 0 → u ≡ replicate n 0
  pub before : (j : ℕ) → suc j ≡ k → get_elem? vectors j ≡ some u

-- to each vector belongs a beginning of one list of turns, and in it each of the n workers published as often as the vector
-- says; `ends` is how long these beginnings are
pub record IsHistory (n : ℕ) (vectors : List (List ℕ)) (turns : List Turn) : Type 0 where
  pub ends : List ℕ
  pub all : length ends ≡ length vectors
  pub rise : (j a b : ℕ) → get_elem? ends j ≡ some a → get_elem? ends (suc j) ≡ some b → a ≤ b
  pub within : (j e : ℕ) → get_elem? ends j ≡ some e → e ≤ length turns
  -- nothing stands behind the last one
  pub whole : (j : ℕ) → suc j ≡ length vectors → get_elem? ends j ≡ some (length turns)
  pub none : vectors ≡ [] → turns ≡ []
  pub numbers : (j e i x : ℕ) (v : List ℕ) → get_elem? vectors j ≡ some v → get_elem? ends j ≡ some e → get_elem? v i ≡ some x
      → by_of i (take e turns) ≡ x
  pub wide : (j : ℕ) (v : List ℕ) → get_elem? vectors j ≡ some v → length v ≡ n
  pub turn : (p : ℕ) (t : Turn) → get_elem? turns p ≡ some t → (t.worker < n) × (0 < t.by)
  -- between two ends workers rise: each has one turn at most
  pub once : (p : ℕ) (s t : Turn) → get_elem? turns p ≡ some s → get_elem? turns (suc p) ≡ some t
      → ((j e : ℕ) → get_elem? ends j ≡ some e → ¬ (e ≡ suc p)) → s.worker < t.worker

-- v is below u at some place
abbrev pub Falls : (u v : List ℕ) → Type 0
Falls u v = (i x y : ℕ) × (get_elem? u i ≡ some x) × (get_elem? v i ≡ some y) × (y < x)

-- of the first k vectors none is below the one before it at any place
abbrev pub AreRising : (k : ℕ) → List (List ℕ) → Type 0
AreRising k vectors = (j : ℕ) (u v : List ℕ) → suc j < k → get_elem? vectors j ≡ some u → get_elem? vectors (suc j) ≡ some v
    → Below u v

-- vector b is the first that is below the one before it at some place, which is a
pub record IsFirstFall (vectors : List (List ℕ)) (a b : ℕ) : Type 0 where
  pub next : b ≡ suc a
  pub before : AreRising b vectors
  pub u : List ℕ
  pub v : List ℕ
  pub from : get_elem? vectors a ≡ some u
  pub to : get_elem? vectors b ≡ some v
  pub falls : Falls u v

-- why there is no history
abbrev pub IsChainFault : List (List ℕ) → ChainFault → Type 0
IsChainFault vectors (NotChain a b) = IsFirstFall vectors a b
IsChainFault vectors NoMemory = AreRising (length vectors) vectors

-- the number of each fault
abbrev pub chain_fault_number : ChainFault → ℕ
chain_fault_number (NotChain a b) = 17
chain_fault_number NoMemory = 6
