-- The vectors of snapshots, by their places.
use Rattle.std.proofs.Common.{◌≡◌, ℕ, ◌<◌, ◌∙◌, List, length, get_or, sym, ap}
use mathlib.Core.Option.{some, some-injective}
use lib.ListN.{get_elem?}
use Rattle.register_rule.proofs.Words.{there}
use Rattle.snapshot_scan.proofs.Words.{at_map}
use Rattle.snapshot_scan.specs.Snapshots.{Taken}
use Rattle.chain_law.specs.History.{vectors_of}

pub vector_at : (l : List Taken) (k : ℕ) (s : Taken) → k < length l → s ≡ get_or l k s
    → get_elem? (vectors_of l) k ≡ some s.vector
vector_at l k s lt is = at_map (λ (t : Taken). t.vector) l k s (there l k s lt ∙ ap some (sym is))

pub vector_is : (l : List Taken) (k : ℕ) (s : Taken) (v : List ℕ) → k < length l → s ≡ get_or l k s
    → get_elem? (vectors_of l) k ≡ some v → v ≡ s.vector
vector_is l k s v lt is at = some-injective v s.vector (sym at ∙ vector_at l k s lt is)
