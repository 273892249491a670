-- The four workers of a script, and what a settled snapshot says of them.
use Rattle.std.proofs.Common.{◌≡◌, ℕ, zero, suc, ◌<◌, List, [], ◌∷◌, length, map, refl, sym, ap, subst, ◌∙◌, arith}
use mathlib.Core.Option.{some, some-injective, some-ne-none}
use lib.ListN.{get_elem?}
use Rattle.snapshot_scan.proofs.Words.{at_map}
use Rattle.snapshot_scan.specs.Snapshots.{Taken}
use Rattle.snapshot_update.specs.declared.worker.Worker.{Worker}
use Rattle.snapshot_update.specs.Workers.{index_of, lists_of}
use Rattle.chain_law.specs.Settled.{HasIndex, IsSettled}

abbrev four : List ℕ
four = 0 ∷ 1 ∷ 2 ∷ 3 ∷ []

from_map : {X Y : Type 0} (f : X → Y) (xs : List X) (p : ℕ) (y : Y) → get_elem? (map f xs) p ≡ some y → (x : X)
    × (get_elem? xs p ≡ some x) × (f x ≡ y)
from_map f [] p y at = absurd (some-ne-none y (sym at))
from_map f (x ∷ xs) zero y at = (x, refl, some-injective (f x) y at)
from_map f (x ∷ xs) (suc p) y at = from_map f xs p y at

place_is : (p i : ℕ) → get_elem? four p ≡ some i → i ≡ p
place_is zero i at = sym (some-injective 0 i at)
place_is (suc zero) i at = sym (some-injective 1 i at)
place_is (suc (suc zero)) i at = sym (some-injective 2 i at)
place_is (suc (suc (suc zero))) i at = sym (some-injective 3 i at)
place_is (suc (suc (suc (suc p)))) i at = absurd (some-ne-none i (sym at))

there : (i : ℕ) → i < 4 → get_elem? four i ≡ some i
there zero lt = refl
there (suc zero) lt = refl
there (suc (suc zero)) lt = refl
there (suc (suc (suc zero))) lt = refl
there (suc (suc (suc (suc i)))) lt = absurd (omega (arith, lt))

module _ {N C H G : ℕ} where
  -- all four are there
  pub has_all : (ws : List (Worker N C H G)) → map index_of ws ≡ four → (i : ℕ) → i < 4 → HasIndex ws i
  has_all ws all i lt =
      let found = from_map index_of ws i i (subst (λ (l : List ℕ). get_elem? l i ≡ some i) (sym all) (there i lt)) in
      (i, found.0, found.1, found.2)

  abbrev pub count_of : Worker N C H G → ℕ
  count_of w = length (lists_of w)

  abbrev Counts : List (Worker N C H G) → List ℕ → Type 0
  Counts ws vector = (p : ℕ) (w : Worker N C H G) → get_elem? ws p ≡ some w → get_elem? vector p ≡ some (count_of w)

  in_order : (ws : List (Worker N C H G)) (vector : List ℕ) → length vector ≡ length ws → Counts ws vector
      → vector ≡ map count_of ws
  in_order [] [] all each = refl
  in_order [] (x ∷ xs) all each = absurd (omega (arith, all))
  in_order (w ∷ ws) [] all each = absurd (omega (arith, all))
  in_order (w ∷ ws) (x ∷ xs) all each =
      let first : x ≡ count_of w = some-injective x (count_of w) (each 0 w refl) in
      let rest : xs ≡ map count_of ws = in_order ws xs (omega (arith, all)) (λ p v at. each (suc p) v at) in
      ap (λ (n : ℕ). n ∷ xs) first ∙ ap (λ (ns : List ℕ). count_of w ∷ ns) rest

  -- the numbers of a settled snapshot, worker by worker
  pub settled_numbers : (ws : List (Worker N C H G)) (out : Taken) → map index_of ws ≡ four → length out.vector ≡ length ws
      → IsSettled ws out → out.vector ≡ map count_of ws
  settled_numbers ws out all long settled = in_order ws out.vector long (λ p w at.
      let index : index_of w ≡ p =
      place_is p (index_of w) (subst (λ (l : List ℕ). get_elem? l p ≡ some (index_of w)) all (at_map index_of ws p w at)) in
      subst (λ (i : ℕ). get_elem? out.vector i ≡ some (count_of w)) index (settled.vector p w at))
