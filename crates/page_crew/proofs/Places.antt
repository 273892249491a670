-- What stands at the places of a list.
use Rattle.std.proofs.Common.{◌≡◌, ℕ, zero, suc, ◌+◌, ◌<◌, List, [], ◌∷◌, length, map, drop, set, refl, sym, ap, ◌∙◌, arith}
use Rattle.std.proofs.lemmas.List.{length-set}
use mathlib.Core.Logic.{dite}
use native.Mathlib.Decide.{ℕ_discrete}
use mathlib.Core.Option.{some, some-injective, some-ne-none}
use lib.ListN.{get_elem?}
use Rattle.snapshot_scan.specs.Snapshots.{Taken}
use Rattle.chain_law.proofs.Places.{set_else}

-- the items from a place on are the one at the place, and those behind it
pub drop_next : {A : Type 0} (l : List A) (p : ℕ) (x : A) → get_elem? l p ≡ some x → drop p l ≡ x ∷ drop (suc p) l
drop_next [] p x e = absurd (some-ne-none x (sym e))
drop_next (y ∷ l) zero x e = ap (λ z. z ∷ l) (some-injective y x e)
drop_next (y ∷ l) (suc p) x e = drop_next l p x e

-- an item of a list that was mapped
pub mapped_at : {A B : Type 0} (f : A → B) (l : List A) (p : ℕ) (y : B) → get_elem? (map f l) p ≡ some y
    → (x : A) × (get_elem? l p ≡ some x) × (f x ≡ y)
mapped_at f [] p y e = absurd (some-ne-none y (sym e))
mapped_at f (x ∷ l) zero y e = (x, refl, some-injective (f x) y e)
mapped_at f (x ∷ l) (suc p) y e = mapped_at f l p y e

-- the item that was put at a place
pub set_here : {A : Type 0} (l : List A) (i : ℕ) (a : A) → i < length l → get_elem? (set l i a) i ≡ some a
set_here [] i a lt = absurd (omega (arith, lt))
set_here (x ∷ l) zero a lt = refl
set_here (x ∷ l) (suc i) a lt = set_here l i a (omega (arith, lt))

-- one word more of a row is what it is to be
pub next_total : (total_of : ℕ → ℕ) (width : ℕ) (numbers : List ℕ) (old new : Taken) (word value : ℕ)
    → new ≡ record old { totals = set old.totals word value } → word < length old.totals → value ≡ total_of word
    → record {
      totals : (k : ℕ) → k < word → get_elem? old.totals k ≡ some (total_of k);
      wide : length old.totals ≡ width;
      vector : old.vector ≡ numbers;
    }
    → record {
      totals : (k : ℕ) → k < word + 1 → get_elem? new.totals k ≡ some (total_of k);
      wide : length new.totals ≡ width;
      vector : new.vector ≡ numbers;
    }
next_total total_of width numbers old new word value is within sum before =
    let totals = ap (λ (t : Taken). t.totals) is in
    record {
      totals = λ k small. ap (λ (l : List ℕ). get_elem? l k) totals ∙ dite (ℕ_discrete k word)
          (λ e. ap (get_elem? (set old.totals word value)) e
          ∙ (set_here old.totals word value within ∙ ap some (sum ∙ ap total_of (sym e))))
          (λ other. set_else old.totals word k value other ∙ before.totals k (omega (arith, small, other)));
      wide = ap (λ (l : List ℕ). length l) totals ∙ (length-set old.totals word value ∙ before.wide);
      vector = ap (λ (t : Taken). t.vector) is ∙ before.vector;
    }
