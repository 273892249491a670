-- How the opening and the confirming loads of one member lie between each other. A load is a place, and the number found there.
use Rattle.std.specs.Prelude.{◌≡◌, ◌⊎◌, ℕ, ◌<◌, ◌≤◌, false, List, length}
use mathlib.Core.Option.{some}
use lib.ListN.{get_elem?}
use Rattle.register_rule.specs.declared.view.Look.{Look}

-- of two loads of one place the later one found no less
abbrev pub AreRising : List (ℕ × ℕ) → Type 0
AreRising xs = (p q : ℕ) (x y : ℕ × ℕ) → p ≤ q → get_elem? xs p ≡ some x → get_elem? xs q ≡ some y → x.0 ≡ y.0 → x.1 ≤ y.1

-- `before` has for each confirming load how many opening loads were made before it
module _ (opened confirmed : List (ℕ × ℕ)) (before : List ℕ) where
  -- an opening load of its place found the number of this look; and if it is confirmed, or found moved, then by a confirming
  -- load of its place that was made later
  abbrev pub IsTried : Look → Type 0
  IsTried l = (p : ℕ) × (get_elem? opened p ≡ some (l.place, l.number))
      × (((l.sure ≡ false) × (l.found ≡ 0))
      ⊎ ((q : ℕ) × (k : ℕ) × (get_elem? confirmed q ≡ some (l.place, l.found)) × (get_elem? before q ≡ some k) × (p < k)))

-- in the order in which all loads of both lists were made the numbers of each place rose; `looks` are the places of the present
-- try
pub record AreOrdered (opened confirmed : List (ℕ × ℕ)) (before : List ℕ) (looks : List Look) : Type 0 where
  pub each : length before ≡ length confirmed
  pub inside : (q k : ℕ) → get_elem? before q ≡ some k → k ≤ length opened
  pub order : (p q j k : ℕ) → p ≤ q → get_elem? before p ≡ some j → get_elem? before q ≡ some k → j ≤ k
  pub opens : AreRising opened
  pub confirms : AreRising confirmed
  -- a confirming load found no less than each opening load of its place before it, and no more than each one after it
  pub risen : (p q k : ℕ) (x y : ℕ × ℕ) → get_elem? opened p ≡ some x → get_elem? confirmed q ≡ some y
      → get_elem? before q ≡ some k → x.0 ≡ y.0
      → (p < k → x.1 ≤ y.1) × (k ≤ p → y.1 ≤ x.1)
  pub tried : (q : ℕ) (l : Look) → get_elem? looks q ≡ some l → IsTried opened confirmed before l
