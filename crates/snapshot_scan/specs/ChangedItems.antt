-- Items of a list at which something may have changed.
use Rattle.std.specs.Prelude.{◌≡◌, ℕ, ◌+◌, ◌<◌, ◌≤◌, ◌⊎◌, Bool, false, List, length, slice_index, Contains}

-- items at which something may have changed: these, or all of them
pub record ChangedView : Type 0 where
  pub all : Bool
  pub items : List ℕ

-- all items stay all; else the old items are listed, and this one, and no other. There is room for 256
pub record Notes (item : ℕ) (old new : ChangedView) : Type 0 where
  pub listed : new.all ≡ false → old.all ≡ false
  pub keeps : new.all ≡ false → (j : ℕ) → Contains old.items j → Contains new.items j
  pub notes : new.all ≡ false → Contains new.items item
  pub others : (j : ℕ) → Contains new.items j → Contains old.items j ⊎ (j ≡ item)
  pub longer : length new.items ≤ length old.items + 1
  pub fits : old.all ≡ false → length old.items < 256 → new.all ≡ false

-- each of these items, so much further along the buffer, is noted, and no other
pub record NotesEach (shift : ℕ) (items : List ℕ) (old new : ChangedView) : Type 0 where
  pub listed : new.all ≡ false → old.all ≡ false
  pub keeps : new.all ≡ false → (j : ℕ) → Contains old.items j → Contains new.items j
  pub notes : new.all ≡ false → (j : ℕ) → Contains items j → Contains new.items (j + shift)
  pub others : (j : ℕ) → Contains new.items j → Contains old.items j ⊎ ((i : ℕ) × Contains items i × (j ≡ i + shift))

-- of w sums those differ at no items but the ones that are listed: what was listed is listed, and no more but sums of them
pub record ListsChanges (w : ℕ) (sums sums' : List ℕ) (old new : ChangedView) : Type 0 where
  pub listed : new.all ≡ false → old.all ≡ false
  pub keeps : new.all ≡ false → (j : ℕ) → Contains old.items j → Contains new.items j
  pub same : new.all ≡ false → (k : ℕ) → k < w → ¬ (Contains new.items k) → slice_index sums' k ≡ slice_index sums k
  pub inside : (j : ℕ) → Contains new.items j → Contains old.items j ⊎ (j < w)

-- of w sums those differ at no items but the ones that are listed, and these are among them
pub record Lists (w : ℕ) (sums sums' : List ℕ) (changed : ChangedView) : Type 0 where
  pub same : changed.all ≡ false → (k : ℕ) → k < w → ¬ (Contains changed.items k) → slice_index sums' k ≡ slice_index sums k
  pub inside : (j : ℕ) → Contains changed.items j → j < w
