-- Noting one list's items in another, one by one.
use Rattle.std.proofs.Common.{◌≡◌, ◌⊎◌, inl, inr, ⊎_elim, ℕ, ◌+◌, ◌-◌, ◌<◌, ◌≤◌, true, false, List, length, take, Contains}
use Rattle.std.proofs.Common.{get_or, sym, ap, ◌∙◌, subst, arith, below_more}
use Rattle.std.proofs.lemmas.List.{get_or-take, length-take-le}
use Rattle.std.proofs.lemmas.Bool.{cases_order}
use Rattle.register_rule.proofs.Words.{there, read_at}
use Rattle.snapshot_scan.specs.ChangedItems.{ChangedView, Notes, NotesEach}

-- the first q of them are noted
pub record NotesFirst (shift q : ℕ) (items : List ℕ) (old new : ChangedView) : Type 0 where
  pub listed : new.all ≡ false → old.all ≡ false
  pub keeps : new.all ≡ false → (j : ℕ) → Contains old.items j → Contains new.items j
  pub notes : new.all ≡ false → (k : ℕ) → k < q → Contains new.items (get_or items k 0 + shift)
  pub others : (j : ℕ) → Contains new.items j → Contains old.items j ⊎ ((k : ℕ) × (k < q) × (j ≡ get_or items k 0 + shift))

pub notes_next : (shift q : ℕ) (items : List ℕ) (old mid new : ChangedView) → NotesFirst shift q items old mid
    → Notes (get_or items q 0 + shift) mid new → NotesFirst shift (q + 1) items old new
notes_next shift q items old mid new a b = record {
  listed = λ h. a.listed (b.listed h);
  keeps = λ h j has. b.keeps h j (a.keeps (b.listed h) j has);
  notes = λ h. below_more (λ (k : ℕ). Contains new.items (get_or items k 0 + shift)) q
      (λ k lt. b.keeps h _ (a.notes (b.listed h) k lt)) (b.notes h);
  others = λ j h. ⊎_elim (λ was. ⊎_elim (λ o. inl o) (λ t. let lt = t.1 in inr (t.0, omega (arith, lt), t.2)) (a.others j was))
      (λ e. inr (q, omega arith, e)) (b.others j h);
}

-- an element's place, whatever is read past the end
pub at_place : (items : List ℕ) (k : ℕ) → Contains items k → (q : ℕ) × (q < length items) × (get_or items q 0 ≡ k)
at_place items k has = (has.0, has.1, read_at items has.0 (get_or items has.0 k) 0 (there items has.0 k has.1) ∙ has.2)

pub from_place : (items : List ℕ) (q : ℕ) → q < length items → Contains items (get_or items q 0)
from_place items q lt = (q, lt, read_at items q (get_or items q 0) (get_or items q 0) (there items q 0 lt))

pub notes_each : (shift q : ℕ) (items : List ℕ) (old new : ChangedView) → q ≡ length items → NotesFirst shift q items old new
    → NotesEach shift items old new
notes_each shift q items old new all a = record {
  listed = a.listed;
  keeps = a.keeps;
  notes = λ h j has. let t = at_place items j has in let lt = t.1 in
      subst (λ (k : ℕ). Contains new.items (k + shift)) t.2 (a.notes h t.0 (omega (arith, lt, all)));
  others = λ j h. ⊎_elim (λ o. inl o) (λ t. let lt = t.1 in
      inr (get_or items t.0 0, from_place items t.0 (omega (arith, lt, all)), t.2)) (a.others j h);
}

-- the place of an element of the first n of a list
pub in_first : (n : ℕ) (xs : List ℕ) (j : ℕ) → n ≤ length xs → Contains (take n xs) j → (q : ℕ) × (q < n) × (get_or xs q 0 ≡ j)
in_first n xs j few has =
    let t = at_place (take n xs) j has in let lt = t.1 in let long = length-take-le n xs few in
    let low : t.0 < n = omega (arith, lt, long) in
    (t.0, low, sym (get_or-take n xs t.0 0 low) ∙ t.2)

pub of_first : (n : ℕ) (xs : List ℕ) (q j : ℕ) → n ≤ length xs → q < n → get_or xs q 0 ≡ j → Contains (take n xs) j
of_first n xs q j few lt is =
    let long = length-take-le n xs few in
    subst (λ (z : ℕ). Contains (take n xs) z) (get_or-take n xs q 0 lt ∙ is) (from_place (take n xs) q (omega (arith, lt, long)))

-- below a number, or so far above it
below_or_above : (q n : ℕ) → (q < n) ⊎ ((k : ℕ) × (q ≡ n + k))
below_or_above q n = ⊎_elim (λ e. inr (0, omega (arith, e)))
    (λ r. ⊎_elim (λ low. inl low) (λ high. inr (q - n, omega (arith, high))) r) (cases_order q n)

-- all stay all
pub notes_each_all : (shift : ℕ) (items : List ℕ) (c : ChangedView) → c.all ≡ true → NotesEach shift items c c
notes_each_all shift items c e = record {
  listed = λ h. h;
  keeps = λ _ j h. h;
  notes = λ h. let z = sym e ∙ h in absurd (cc);
  others = λ j h. inl h;
}

-- where not all can be listed
pub notes_each_full : (shift : ℕ) (items : List ℕ) (old new : ChangedView) → new.items ≡ old.items → new.all ≡ true
    → NotesEach shift items old new
notes_each_full shift items old new e all = record {
  listed = λ h. let z = sym all ∙ h in absurd (cc);
  keeps = λ h _ _. let z = sym all ∙ h in absurd (cc);
  notes = λ h. let z = sym all ∙ h in absurd (cc);
  others = λ j h. inl (subst (λ (l : List ℕ). Contains l j) e h);
}

-- written behind those that are listed
pub notes_each_behind : (shift first m : ℕ) (xs ys items : List ℕ) (old new : ChangedView)
    → first + m ≤ length xs → length ys ≡ length xs → length items ≡ m
    → old.items ≡ take first xs → new.items ≡ take (first + m) ys → new.all ≡ old.all
    → ((q : ℕ) → q < first → get_or ys q 0 ≡ get_or xs q 0)
    → ((k : ℕ) → k < m → get_or ys (first + k) 0 ≡ get_or items k 0 + shift)
    → NotesEach shift items old new
notes_each_behind shift first m xs ys items old new room same long was is all remembered written = record {
  listed = λ h. sym all ∙ h;
  keeps = λ _ j h. let t = in_first first xs j (omega arith) (subst (λ (l : List ℕ). Contains l j) was h) in let lt = t.1 in
      subst (λ (l : List ℕ). Contains l j) (sym is)
      (of_first (first + m) ys t.0 j (omega arith) (omega (arith, lt)) (remembered t.0 lt ∙ t.2));
  notes = λ _ j h. let t = at_place items j h in let lt = t.1 in let low : t.0 < m = omega (arith, lt, long) in
      subst (λ (l : List ℕ). Contains l (j + shift)) (sym is)
      (of_first (first + m) ys (first + t.0) (j + shift) (omega arith) (omega (arith, low))
      (written t.0 low ∙ ap (λ (z : ℕ). z + shift) t.2));
  others = λ j h. let t = in_first (first + m) ys j (omega arith) (subst (λ (l : List ℕ). Contains l j) is h) in let lt = t.1 in
      let at = t.2 in
      ⊎_elim (λ low. inl (subst (λ (l : List ℕ). Contains l j) (sym was)
      (of_first first xs t.0 j (omega arith) low (sym (remembered t.0 low) ∙ at))))
      (λ u. let e = u.1 in let low : u.0 < m = omega (arith, e, lt) in
      inr (
        get_or items u.0 0,
        from_place items u.0 (omega (arith, low, long)),
        sym at ∙ (ap (λ (z : ℕ). get_or ys z 0) e ∙ written u.0 low),
      ))
      (below_or_above t.0 first);
}
