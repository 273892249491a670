-- What noting an item does.
use Rattle.std.proofs.Common.{◌≡◌, ℕ, ◌-◌, ◌<◌, ◌≤◌, true, List, [], ◌∷◌, ◌++◌, length, take, get_or, inl, inr, sym, ap, ◌∙◌}
use Rattle.std.proofs.Common.{subst, arith, length-append, ⊎_elim}
use Rattle.std.specs.List.{Contains}
use Rattle.std.proofs.lemmas.List.{get_or-take, length-take-le}
use Rattle.std.proofs.lemmas.List.Elements.{Contains-get_or, Contains-append_left, Contains-push, Contains-push_cases}
use Rattle.snapshot_scan.specs.ChangedItems.{ChangedView, Notes}

-- all stay all
pub notes_all : (item : ℕ) (c : ChangedView) → c.all ≡ true → Notes item c c
notes_all item c e = record {
  listed = λ h. h;
  keeps = λ _ j h. h;
  notes = λ h. let z = sym e ∙ h in absurd (cc);
  others = λ j h. inl h;
  longer = omega arith;
  fits = λ h _. h;
}

-- an item that is listed already
pub notes_again : (item : ℕ) (c : ChangedView) → Contains c.items item → Notes item c c
notes_again item c e = record {
  listed = λ h. h;
  keeps = λ _ j h. h;
  notes = λ _. e;
  others = λ j h. inl h;
  longer = omega arith;
  fits = λ h _. h;
}

-- where no more can be listed
pub notes_full : (item : ℕ) (old new : ChangedView) → new.items ≡ old.items → new.all ≡ true → 256 ≤ length old.items
    → Notes item old new
notes_full item old new e all full = record {
  listed = λ h. let z = sym all ∙ h in absurd (cc);
  keeps = λ h _ _. let z = sym all ∙ h in absurd (cc);
  notes = λ h. let z = sym all ∙ h in absurd (cc);
  others = λ j h. inl (subst (λ (l : List ℕ). Contains l j) e h);
  longer = let same = ap length e in omega arith;
  fits = λ _ lt. absurd (omega arith);
}

-- where it is listed
pub notes_more : (item : ℕ) (old new : ChangedView) → new.items ≡ old.items ++ item ∷ [] → new.all ≡ old.all → Notes item old new
notes_more item old new e all = record {
  listed = λ h. sym all ∙ h;
  keeps = λ _ j h. subst (λ (l : List ℕ). Contains l j) (sym e) (Contains-append_left old.items (item ∷ []) j h);
  notes = λ _. subst (λ (l : List ℕ). Contains l item) (sym e) (Contains-push old.items item);
  others = λ j h. ⊎_elim (λ was. inl was) (λ is. inr (sym is))
      (Contains-push_cases old.items item j (subst (λ (l : List ℕ). Contains l j) e h));
  longer = let same = ap length e in omega (arith, same, length-append old.items (item ∷ []));
  fits = λ h _. all ∙ h;
}

-- the last item listed
pub last_there : (xs : List ℕ) (n d : ℕ) → 0 < n → n ≤ length xs → d ≡ get_or xs (n - 1) d → Contains (take n xs) d
last_there xs n d some few is =
    let long = length-take-le n xs few in
    subst (Contains (take n xs)) (get_or-take n xs (n - 1) d (omega arith) ∙ sym is)
    (Contains-get_or (take n xs) (n - 1) d (omega arith))

-- nothing is in a list of nothing
pub none_listed : (j : ℕ) → ¬ (Contains [] j)
none_listed j h = let lt = h.1 in absurd (omega (arith, lt))
