-- Where sums change is listed.
use Rattle.std.proofs.Common.{◌≡◌, ◌≢◌, ◌⊎◌, ⊎_elim, ℕ, ◌+◌, ◌-◌, ◌%◌, ◌<◌, ◌≤◌, List, [], length, get_or, set, inl, inr}
use Rattle.std.proofs.Common.{sym, ap, ◌∙◌, subst, refl, arith, get_or-set_same, get_or-set_other}
use Rattle.std.specs.List.{Contains}
use mathlib.Core.Logic.{dite}
use native.Mathlib.Decide.{dec_lt}
use Rattle.std.specs.Int.{bit_at}
use lib.Bits.{bit_xor}
use Rattle.std.proofs.lemmas.Nat.Bits.{same_from_bits, bit_at_xor, bit_at-zero, bit_at-lt}
use Rattle.snapshot_scan.specs.ChangedItems.{ChangedView, Notes, ListsChanges, Lists}
use Rattle.snapshot_scan.specs.Exchange.{Exchanges, AreParts}
use Rattle.snapshot_scan.proofs.Noted.{none_listed}

-- nothing changes
pub moves_none : (w : ℕ) (sums : List ℕ) (c : ChangedView) → ListsChanges w sums sums c c
moves_none w sums c = record {
  listed = λ h. h;
  keeps = λ _ j h. h;
  same = λ _ k lt none. refl;
  inside = λ j h. inl h;
}

-- first so, then so
pub moves_then : (w : ℕ) (s t u : List ℕ) (a b c : ChangedView) → ListsChanges w s t a b → ListsChanges w t u b
    c → ListsChanges w s u a c
moves_then w s t u a b c first second = record {
  listed = λ h. first.listed (second.listed h);
  keeps = λ h j was. second.keeps h j (first.keeps (second.listed h) j was);
  same = λ h k lt none. second.same h k lt none ∙ first.same (second.listed h) k lt (λ was. none (second.keeps h k was));
  inside = λ j h. ⊎_elim (λ was. first.inside j was) (λ lt. inr lt) (second.inside j h);
}

-- one sum changes, and is listed
pub moves_one : (w k x : ℕ) (s t : List ℕ) (old new : ChangedView) → k < w → t ≡ set s k x → Notes k old new → ListsChanges w
    s t old new
moves_one w k x s t old new lt is notes = record {
  listed = notes.listed;
  keeps = notes.keeps;
  same = λ h j low none. let ne : j ≢ k = λ e. none (subst (Contains new.items) (sym e) (notes.notes h)) in
      ap (λ (l : List ℕ). get_or l j 0) is ∙ get_or-set_other s k j x 0 ne;
  inside = λ j h. ⊎_elim (λ was. inl was) (λ e. inr (omega (arith, e, lt))) (notes.others j h);
}

-- from an empty list on
pub lists_first : (w : ℕ) (s t : List ℕ) (old new : ChangedView) → old.items ≡ [] → ListsChanges w s t old new → Lists w s t new
lists_first w s t old new empty is = record {
  same = is.same;
  inside = λ j h. ⊎_elim (λ was. absurd (none_listed j (subst (λ (l : List ℕ). Contains l j) empty was))) (λ lt. lt)
      (is.inside j h);
}

-- more is listed
pub lists_then : (w : ℕ) (s t u : List ℕ) (a b : ChangedView) → Lists w s t a → ListsChanges w t u a b → Lists w s u b
lists_then w s t u a b first second = record {
  same = λ h k lt none. second.same h k lt none ∙ first.same (second.listed h) k lt (λ was. none (second.keeps h k was));
  inside = λ j h. ⊎_elim (λ was. first.inside j was) (λ lt. lt) (second.inside j h);
}

-- what is listed stays among the sums
pub moves_inside : (w : ℕ) (s t : List ℕ) (old new : ChangedView) → ((j : ℕ) → Contains old.items j → j < w) → ListsChanges w
    s t old new
    → (j : ℕ) → Contains new.items j → j < w
moves_inside w s t old new inside is j h = ⊎_elim (λ was. inside j was) (λ lt. lt) (is.inside j h)

below_or_not : (k n : ℕ) → (k < n) ⊎ (n ≤ k)
below_or_not k n = dite (dec_lt k n) (λ lt. inl lt) (λ not. inr (omega (arith, not)))

-- words in the place of others
module _ (n : ℕ) (old new : List ℕ) where
  -- words that are the same
  pub exchanges_same : (from to : ℕ) (s t : List ℕ) (a b : ChangedView)
      → ((k : ℕ) → from ≤ k → k < to → get_or old k 0 ≡ get_or new k 0) → t ≡ s → b ≡ a → Exchanges n from to old new s t a b
  exchanges_same from to s t a b same is is' = record {
    inside = λ k lt lt'. let e = same k lt lt' in let f = ap (λ (l : List ℕ). get_or l k 0) is in omega (arith, e, f);
    low = λ k lt. ap (λ (l : List ℕ). get_or l k 0) is;
    high = λ k lt. ap (λ (l : List ℕ). get_or l k 0) is;
    moves = subst (λ (x : ChangedView). ListsChanges n s t a x) (sym is')
        (subst (λ (l : List ℕ). ListsChanges n s l a a) (sym is) (moves_none n s a));
  }

  -- these words, and then those behind them
  pub exchanges_then : (from mid to : ℕ) (s t u : List ℕ) (a b c : ChangedView) → from ≤ mid → mid ≤ to
      → Exchanges n from mid old new s t a b → Exchanges n mid to old new t u b c → Exchanges n from to old new s u a c
  exchanges_then from mid to s t u a b c le le' first second = record {
    inside = λ k lt lt'. ⊎_elim
        (λ below. let e = first.inside k lt below in let f = second.low k below in omega (arith, e, f))
        (λ above. let e = first.high k above in let f = second.inside k above lt' in omega (arith, e, f))
        (below_or_not k mid);
    low = λ k lt. second.low k (omega (arith, lt, le)) ∙ first.low k lt;
    high = λ k lt. second.high k lt ∙ first.high k (omega (arith, lt, le'));
    moves = moves_then n s t u a b c first.moves second.moves;
  }

  -- one word
  pub exchanges_one : (k : ℕ) (s t : List ℕ) (a b : ChangedView) → k < n → n ≡ length s → get_or old k 0 ≤ get_or s k 0
      → t ≡ set s k (get_or s k 0 - get_or old k 0 + get_or new k 0) → Notes k a b → Exchanges n k (k + 1) old new s t a b
  exchanges_one k s t a b lt long part is notes = let x = get_or s k 0 - get_or old k 0 + get_or new k 0 in record {
    inside = λ j le lt'. let e : j ≡ k = omega (arith, le, lt') in
        let at : get_or t k 0 ≡ x = ap (λ (l : List ℕ). get_or l k 0) is ∙ get_or-set_same s k x 0 (omega (arith, lt, long)) in
        subst (λ (i : ℕ). get_or t i 0 + get_or old i 0 ≡ get_or s i 0 + get_or new i 0) (sym e) (omega (arith, at, part));
    low = λ j lt'. let ne : j ≢ k = omega (arith, lt') in ap (λ (l : List ℕ). get_or l j 0) is ∙ get_or-set_other s k j x 0 ne;
    high = λ j le. let ne : j ≢ k = omega (arith, le) in ap (λ (l : List ℕ). get_or l j 0) is ∙ get_or-set_other s k j x 0 ne;
    moves = moves_one n k x s t a b lt is notes;
  }

  -- the words behind them are parts of the sums still
  pub parts_still : (from to : ℕ) (s t : List ℕ) (a b : ChangedView) → Exchanges n from to old new s t a b → from ≤ to
      → AreParts from n old s → AreParts to n old t
  parts_still from to s t a b is le parts k above lt = let e = is.high k above in let p = parts k (omega (arith, le, above)) lt in
      (omega (arith, e, p.0), omega (arith, e, p.1))

-- bits that two numbers do not share: where there are none they are the same
pub no_bits : (a b : ℕ) → bit_xor a b ≡ 0 → a ≡ b
no_bits a b none = same_from_bits a b (λ i. let e = ap (λ (x : ℕ). bit_at x i) none in let z = bit_at-zero i in
    let x = bit_at_xor a b i in let p = bit_at-lt a i in let q = bit_at-lt b i in
    both (bit_at a i) (bit_at b i) p q (sym x ∙ (e ∙ z)))
  where
    both : (x y : ℕ) → x < 2 → y < 2 → (x + y) % 2 ≡ 0 → x ≡ y
    both x y p q e = omega (arith, p, q, e)
