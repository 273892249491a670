-- A buffer that is filled item by item.
use Rattle.std.proofs.Common.{◌≡◌, ◌⊎◌, ⊎_elim, inl, inr, ℕ, ◌+◌, ◌*◌, ◌<◌, List, [], ◌∷◌, length, set, get_or, sym, ap, refl}
use Rattle.std.proofs.Common.{◌∙◌, subst, arith, get_or-set_same, get_or-set_other}
use Rattle.std.specs.List.{Contains}
use Rattle.std.proofs.lemmas.Bool.{cases_eq}
use Rattle.std.proofs.lemmas.List.Elements.{Contains-append_right, Contains-append_cases}
use Rattle.std.proofs.lemmas.List.{same_lists, get_or_default}
use Rattle.snapshot_scan.specs.ChangedItems.{ChangedView, Notes}
use Rattle.register_rule.specs.declared.board.Board.{Board}
use Rattle.register_rule.specs.declared.seats.WorkSeat.{WorkSeat}
use Rattle.segment_layout.specs.Layout.{depth, span}
use Rattle.register_rule.specs.declared.view.Member.{Member}
use Rattle.register_rule.specs.Seats.{worker_of, start_of}
use Rattle.register_rule.specs.Words.{version_item}
use Rattle.snapshot_update.specs.BufferImages.{with_hidden}
use Rattle.snapshot_update.specs.Conditions.{MayStore, HasFilled}
use Rattle.snapshot_update.specs.Noting.{SoFar}
use Rattle.snapshot_scan.proofs.Noted.{none_listed}

only_one : (x j : ℕ) → Contains (x ∷ []) j → x ≡ j
only_one x j h = let lt = h.1 in let zero : h.0 ≡ 0 = omega (arith, lt) in subst (λ (k : ℕ). get_or (x ∷ []) k j ≡ j) zero h.2

-- an item at which they are the same
pub so_far_same : (n : ℕ) (changed : ChangedView) (old new : List ℕ) → get_or old n 0 ≡ get_or new n 0 → SoFar n changed old new
    → SoFar (n + 1) changed old new
so_far_same n changed old new e is = record {
  differ = λ h j lt other. elim (cases_eq j n) [
    | inl here ↦ subst (λ (i : ℕ). get_or old i 0 ≡ get_or new i 0) (sym here) e
    | inr apart ↦ is.differ h j (omega arith) other
  ];
  inside = λ j h. let lt = is.inside j h in omega arith;
  listed = is.listed;
  longer = let l = is.longer in omega arith;
  fits = λ few. is.fits (omega arith);
}

-- one at which they differ
pub so_far_noted : (n : ℕ) (was now : ChangedView) (old new : List ℕ) → (get_or old n 0 ≡ get_or new n 0 → ⊥) → Notes n was now
    → SoFar n was old new → SoFar (n + 1) now old new
so_far_noted n was now old new ne notes is = record {
  differ = λ h j lt other. elim (cases_eq j n) [
    | inl here ↦ absurd (other (subst (Contains now.items) (sym here) (notes.notes h)))
    | inr apart ↦ is.differ (notes.listed h) j (omega arith) (λ there. other (notes.keeps h j there))
  ];
  inside = λ j h. ⊎_elim (λ there. let lt = is.inside j there in omega arith) (λ here. omega (arith, here)) (notes.others j h);
  listed = λ j h same. ⊎_elim (λ there. is.listed j there same)
      (λ here. ne (subst (λ (i : ℕ). get_or old i 0 ≡ get_or new i 0) here same)) (notes.others j h);
  longer = let l = is.longer in let m = notes.longer in omega arith;
  fits = λ few. let l = is.longer in notes.fits (is.fits (omega arith)) (omega arith);
}

-- a store of the word that is to be there, at an item n: the items below it are as they should be, and then this one, too
pub below_set : (xs ys now : List ℕ) (n word : ℕ) → n < length xs → now ≡ set xs n word → word ≡ get_or ys n 0
    → ((j : ℕ) → j < n → get_or xs j 0 ≡ get_or ys j 0) → (j : ℕ) → j < n + 1 → get_or now j 0 ≡ get_or ys j 0
below_set xs ys now n word lt is e below j within = ap (λ (l : List ℕ). get_or l j 0) is ∙ elim (cases_eq j n) [
  | inl here ↦ subst (λ (k : ℕ). get_or (set xs n word) k 0 ≡ get_or ys k 0) (sym here) (get_or-set_same xs n word 0 lt ∙ e)
  | inr apart ↦ get_or-set_other xs n j word 0 apart ∙ below j (omega arith)
]

-- a store of the word that is to be there: an item that was as it should be is so still
pub kept_set : (xs ys : List ℕ) (i word j : ℕ) → i < length xs → word ≡ get_or ys i 0 → get_or xs j 0 ≡ get_or ys j 0
    → get_or (set xs i word) j 0 ≡ get_or ys j 0
kept_set xs ys i word j lt e same = elim (cases_eq j i) [
  | inl here ↦ subst (λ (k : ℕ). get_or (set xs i word) k 0 ≡ get_or ys k 0) (sym here) (get_or-set_same xs i word 0 lt ∙ e)
  | inr apart ↦ get_or-set_other xs i j word 0 apart ∙ same
]

-- stores that are none
pub not_filled : {N C H G : ℕ} (b : Board N C H G) (hidden : List ℕ) (s : WorkSeat) → MayStore b s hidden → HasFilled b hidden s s
not_filled b hidden s may = record {
  stores = may;
  index = refl;
  member = ap (λ (l : List ℕ). with_hidden l (worker_of s)) may.exact;
}

-- stores after stores
pub filled_on : {N C H G : ℕ} (b : Board N C H G) (one two : List ℕ) (s s' s'' : WorkSeat) → HasFilled b one s s'
    → HasFilled b two s' s'' → HasFilled b two s s''
filled_on b one two s s' s'' x y = record {
  stores = y.stores;
  index = y.index ∙ x.index;
  member = y.member ∙ ap (with_hidden two) x.member;
}

-- and the hidden buffer begins where it began
pub start_stays : {N C H G : ℕ} (b : Board N C H G) (n w : ℕ) (hidden : List ℕ) (s s' : WorkSeat) → HasFilled b hidden s s'
    → start_of n w s' ≡ start_of n w s
start_stays b n w hidden s s' x =
    let made : length (worker_of s').work.made ≡ length (worker_of s).work.made = ap (λ (m : Member). length m.work.made) x.member
    in
    λ z. x.index z * span (depth n w) + version_item (depth n w) (made z + 1) 0

-- whether an item is listed
pub listed_or : (xs : List ℕ) (j : ℕ) → Contains xs j ⊎ ¬ (Contains xs j)
listed_or [] j = inr (none_listed j)
listed_or (x ∷ xs) j = elim (cases_eq x j) [
  | inl here ↦ inl (0, omega arith, here)
  | inr apart ↦ ⊎_elim
      (λ there. inl (Contains-append_right (x ∷ []) xs j there))
      (λ nowhere. inr (λ h. ⊎_elim (λ first. apart (only_one x j first)) nowhere (Contains-append_cases (x ∷ []) xs j h)))
      (listed_or xs j)
]

-- what is not missing is listed
pub listed_if : (xs : List ℕ) (j : ℕ) → ((Contains xs j → ⊥) → ⊥) → Contains xs j
listed_if xs j h = ⊎_elim (λ has. has) (λ none. absurd (h none)) (listed_or xs j)

-- a buffer that has the word that it should at each item
pub all_filled : (xs ys : List ℕ) (n : ℕ) → length xs ≡ n → length ys ≡ n → ((j : ℕ) → j < n → get_or xs j 0 ≡ get_or ys j 0)
    → xs ≡ ys
all_filled xs ys n long long' same = same_lists xs ys (long ∙ sym long') (λ k d lt.
    get_or_default xs k d 0 lt ∙ (same k (omega arith) ∙ get_or_default ys k 0 d (omega arith)))
