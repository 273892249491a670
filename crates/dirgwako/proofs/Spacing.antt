-- Bounds by rule, one after the other.
use Rattle.std.proofs.Common.{◌≡◌, ℕ, zero, suc, ◌+◌, ◌-◌, ◌*◌, ◌^◌, ◌<◌, ◌≤◌, ◌⊎◌, ⊎_elim, inl, inr, List, [], ◌∷◌, ◌++◌, take}
use Rattle.std.proofs.Common.{length, sym, ap, ◌∙◌, subst, refl, arith}
use Rattle.std.specs.Prelude.{slice_index, slice_set}
use Rattle.std.proofs.Math.Nat.{pow-suc}
use Rattle.std.proofs.lemmas.List.{length-take-le, get_or-take, take_more_set}
use Rattle.std.proofs.lemmas.List.FromFn.{map-range_with_len_more, get_or-map-range_with_len, take-map-range_with_len}
use Rattle.std.proofs.lemmas.List.FromFn.{length-map-range_with_len}
use Rattle.bucket_math.specs.Bounds.{AreBounds, FirstBadBound, IsBadBound}
use Rattle.dirgwako.specs.declared.bounds.Growth.{Growth}
use Rattle.dirgwako.specs.declared.bounds.Growth.TheVariants.{Add, Multiply}
use Rattle.dirgwako.specs.Spaced.{bounds_by, bound_at, bound_after}

-- the bound behind that of a place
pub bound_at-more : (growth : Growth) (start k : ℕ) → bound_at growth start (k + 1) ≡ bound_after growth (bound_at growth start k)
bound_at-more (Add width) start k = omega arith
bound_at-more (Multiply factor) start k =
    let one : k + 1 ≡ suc k = omega arith in
    let next : factor ^ (k + 1) ≡ factor ^ k * factor = ap (λ n. factor ^ n) one ∙ pow-suc factor k in
    ap (λ n. start * n) next ∙ omega arith

-- one more is made
pub more_made : (f : ℕ → ℕ) (places : List ℕ) (at bound : ℕ) → at < length places → take at places ≡ bounds_by f at → bound ≡ f at
    → take (at + 1) (slice_set places at bound) ≡ bounds_by f (at + 1)
more_made f places at bound lt made is =
    let low : 0 + at ≡ at = omega arith in
    take_more_set places at bound lt
    ∙ (ap (λ (z : List ℕ). z ++ bound ∷ []) made
    ∙ (ap (λ (n : ℕ). bounds_by f at ++ n ∷ []) is ∙ sym (map-range_with_len_more f 0 at at low)))

-- the bound of a place
pub bound_there : (f : ℕ → ℕ) (count at : ℕ) → at < count → slice_index (bounds_by f count) at ≡ f at
bound_there f count at lt = let low : 0 + at ≡ at = omega arith in get_or-map-range_with_len f 0 count at at 0 lt low

take_take : (at k : ℕ) (xs : List ℕ) → k ≤ at → take k (take at xs) ≡ take k xs
take_take at zero xs h = refl
take_take zero (suc k) xs h = absurd (omega (arith, h))
take_take (suc at) (suc k) [] h = refl
take_take (suc at) (suc k) (x ∷ xs) h = let low : k ≤ at = omega (arith, h) in ap (λ (z : List ℕ). x ∷ z) (take_take at k xs low)

there_too : (at k : ℕ) (xs : List ℕ) → k < at → slice_index (take at xs) k ≡ slice_index xs k
there_too at k xs h = get_or-take at xs k 0 h

bad_too : (at k : ℕ) (ys : List ℕ) → k < at → IsBadBound (take at ys) k → IsBadBound ys k
bad_too at k ys lt h =
    let here = there_too at k ys lt in
    let low : k - 1 < at = omega (arith, lt) in
    let before = there_too at (k - 1) ys low in
    ⊎_elim (λ e. inl e) (λ rest. ⊎_elim (λ great. inr (inl (omega (arith, great, here)))) (λ falls. let a = falls.0 in
    let b = falls.1 in inr (inr (a, omega (arith, b, here, before)))) rest) h

front_bad : (at k : ℕ) (ys : List ℕ) → at < length ys → FirstBadBound (take at ys) k → FirstBadBound ys k
front_bad at k ys lt h =
    let long = length-take-le at ys (omega (arith, lt)) in
    let inside = h.within in
    let low : k < at = omega (arith, inside, long) in
    record {
      within = omega (arith, low, lt);
      before = subst AreBounds (take_take at k ys (omega (arith, low))) h.before;
      bad = bad_too at k ys low h.bad;
    }

-- the first bad one, of a good front or of a bad one, behind which a bad bound stands
pub stopped : (at k : ℕ) (xs ys : List ℕ) → xs ≡ take at ys → at < length ys → IsBadBound ys at → FirstBadBound xs k
    ⊎ (AreBounds xs × (k ≡ length xs)) → FirstBadBound ys k
stopped at k xs ys is lt bad h =
    let long = ap (length {A = ℕ}) is ∙ length-take-le at ys (omega (arith, lt)) in
    ⊎_elim
    (λ first. front_bad at k ys lt (subst (λ (z : List ℕ). FirstBadBound z k) is first))
    (λ good. let same : at ≡ k = sym (good.1 ∙ long) in subst (FirstBadBound ys) same (record {
      within = lt;
      before = subst AreBounds is good.0;
      bad = bad;
    }))
    h

pub front_of : (f : ℕ → ℕ) (at count : ℕ) → at < count → bounds_by f at ≡ take at (bounds_by f count)
front_of f at count lt = sym (take-map-range_with_len f 0 count at (omega (arith, lt)))

pub length-bounds_by : (f : ℕ → ℕ) (count : ℕ) → length (bounds_by f count) ≡ count
length-bounds_by f count = length-map-range_with_len f 0 count
