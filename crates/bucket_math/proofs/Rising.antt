-- One more bound after those that are good.
use Rattle.std.proofs.Common.{◌≡◌, ℕ, ◌+◌, ◌-◌, ◌<◌, ◌≤◌, List, length, take, get_or, ◌∙◌, arith, inl, inr}
use Rattle.std.specs.Prelude.{slice_index}
use Rattle.std.proofs.lemmas.Bool.{cases_lt}
use Rattle.std.proofs.lemmas.List.{take_more, length-take-le, get_or-take, get_or_default}
use Rattle.std.proofs.lemmas.List.Elements.{All-more}
use Rattle.std.proofs.lemmas.List.Quantifiers.{all_pairs_push}
use Rattle.bucket_math.specs.Bounds.{AreBounds, IsBadBound}

module _ (bounds : List ℕ) (n : ℕ) (within : n < length bounds) (so_far : AreBounds (take n bounds))
    (good : IsBadBound bounds n → ⊥) where
  small : slice_index bounds n ≤ 281474976710655
  small = elim (cases_lt 281474976710655 (slice_index bounds n)) [ inl over ↦ absurd (good (inr (inl over))) | inr le ↦ le ]

  above_last : 0 < n → slice_index bounds (n - 1) < slice_index bounds n
  above_last some =
      elim (cases_lt (slice_index bounds (n - 1)) (slice_index bounds n)) [
        | inl lt ↦ lt
        | inr le ↦ absurd (good (inr (inr (some, le))))
      ]

  length-so_far : length (take n bounds) ≡ n
  length-so_far = length-take-le n bounds (omega arith)

  above_all : (k : ℕ) (d : ℕ) → k < length (take n bounds) → get_or (take n bounds) k d < get_or bounds n 0
  above_all k d lt =
      let long = length-so_far in
      let above = above_last (omega arith) in
      let last : get_or (take n bounds) (n - 1) d ≡ get_or bounds (n - 1) 0 =
      get_or-take n bounds (n - 1) d (omega arith) ∙ get_or_default bounds (n - 1) d 0 (omega arith) in
      elim (cases_lt k (n - 1)) [
        | inl before ↦ let rises = so_far.rising k (n - 1) d before (omega arith) in omega arith
        | inr at_last ↦ let e : k ≡ n - 1 = omega arith in rw e (omega arith)
      ]

  pub bounds_more : AreBounds (take (n + 1) bounds)
  bounds_more =
      let not_25th : n ≡ 24 → ⊥ = λ e. good (inl e) in
      let few = so_far.few in
      let long = length-so_far in
      let longer = length-take-le (n + 1) bounds (omega arith) in
      record {
        few = omega arith;
        rising = rw (take_more bounds n 0 within)
            (all_pairs_push (λ a b. a < b) (take n bounds) (get_or bounds n 0) so_far.rising above_all);
        bounded = All-more (λ bound. bound ≤ 281474976710655) bounds n 0 within so_far.bounded small;
      }
