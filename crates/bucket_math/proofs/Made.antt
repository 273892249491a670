-- The fields that a slice of bounds is copied into.
use Rattle.std.proofs.Common.{◌≡◌, ℕ, ◌-◌, List, ◌++◌, length, drop, replicate, refl, ap, arith, length-append}
use Rattle.std.proofs.lemmas.List.{take_at, drop-replicate, length-replicate}
use Rattle.bucket_math.specs.Bounds.{AreBounds}
use Rattle.bucket_math.specs.Inside.{IsInside}

pub inside_made : (bounds : List ℕ) → AreBounds bounds → IsInside (bounds ++ drop (length bounds) (replicate 24 0))
    (length bounds)
inside_made bounds are =
    let few = are.few in
    let rest : drop (length bounds) (replicate 24 0) ≡ replicate (24 - length bounds) 0 = drop-replicate (length bounds) 24 0 in
    let taken = take_at bounds (drop (length bounds) (replicate 24 0)) (length bounds) refl in
    record {
      all_places = rw rest (simp (length-append, length-replicate) (omega arith));
      few = few;
      bounds = rw taken are;
      zeros = rw taken (ap (λ ys. bounds ++ ys) rest);
    }
