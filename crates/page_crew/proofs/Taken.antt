-- Recorders that were taken out of a ring.
use Rattle.std.proofs.Common.{◌≡◌, ℕ, ◌+◌, List, [], ◌∷◌, ◌++◌, Some, slice_get, get_or, set, refl, sym, ap, subst, ◌∙◌, inl, inr}
use mathlib.Core.List.{IsPrefix}
use Rattle.std.proofs.Math.ListN.{length-set}
use Rattle.std.proofs.lemmas.List.{length_push}
use Rattle.std.proofs.lemmas.Option.{none-some}
use Rattle.ledger_core.proofs.Placing.{at_push, at_set}
use Rattle.page_crew.specs.declared.shared_recorder.SharedRecorder.{SharedRecorder}
use Rattle.page_crew.specs.Counting.{AreTaken, IsSameSeat}

-- what is first among what is known comes out first
pub first_out : {A : Type 0} (known rest : List A) (front popped : A) → IsPrefix (front ∷ []) known → known ≡ popped ∷ rest
    → front ≡ popped
first_out known rest front popped seen is = ap (λ l. get_or l 0 popped) (seen.1 ∙ is)

module _ {N C H G : ℕ} where
  -- before the first
  pub taken_none : AreTaken {N = N} {C = C} {H = H} {G = G} [] []
  taken_none = (refl, λ k t r at_t at_r. absurd (none-some t at_t))

  -- one more was taken
  pub taken_more : (taken now : List (SharedRecorder N C H G)) (x : SharedRecorder N C H G) → AreTaken taken now
      → AreTaken (taken ++ x ∷ []) (now ++ x ∷ [])
  taken_more taken now x all = (
    length_push now x ∙ (ap (λ n. n + 1) all.0 ∙ sym (length_push taken x)),
    λ k t r at_t at_r. elim (at_push taken x k t at_t) [
      | inl here ↦ elim (at_push now x k r at_r) [
        | inl also ↦ subst (λ y. IsSameSeat y r) here.1 (subst (λ y. IsSameSeat x y) also.1 (refl, refl))
        | inr other ↦ absurd (other.0 (here.0 ∙ sym all.0))
      ]
      | inr there ↦ elim (at_push now x k r at_r) [
        | inl here ↦ absurd (there.0 (here.0 ∙ all.0))
        | inr other ↦ all.1 k t r there.1 other.1
      ]
    ],
  )

  -- one of them did something
  pub taken_set : (taken now : List (SharedRecorder N C H G)) (place : ℕ) (before after : SharedRecorder N C H G)
      → slice_get now place ≡ Some before → IsSameSeat before after → AreTaken taken now → AreTaken taken (set now place after)
  taken_set taken now place before after at seat all = (
    length-set now place after ∙ all.0,
    λ k t r at_t at_r. elim (at_set now place after k r at_r) [
      | inl here ↦
          let was : IsSameSeat t before = all.1 k t before at_t (subst (λ n. slice_get now n ≡ Some before) (sym here.0) at) in
          subst (λ y. IsSameSeat t y) here.1 (seat.0 ∙ was.0, seat.1 ∙ was.1)
      | inr other ↦ all.1 k t r at_t other.1
    ],
  )
