-- Recorders of boards whose ids follow each other.
use Rattle.std.proofs.Common.{◌≡◌, ◌≢◌, ℕ, ◌+◌, ◌<◌, ◌≤◌, List, [], ◌∷◌, ◌++◌, Some, length, slice_get, get_or, set, All}
use Rattle.std.proofs.Common.{refl, sym, ap, subst, ◌∙◌, arith, inl, inr}
use Rattle.std.specs.Prelude.{Option, None, IsSomeAnd}
use Rattle.std.proofs.lemmas.Option.{slice_get-get_or, get_or_from_slice_get}
use Rattle.ledger_core.proofs.Placing.{at_push, at_set}
use Rattle.rtrb.specs.Ring.{SameConsumer}
use Rattle.rtrb.specs.declared.consumer.Consumer.{Consumer}
use Rattle.page_crew.specs.declared.shared_recorder.SharedRecorder.{SharedRecorder}
use Rattle.page_crew.specs.Shared.{id_in}
use Rattle.page_crew.specs.Counting.{AreInRow, OneDid, IsSameSeat}

module _ {N C H G : ℕ} (first : ℕ) (recorders : List (SharedRecorder N C H G)) (row : AreInRow first recorders) where
  -- one more, of the board behind the others
  pub row_more : (r : SharedRecorder N C H G) → id_in r ≡ first + length recorders → AreInRow first (recorders ++ r ∷ [])
  row_more r is k x at = elim (at_push recorders r k x at) [
    | inl last ↦ ap id_in (sym last.1) ∙ is ∙ ap (λ n. first + n) (sym last.0)
    | inr there ↦ row k x there.1
  ]

  -- an id below the first is none of theirs
  pub none_below : (id : ℕ) → id < first → All (λ (r : SharedRecorder N C H G). id_in r ≢ id) recorders
  none_below id below k d within same =
      let is : id_in (get_or recorders k d) ≡ first + k = row k (get_or recorders k d) (slice_get-get_or recorders k d within) in
      omega (arith, is, same, below)

  -- nor is one behind the last
  pub none_behind : (id : ℕ) → first + length recorders ≤ id → All (λ (r : SharedRecorder N C H G). id_in r ≢ id) recorders
  none_behind id behind k d within same =
      let is : id_in (get_or recorders k d) ≡ first + k = row k (get_or recorders k d) (slice_get-get_or recorders k d within) in
      omega (arith, is, same, behind, within)

  -- one of them did something, and is of the same board
  pub row_set : (k : ℕ) (before after : SharedRecorder N C H G) → slice_get recorders k ≡ Some before → id_in after ≡ id_in before
      → AreInRow first (set recorders k after)
  row_set k before after at same j x there = elim (at_set recorders k after j x there) [
    | inl here ↦ ap id_in (sym here.1) ∙ same ∙ row k before at ∙ ap (λ n. first + n) (sym here.0)
    | inr other ↦ row j x other.1
  ]

-- the one at this place did something
pub one_did : {N C H G : ℕ} (id : ℕ) (old mid : List (SharedRecorder N C H G)) (Did : SharedRecorder N C H G → SharedRecorder N C
    H G → Type 0)
    (place : ℕ) (before after : SharedRecorder N C H G) → (came : List (SharedRecorder N C H G)) × (mid ≡ old ++ came)
    → slice_get mid place ≡ Some before → id_in before ≡ id → IsSameSeat before after → Did before after
    → OneDid id old (set mid place after) Did
one_did {N} {C} {H} {G} id old mid Did place before after came at of_it seat did = record {
  came = came.0;
  place = place;
  before = before;
  after = after;
  at = subst (λ (l : List (SharedRecorder N C H G)). slice_get l place ≡ Some before) came.1 at;
  new_is = ap (λ (l : List (SharedRecorder N C H G)). set l place after) came.1;
  of_it = of_it;
  seat = seat;
  did = did;
}

-- what holds of the one at this place, which was read
pub one_read : {N C H G : ℕ} (P : SharedRecorder N C H G → Type 0) (recorders : List (SharedRecorder N C H G)) (place : ℕ)
    (read : SharedRecorder N C H G) → IsSomeAnd (slice_get recorders place) P → read ≡ get_or recorders place read
    → (slice_get recorders place ≡ Some read) × P read
one_read {N} {C} {H} {G} P recorders place read some is = by (slice_get recorders place) refl some
  where
    by : (o : Option (SharedRecorder N C H G)) → slice_get recorders place ≡ o → IsSomeAnd o P
        → (slice_get recorders place ≡ Some read) × P read
    by None at none = absurd none
    by (Some x) at holds =
        let same : read ≡ x = is ∙ get_or_from_slice_get recorders place x read at in
        (at ∙ ap Some (sym same), subst P (sym same) holds)

-- a consumer that is of the ring of one, which is of the ring of another
pub feed_then : {T A P : Type 0} (a b c : Consumer T A P) → SameConsumer a b → SameConsumer b c → SameConsumer a c
feed_then a b c first second =
    ((second.0.0 ∙ first.0.0, second.0.1 ∙ first.0.1, second.0.2 ∙ first.0.2, second.0.3 ∙ first.0.3), second.1 ∙ first.1)
