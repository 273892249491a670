-- Recorders that meet boards that came, one after the other.
use Rattle.std.proofs.Common.{◌≡◌, ℕ, ◌+◌, ◌<◌, ◌≤◌, List, [], ◌++◌, All, length, map, get_or, set, inl, inr, refl, sym, ap}
use Rattle.std.proofs.Common.{subst, ◌∙◌, arith, append_assoc, append-nil}
use Rattle.std.specs.Prelude.{Some, slice_get, option_map}
use Rattle.std.proofs.Math.ListN.{length-set}
use Rattle.std.proofs.lemmas.List.{map-set}
use Rattle.std.proofs.lemmas.Option.{slice_get-get_or, slice_get-map, slice_get_read}
use Rattle.ledger_core.proofs.Placing.{at_set}
use Rattle.page_crew.specs.Held.{recorders_of, feed_of}
use Rattle.page_crew.proofs.Rows.{feed_then}
use Rattle.dirgwako_c.specs.Registries.{recorder_in}
use Rattle.dirgwako_c.specs.Settling.{OneSeat, Knows, HasStranger, HasMet, HaveMet}
use Rattle.dirgwako_c.specs.declared.held.HeldRecorder.{HeldRecorder}
use Rattle.dirgwako_c.proofs.Places.{same_there, set_now}

module _ {N C H G : ℕ} where
  -- one that met none
  met_none : (r : HeldRecorder N C H G) → HasMet r r
  met_none r = ((refl, ((refl, refl, refl, refl), refl)), ([], sym (append-nil (recorders_of (recorder_in r)))))

  -- one that met some, and then some more
  met_then : (a b c : HeldRecorder N C H G) → HasMet a b → HasMet b c → HasMet a c
  met_then a b c first second = (
    (
      second.0.0 ∙ first.0.0,
      feed_then (feed_of (recorder_in a)) (feed_of (recorder_in b)) (feed_of (recorder_in c)) first.0.1 second.0.1,
    ),
    (
      first.1.0 ++ second.1.0,
      second.1.1 ∙ (ap (λ (l : List (OneSeat N C H G)). l ++ second.1.0) first.1.1 ∙ append_assoc (recorders_of (recorder_in a))
          first.1.0 second.1.0),
    ),
  )

  -- how far they are: each has met boards that came, and those before a place know the board
  pub record AreMeeting (board place : ℕ) (old new : List (HeldRecorder N C H G)) : Type 0 where
    pub met : HaveMet old new
    pub known : (k : ℕ) (r : HeldRecorder N C H G) → k < place → slice_get new k ≡ Some r → Knows board r

  pub meeting_starts : (board : ℕ) (rs : List (HeldRecorder N C H G)) → AreMeeting board 0 rs rs
  meeting_starts board rs = record {
    met = record { many = refl; each = λ k a b at is. subst (HasMet a) (same_there (slice_get rs k) a b at is) (met_none a) };
    known = λ k r none at. absurd (omega (arith, none));
  }

  module _ (board place : ℕ) (old new : List (HeldRecorder N C H G)) (meeting : AreMeeting board place old new) where
    module _ (a b : HeldRecorder N C H G) (at : slice_get new place ≡ Some a) (met : HasMet a b) where
      -- the one at the place has met them
      pub one_met : HaveMet old (set new place b)
      one_met = record {
        many = length-set new place b ∙ meeting.met.many;
        each = λ k x y at_old at_new. elim (at_set new place b k y at_new) [
          | inl here ↦
              let before = meeting.met.each k x a at_old (subst (λ (n : ℕ). slice_get new n ≡ Some a) (sym here.0) at) in
              subst (HasMet x) here.1 (met_then x a b before met)
          | inr other ↦ meeting.met.each k x y at_old other.1
        ];
      }

      -- and knows the board
      pub one_more : Knows board b → AreMeeting board (place + 1) old (set new place b)
      one_more knows = record {
        met = one_met;
        known = λ k r below at_new. elim (at_set new place b k r at_new) [
          | inl here ↦ subst (Knows board) here.1 knows
          | inr other ↦ meeting.known k r (let apart = other.0 in omega (arith, below, apart)) other.1
        ];
      }

    -- all know it
    pub all_known : length new ≤ place → All (Knows board) new
    all_known end = λ k d inside. meeting.known k (get_or new k d) (omega (arith, inside, end)) (slice_get-get_or new k d inside)

  -- the same of recorders that are in boxes
  module _ {X : Type 0} (f : X → HeldRecorder N C H G) (board place : ℕ) (old : List (HeldRecorder N C H G)) (xs : List X)
      (meeting : AreMeeting board place old (map f xs)) (x y : X) (a : HeldRecorder N C H G) (inside : place < length xs) (read :
      x ≡ get_or xs place x)
      (is : a ≡ f (get_or xs place x)) (met : HasMet a (f y)) where
    at : slice_get (map f xs) place ≡ Some a
    at = slice_get-map f xs place ∙ (ap (option_map f) (slice_get_read xs (length xs) place x refl inside read) ∙ ap Some (ap f
        read ∙ sym is))

    pub box_met : HaveMet old (map f (set xs place y))
    box_met = subst (HaveMet old) (sym (map-set f xs place y)) (one_met board place old (map f xs) meeting a (f y) at met)

    pub box_more : Knows board (f y) → AreMeeting board (place + 1) old (map f (set xs place y))
    box_more knows = subst (AreMeeting board (place + 1) old) (sym (map-set f xs place y))
        (one_more board place old (map f xs) meeting a (f y) at met knows)

    pub box_stranger : length (recorders_of (recorder_in (f y))) ≤ board → HasStranger board (map f (set xs place y))
    box_stranger few = subst (HasStranger board) (sym (map-set f xs place y)) (
      place,
      f y,
      set_now (map f xs) place a (f y) at,
      few,
    )
