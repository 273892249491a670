-- Recorders that nobody has, and what they have published together on one board.
use Rattle.std.proofs.Common.{◌≡◌, ℕ, zero, suc, ◌+◌, ◌<◌, ◌≤◌, List, [], ◌∷◌, ◌++◌, All, length, map, drop, inl, inr, refl}
use Rattle.std.proofs.Common.{sym, ap, ◌∙◌, arith}
use Rattle.std.specs.Prelude.{Option, Some, slice_get}
use Rattle.std.proofs.lemmas.Option.{slice_get_cases}
use Rattle.std.proofs.lemmas.List.Elements.{All-head, All-tail}
use mathlib.Core.Option.{some, some-injective, some-ne-none}
use lib.ListN.{get_elem?}
use Rattle.std.proofs.Math.ListN.{drop_of_length-le}
use Rattle.ledger_core.specs.Ops.{sum_ops}
use Rattle.register_rule.specs.Sums.{word_after}
use Rattle.register_rule.proofs.Words.{at_below}
use Rattle.snapshot_update.specs.Workers.{member_of}
use Rattle.chain_law.proofs.Totals.{one_more}
use Rattle.page_crew.specs.Held.{recorders_of}
use Rattle.page_crew.specs.Shared.{worker_in}
use Rattle.page_crew.proofs.Places.{drop_next, mapped_at}
use Rattle.dirgwako_c.specs.Registries.{recorder_in}
use Rattle.dirgwako_c.specs.Settling.{OneWorker, OneSeat, alone, seats_on, Knows, workers_of, published_in}
use Rattle.dirgwako_c.specs.declared.held.HeldRecorder.{HeldRecorder}

module _ {N C H G : ℕ} where
  -- its worker
  abbrev pub its : OneSeat N C H G → OneWorker N C H G
  its r = worker_in r

-- what is dropped twice
drop_none : {A : Type 0} (a : ℕ) → drop {A = A} a [] ≡ []
drop_none zero = refl
drop_none (suc a) = refl

pub drop_both : {A : Type 0} (a b : ℕ) (l : List A) → drop a (drop b l) ≡ drop (a + b) l
drop_both a zero l = ap (λ (n : ℕ). drop n l) (omega arith)
drop_both a (suc b) [] = drop_none a ∙ sym (drop_none (a + suc b))
drop_both a (suc b) (x ∷ l) = drop_both a b l ∙ ap (λ (n : ℕ). drop n (x ∷ l)) {x = suc (a + b)} {y = a + suc b} (omega arith)

pub mapped_here : {A B : Type 0} (f : A → B) (l : List A) (p : ℕ) (x : A) → get_elem? l p ≡ some x → get_elem? (map f l) p ≡ some
    (f x)
mapped_here f [] p x e = absurd (some-ne-none x (sym e))
mapped_here f (y ∷ l) zero x e = ap (λ z. some (f z)) (some-injective y x e)
mapped_here f (y ∷ l) (suc p) x e = mapped_here f l p x e

module _ {N C H G : ℕ} where
  -- the worker of a recorder stands at its place
  pub worker_here : (rs : List (OneSeat N C H G)) (p : ℕ) (r : OneSeat N C H G) → get_elem? rs p ≡ some r → get_elem? (workers_of
      rs) p ≡ some (its r)
  worker_here rs p r e = mapped_here its rs p r e

  -- a worker of these recorders is that of the recorder at its place
  pub worker_at : (rs : List (OneSeat N C H G)) (p : ℕ) (w : OneWorker N C H G) → get_elem? (workers_of rs) p ≡ some w
      → (r : OneSeat N C H G) × (get_elem? rs p ≡ some r) × (its r ≡ w)
  worker_at rs p w e = mapped_at its rs p w e

  -- a worker of these recorders stands before their end
  pub worker_below : (rs : List (OneSeat N C H G)) (p : ℕ) (w : OneWorker N C H G) → get_elem? (workers_of rs) p ≡ some w → p <
      length rs
  worker_below rs p w e = let (r, there, is) = worker_at rs p w e in at_below rs p r there

  -- what those from a place on have published is what the one there has, and those behind it
  pub next_published : (rs : List (OneSeat N C H G)) (p q k : ℕ) (r : OneSeat N C H G) → suc p ≡ q → get_elem? rs p ≡ some r
      → published_in (drop p rs) k ≡ word_after (sum_ops C H) (member_of (its r)).work.made k + published_in (drop q rs) k
  next_published rs p q k r next at = ap (λ (l : List (OneSeat N C H G)). published_in l k) (drop_next rs p r at)
      ∙ (one_more C H k (its r) (workers_of (drop (suc p) rs))
      ∙ ap (λ n. word_after (sum_ops C H) (member_of (its r)).work.made k + published_in (drop n rs) k) next)

  -- behind the last one nothing is published
  pub none_published : (rs : List (OneSeat N C H G)) (p k : ℕ) → length rs ≤ p → published_in (drop p rs) k ≡ 0
  none_published rs p k few = ap (λ (l : List (OneSeat N C H G)). published_in l k) (drop_of_length-le rs few)

  module _ (board : ℕ) where
    -- what a recorder has on the board
    abbrev seat_of : HeldRecorder N C H G → Option (OneSeat N C H G)
    seat_of r = slice_get (recorders_of (recorder_in r)) board

    has_seat : (r : HeldRecorder N C H G) → Knows board r → (s : OneSeat N C H G) × (seat_of r ≡ Some s)
    has_seat r knows = elim (slice_get_cases (recorders_of (recorder_in r)) board).1 [
      | inl there ↦ (there.0, there.2)
      | inr none ↦ absurd (let past = none.0 in omega (arith, past, knows))
    ]

    first_seat : (r : HeldRecorder N C H G) (rs : List (HeldRecorder N C H G)) (s : OneSeat N C H G) → seat_of r ≡ Some s
        → seats_on board (r ∷ rs) ≡ s ∷ seats_on board rs
    first_seat r rs s is = ap (λ (o : Option (OneSeat N C H G)). alone o ++ seats_on board rs) is

    -- where all know the board, there are as many seats on it
    pub seats_many : (rs : List (HeldRecorder N C H G)) → All (Knows board) rs → length (seats_on board rs) ≡ length rs
    seats_many [] all = refl
    seats_many (r ∷ rs) all =
        let (s, is) = has_seat r (All-head (Knows board) r rs all) in
        ap length (first_seat r rs s is) ∙ ap (λ (n : ℕ). suc n) (seats_many rs (All-tail (Knows board) r rs all))

    -- and each stands at the place of its recorder
    pub seat_here : (rs : List (HeldRecorder N C H G)) → All (Knows board) rs → (p : ℕ) (r : HeldRecorder N C H G) (s : OneSeat N
        C H G) → get_elem? rs p ≡ some r
        → seat_of r ≡ Some s → get_elem? (seats_on board rs) p ≡ some s
    seat_here [] all p r s at is = absurd (some-ne-none r (sym at))
    seat_here (q ∷ rs) all zero r s at is =
        ap (λ (l : List (OneSeat N C H G)). get_elem? l zero) (first_seat q rs s (ap seat_of (some-injective q r at) ∙ is))
    seat_here (q ∷ rs) all (suc p) r s at is =
        let (t, there) = has_seat q (All-head (Knows board) q rs all) in
        ap (λ (l : List (OneSeat N C H G)). get_elem? l (suc p)) (first_seat q rs t there)
        ∙ seat_here rs (All-tail (Knows board) q rs all) p r s at is
