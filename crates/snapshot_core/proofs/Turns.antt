-- Turns that are open, and an actor's own reads, over one more event.
use Rattle.std.proofs.Common.{◌≡◌, ◌≢◌, ℕ, zero, suc, ◌+◌, ◌-◌, ◌<◌, ◌≤◌, inl, inr, ⊎_elim, Bool, true, false, cond, List, []}
use Rattle.std.proofs.Common.{◌∷◌, ◌++◌, eq-eqb, ne_eqb, sym, refl, ap, ◌∙◌, arith, Option, Some, append_assoc, append-nil, subst}
use Rattle.std.specs.Prelude.{slice_get}
use mathlib.Core.Logic.{dite}
use native.Mathlib.Decide.{ℕ_discrete}
use Rattle.snapshot_core.specs.declared.event.Event.{Event}
use Rattle.snapshot_core.specs.declared.event.Event.TheVariants.{Step, Torn}
use Rattle.snapshot_core.specs.History.{Published}
use Rattle.snapshot_core.specs.Turns.{Answered, EndsAt, BeginsAt, IsOpen, own, own_reads, IsTurn}
use Rattle.snapshot_core.proofs.Lending.{NoPublish, NoAnswer}

module _ (n c h g : ℕ) (es : List Event) (ps : List Published) (zs : List Answered) where
  -- no turn of the actor is open just before e
  abbrev pub IsClosed : (e i : ℕ) → Type 0
  IsClosed e i = (d : ℕ) → ¬ IsOpen n c h g es ps zs e i d

  -- a turn begins before it is open
  pub open_after : (e i b : ℕ) → IsOpen n c h g es ps zs e i b → b < e
  open_after zero i b o = absurd o
  open_after (suc e) i b o = ⊎_elim (λ t. let l = open_after e i b t.0 in omega arith) (λ t. let l = t.0 in omega arith) o

  -- at most one turn is open
  pub open_one : (e i b d : ℕ) → IsOpen n c h g es ps zs e i b → IsOpen n c h g es ps zs e i d → b ≡ d
  open_one zero i b d o u = absurd o
  open_one (suc e) i b d o u = ⊎_elim
      (λ t. ⊎_elim (λ r. open_one e i b d t.0 r.0) (λ r. absurd (r.2 b t.0)) u)
      (λ t. ⊎_elim (λ r. absurd (t.2 d r.0)) (λ r. t.0 ∙ sym r.0) u) o

  -- an open turn was open before, from its begin on
  pub open_before : (k e i b : ℕ) → IsOpen n c h g es ps zs k i b → b < e → e ≤ k → IsOpen n c h g es ps zs e i b
  open_before zero e i b o lt le = absurd o
  open_before (suc k) e i b o lt le = dite (ℕ_discrete e (suc k))
      (λ same. subst (λ (y : ℕ). IsOpen n c h g es ps zs y i b) (sym same) o)
      (λ ne. ⊎_elim (λ t. open_before k e i b t.0 lt (omega arith)) (λ t. let same = t.0 in absurd (omega arith)) o)

  pub turn_of : (e i b : ℕ) → IsOpen n c h g es ps zs e i b → IsTurn n c h g es ps zs i b
  turn_of e i b o = open_before e (suc b) i b o (omega arith) (open_after e i b o)

  pub open_on : (e i b : ℕ) → IsOpen n c h g es ps zs e i b → ¬ EndsAt n c h g es ps zs e i → IsOpen n c h g es ps zs (suc e) i b
  open_on e i b o none = inl (o, none)

  pub open_begins : (e i : ℕ) → IsClosed e i → BeginsAt n c h g es ps zs e i (slice_get es e)
      → IsOpen n c h g es ps zs (suc e) i e
  open_begins e i closed begins = inr (refl, begins, closed)

  pub closed_by : (e i b : ℕ) → IsOpen n c h g es ps zs e i b → EndsAt n c h g es ps zs e i → IsClosed (suc e) i
  closed_by e i b o ends d u = ⊎_elim (λ t. t.1 ends) (λ t. t.2 b o) u

  pub closed_on : (e i : ℕ) → IsClosed e i → ¬ BeginsAt n c h g es ps zs e i (slice_get es e) → IsClosed (suc e) i
  closed_on e i closed none d u = ⊎_elim (λ t. closed d t.0) (λ t. none t.1) u

  -- a worker's turn ends with its publish, a reader's with its answer
  pub no_end : (e i : ℕ) → (i < n → NoPublish ps e i) → (n ≤ i → NoAnswer zs e i) → ¬ EndsAt n c h g es ps zs e i
  no_end e i p a ends = ⊎_elim (λ t. p t.0 t.1.0 t.1.1 t.1.2 t.1.4 t.1.3) (λ t. a t.0 t.1.0 t.1.1 t.1.2 t.1.4 t.1.3) ends

-- An actor's own reads, of which these are the first m.
pub own_front : (es : List Event) (i b m d : ℕ) → own_reads es i b (m + d) ≡ own_reads es i b m ++ own_reads es i (b + m) d
own_front es i b zero d = let z : 0 + d ≡ d = omega arith in let y : b ≡ b + 0 = omega arith in λ k. own_reads es i (y k) (z k)
own_front es i b (suc m) d =
    let z : suc m + d ≡ suc (m + d) = omega arith in let y : suc b + m ≡ b + suc m = omega arith in
    ap (own_reads es i b) z ∙ (ap (λ (r : List (ℕ × Bool)). own i b (slice_get es b) ++ r)
    (own_front es i (suc b) m d ∙ ap (λ (r : ℕ). own_reads es i (suc b) m ++ own_reads es i r d) y)
    ∙ sym (append_assoc (own i b (slice_get es b)) (own_reads es i (suc b) m) (own_reads es i (b + suc m) d)))

pub own_snoc : (es : List Event) (i b m : ℕ) → own_reads es i b (suc m) ≡ own_reads es i b m ++ own i (b + m)
    (slice_get es (b + m))
own_snoc es i b m = (let e : suc m ≡ m + 1 = omega arith in ap (own_reads es i b) e) ∙ own_front es i b m 1
    ∙ ap (λ (z : List (ℕ × Bool)). own_reads es i b m ++ z) (append-nil (own i (b + m) (slice_get es (b + m))))

-- the reads of a turn that begins at b, one event later
pub own_next : (es : List Event) (i b k : ℕ) → b < k → own_reads es i (suc b) (suc k - suc b) ≡ own_reads es i (suc b)
    (k - suc b) ++ own i k (slice_get es k)
own_next es i b k lt = (let e : suc k - suc b ≡ suc (k - suc b) = omega arith in ap (own_reads es i (suc b)) e)
    ∙ own_snoc es i (suc b) (k - suc b) ∙ (let e : suc b + (k - suc b) ≡ k = omega arith in
    ap (λ (z : ℕ). own_reads es i (suc b) (k - suc b) ++ own i z (slice_get es z)) e)

pub own_none : (es : List Event) (i b k : ℕ) → b < k → own i k (slice_get es k) ≡ []
    → own_reads es i (suc b) (suc k - suc b) ≡ own_reads es i (suc b) (k - suc b)
own_none es i b k lt none = own_next es i b k lt ∙ ap (λ (z : List (ℕ × Bool)). own_reads es i (suc b) (k - suc b) ++ z) none
    ∙ append-nil (own_reads es i (suc b) (k - suc b))

-- a Step or a Torn of `who`
abbrev pub read_event : (who : ℕ) → Bool → Event
read_event who torn = cond torn (Torn who) (Step who)

pub own_other : (who i k : ℕ) (torn : Bool) (o : Option Event) → o ≡ Some (read_event who torn) → i ≢ who → own i k o ≡ []
own_other who i k true o e ne = ap (own i k) e ∙ ap (λ (b : Bool). cond b ((k, true) ∷ []) []) (ne_eqb who i (λ x. ne (sym x)))
own_other who i k false o e ne = ap (own i k) e ∙ ap (λ (b : Bool). cond b ((k, false) ∷ []) []) (ne_eqb who i (λ x. ne (sym x)))

pub own_mine : (who k : ℕ) (torn : Bool) (o : Option Event) → o ≡ Some (read_event who torn) → own who k o ≡ (k, torn) ∷ []
own_mine who k true o e = ap (own who k) e ∙ ap (λ (b : Bool). cond b ((k, true) ∷ []) []) (eq-eqb who who refl)
own_mine who k false o e = ap (own who k) e ∙ ap (λ (b : Bool). cond b ((k, false) ∷ []) []) (eq-eqb who who refl)

pub same_step : (who i : ℕ) → Some (Step who) ≡ Some (Step i) → who ≡ i
same_step who i e = cc

torn_step : (who i : ℕ) → Some (Torn who) ≡ Some (Step i) → ⊥
torn_step who i e = cc

pub step_of : (who i : ℕ) (torn : Bool) (o : Option Event) → o ≡ Some (read_event who torn) → o ≡ Some (Step i) → (torn ≡ false)
    × (who ≡ i)
step_of who i true o e f = absurd (torn_step who i (sym e ∙ f))
step_of who i false o e f = (refl, same_step who i (sym e ∙ f))
