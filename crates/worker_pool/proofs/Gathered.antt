-- Results that are gathered, one after the other.
use Rattle.std.proofs.Common.{◌≡◌, ⊎_elim, inl, inr, ℕ, zero, suc, ◌<◌, ◌≤◌, List, [], ◌∷◌, ◌++◌, length, map, Option, Some, None}
use Rattle.std.proofs.Common.{Ok, Err, sym, refl, ap, ◌∙◌, subst, append_assoc, arith}
use mathlib.Core.Option.{some, some-injective, some-ne-none}
use lib.ListN.{get_elem?}
use Rattle.std.proofs.lemmas.List.{append-nil, map-append}
use Rattle.register_rule.proofs.Words.{at_below, last_is}
use Rattle.snapshot_update.specs.declared.worker.Worker.{Worker}
use Rattle.worker_pool.specs.declared.fault.PoolFault.{PoolFault}
use Rattle.worker_pool.specs.declared.fault.PoolFault.TheVariants.{NoThread}
use Rattle.worker_pool.specs.Faults.{IsEarlier, IsLeast}
use Rattle.worker_pool.specs.Ends.{Occurred}
use Rattle.worker_pool.proofs.Joined.{End}
use Rattle.worker_pool.proofs.Least.{Best, least_more}
use Rattle.worker_pool.proofs.Places.{stays, at_end}

module _ {N C H G : ℕ} where
  -- the worker at this place ended by this fault
  abbrev pub EndedBy : List (End N C H G) → (place : ℕ) → PoolFault → Type 0
  EndedBy ends place f = get_elem? ends place ≡ some (Err f)

  -- so far: these workers were handed back, in this order; or of the faults by which workers ended this one is told
  abbrev pub Gathers : List (End N C H G) → List (Worker N C H G) → Option PoolFault → Type 0
  Gathers ends vs None = ends ≡ map Ok vs
  Gathers ends vs (Some f) = IsLeast (EndedBy ends) f

  same_fault : (f g : PoolFault) → ◌≡◌ {A = End N C H G} (Err f) (Err g) → f ≡ g
  same_fault f g e = cc

  not_both : (w : Worker N C H G) (f : PoolFault) → ◌≡◌ {A = End N C H G} (Ok w) (Err f) → ⊥
  not_both w f e = cc

  none_at : (vs : List (Worker N C H G)) (i : ℕ) (f : PoolFault) → EndedBy (map Ok vs) i f → ⊥
  none_at [] i f e = some-ne-none {A = End N C H G} (Err f) (sym e)
  none_at (v ∷ vs) zero f e = not_both v f (some-injective (Ok v) (Err f) e)
  none_at (v ∷ vs) (suc i) f e = none_at vs i f e

  best_of : (ends : List (End N C H G)) (vs : List (Worker N C H G)) (o : Option PoolFault) → Gathers ends vs o
      → Best (EndedBy ends) o
  best_of ends vs None all = λ i g met. none_at vs i g (subst (λ (l : List (End N C H G)). EndedBy l i g) all met)
  best_of ends vs (Some f) least = least

  gathers_ok : (ends : List (End N C H G)) (vs : List (Worker N C H G)) (o : Option PoolFault) (w : Worker N C H G)
      → Gathers ends vs o → Gathers (ends ++ Ok w ∷ []) (vs ++ w ∷ []) o
  gathers_ok ends vs None w all = ap (λ (l : List (End N C H G)). l ++ Ok w ∷ []) all ∙ sym (map-append Ok vs (w ∷ []))
  gathers_ok ends vs (Some f) w was =
      let old : (i : ℕ) (g : PoolFault) → EndedBy (ends ++ Ok w ∷ []) i g → EndedBy ends i g =
      λ i g met. ⊎_elim (λ m. m) (λ t. absurd (not_both w g t.0)) (last_is ends (Ok w) (Err g) i met) in record {
        place = was.place;
        met = stays ends (Ok w) was.place (Err f) was.met;
        first = λ i g met. was.first i g (old i g met);
        least = λ i g met. was.least i g (old i g met);
      }

  gathers_err : (ends : List (End N C H G)) (vs : List (Worker N C H G)) (o : Option PoolFault) (h told : PoolFault)
      → Gathers ends vs o → IsEarlier o h told → Gathers (ends ++ Err h ∷ []) vs (Some told)
  gathers_err ends vs o h told was is =
      least_more (EndedBy ends) (EndedBy (ends ++ Err h ∷ [])) (length ends) h
      (λ i g m. stays ends (Err h) i (Err g) m)
      (λ i g met. ⊎_elim (λ m. inl m) (λ t. inr (t.1, sym (same_fault h g t.0))) (last_is ends (Err h) (Err g) i met))
      (λ i g m. at_below ends i (Err g) m)
      (at_end ends (Err h))
      o told (best_of ends vs o was) is

  -- of these results those that stand before the rest are gathered, and they came to this so far
  pub record AreGathered (ends rest : List (End N C H G)) (vs : List (Worker N C H G)) (o : Option PoolFault) : Type 0 where
    pub before : List (End N C H G)
    pub split : ends ≡ before ++ rest
    pub gathers : Gathers before vs o

  -- none is gathered yet
  pub none_gathered : (ends : List (End N C H G)) → AreGathered ends ends [] None
  none_gathered ends = record { before = []; split = refl; gathers = refl }

  module _ (ends rest : List (End N C H G)) (vs : List (Worker N C H G)) (o : Option PoolFault) where
    -- a worker was handed back
    pub gathered_ok : (w : Worker N C H G) → AreGathered ends (Ok w ∷ rest) vs o → AreGathered ends rest (vs ++ w ∷ []) o
    gathered_ok w was = record {
      before = was.before ++ Ok w ∷ [];
      split = was.split ∙ sym (append_assoc was.before (Ok w ∷ []) rest);
      gathers = gathers_ok was.before vs o w was.gathers;
    }

    -- one more fault was met
    pub gathered_err : (h told : PoolFault) → AreGathered ends (Err h ∷ rest) vs o → IsEarlier o h told
        → AreGathered ends rest vs (Some told)
    gathered_err h told was is = record {
      before = was.before ++ Err h ∷ [];
      split = was.split ∙ sym (append_assoc was.before (Err h ∷ []) rest);
      gathers = gathers_err was.before vs o h told was.gathers is;
    }

  module _ (ends : List (End N C H G)) (vs : List (Worker N C H G)) where
    -- all are gathered
    pub all_gathered : (o : Option PoolFault) → AreGathered ends [] vs o → Gathers ends vs o
    all_gathered o was = subst (λ (l : List (End N C H G)). Gathers l vs o) (sym (was.split ∙ append-nil was.before)) was.gathers

    -- there was no thread for the next worker
    pub told_of_fewer : (n : ℕ) (o : Option PoolFault) (told : PoolFault) → length ends < n → AreGathered ends [] vs o
        → IsEarlier o (NoThread (length ends)) told
        → IsLeast (Occurred n ends) told
    told_of_fewer n o told fewer was is =
        least_more (EndedBy ends) (Occurred n ends) (length ends) (NoThread (length ends))
        (λ i g m. inl m)
        (λ i g met. ⊎_elim (λ m. inl m) (λ t. inr (t.0, t.2 ∙ ap NoThread t.0)) met)
        (λ i g m. at_below ends i (Err g) m)
        (inr (refl, fewer, refl))
        o told (best_of ends vs o (all_gathered o was)) is

    -- each worker had a thread
    pub told_of_all : (n : ℕ) (f : PoolFault) → n ≤ length ends → AreGathered ends [] vs (Some f) → IsLeast (Occurred n ends) f
    told_of_all n f many was =
        let least : IsLeast (EndedBy ends) f = all_gathered (Some f) was in
        let old : (i : ℕ) (g : PoolFault) → Occurred n ends i g → EndedBy ends i g = λ i g met. ⊎_elim (λ m. m)
        (λ t. absurd (let lt = t.1 in omega (arith, lt, many))) met in record {
          place = least.place;
          met = inl least.met;
          first = λ i g met. least.first i g (old i g met);
          least = λ i g met. least.least i g (old i g met);
        }

  -- one fault at most occurred at each place
  pub met_once : (n : ℕ) (ends : List (End N C H G)) (i : ℕ) (f g : PoolFault) → Occurred n ends i f → Occurred n ends i g → f ≡ g
  met_once n ends i f g (inl a) (inl b) = same_fault f g (some-injective (Err f) (Err g) (sym a ∙ b))
  met_once n ends i f g (inl a) (inr b) = absurd (let lt = at_below ends i (Err f) a in let end = b.0 in omega (arith, lt, end))
  met_once n ends i f g (inr a) (inl b) = absurd (let lt = at_below ends i (Err g) b in let end = a.0 in omega (arith, lt, end))
  met_once n ends i f g (inr a) (inr b) = a.2 ∙ sym b.2
