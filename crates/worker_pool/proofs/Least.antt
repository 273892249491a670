-- The fault that is told, when one more was met.
use Rattle.std.proofs.Common.{◌≡◌, ⊎_elim, ◌⊎◌, inl, inr, ℕ, ◌<◌, Option, Some, None, sym, subst, arith}
use Rattle.std.proofs.lemmas.Bool.{cases_order}
use Rattle.worker_pool.specs.declared.fault.PoolFault.{PoolFault}
use Rattle.worker_pool.specs.Faults.{ComesBefore, IsEarlier, IsLeast}
use Rattle.worker_pool.proofs.Ordered.{not_itself, before_both, still_before}

-- of the faults that were met this one is told, or there is none
abbrev pub Best : (M : ℕ → PoolFault → Type 0) → Option PoolFault → Type 0
Best M None = (i : ℕ) (g : PoolFault) → M i g → ⊥
Best M (Some f) = IsLeast M f

-- L are the faults M and one more, at a place behind theirs
module _ (M L : ℕ → PoolFault → Type 0) (p : ℕ) (h : PoolFault) (old : (i : ℕ) (g : PoolFault) → M i g → L i g)
    (which : (i : ℕ) (g : PoolFault) → L i g → M i g ⊎ ((i ≡ p) × (g ≡ h))) (below : (i : ℕ) (g : PoolFault) → M i g → i < p)
    (new : L p h) where
  not_new : (i : ℕ) → i < p → i ≡ p → ⊥
  not_new i lt same = omega (arith, lt, same)

  new_is_told : ((i : ℕ) (g : PoolFault) → M i g → ¬ (ComesBefore g h)) → ((i : ℕ) (g : PoolFault) → M i g → ComesBefore h g)
      → IsLeast L h
  new_is_told first least = record {
    place = p;
    met = new;
    first = λ i g met. ⊎_elim (λ m. first i g m) (λ e. subst (λ (x : PoolFault). ¬ (ComesBefore x h)) (sym e.1) (not_itself h))
        (which i g met);
    least = λ i g met lt. ⊎_elim (λ m. least i g m) (λ e. absurd (not_new i lt e.0)) (which i g met);
  }

  pub least_more : (o : Option PoolFault) (told : PoolFault) → Best M o → IsEarlier o h told → IsLeast L told
  least_more None told none is = subst (IsLeast L) (sym is)
      (new_is_told (λ i g m. absurd (none i g m)) (λ i g m. absurd (none i g m)))
  least_more (Some f) told was (inl t) =
      subst (IsLeast L) (sym t.1) (new_is_told (λ i g m before. was.first i g m (before_both g h f before t.0))
      (λ i g m. still_before h f g t.0 (was.first i g m)))
  least_more (Some f) told was (inr t) = subst (IsLeast L) (sym t.1) (record {
    place = was.place;
    met = old was.place f was.met;
    first = λ i g met. ⊎_elim (λ m. was.first i g m) (λ e. subst (λ (x : PoolFault). ¬ (ComesBefore x f)) (sym e.1) t.0)
        (which i g met);
    least = λ i g met lt. ⊎_elim (λ m. was.least i g m lt) (λ e. absurd (let b = below was.place f was.met in let same = e.0 in
        omega (arith, lt, b, same))) (which i g met);
  })

-- where one fault at most was met at each place, one fault alone is told
pub one_told : (M : ℕ → PoolFault → Type 0) → ((i : ℕ) (f g : PoolFault) → M i f → M i g → f ≡ g) → (f g : PoolFault)
    → IsLeast M f → IsLeast M g → f ≡ g
one_told M once f g a b = ⊎_elim
    (λ (same : a.place ≡ b.place). once a.place f g a.met (subst (λ (p : ℕ). M p g) (sym same) b.met))
    (λ other. ⊎_elim
    (λ lt. absurd (a.first b.place g b.met (b.least a.place f a.met lt)))
    (λ lt. absurd (b.first a.place f a.met (a.least b.place g b.met lt)))
    other)
    (cases_order a.place b.place)
