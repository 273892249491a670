-- The turns from one vector to the next.
use Rattle.std.proofs.Common.{◌≡◌, ◌≢◌, ⊎_elim, ℕ, zero, suc, ◌+◌, ◌<◌, Bool, cond, List, [], ◌∷◌, ◌++◌, sym, refl, ap, ◌∙◌}
use Rattle.std.proofs.Common.{arith, eq-eqb, ne_eqb}
use mathlib.Core.Logic.{dite}
use native.Mathlib.Decide.{ℕ_discrete}
use mathlib.Core.Option.{some, some-injective, some-ne-none}
use lib.ListN.{get_elem?}
use Rattle.register_rule.proofs.Words.{at_below, last_is, each_push}
use Rattle.chain_law.specs.declared.turns.Turn.{Turn}
use Rattle.chain_law.specs.History.{by_of, IsPiece}

pub by_both : (i : ℕ) (a b : List Turn) → by_of i (a ++ b) ≡ by_of i a + by_of i b
by_both i [] b = omega arith
by_both i (t ∷ a) b = let e = by_both i a b in omega (arith, e)

-- a worker that is in none of these turns
pub by_none : (i : ℕ) (ts : List Turn) → ((p : ℕ) (t : Turn) → get_elem? ts p ≡ some t → t.worker ≢ i) → by_of i ts ≡ 0
by_none i [] none = refl
by_none i (t ∷ ts) none = (λ z. cond (ne_eqb t.worker i (none 0 t refl) z) t.by 0 + by_none i ts (λ p. none (suc p)) z)

here_by : (t : Turn) → by_of t.worker (t ∷ []) ≡ t.by
here_by t = let e : by_of t.worker (t ∷ []) ≡ t.by + 0 = ap (λ (b : Bool). cond b t.by 0 + 0) (eq-eqb t.worker t.worker refl) in
    omega (arith, e)

module _ (k : ℕ) (u v : List ℕ) (ts : List Turn) (old : IsPiece k u v ts) where
  none_yet : by_of k ts ≡ 0
  none_yet = by_none k ts (λ p t e same. let lt = (old.turn p t e).0 in omega (arith, lt, same))

  -- the number of worker k is the same
  pub goes_on : ((x y : ℕ) → get_elem? u k ≡ some x → get_elem? v k ≡ some y → x ≡ y) → IsPiece (k + 1) u v ts
  goes_on same = record {
    sums = λ i x y below from to. dite (ℕ_discrete i k)
        (λ last. let e = same x y (ap (get_elem? u) (sym last) ∙ from) (ap (get_elem? v) (sym last) ∙ to) in
        let none = ap (λ (j : ℕ). by_of j ts) last ∙ none_yet in omega (arith, e, none))
        (λ other. old.sums i x y (omega (arith, below, other)) from to);
    turn = λ p t e. (let lt = (old.turn p t e).0 in omega (arith, lt), (old.turn p t e).1);
    rise = old.rise;
  }

  -- it rose
  pub one_more : (t : Turn) → t.worker ≡ k → 0 < t.by
      → ((x y : ℕ) → get_elem? u k ≡ some x → get_elem? v k ≡ some y → x + t.by ≡ y) → IsPiece (k + 1) u v (ts ++ t ∷ [])
  one_more t its some_by rose = record {
    sums = λ i x y below from to. let both = by_both i ts (t ∷ []) in dite (ℕ_discrete i k)
        (λ last. let e = rose x y (ap (get_elem? u) (sym last) ∙ from) (ap (get_elem? v) (sym last) ∙ to) in
        let none = ap (λ (j : ℕ). by_of j ts) last ∙ none_yet in
        let one = ap (λ (j : ℕ). by_of j (t ∷ [])) (last ∙ sym its) ∙ here_by t in omega (arith, e, none, one, both))
        (λ other. let e = old.sums i x y (omega (arith, below, other)) from to in
        let none = by_none i (t ∷ []) (each_of_one (λ same. other (sym same ∙ its))) in omega (arith, e, none, both));
    turn = each_push (λ s. (s.worker < k + 1) × (0 < s.by)) ts t (λ p s e. (
      let lt = (old.turn p s e).0 in omega (arith, lt),
      (old.turn p s e).1,
    )) (omega (arith, its), some_by);
    rise = λ p a b e f. ⊎_elim
        (λ g. ⊎_elim (λ h. old.rise p a b h g) (λ h. let lt = at_below ts (suc p) b g in let at = h.1 in
        absurd (omega (arith, lt, at))) (last_is ts t a p e))
        (λ g. ⊎_elim (λ h. let lt = (old.turn p a h).0 in let same = ap (λ (s : Turn). s.worker) g.0 in
        omega (arith, lt, same, its)) (λ h. let at = h.1 in let at' = g.1 in absurd (omega (arith, at, at')))
        (last_is ts t a p e))
        (last_is ts t b (suc p) f);
  }
    where
      each_of_one : {i : ℕ} → (t.worker ≢ i) → (p : ℕ) (s : Turn) → get_elem? (t ∷ []) p ≡ some s → s.worker ≢ i
      each_of_one ne zero s e same = ne (ap (λ (x : Turn). x.worker) (some-injective t s e) ∙ same)
      each_of_one ne (suc p) s e same = absurd (some-ne-none s (sym e))
