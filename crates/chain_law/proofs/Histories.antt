-- A history goes on by the turns to one more vector.
use Rattle.std.proofs.Common.{◌≡◌, ◌≢◌, ⊎_elim, ℕ, zero, suc, ◌+◌, ◌<◌, List, [], ◌∷◌, ◌++◌, length, take, replicate, sym, refl}
use Rattle.std.proofs.Common.{ap, ◌∙◌, subst, arith, length-append}
use Rattle.std.proofs.Math.Seq.{take-length, take-suc}
use Rattle.std.proofs.lemmas.List.{take-append-le, length-take-le}
use mathlib.Core.Option.{some, some-ne-none}
use lib.ListN.{get_elem?}
use Rattle.register_rule.proofs.Words.{there, read_at, at_below, last_is, from_both, from_replicate}
use Rattle.register_rule.specs.History.{Below}
use Rattle.snapshot_scan.proofs.Asking.{at_end}
use Rattle.snapshot_scan.proofs.Words.{front_at}
use Rattle.chain_law.specs.declared.turns.Turn.{Turn}
use Rattle.chain_law.specs.History.{by_of, IsPiece, IsBefore, IsHistory, AreRising}
use Rattle.chain_law.proofs.Pieces.{by_both}

empty : (l : List (List ℕ)) → 0 ≡ length l → l ≡ []
empty [] e = refl
empty (x ∷ l) e = absurd (omega (arith, e))

-- no vector, no turn
pub of_none : (n : ℕ) → IsHistory n [] []
of_none n = record {
  ends = [];
  all = refl;
  rise = λ j a b e f. absurd (some-ne-none a (sym e));
  within = λ j e f. absurd (some-ne-none e (sym f));
  whole = λ j e. absurd (omega (arith, e));
  none = λ e. refl;
  numbers = λ j e i x v f. absurd (some-ne-none v (sym f));
  wide = λ j v e. absurd (some-ne-none v (sym e));
  turn = λ p t e. absurd (some-ne-none t (sym e));
  once = λ p s t e. absurd (some-ne-none s (sym e));
}

module _ (n : ℕ) (vs : List (List ℕ)) (ts : List Turn) (h : IsHistory n vs ts) where
  -- after all turns each worker has published as often as the last vector says
  by_last : (j : ℕ) (u : List ℕ) → suc j ≡ length vs → get_elem? vs j ≡ some u → (i x : ℕ) → get_elem? u i ≡ some x
      → by_of i ts ≡ x
  by_last j u last at i x e = ap (by_of i) (sym (take-length ts)) ∙ h.numbers j (length ts) i x u at (h.whole j last) e

  -- and where there is none, not at all
  by_no : vs ≡ [] → (i : ℕ) → by_of i ts ≡ 0
  by_no none i = ap (by_of i) (h.none none)

  module _ (u v : List ℕ) (piece : List Turn) (all : length u ≡ length v) (few : length v ≡ n) (new : IsPiece n u v piece)
      (before : (i x : ℕ) → get_elem? u i ≡ some x → by_of i ts ≡ x) where
    long : length (ts ++ piece) ≡ length ts + length piece
    long = length-append ts piece

    end : ℕ
    end = length (ts ++ piece)

    history_more : IsHistory n (vs ++ v ∷ []) (ts ++ piece)
    history_more = record {
      ends = h.ends ++ length (ts ++ piece) ∷ [];
      all = let a = h.all in let b = length-append h.ends (length (ts ++ piece) ∷ []) in let c = length-append vs (v ∷ []) in
          omega (arith, a, b, c);
      rise = λ j a b e f. ⊎_elim
          (λ g. ⊎_elim (λ k. h.rise j a b k g) (λ k. let lt = at_below h.ends (suc j) b g in let at = k.1 in
          absurd (omega (arith, lt, at))) (last_is h.ends _ a j e))
          (λ g. ⊎_elim (λ k. let le = h.within j a k in let is = g.0 in omega (arith, le, is, long)) (λ k. let at = k.1 in
          let at' = g.1 in absurd (omega (arith, at, at'))) (last_is h.ends _ a j e))
          (last_is h.ends _ b (suc j) f);
      within = λ j e f. ⊎_elim (λ g. let le = h.within j e g in omega (arith, le, long)) (λ g. let is = g.0 in omega (arith, is))
          (last_is h.ends _ e j f);
      whole = λ j last. let c = length-append vs (v ∷ []) in let a = h.all in
          let at : j ≡ length h.ends = omega (arith, c, last, a) in
          ap (get_elem? (h.ends ++ length (ts ++ piece) ∷ [])) at ∙ at_end h.ends (length (ts ++ piece));
      none = λ e. let c = length-append vs (v ∷ []) in let l = ap (λ (z : List (List ℕ)). length z) e in
          absurd (omega (arith, c, l));
      numbers = λ j e i x w its ends number. ⊎_elim
          (λ g. ⊎_elim (λ k. ap (by_of i) (take-append-le e ts piece (h.within j e k)) ∙ h.numbers j e i x w g k number)
          (λ k. let lt = at_below vs j w g in let at = k.1 in let a = h.all in absurd (omega (arith, lt, at, a)))
          (last_is h.ends _ e j ends))
          (λ g. ⊎_elim (λ k. let lt = at_below h.ends j e k in let at = g.1 in let a = h.all in absurd (omega (arith, lt, at, a)))
          (λ k. ap (λ (z : ℕ). by_of i (take z (ts ++ piece))) (sym k.0)
          ∙ (ap (by_of i) (take-length (ts ++ piece)) ∙ sums i x (ap (λ (z : List ℕ). get_elem? z i) g.0 ∙ number)))
          (last_is h.ends _ e j ends))
          (last_is vs v w j its);
      wide = λ j w e. ⊎_elim (h.wide j w) (λ g. ap (λ (z : List ℕ). length z) (sym g.0) ∙ few) (last_is vs v w j e);
      turn = λ p t e. ⊎_elim (h.turn p t) (λ g. new.turn g.0 t g.1) (from_both ts piece p t e);
      once = λ p s t e f free. ⊎_elim
          (λ g. ⊎_elim (λ k. h.once p s t k g (λ j x at. free j x (front_at h.ends _ j x at)))
          (λ k. let lt = at_below ts (suc p) t g in let at = k.2 in absurd (omega (arith, lt, at)))
          (from_both ts piece p s e))
          (λ g. ⊎_elim (λ k. absurd (seam p s t k g free (length vs) refl))
          (λ k. let at = g.2 in let at' = k.2 in let next : g.0 ≡ suc k.0 = omega (arith, at, at') in
          new.rise k.0 s t k.1 (ap (get_elem? piece) (sym next) ∙ g.1)) (from_both ts piece p s e))
          (from_both ts piece (suc p) t f);
    }
      where
        sums : (i x : ℕ) → get_elem? v i ≡ some x → by_of i (ts ++ piece) ≡ x
        sums i x at =
            let lt = at_below v i x at in let its = there u i 0 (omega (arith, lt, all)) in let b = before i _ its in
            let s = new.sums i _ x (omega (arith, lt, few)) its at in let both = by_both i ts piece in omega (arith, b, s, both)

        -- an end stands between the old turns and the new ones
        seam : (p : ℕ) (s t : Turn) → get_elem? ts p ≡ some s → ((q : ℕ) × (get_elem? piece q ≡ some t) × (suc p ≡ length ts + q))
            → ((j x : ℕ) → get_elem? (h.ends ++ length (ts ++ piece) ∷ []) j ≡ some x → ¬ (x ≡ suc p)) → (m : ℕ) → m ≢ length vs
        seam p s t old next free zero is = let lt = at_below ts p s old in
            let e = ap (λ (z : List Turn). length z) (h.none (empty vs is)) in omega (arith, lt, e)
        seam p s t old next free (suc j) is =
            let lt = at_below ts p s old in let at = next.2 in
            free j (length ts) (front_at h.ends _ j (length ts) (h.whole j is)) (omega (arith, lt, at))

at_take : {A : Type 0} (l : List A) (n i : ℕ) (a : A) → i < n → get_elem? l i ≡ some a → get_elem? (take n l) i ≡ some a
at_take [] n i a lt e = absurd (some-ne-none a (sym e))
at_take (x ∷ l) zero i a lt e = absurd (omega (arith, lt))
at_take (x ∷ l) (suc n) zero a lt e = e
at_take (x ∷ l) (suc n) (suc i) a lt e = at_take l n i a (omega (arith, lt)) e

take_one : {A : Type 0} (l : List A) (n : ℕ) (a : A) → get_elem? l n ≡ some a → take (n + 1) l ≡ take n l ++ a ∷ []
take_one l n a e =
    let s : n + 1 ≡ suc n = omega arith in
    ap (λ (k : ℕ). take k l) s ∙ (take-suc l n a (at_below l n a e) ∙ ap (λ (x : _). take n l ++ x ∷ []) (read_at l n a a e))

no_number : (n k : ℕ) (u : List ℕ) → u ≡ replicate n 0 → (i x : ℕ) → get_elem? u i ≡ some x → x ≡ 0
no_number n k u zeros i x e = sym (from_replicate n 0 i x (ap (λ (l : List ℕ). get_elem? l i) (sym zeros) ∙ e))

module _ (n : ℕ) (vs : List (List ℕ)) where
  -- a vector is above the one before it at each place
  pub rises_from : AreRising (length vs) vs → (k : ℕ) (u v : List ℕ) → IsBefore n vs k u → get_elem? vs k ≡ some v → Below u v
  rises_from rising zero u v b at = λ i x y e f. let none = no_number n 0 u (b.zeros refl) i x e in omega (arith, none)
  rises_from rising (suc j) u v b at = rising j u v (at_below vs (suc j) v at) (b.before j refl) at

  module _ (ts : List Turn) where
    by_before : (k : ℕ) (u : List ℕ) → k < length vs → IsHistory n (take k vs) ts → IsBefore n vs k u → (i x : ℕ)
        → get_elem? u i ≡ some x → by_of i ts ≡ x
    by_before zero u lt h b i x e = by_no n (take 0 vs) ts h refl i ∙ sym (no_number n 0 u (b.zeros refl) i x e)
    by_before (suc j) u lt h b i x e =
        by_last n (take (suc j) vs) ts h j u (sym (length-take-le (suc j) vs (omega (arith, lt))))
        (at_take vs (suc j) j u (omega arith) (b.before j refl)) i x e

    -- the history of the first k vectors goes on to that of one more
    pub history_next : (k : ℕ) (u v : List ℕ) (piece : List Turn) → IsHistory n (take k vs) ts → IsBefore n vs k u
        → get_elem? vs k ≡ some v → length v ≡ n
        → IsPiece n u v piece → IsHistory n (take (k + 1) vs) (ts ++ piece)
    history_next k u v piece h b at few new =
        subst (λ l. IsHistory n l (ts ++ piece)) (sym (take_one vs k v at))
        (history_more n (take k vs) ts h u v piece (b.all ∙ sym few) few new (by_before k u (at_below vs k v at) h b))
