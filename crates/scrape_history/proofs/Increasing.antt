-- Increases, one after another.
use Rattle.std.proofs.Common.{◌≡◌, ℕ, zero, suc, ◌+◌, ◌-◌, ◌<◌, List, [], ◌∷◌, ◌++◌, length, get_or, set, take, drop, refl, ap}
use Rattle.std.proofs.Common.{sym, subst, ◌∙◌, arith}
use Rattle.std.specs.Prelude.{◌%◌, ◌^◌}
use Rattle.std.proofs.lemmas.List.{take-append-drop, append_assoc, take_more, drop_more, length-take-le, get_or_at, set_at}
use Rattle.std.proofs.lemmas.List.{append-nil}
use Rattle.snapshot_scan.specs.Snapshots.{Taken}
use Rattle.scrape_history.specs.declared.increase.Increase.{Increase}
use Rattle.scrape_history.specs.declared.increase.Increase.TheVariants.{Number, Total}
use Rattle.scrape_history.specs.Increases.{raised, raised_by, IsFor, AreFor, Lead, Adds}

pub raised_append : (t : Taken) (xs ys : List Increase) → raised_by t (xs ++ ys) ≡ raised_by (raised_by t xs) ys
raised_append t [] ys = refl
raised_append t (x ∷ xs) ys = raised_append (raised t x) xs ys

pub raised_more : (t : Taken) (xs : List Increase) (i : ℕ) (d : Increase) → i < length xs
    → raised_by t (take (i + 1) xs) ≡ raised (raised_by t (take i xs)) (get_or xs i d)
raised_more t xs i d lt = ap (raised_by t) (take_more xs i d lt) ∙ raised_append t (take i xs) (get_or xs i d ∷ [])

pub raised_rest : (t : Taken) (i : ℕ) (xs : List Increase) → raised_by (raised_by t (take i xs)) (drop i xs) ≡ raised_by t xs
raised_rest t i xs = sym (raised_append t (take i xs) (drop i xs)) ∙ ap (raised_by t) (take-append-drop i xs)

module _ (n w : ℕ) where
  pub fit_append : (t : Taken) (xs ys : List Increase) → AreFor n w t xs → AreFor n w (raised_by t xs) ys
      → AreFor n w t (xs ++ ys)
  fit_append t [] ys front back = back
  fit_append t (x ∷ xs) ys front back = (front.0, fit_append (raised t x) xs ys front.1 back)

  pub fit_at : (t : Taken) (xs : List Increase) (i : ℕ) (d : Increase) → AreFor n w t xs → i < length xs
      → IsFor n w (raised_by t (take i xs)) (get_or xs i d)
  fit_at t [] i d fit lt = absurd (omega (arith, lt))
  fit_at t (x ∷ xs) zero d fit lt = fit.0
  fit_at t (x ∷ xs) (suc i) d fit lt = fit_at (raised t x) xs i d fit.1 (omega (arith, lt))

  pub fit_rest : (t : Taken) (i : ℕ) (xs : List Increase) → AreFor n w t xs → AreFor n w (raised_by t (take i xs)) (drop i xs)
  fit_rest t zero xs fit = fit
  fit_rest t (suc i) [] fit = fit
  fit_rest t (suc i) (x ∷ xs) fit = fit_rest (raised t x) i xs fit.1

  pub lead_on : (t u v : Taken) (xs ys : List Increase) → Lead n w t u xs → Lead n w u v ys → Lead n w t v (xs ++ ys)
  lead_on t u v xs ys first second = record {
    fit = fit_append t xs ys first.fit (subst (λ (x : Taken). AreFor n w x ys) (sym first.to) second.fit);
    to = raised_append t xs ys ∙ ap (λ (x : Taken). raised_by x ys) first.to ∙ second.to;
  }

  pub lead_rest : (t u : Taken) (i : ℕ) (xs : List Increase) → Lead n w t u xs → Lead n w (raised_by t (take i xs)) u (drop i xs)
  lead_rest t u i xs lead = record { fit = fit_rest t i xs lead.fit; to = raised_rest t i xs ∙ lead.to }

  pub adds_none : (t u : Taken) (old : List Increase) → t ≡ u → Adds n w t u old old
  adds_none t u old same = record { more = []; are = sym (append-nil old); lead = record { fit = tt; to = same } }

  pub adds_both : (t u v : Taken) (old mid new : List Increase) → Adds n w t u old mid → Adds n w u v mid new
      → Adds n w t v old new
  adds_both t u v old mid new first second = record {
    more = first.more ++ second.more;
    are = second.are ∙ ap (λ (l : List Increase). l ++ second.more) first.are ∙ append_assoc old first.more second.more;
    lead = lead_on t u v first.more second.more first.lead second.lead;
  }

  -- one increase more
  pub adds_one : (t u v : Taken) (old mid new : List Increase) (x : Increase) → Adds n w t u old mid → new ≡ mid ++ x ∷ []
      → IsFor n w u x → raised u x ≡ v
      → Adds n w t v old new
  adds_one t u v old mid new x first is fit to =
      adds_both t u v old mid new first (record { more = x ∷ []; are = is; lead = record { fit = (fit, tt); to = to } })

  pub adds_same : (t u v : Taken) (old mid : List Increase) → Adds n w t u old mid → u ≡ v → Adds n w t v old mid
  adds_same t u v old mid adds same = subst (λ (x : Taken). Adds n w t x old mid) same adds

-- of a list the front is that of another
module _ (is was : List ℕ) (k : ℕ) (here : k < length is) (there : k < length was) where
  front : length (take k is) ≡ k
  front = length-take-le k is (omega (arith, here))

  split : take k is ++ drop k was ≡ take k is ++ get_or was k 0 ∷ drop (k + 1) was
  split = ap (λ (l : List ℕ). take k is ++ l) (drop_more was k 0 there)

  further : take (k + 1) is ++ drop (k + 1) was ≡ take k is ++ get_or is k 0 ∷ drop (k + 1) was
  further = ap (λ (l : List ℕ). l ++ drop (k + 1) was) (take_more is k 0 here) ∙ append_assoc (take k is) (get_or is k 0 ∷ [])
      (drop (k + 1) was)

  pub mixed_at : get_or (take k is ++ drop k was) k 0 ≡ get_or was k 0
  mixed_at = ap (λ (l : List ℕ). get_or l k 0) split ∙ get_or_at (take k is) (get_or was k 0) (drop (k + 1) was) 0 k front

  pub mixed_set : set (take k is ++ drop k was) k (get_or is k 0) ≡ take (k + 1) is ++ drop (k + 1) was
  mixed_set = ap (λ (l : List ℕ). set l k (get_or is k 0)) split ∙ set_at (take k is) (get_or was k 0) (drop (k + 1) was)
      (get_or is k 0) k front ∙ sym further

  pub mixed_same : get_or is k 0 ≡ get_or was k 0 → take k is ++ drop k was ≡ take (k + 1) is ++ drop (k + 1) was
  mixed_same same = split ∙ ap (λ (y : ℕ). take k is ++ y ∷ drop (k + 1) was) (sym same) ∙ sym further

-- what is added leads to the number
pub wraps_back : (a b : ℕ) → a < 2 ^ 64 → b < 2 ^ 64 → (a + (b + (2 ^ 64 - a)) % 2 ^ 64) % 2 ^ 64 ≡ b
wraps_back a b la lb = omega arith

pub mixed_raised : (is was : List ℕ) (k by : ℕ) → k < length is → k < length was
    → by ≡ (get_or is k 0 + (2 ^ 64 - get_or was k 0)) % 2 ^ 64
    → get_or is k 0 < 2 ^ 64 → get_or was k 0 < 2 ^ 64 → (get_or (take k is ++ drop k was) k 0 + by) % 2 ^ 64 ≡ get_or is k 0
mixed_raised is was k by here there e li lw =
    ap (λ (x : ℕ). (x + by) % 2 ^ 64) (mixed_at is was k here there) ∙ ap (λ (x : ℕ). (get_or was k 0 + x) % 2 ^ 64) e
    ∙ wraps_back (get_or was k 0) (get_or is k 0) lw li

-- one increase of many
module _ (n w : ℕ) (t u : Taken) (xs : List Increase) (i : ℕ) (x : Increase) (was : u ≡ raised_by t (take i xs))
    (here : x ≡ get_or xs i x) (lt : i < length xs) where
  pub fit_here : AreFor n w t xs → IsFor n w u x
  fit_here fit =
      subst (λ (v : Taken). IsFor n w v x) (sym was) (subst (λ (y : Increase). IsFor n w (raised_by t (take i xs)) y) (sym here)
      (fit_at n w t xs i x fit lt))

  pub raised_here : raised u x ≡ raised_by t (take (i + 1) xs)
  raised_here =
      ap (λ (v : Taken). raised v x) was ∙ ap (raised (raised_by t (take i xs))) here ∙ sym (raised_more t xs i x lt)

-- of two scrapes, one number more is compared
module _ (n w : ℕ) (t u : Taken) (old mid : List Increase) (k : ℕ) (here : k < length u.vector) (there : k < length t.vector)
    (adds : Adds n w t (record t { vector = take k u.vector ++ drop k t.vector }) old mid) where
  pub numbers_same : get_or u.vector k 0 ≡ get_or t.vector k 0
      → Adds n w t (record t { vector = take (k + 1) u.vector ++ drop (k + 1) t.vector }) old mid
  numbers_same same =
      subst (λ (l : List ℕ). Adds n w t (record t { vector = l }) old mid) (mixed_same u.vector t.vector k here there same) adds

  pub numbers_more : (new : List Increase) (by : ℕ) → k < n → 0 < by → new ≡ mid ++ Number k by ∷ []
      → by ≡ (get_or u.vector k 0 + (2 ^ 64 - get_or t.vector k 0)) % 2 ^ 64
      → get_or u.vector k 0 < 2 ^ 64 → get_or t.vector k 0 < 2 ^ 64
      → Adds n w t (record t { vector = take (k + 1) u.vector ++ drop (k + 1) t.vector }) old new
  numbers_more new by lt rose is e low low' =
      let mixed : List ℕ = take k u.vector ++ drop k t.vector in
      let to : set mixed k ((get_or mixed k 0 + by) % 2 ^ 64) ≡ take (k + 1) u.vector ++ drop (k + 1) t.vector =
      ap (set mixed k) (mixed_raised u.vector t.vector k by here there e low low') ∙ mixed_set u.vector t.vector k here there in
      adds_one n w t (record t { vector = mixed }) (record t { vector = take (k + 1) u.vector ++ drop (k + 1) t.vector }) old mid
      new (Number k by) adds is (lt, rose)
      (ap (λ (l : List ℕ). record t { vector = l }) to)

-- one total more
module _ (n w : ℕ) (t u : Taken) (old mid : List Increase) (k : ℕ) (here : k < length u.totals) (there : k < length t.totals)
    (adds : Adds n w (record t { vector = u.vector }) (record u { totals = take k u.totals ++ drop k t.totals }) old mid) where
  pub totals_same : get_or u.totals k 0 ≡ get_or t.totals k 0
      → Adds n w (record t { vector = u.vector }) (record u { totals = take (k + 1) u.totals ++ drop (k + 1) t.totals }) old mid
  totals_same same =
      subst (λ (l : List ℕ). Adds n w (record t { vector = u.vector }) (record u { totals = l }) old mid)
      (mixed_same u.totals t.totals k here there same) adds

  pub totals_more : (new : List Increase) (by : ℕ) → k < w → 0 < by → new ≡ mid ++ Total k by ∷ []
      → by ≡ (get_or u.totals k 0 + (2 ^ 64 - get_or t.totals k 0)) % 2 ^ 64
      → get_or u.totals k 0 < 9007199254740992 → get_or t.totals k 0 < 2 ^ 64
      → Adds n w (record t { vector = u.vector }) (record u { totals = take (k + 1) u.totals ++ drop (k + 1) t.totals }) old new
  totals_more new by lt rose is e low low' =
      let mixed : List ℕ = take k u.totals ++ drop k t.totals in
      let back : (get_or mixed k 0 + by) % 2 ^ 64 ≡ get_or u.totals k 0 = mixed_raised u.totals t.totals k by here there e
      (omega (arith, low)) low' in
      let to : set mixed k ((get_or mixed k 0 + by) % 2 ^ 64) ≡ take (k + 1) u.totals ++ drop (k + 1) t.totals =
      ap (set mixed k) back ∙ mixed_set u.totals t.totals k here there in
      adds_one n w (record t { vector = u.vector }) (record u { totals = mixed })
      (record u { totals = take (k + 1) u.totals ++ drop (k + 1) t.totals }) old mid new (Total k by) adds is
      (lt, rose, subst (λ (x : ℕ). x < 9007199254740992) (sym back) low)
      (ap (λ (l : List ℕ). record u { totals = l }) to)
