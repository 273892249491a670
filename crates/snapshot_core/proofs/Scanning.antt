-- What is true of a scan in progress, and that each read keeps it.
use Rattle.std.proofs.Common.{◌≡◌, ◌≢◌, ℕ, zero, suc, ◌+◌, ◌-◌, ◌*◌, ◌%◌, ◌^◌, ◌<◌, ◌≤◌, Bool, true, false, not, cond, List, []}
use Rattle.std.proofs.Common.{◌∷◌, length, take, get_or, eqb, ltb, ltb-true, ltb-false, sym, refl, ap, ◌∙◌, subst, arith, Option}
use Rattle.std.proofs.Common.{Some, None, get_or-set_same, get_or-set_other, length-set}
use Rattle.std.proofs.Math.ListN.{set}
use Rattle.std.proofs.lemmas.List.{length-take-le, get_or-take}
use Rattle.std.proofs.lemmas.Bool.{cond_both, eqb-true, eqb-false, leb-true, or_parts, not-true, not-false, cond-true, cond-false}
use Rattle.std.proofs.lemmas.Bool.{eq-eqb, ne_eqb}
use mathlib.Core.Logic.{dite}
use native.Mathlib.Decide.{ℕ_discrete}
use Rattle.ledger_core.specs.declared.op.Op.{Op}
use Rattle.snapshot_core.specs.declared.next.Next.{Next}
use Rattle.snapshot_core.specs.declared.next.Next.TheVariants.{First, Second, Ask, Direct, Lent, GaveUp}
use Rattle.snapshot_core.specs.declared.scan.Scan.{Scan}
use Rattle.snapshot_core.specs.History.{Published, number_at, row_at, OneStep}
use Rattle.snapshot_core.specs.Machine.{added}
use Rattle.snapshot_core.specs.Scan.{least_of, failed_at, least_failed_of, next_asked_of, lends_to, failed_of, given_up}
use Rattle.snapshot_core.specs.Scan.{asks_or_fails, asked_from, asks_or_ends, collected, first_at, second_at, asked_at}
use Rattle.snapshot_core.specs.Sized.{IsSized}
use Rattle.snapshot_core.specs.Tries.{View}
use Rattle.snapshot_core.proofs.Past.{number_rises, row_rises, row_stays, sum_to, sum_ap, sum_le, rows_total, Inside}
use Rattle.snapshot_core.proofs.Sized.{asked_within, sized_at_base, sized_put}

-- f, with c at i
put : (ℕ → ℕ) → ℕ → ℕ → ℕ → ℕ
put f i c j = cond (eqb j i) c (f j)

put_here : (f : ℕ → ℕ) (i : ℕ) (c : ℕ) → put f i c i ≡ c
unfolding put
put_here f i c = cond-true (eqb i i) c (f i) (eq-eqb i i refl)

put_else : (f : ℕ → ℕ) (i : ℕ) (c : ℕ) (j : ℕ) → j ≢ i → put f i c j ≡ f j
unfolding put
put_else f i c j other = cond-false (eqb j i) c (f j) (ne_eqb j i other)

-- where the least place that failed is none, no place failed
none_failed : (o : List ℕ) (w : List Bool) (f : List ℕ) (k m : ℕ) → failed_at o w f (least_failed_of o w f k m) ≡ false → (q : ℕ)
    → k ≤ q → q ≤ k + m → failed_at o w f q ≡ false
none_failed o w f k zero e q a h = let same : q ≡ k = omega arith in ap (failed_at o w f) same ∙ e
none_failed o w f k (suc m) e q a h = go (failed_at o w f k) refl e (none_failed o w f (suc k) m)
  where
    go : (t : Bool) → failed_at o w f k ≡ t → failed_at o w f (cond t k (least_failed_of o w f (suc k) m)) ≡ false
        → (failed_at o w f (least_failed_of o w f (suc k) m) ≡ false → (q : ℕ) → suc k ≤ q → q ≤ suc k + m
        → failed_at o w f q ≡ false) → failed_at o w f q ≡ false
    go true is e rec = absurd (let x : true ≡ false = sym is ∙ e in cc)
    go false is e rec = dite (ℕ_discrete q k) (λ same. ap (failed_at o w f) same ∙ is)
        (λ other. rec e q (omega arith) (omega arith))

-- the totals after one more row
pub added_length : (t r : List ℕ) → length (added t r) ≡ length t
added_length [] r = refl
added_length (x ∷ t) [] = refl
added_length (x ∷ t) (y ∷ r) = let e = added_length t r in omega arith

added_at : (t r : List ℕ) (x : ℕ) → x < length t → x < length r → get_or (added t r) x 0 ≡ (get_or t x 0 + get_or r x 0) % 2 ^ 64
added_at [] r x h l = absurd (omega arith)
added_at (y ∷ t) [] x h l = absurd (omega arith)
added_at (y ∷ t) (z ∷ r) zero h l = refl
added_at (y ∷ t) (z ∷ r) (suc x) h l = added_at t r x (omega arith) (omega arith)

totals_more : (p x w : ℕ) (t r : List ℕ) (u v : ℕ) → x < w → length t ≡ w → length r ≡ w → (p ≡ 0 → u ≡ 0)
    → (p ≢ 0 → get_or t x 0 ≡ u) → get_or r x 0 ≡ v → u + v < 2 ^ 64 → get_or (cond (eqb p 0) r (added t r)) x 0 ≡ u + v
totals_more p x w t r u v hx lt lr zero_u is_u is_v small = cond_both (eqb p 0) r (added t r) (λ z. get_or z x 0 ≡ u + v)
    (λ e. let z = zero_u (eqb-true p 0 e) in omega arith)
    (λ e. let z = is_u (eqb-false p 0 e) in added_at t r x (omega arith) (omega arith)
    ∙ (let g : (get_or t x 0 + get_or r x 0) % 2 ^ 64 ≡ u + v = omega arith in g))

-- `adds` tells what operations add to a word, and a row has w words
module _ (adds : List Op → ℕ → ℕ) (w : ℕ) where
  -- the first p places of a first collect, each read at its moment, from b on and by e
  pub record Firsts (ps : List Published) (b e p : ℕ) (opened : List ℕ) (whole : List Bool) (totals : List ℕ) : Type 0 where
    pub moment : ℕ → ℕ
    pub after : (q : ℕ) → q < p → b ≤ moment q
    pub by : (q : ℕ) → q < p → moment q ≤ e
    pub number : (q : ℕ) → q < p → get_or opened q 0 ≡ number_at ps (moment q) q
    pub sums : 0 < p → ((q : ℕ) → q < p → get_or whole q false ≡ true) → (x : ℕ) → x < w
        → get_or totals x 0 ≡ sum_to p (λ q. row_at adds ps (moment q) q x)

  -- and the first p places of a second collect
  pub record Seconds (n : ℕ) (ps : List Published) (b e p : ℕ) (s : Scan) (totals : List ℕ) : Type 0 where
    pub mid : ℕ
    pub after : b ≤ mid
    pub by : mid ≤ e
    pub firsts : Firsts ps b mid n s.opened s.whole totals
    pub found : (q : ℕ) → q < p → (m : ℕ) × (mid ≤ m) × (m ≤ e) × (get_or s.found q 0 ≡ number_at ps m q)

-- the base was read from b on
abbrev pub Based : (n : ℕ) → List Published → (b e : ℕ) → Scan → Type 0
Based n ps b e s = (q : ℕ) → q < n → (m : ℕ) × (b ≤ m) × (m ≤ e) × (get_or s.base q 0 ≡ number_at ps m q)

abbrev pub MayBeBased : (n : ℕ) → List Published → (b e : ℕ) → Scan → Type 0
MayBeBased n ps b e s = s.tries ≢ 1 → Based n ps b e s

-- the second collect's numbers are at most those of now
abbrev pub Seen : (n : ℕ) → List Published → (e : ℕ) → Scan → Type 0
Seen n ps e s = (q : ℕ) → q < n → get_or s.found q 0 ≤ number_at ps e q

-- n workers; a scan that began at b and made its last read at e
module _ (adds : List Op → ℕ → ℕ) (w n : ℕ) (ps : List Published) (b e : ℕ) where
  abbrev pub NextOk : Scan → List ℕ → Option View → Next → Type 0
  NextOk s totals view (First p) = (p < n) × Firsts adds w ps b e p s.opened s.whole totals × MayBeBased n ps b e s
  NextOk s totals view (Second p) = (p < n) × Seconds adds w n ps b e p s totals × MayBeBased n ps b e s
  NextOk s totals view (Ask p) = (p < n) × Based n ps b e s × Seen n ps e s × (get_or s.base p 0 + 2 ≤ number_at ps e p)
  NextOk s totals view Direct = OneStep adds n w ps b e (record { vector = take s.n s.opened; totals = totals })
  NextOk s totals view (Lent p) = (v : View) × (view ≡ Some v) × OneStep adds n w ps b e v
  NextOk s totals view (GaveUp worker first last) = Unit {0}

  -- `view` is what the last read met
  abbrev pub Good : Scan → List ℕ → Option View → Type 0
  Good s totals view = (s.n ≡ n) × NextOk s totals view s.next

-- no place read yet
pub none_read : (adds : List Op → ℕ → ℕ) (w : ℕ) (ps : List Published) (b e : ℕ) (o : List ℕ) (wh : List Bool) (t : List ℕ)
    → Firsts adds w ps b e 0 o wh t
none_read adds w ps b e o wh t = record {
  moment = λ q. 0;
  after = λ q h. absurd (omega arith);
  by = λ q h. absurd (omega arith);
  number = λ q h. absurd (omega arith);
  sums = λ h. absurd (omega arith);
}

module _ (adds : List Op → ℕ → ℕ) (w n : ℕ) (ps : List Published) (b : ℕ) where
  fails_good : (e : ℕ) (s : Scan) (t : List ℕ) (v : Option View) → s.n ≡ n → 1 ≤ n → Based n ps b e s
      → Good adds w n ps b e (failed_of s) t v
  fails_good e s t v size some base = cond_both (ltb s.tries (s.n + 2)) (record s { tries = s.tries + 1; next = First 0 })
      (given_up s (least_of s)) (λ (y : Scan). Good adds w n ps b e y t v)
      (λ h. (size, (omega arith, none_read adds w ps b e s.opened s.whole t, λ _. base)))
      (λ h. (size, tt))

  asks_good : (e k : ℕ) (s : Scan) (t : List ℕ) (v : Option View) → s.n ≡ n → 1 ≤ n → k ≤ n → Based n ps b e s → Seen n ps e s
      → Good adds w n ps b e (asked_from k s) t v
  asks_good e k s t v size some le base seen = go (next_asked_of s.base s.found k (s.n - k)) refl
    where
      go : (o : Option ℕ) → next_asked_of s.base s.found k (s.n - k) ≡ o → Good adds w n ps b e (asks_or_fails s o) t v
      go None is = fails_good e s t v size some base
      go (Some p) is = let a = asked_within s.base s.found k (s.n - k) p is in let a1 = a.1 in let lt : p < n = omega arith in
          let twice = leb-true _ _ a.2 in let up = seen p lt in
          (size, (lt, base, seen, omega arith))

  -- a try without a place that failed is a moment: the event of its last first read
  direct : (e : ℕ) (s : Scan) (t : List ℕ) → Inside n ps → IsSized s → s.n ≡ n → length t ≡ w → Seconds adds w n ps b e n s t
      → failed_at s.opened s.whole s.found (least_of s) ≡ false
      → OneStep adds n w ps b e (record { vector = take s.n s.opened; totals = t })
  direct e s t inside z size words r none = record {
    at = r.mid;
    after = r.after;
    by = r.by;
    right = record {
      vector_wide = length-take-le s.n s.opened (let most = z.most in let len = z.opened in omega arith) ∙ size;
      totals_wide = words;
      numbers = λ i h. let a = same i h in let o = r.firsts.number i h in
          let c = get_or-take s.n s.opened i 0 (let l : i < s.n = omega arith in l) in omega arith;
      sums = λ x h. r.firsts.sums (let some = z.some in omega arith) (λ q l. (clean q l).0) x h
          ∙ sum_ap n _ _ (λ q l. row_stays adds ps (r.firsts.moment q) r.mid q x (r.firsts.by q l) (same q l))
          ∙ rows_total adds n ps r.mid x inside;
    };
  }
    where
      clean : (q : ℕ) → q < n → (get_or s.whole q false ≡ true) × (eqb (get_or s.opened q 0) (get_or s.found q 0) ≡ true)
      clean q l = let e = or_parts _ _ (none_failed s.opened s.whole s.found 0 (s.n - 1) none q (omega arith) (omega arith)) in
          (not-false _ e.0, not-false _ e.1)

      same : (q : ℕ) → q < n → number_at ps (r.firsts.moment q) q ≡ number_at ps r.mid q
      same q l = let c = eqb-true _ _ (clean q l).1 in let f = r.found q l in let f3 = f.3 in let o = r.firsts.number q l in
          let up = number_rises ps (r.firsts.moment q) r.mid q (r.firsts.by q l) in let up2 = number_rises ps r.mid f.0 q f.1 in
          omega arith

  settles : (e : ℕ) (s : Scan) (t : List ℕ) (v : Option View) (o : Bool) → Inside n ps → IsSized s → s.n ≡ n → length t ≡ w
      → Seconds adds w n ps b e n s t → Based n ps b e s → failed_at s.opened s.whole s.found (least_of s) ≡ o
      → Good adds w n ps b e (asks_or_ends o s) t v
  settles e s t v false inside z size words r base is = (size, direct e s t inside z size words r is)
  settles e s t v true inside z size words r base is = asks_good e 0 s t v size (let some = z.some in omega arith)
      (omega arith) base (λ q l. let f = r.found q l in let f3 = f.3 in let up = number_rises ps f.0 e q f.2 in omega arith)

  collects : (e : ℕ) (s : Scan) (t : List ℕ) (v : Option View) → Inside n ps → IsSized s → s.n ≡ n → length t ≡ w
      → Seconds adds w n ps b e n s t → MayBeBased n ps b e s → Good adds w n ps b e (collected s) t v
  collects e s t v inside z size words r base = cond_both (eqb s.tries 1) (record s { floor = s.opened; base = s.found }) s
      (λ (y : Scan). Good adds w n ps b e (asks_or_ends (failed_at s.opened s.whole s.found (least_of s)) y) t v)
      (λ h. settles e (record s { floor = s.opened; base = s.found }) t v (failed_at s.opened s.whole s.found (least_of s)) inside
      (sized_at_base s z) size words
      (record { mid = r.mid; after = r.after; by = r.by; firsts = r.firsts; found = r.found })
      (λ q l. let f = r.found q l in let f1 = f.1 in let af = r.after in (f.0, omega arith, f.2, f.3)) refl)
      (λ h. settles e s t v (failed_at s.opened s.whole s.found (least_of s)) inside z size words r (base (eqb-false s.tries 1 h))
      refl)

  later_base : (e k : ℕ) (s : Scan) → e ≤ k → Based n ps b e s → Based n ps b k s
  later_base e k s le base q l = let f = base q l in let f2 = f.2 in (f.0, f.1, omega arith, f.3)

  later_seen : (e k : ℕ) (s : Scan) → e ≤ k → Seen n ps e s → Seen n ps k s
  later_seen e k s le seen q l = let a = seen q l in let up = number_rises ps e k q le in omega arith

  -- one more read of a first collect
  firsts_more : (e k p : ℕ) (s : Scan) (t row : List ℕ) (num : ℕ) (torn : Bool) → e ≤ k → b ≤ k → p < n → n ≤ 32
      → length s.opened ≡ 32 → length s.whole ≡ 32 → length t ≡ w → length row ≡ w
      → num ≡ number_at ps k p → ((x : ℕ) → x < w → get_or row x 0 ≡ row_at adds ps k p x)
      → ((q x : ℕ) → q < n → x < w → row_at adds ps k q x ≤ 281474976710655)
      → Firsts adds w ps b e p s.opened s.whole t → Firsts adds w ps b k (suc p) (set s.opened p num) (set s.whole p (not torn))
      (cond torn t (cond (eqb p 0) row (added t row)))
  firsts_more e k p s t row num torn le ble lt most len_o len_w len_t len_r is_num is_row small r = record {
    moment = put r.moment p k;
    after = λ q l. at q l (λ m. b ≤ m) ble (r.after q);
    by = λ q l. at q l (λ m. m ≤ k) (omega arith) (λ h. let y = r.by q h in let g : r.moment q ≤ k = omega arith in g);
    number = λ q l. dite (ℕ_discrete q p)
        (λ same. subst (λ (y : ℕ). get_or (set s.opened p num) y 0 ≡ number_at ps (put r.moment p k y) y) (sym same)
        (get_or-set_same s.opened p num 0 (omega arith) ∙ is_num
        ∙ ap (λ (m : ℕ). number_at ps m p) (sym (put_here r.moment p k))))
        (λ other. get_or-set_other s.opened p q num 0 other ∙ r.number q (omega arith)
        ∙ ap (λ (m : ℕ). number_at ps m q) (sym (put_else r.moment p k q other)));
    sums = λ _ all x hx. sums_of x hx
        (not-true torn (sym (get_or-set_same s.whole p (not torn) false (omega arith)) ∙ all p (omega arith))) all;
  }
    where
      at : (q : ℕ) → q < suc p → (P : ℕ → Type 0) → P k → (q < p → P (r.moment q)) → P (put r.moment p k q)
      at q l P here else = dite (ℕ_discrete q p)
          (λ same. subst P (sym (put_here r.moment p k) ∙ ap (put r.moment p k) (sym same)) here)
          (λ other. subst P (sym (put_else r.moment p k q other)) (else (omega arith)))

      old : ((q : ℕ) → q < suc p → get_or (set s.whole p (not torn)) q false ≡ true) → (q : ℕ) → q < p
          → get_or s.whole q false ≡ true
      old all q l = sym (get_or-set_other s.whole p q (not torn) false (let ne : q ≢ p = omega arith in ne)) ∙ all q (omega arith)

      bound : (x : ℕ) → x < w → sum_to p (λ q. row_at adds ps (r.moment q) q x) ≤ p * 281474976710655
      bound x hx = sum_le p _ (λ q l. let a = row_rises adds ps (r.moment q) k q x (let y = r.by q l in omega arith) in
          let s = small q x (omega arith) hx in omega arith)

      sums_of : (x : ℕ) → x < w → torn ≡ false → ((q : ℕ) → q < suc p → get_or (set s.whole p (not torn)) q false ≡ true)
          → get_or (cond torn t (cond (eqb p 0) row (added t row))) x 0 ≡ sum_to (suc p)
          (λ q. row_at adds ps (put r.moment p k q) q x)
      sums_of x hx untorn all = ap (λ (y : Bool). get_or (cond y t (cond (eqb p 0) row (added t row))) x 0) untorn
          ∙ totals_more p x w t row (sum_to p (λ q. row_at adds ps (r.moment q) q x)) (row_at adds ps k p x) hx len_t len_r
          (λ none. ap (λ (y : ℕ). sum_to y (λ q. row_at adds ps (r.moment q) q x)) none)
          (λ some. r.sums (omega arith) (old all) x hx) (is_row x hx)
          (let a = bound x hx in let c = small p x lt hx in omega arith)
          ∙ ap (λ (z : ℕ × ℕ). z.0 + z.1) (λ c. (
            sum_ap p (λ q. row_at adds ps (r.moment q) q x) (λ q. row_at adds ps (put r.moment p k q) q x)
                (λ q l. ap (λ (m : ℕ). row_at adds ps m q x) (sym (put_else r.moment p k q (let ne : q ≢ p = omega arith in ne))))
                c,
            ap (λ (m : ℕ). row_at adds ps m p x) (sym (put_here r.moment p k)) c,
          ))

  -- a first read
  pub first_good : (e k p : ℕ) (s : Scan) (t row : List ℕ) (v u : Option View) (num : ℕ) (torn : Bool) → e ≤ k → b ≤ k → IsSized s
      → s.n ≡ n → length t ≡ w → length row ≡ w
      → num ≡ number_at ps k p → ((x : ℕ) → x < w → get_or row x 0 ≡ row_at adds ps k p x)
      → ((q x : ℕ) → q < n → x < w → row_at adds ps k q x ≤ 281474976710655)
      → NextOk adds w n ps b e s t v (First p) → Good adds w n ps b k (first_at num (not torn) s p)
      (cond torn t (cond (eqb p 0) row (added t row))) u
  first_good e k p s t row v u num torn le ble z size len_t len_r is_num is_row small (lt, r, base) =
      let more = firsts_more e k p s t row num torn le ble lt (let most = z.most in omega arith) z.opened z.whole len_t len_r
      is_num is_row small r in (
        size,
        cond_both (ltb (p + 1) s.n) (First (p + 1)) (Second 0)
            (λ (y : Next). NextOk adds w n ps b k (first_at num (not torn) s p) (cond torn t (cond (eqb p 0) row (added t row))) u
            y)
            (λ h. let l = ltb-true (p + 1) s.n h in (
              omega arith,
              subst (λ (y : ℕ). Firsts adds w ps b k y (set s.opened p num) (set s.whole p (not torn))
                  (cond torn t (cond (eqb p 0) row (added t row)))) (let g : suc p ≡ p + 1 = omega arith in g) more,
              λ ne. later_base e k s le (base ne),
            ))
            (λ h. let l = ltb-false (p + 1) s.n h in (
              omega arith,
              record {
                mid = k;
                after = ble;
                by = (let g : k ≤ k = omega arith in g);
                firsts = subst (λ (y : ℕ). Firsts adds w ps b k y (set s.opened p num) (set s.whole p (not torn))
                    (cond torn t (cond (eqb p 0) row (added t row)))) (let g : suc p ≡ n = omega arith in g) more;
                found = λ q l. absurd (omega arith);
              },
              λ ne. later_base e k s le (base ne),
            )),
      )

  -- a second read
  pub second_good : (e k p : ℕ) (s : Scan) (t : List ℕ) (v u : Option View) (num : ℕ) → e ≤ k → Inside n ps → IsSized s → s.n ≡ n
      → length t ≡ w
      → num ≡ number_at ps k p → NextOk adds w n ps b e s t v (Second p) → Good adds w n ps b k (second_at num s p) t u
  second_good e k p s t v u num le inside z size len_t is_num (lt, r, base) =
      cond_both (ltb (p + 1) s.n) (record s { found = set s.found p num; next = Second (p + 1) })
      (collected (record s { found = set s.found p num })) (λ (y : Scan). Good adds w n ps b k y t u)
      (λ h. let l = ltb-true (p + 1) s.n h in (
        size,
        (
          omega arith,
          record {
            mid = r.mid;
            after = r.after;
            by = by_k;
            firsts = r.firsts;
            found = λ q l. found_at q (omega arith);
          },
          λ ne. later_base e k s le (base ne),
        ),
      ))
      (λ h. let over = ltb-false (p + 1) s.n h in collects k (record s { found = set s.found p num }) t u inside
      (sized_put num p s z) size len_t
      (record { mid = r.mid; after = r.after; by = by_k; firsts = r.firsts; found = λ q l. found_at q (omega arith) })
      (λ ne. later_base e k s le (base ne)))
    where
      by_k : r.mid ≤ k
      by_k = let y = r.by in omega arith

      found_at : (q : ℕ) → q < suc p → (m : ℕ) × (r.mid ≤ m) × (m ≤ k) × (get_or (set s.found p num) q 0 ≡ number_at ps m q)
      found_at q l = dite (ℕ_discrete q p)
          (λ same. (
            k,
            by_k,
            omega arith,
            subst (λ (y : ℕ). get_or (set s.found p num) y 0 ≡ number_at ps k y) (sym same)
                (get_or-set_same s.found p num 0 (let len = z.found in let most = z.most in omega arith) ∙ is_num),
          ))
          (λ other. let f = r.found q (omega arith) in let f2 = f.2 in
          (f.0, f.1, omega arith, get_or-set_other s.found p q num 0 other ∙ f.3))

  -- an asked worker lends nothing
  pub refused : (e k p : ℕ) (s : Scan) (t : List ℕ) (v u : Option View) → e ≤ k → IsSized s → s.n ≡ n
      → NextOk adds w n ps b e s t v (Ask p) → Good adds w n ps b k (asked_from (p + 1) s) t u
  refused e k p s t v u le z size (lt, base, seen, up) = asks_good k (p + 1) s t u size (let some = z.some in omega arith)
      (omega arith) (later_base e k s le base) (later_seen e k s le seen)

  -- an asked worker has a view
  pub lent : (e k p : ℕ) (s : Scan) (t : List ℕ) (v : Option View) (a : View) → e ≤ k → IsSized s → s.n ≡ n
      → OneStep adds n w ps b k a → NextOk adds w n ps b e s t v (Ask p) → Good adds w n ps b k (asked_at (Some a.vector) s p) t
      (Some a)
  lent e k p s t v a le z size step ok = cond_both (lends_to s a.vector) (record s { next = Lent p }) (asked_from (p + 1) s)
      (λ (y : Scan). Good adds w n ps b k y t (Some a))
      (λ h. (size, (a, refl, step)))
      (λ h. refused e k p s t v (Some a) le z size ok)
