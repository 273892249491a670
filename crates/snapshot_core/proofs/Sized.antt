-- A step keeps the bounds of a scan's fields.
use Rattle.std.proofs.Common.{◌≡◌, ℕ, zero, suc, ◌+◌, ◌-◌, ◌<◌, ◌≤◌, Bool, true, false, cond, List, Option, Some, None, ltb, eqb}
use Rattle.std.proofs.Common.{ltb-true, refl, arith, length-set, ◌∙◌, ap, sym}
use Rattle.std.proofs.Math.ListN.{set}
use Rattle.std.proofs.lemmas.Bool.{cond_both}
use Rattle.snapshot_core.specs.declared.next.Next.{Next}
use Rattle.snapshot_core.specs.declared.next.Next.TheVariants.{First, Second, Ask, Direct, Lent}
use Rattle.snapshot_core.specs.declared.scan.Scan.{Scan}
use Rattle.snapshot_core.specs.Sized.{IsSized, place_next}
use Rattle.snapshot_core.specs.Scan.{least_of, failed_at, least_failed_of, is_to_ask, next_asked_of, lends_to, failed_of}
use Rattle.snapshot_core.specs.Scan.{given_up, asks_or_fails, asked_from, based, asks_or_ends, collected, first_by, second_by}
use Rattle.snapshot_core.specs.Scan.{asked_by}

-- where the next worker to be asked is, and that it is to be asked
pub asked_within : (base found : List ℕ) (k m p : ℕ) → next_asked_of base found k m ≡ Some p → (k ≤ p) × (p < k + m)
    × (is_to_ask base found p ≡ true)
asked_within base found k zero p e = absurd (cc)
asked_within base found k (suc m) p e = go (is_to_ask base found k) refl e (asked_within base found (suc k) m p)
  where
    go : (t : Bool) → is_to_ask base found k ≡ t → cond t (Some k) (next_asked_of base found (suc k) m) ≡ Some p
        → (next_asked_of base found (suc k) m ≡ Some p → (suc k ≤ p) × (p < suc k + m) × (is_to_ask base found p ≡ true))
        → (k ≤ p) × (p < k + suc m) × (is_to_ask base found p ≡ true)
    go true is e rec = let same : k ≡ p = cc in (omega arith, omega arith, ap (is_to_ask base found) (sym same) ∙ is)
    go false is e rec = let r = rec e in let r0 = r.0 in let r1 = r.1 in (omega arith, omega arith, r.2)

-- the fields change, and not their number
sized_to : (s : Scan) (tries : ℕ) (next : Next) → IsSized s → 1 ≤ tries → tries ≤ s.n + 2 → place_next next < s.n
    → IsSized (record s { tries = tries; next = next })
sized_to s tries next z b f i = record {
  some = z.some;
  most = z.most;
  begun = b;
  few = f;
  inside = i;
  opened = z.opened;
  whole = z.whole;
  found = z.found;
}

sized_failed : (s : Scan) → IsSized s → IsSized (failed_of s)
sized_failed s z = let some = z.some in let begun = z.begun in
    cond_both (ltb s.tries (s.n + 2)) (record s { tries = s.tries + 1; next = First 0 }) (given_up s (least_of s)) IsSized
    (λ h. let l = ltb-true s.tries (s.n + 2) h in sized_to s (s.tries + 1) (First 0) z (omega arith) (omega arith) (omega arith))
    (λ h. sized_to s s.tries (given_up s (least_of s)).next z z.begun z.few (omega arith))

sized_asks : (k : ℕ) (s : Scan) → IsSized s → IsSized (asked_from k s)
sized_asks k s z = go (next_asked_of s.base s.found k (s.n - k)) refl
  where
    go : (o : Option ℕ) → next_asked_of s.base s.found k (s.n - k) ≡ o → IsSized (asks_or_fails s o)
    go None e = sized_failed s z
    go (Some p) e = let w = asked_within s.base s.found k (s.n - k) p e in let w0 = w.0 in let w1 = w.1 in
        sized_to s s.tries (Ask p) z z.begun z.few (omega arith)

-- the numbers of its first try become the floor and the base
pub sized_at_base : (s : Scan) → IsSized s → IsSized (record s { floor = s.opened; base = s.found })
sized_at_base s z = record {
  some = z.some;
  most = z.most;
  begun = z.begun;
  few = z.few;
  inside = z.inside;
  opened = z.opened;
  whole = z.whole;
  found = z.found;
}

-- a number is found
pub sized_put : (number place : ℕ) (s : Scan) → IsSized s → IsSized (record s { found = set s.found place number })
sized_put number place s z = record {
  some = z.some;
  most = z.most;
  begun = z.begun;
  few = z.few;
  inside = z.inside;
  opened = z.opened;
  whole = z.whole;
  found = length-set _ _ _ ∙ z.found;
}

sized_based : (s : Scan) → IsSized s → IsSized (based s)
sized_based s z = cond_both (eqb s.tries 1) (record s { floor = s.opened; base = s.found }) s IsSized (λ h. sized_at_base s z)
    (λ h. z)

sized_ends : (t : Bool) (s : Scan) → IsSized s → IsSized (asks_or_ends t s)
sized_ends true s z = sized_asks 0 s z
sized_ends false s z = let some = z.some in sized_to s s.tries Direct z z.begun z.few (omega arith)

pub sized_first : (number : ℕ) (whole : Bool) (s : Scan) (next : Next) → IsSized s → IsSized (first_by number whole s next)
sized_first number whole s (First place) z = let some = z.some in
    cond_both (ltb (place + 1) s.n) (First (place + 1)) (Second 0)
    (λ (y : Next). IsSized (record s { opened = set s.opened place number; whole = set s.whole place whole; next = y }))
    (λ h. let l = ltb-true (place + 1) s.n h in with_next (First (place + 1)) (omega arith))
    (λ h. with_next (Second 0) (omega arith))
  where
    with_next : (y : Next) → place_next y < s.n
        → IsSized (record s { opened = set s.opened place number; whole = set s.whole place whole; next = y })
    with_next y i = record {
      some = z.some;
      most = z.most;
      begun = z.begun;
      few = z.few;
      inside = i;
      opened = length-set _ _ _ ∙ z.opened;
      whole = length-set _ _ _ ∙ z.whole;
      found = z.found;
    }
sized_first number whole s _ z = z

sized_found : (number place : ℕ) (s : Scan) (next : Next) → place_next next < s.n → IsSized s
    → IsSized (record s { found = set s.found place number; next = next })
sized_found number place s next i z = sized_to (record s { found = set s.found place number }) s.tries next
    (sized_put number place s z) z.begun z.few i

pub sized_second : (number : ℕ) (s : Scan) (next : Next) → IsSized s → IsSized (second_by number s next)
sized_second number s (Second place) z =
    cond_both (ltb (place + 1) s.n) (record s { found = set s.found place number; next = Second (place + 1) })
    (collected (record s { found = set s.found place number })) IsSized
    (λ h. let l = ltb-true (place + 1) s.n h in sized_found number place s (Second (place + 1)) (omega arith) z)
    (λ h. sized_ends (failed_at s.opened s.whole (set s.found place number)
    (least_failed_of s.opened s.whole (set s.found place number) 0 (s.n - 1)))
    (based (record s { found = set s.found place number }))
    (sized_based (record s { found = set s.found place number }) (sized_found number place s s.next z.inside z)))
sized_second number s _ z = z

pub sized_asked : (vector : Option (List ℕ)) (s : Scan) (next : Next) → IsSized s → IsSized (asked_by vector s next)
sized_asked None s (Ask place) z = sized_asks (place + 1) s z
sized_asked (Some vector) s (Ask place) z = let some = z.some in
    cond_both (lends_to s vector) (record s { next = Lent place }) (asked_from (place + 1) s) IsSized
    (λ h. sized_to s s.tries (Lent place) z z.begun z.few (omega arith))
    (λ h. sized_asks (place + 1) s z)
sized_asked vector s _ z = z
