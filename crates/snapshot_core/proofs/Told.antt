-- Each call of a scan tells it one more read.
use Rattle.std.proofs.Common.{◌≡◌, ◌&&◌, ℕ, suc, ◌+◌, ◌-◌, ◌<◌, ◌≤◌, Bool, true, false, not, cond, List, [], ◌∷◌, ◌++◌, length}
use Rattle.std.proofs.Common.{map, get_or, eqb, ltb, ltb-true, ltb-false, sym, refl, ap, ◌∙◌, subst, arith, Option, Some, None}
use Rattle.std.proofs.Common.{length-append, length-set, append_assoc, append-nil}
use Rattle.std.proofs.Math.ListN.{set}
use Rattle.std.proofs.Math.Bool.{not-not}
use Rattle.std.proofs.lemmas.List.{length-map, map_push}
use Rattle.std.proofs.lemmas.Bool.{cond_both, eqb-true, eqb-false, and_parts, and_from}
use Rattle.snapshot_core.specs.declared.next.Next.{Next}
use Rattle.snapshot_core.specs.declared.next.Next.TheVariants.{First, Second, Ask, Direct, Lent}
use Rattle.snapshot_core.specs.declared.scan.Scan.{Scan}
use Rattle.snapshot_core.specs.Next.{Follows, FailedAt, HeldAt}
use Rattle.snapshot_core.specs.Scan.{least_of, failed_at, next_asked_of, lends_to, failed_of, given_up, asks_or_fails, asked_from}
use Rattle.snapshot_core.specs.Scan.{asks_or_ends, collected, first_at, second_at, asked_at, first_by, second_by, asked_by}
use Rattle.snapshot_core.specs.Scan.{new_scan}
use Rattle.snapshot_core.specs.Sized.{IsSized}
use Rattle.snapshot_core.specs.Told.{IsScanAfter, lent_by, vector_of}
use Rattle.ledger_core.specs.Vectors.{is_above}
use Rattle.snapshot_core.specs.Tries.{View, Read, Try, place_of, number_met, from_on, reads_of, TwoCollects, is_clean, to_ask}
use Rattle.snapshot_core.specs.Tries.{lends_view, lends, none_lends, Failed, AllFailed, first_try, floor_of, base_of}
use Rattle.snapshot_core.proofs.Collects.{words, Stands, count_of, places_more, stands_more, parts_are, clean_is, least_within}
use Rattle.snapshot_core.proofs.Collects.{least_held, tests_at, asked_over, asked_none, asked_some, asked_after, asks_same}
use Rattle.snapshot_core.proofs.Sized.{asked_within, sized_at_base, sized_put}

pub reads_append : (xs ys : List Try) → reads_of (xs ++ ys) ≡ reads_of xs ++ reads_of ys
reads_append [] ys = refl
reads_append (t ∷ xs) ys = ap (λ (z : List Read). t.first ++ t.second ++ t.asks ++ z) (reads_append xs ys) ∙ sym append_assoc_of
  where
    append_assoc_of : (t.first ++ t.second ++ t.asks ++ reads_of xs) ++ reads_of ys ≡ t.first ++ t.second ++ t.asks
        ++ (reads_of xs ++ reads_of ys)
    append_assoc_of = simp append_assoc

tail_first : (f s a : List Read) (r : Read) → s ≡ [] → a ≡ [] → (f ++ s ++ a ++ []) ++ r ∷ [] ≡ (f ++ r ∷ []) ++ s ++ a ++ []
tail_first f s a r es ea =
    subst (λ (y : List Read × List Read). (f ++ y.0 ++ y.1 ++ []) ++ r ∷ [] ≡ (f ++ r ∷ []) ++ y.0 ++ y.1 ++ [])
    (λ i. (sym es i, sym ea i)) (simp append-nil)

tail_second : (f s a : List Read) (r : Read) → a ≡ [] → (f ++ s ++ a ++ []) ++ r ∷ [] ≡ f ++ (s ++ r ∷ []) ++ a ++ []
tail_second f s a r ea = subst (λ (y : List Read). (f ++ s ++ y ++ []) ++ r ∷ [] ≡ f ++ (s ++ r ∷ []) ++ y ++ []) (sym ea)
    (simp (append_assoc, append-nil))

tail_asks : (f s a : List Read) (r : Read) → (f ++ s ++ a ++ []) ++ r ∷ [] ≡ f ++ s ++ (a ++ r ∷ []) ++ []
tail_asks f s a r = simp (append_assoc, append-nil)

-- one more read in the last try
reads_then : (before : List Try) (t y : Try) (r : Read) → (t.first ++ t.second ++ t.asks ++ []) ++ r ∷ [] ≡ y.first ++ y.second
    ++ y.asks ++ [] → reads_of (before ++ t ∷ []) ++ r ∷ [] ≡ reads_of (before ++ y ∷ [])
reads_then before t y r e = ap (λ (z : List Read). z ++ r ∷ []) (reads_append before (t ∷ []))
    ∙ append_assoc (reads_of before) (t.first ++ t.second ++ t.asks ++ []) (r ∷ [])
    ∙ ap (λ (z : List Read). reads_of before ++ z) e ∙ sym (reads_append before (y ∷ []))

abbrev none_yet : Try
none_yet = record { first = []; second = []; asks = [] }

failed_more : (n : ℕ) (floor base : List ℕ) (ts : List Try) (t : Try) → AllFailed n floor base ts → Failed n floor base t
    → AllFailed n floor base (ts ++ t ∷ [])
failed_more n floor base [] t h f = (f, tt)
failed_more n floor base (x ∷ ts) t h f = (h.0, failed_more n floor base ts t h.1 f)

none_more : (floor : List ℕ) (rs : List Read) (r : Read) → none_lends floor rs ≡ true → lends floor r ≡ false
    → none_lends floor (rs ++ r ∷ []) ≡ true
none_more floor [] r h e = ap (λ (b : Bool). not b && true) e
none_more floor (x ∷ rs) r h e = let parts = and_parts (not (lends floor x)) (none_lends floor rs) h in
    and_from _ _ parts.0 (none_more floor rs r parts.1 e)

first_snoc : (before : List Try) (t u : Try) → first_try (before ++ t ∷ []) u ≡ first_try before t
first_snoc [] t u = refl
first_snoc (x ∷ before) t u = refl

-- both collects of the first try
pub first_two : (n : ℕ) (floor base : List ℕ) (before : List Try) (t : Try) → AllFailed n floor base before → TwoCollects n t
    → TwoCollects n (first_try before t)
first_two n floor base [] t f c = c
first_two n floor base (s ∷ ts) t f c = f.0.collects

-- a try whose collects stay as they are gives one floor and one base
first_same : (before : List Try) (t u : Try) → t.first ≡ u.first → t.second ≡ u.second → (floor_of before t ≡ floor_of before u)
    × (base_of before t ≡ base_of before u)
first_same [] t u e1 e2 = (ap (map number_met) e1, ap (map number_met) e2)
first_same (x ∷ before) t u e1 e2 = (refl, refl)

-- the number of tries and those that failed
abbrev Counted : Scan → List Try → Try → Type 0
Counted s before t = (s.tries ≡ length before + 1) × AllFailed s.n (floor_of before t) (base_of before t) before

-- the arrays of the try in progress
abbrev Arrays : Scan → Try → Type 0
Arrays s t = Stands number_met 0 s.opened t.first × Stands (λ (r : Read). not r.torn) false s.whole t.first
    × Stands number_met 0 s.found t.second

-- the arrays of the first try
abbrev Heads : Scan → List Try → Try → Type 0
Heads s before t = (length (base_of before t) ≡ s.n → floor_of before t ≡ words s.n s.floor)
    × (length (base_of before t) ≡ s.n → base_of before t ≡ words s.n s.base)

abbrev told_of : (s : Scan) (before : List Try) (t : Try) → Counted s before t → Arrays s t → Heads s before t
    → Follows s.n before t s.next → IsScanAfter s (reads_of (before ++ t ∷ []))
told_of s before t count arrays heads follows = record {
  before = before;
  now = t;
  all = refl;
  count = count.0;
  failed = count.1;
  follows = follows;
  opened = arrays.0;
  whole = arrays.1;
  found = arrays.2;
  floor = heads.0;
  base = heads.1;
}

pub told_new : (n : ℕ) → 1 ≤ n → IsScanAfter (new_scan n) []
told_new n one = told_of (new_scan n) [] none_yet (refl, tt) (refl, refl, refl) (
  (λ h. absurd (omega arith)),
  (λ h. absurd (omega arith)),
) (omega arith, refl, refl, refl)

-- this try's two collects are over, and it is not clean
record Over (s : Scan) (before : List Try) (t : Try) : Type 0 where
  sized : IsSized s
  counted : Counted s before t
  arrays : Arrays s t
  heads : Heads s before t
  collects : TwoCollects s.n t

complete : (s : Scan) (before : List Try) (t : Try) → AllFailed s.n (floor_of before t) (base_of before t) before
    → TwoCollects s.n t → length (base_of before t) ≡ s.n
complete s before t fail both = length-map (first_try before t).second number_met ∙ count_of (first_try before t).second 0 s.n
    (first_two s.n (floor_of before t) (base_of before t) before t fail both).second

clean_of : (s : Scan) (before : List Try) (t : Try) → Over s before t
    → is_clean t ≡ not (failed_at s.opened s.whole s.found (least_of s))
clean_of s before t o = clean_is s.opened s.whole s.found s.n t o.sized.some o.collects.first o.collects.second o.arrays.0
    o.arrays.1 o.arrays.2

-- giving up names the least place that failed
given_up_if_spent : (s : Scan) (before : List Try) (t : Try) → Over s before t → is_clean t ≡ false
    → FailedAt t (least_of s) (get_or s.opened (least_of s) 0) (get_or s.found (least_of s) 0)
    × ((k : ℕ) → k < least_of s → HeldAt t k)
given_up_if_spent s before t o un = (failed, held)
  where
    below : least_of s < s.n
    below = let w = least_within s.opened s.whole s.found 0 (s.n - 1) in let one = o.sized.some in omega arith

    failed : FailedAt t (least_of s) (get_or s.opened (least_of s) 0) (get_or s.found (least_of s) 0)
    failed = let x = tests_at s.opened s.whole s.found s.n (least_of s) t below o.collects.first o.collects.second o.arrays.0
        o.arrays.1 o.arrays.2 in
        record {
          one = x.0;
          two = x.1;
          is_one = x.2;
          is_two = x.3;
          numbers = (x.4, x.5);
          fails = x.6 ∙ sym (clean_of s before t o)
              ∙ un;
        }

    held : (k : ℕ) → k < least_of s → HeldAt t k
    held k lt = let x = tests_at s.opened s.whole s.found s.n k t (omega (arith, below)) o.collects.first o.collects.second
        o.arrays.0 o.arrays.1 o.arrays.2 in
        record {
          one = x.0;
          two = x.1;
          is_one = x.2;
          is_two = x.3;
          holds = x.6 ∙ ap not (least_held s.opened s.whole s.found 0 (s.n - 1) k (omega arith) lt);
        }

-- a try that failed
told_fails : (s : Scan) (before : List Try) (t : Try) → Over s before t → Failed s.n (floor_of before t) (base_of before t) t
    → IsScanAfter (failed_of s) (reads_of (before ++ t ∷ []))
told_fails s before t o fail = cond_both (ltb s.tries (s.n + 2)) (record s { tries = s.tries + 1; next = First 0 })
    (given_up s (least_of s)) (λ (y : Scan). IsScanAfter y (reads_of (before ++ t ∷ [])))
    (λ h. subst (IsScanAfter (record s { tries = s.tries + 1; next = First 0 })) (reads_append (before ++ t ∷ []) (none_yet ∷ [])
    ∙ append-nil (reads_of (before ++ t ∷ [])))
    (told_of (record s { tries = s.tries + 1; next = First 0 }) (before ++ t ∷ []) none_yet (
      (let c = o.counted.0 in let l = length-append before (t ∷ []) in omega arith),
      subst (λ (y : Try). AllFailed s.n (map number_met y.first) (map number_met y.second) (before ++ t ∷ []))
          (sym (first_snoc before t none_yet)) (failed_more s.n (floor_of before t) (base_of before t) before t o.counted.1 fail),
    )
    (refl, refl, refl)
    (subst (λ (y : Try). (length (map number_met y.second) ≡ s.n → map number_met y.first ≡ words s.n s.floor)
    × (length (map number_met y.second) ≡ s.n → map number_met y.second ≡ words s.n s.base))
    (sym (first_snoc before t none_yet)) o.heads)
    ((let one = o.sized.some in omega arith), refl, refl, refl)))
    (λ h. told_of (given_up s (least_of s)) before t o.counted o.arrays o.heads
    (let g = given_up_if_spent s before t o fail.unclean in
    (fail, (let c = o.counted.0 in let few = o.sized.few in let l = ltb-false s.tries (s.n + 2) h in omega arith), g.0, g.1)))

told_asks : (k : ℕ) (s : Scan) (before : List Try) (t : Try) → k ≤ s.n → Over s before t → is_clean t ≡ false
    → none_lends (floor_of before t) t.asks ≡ true
    → map place_of t.asks ++ asked_over s.base s.found k (s.n - k) ≡ to_ask (base_of before t) t.second
    → IsScanAfter (asked_from k s) (reads_of (before ++ t ∷ []))
told_asks k s before t le o un none asked = go (next_asked_of s.base s.found k (s.n - k)) refl
  where
    go : (a : Option ℕ) → next_asked_of s.base s.found k (s.n - k) ≡ a
        → IsScanAfter (asks_or_fails s a) (reads_of (before ++ t ∷ []))
    go None is = told_fails s before t o (record {
      collects = o.collects;
      unclean = un;
      none = none;
      asked = sym (append-nil (map place_of t.asks)) ∙ ap (λ (y : List ℕ). map place_of t.asks ++ y)
          (sym (asked_none s.base s.found k (s.n - k) is)) ∙ asked;
    })
    go (Some p) is = let a = asked_within s.base s.found k (s.n - k) p is in let a0 = a.0 in let a1 = a.1 in
        told_of (record s { next = Ask p }) before t o.counted o.arrays o.heads (
          omega arith,
          o.collects,
          un,
          none,
          (
            asked_over s.base s.found (p + 1) (k + (s.n - k) - (p + 1)),
            ap (λ (y : List ℕ). map place_of t.asks ++ y) (sym (asked_some s.base s.found k (s.n - k) p is)) ∙ asked,
          ),
        )

-- all workers that are to be asked
to_ask_is : (s : Scan) (before : List Try) (t : Try) → Over s before t
    → to_ask (base_of before t) t.second ≡ asked_over s.base s.found 0 s.n
to_ask_is s before t o = ap (λ (y : List ℕ). to_ask y t.second) (o.heads.1 (complete s before t o.counted.1 o.collects))
    ∙ asks_same s.n s.base s.found 0 s.n t.second (omega arith) o.collects.second o.arrays.2

told_ends : (s : Scan) (before : List Try) (t : Try) (b : Bool) → Over s before t → t.asks ≡ []
    → failed_at s.opened s.whole s.found (least_of s) ≡ b → IsScanAfter (asks_or_ends b s) (reads_of (before ++ t ∷ []))
told_ends s before t true o empty is = told_asks 0 s before t (omega arith) o (clean_of s before t o ∙ ap not is)
    (ap (none_lends (floor_of before t)) empty)
    (ap (λ (y : List Read). map place_of y ++ asked_over s.base s.found 0 (s.n - 0)) empty
    ∙ (let e : s.n - 0 ≡ s.n = omega arith in ap (asked_over s.base s.found 0) e) ∙ sym (to_ask_is s before t o))
told_ends s before t false o empty is = told_of (record s { next = Direct }) before t o.counted o.arrays o.heads
    (record { collects = o.collects; is_clean = clean_of s before t o ∙ ap not is; none_asked = empty })

-- both collects are over, and the first try's floor and base are kept
told_collects : (s : Scan) (before : List Try) (t : Try) → IsSized s → Counted s before t → Arrays s t
    → ((u : Try) (us : List Try) → before ≡ u ∷ us → Heads s before t) → TwoCollects s.n t → t.asks ≡ []
    → IsScanAfter (collected s) (reads_of (before ++ t ∷ []))
told_collects s [] t z count arrays heads both empty = cond_both (eqb s.tries 1) (record s { floor = s.opened; base = s.found }) s
    (λ (y : Scan). IsScanAfter (asks_or_ends (failed_at s.opened s.whole s.found (least_of s)) y) (reads_of ([] ++ t ∷ [])))
    (λ h. told_ends (record s { floor = s.opened; base = s.found }) [] t (failed_at s.opened s.whole s.found (least_of s))
    (record {
      sized = sized_at_base s z;
      counted = count;
      arrays = arrays;
      collects = both;
      heads = (
        (λ e. parts_are number_met 0 s.opened t.first s.n both.first arrays.0),
        (λ e. parts_are number_met 0 s.found t.second s.n both.second arrays.2),
      );
    }) empty refl)
    (λ h. absurd (eqb-false s.tries 1 h count.0))
told_collects s (u ∷ us) t z count arrays heads both empty = cond_both (eqb s.tries 1)
    (record s { floor = s.opened; base = s.found }) s
    (λ (y : Scan). IsScanAfter (asks_or_ends (failed_at s.opened s.whole s.found (least_of s)) y) (reads_of ((u ∷ us) ++ t ∷ [])))
    (λ h. absurd (let e = eqb-true s.tries 1 h in let c : s.tries ≡ suc (length us) + 1 = count.0 in omega arith))
    (λ h. told_ends s (u ∷ us) t (failed_at s.opened s.whole s.found (least_of s))
    (record { sized = z; counted = count; arrays = arrays; heads = heads u us refl; collects = both }) empty refl)

-- the tries that failed are not touched by a read of the try in progress
counted_on : (s : Scan) (before : List Try) (t u : Try) → Counted s before t → Counted s before u
counted_on s [] t u c = (c.0, tt)
counted_on s (x ∷ before) t u c = c

-- a read of a first collect
pub told_first : (s : Scan) (r : Read) (p : ℕ) (before : List Try) (t : Try) → IsSized s → r.place ≡ p → Counted s before t
    → Arrays s t → Heads s before t → Follows s.n before t (First p) → IsScanAfter (first_at r.number (not r.torn) s p)
    (reads_of (before ++ t ∷ []) ++ r ∷ [])
told_first s r p before t z at count arrays heads (lt, places, no_second, no_asks) =
    subst (IsScanAfter (first_at r.number (not r.torn) s p))
    (sym (reads_then before t more r (tail_first t.first t.second t.asks r no_second no_asks)))
    (told_of (first_at r.number (not r.torn) s p) before more (counted_on s before t more count) (
      stands_more number_met 0 s.opened p r.number t.first r places at (let l = z.opened in let m = z.most in
          omega arith) refl arrays.0,
      stands_more (λ (y : Read). not y.torn) false s.whole p (not r.torn) t.first r places at (let l = z.whole in
          let m = z.most in omega arith) refl arrays.1,
      arrays.2,
    )
    (heads_of before heads)
    (cond_both (ltb (p + 1) s.n) (First (p + 1)) (Second 0) (λ (y : Next). Follows s.n before more y)
    (λ h. let l = ltb-true (p + 1) s.n h in
    (omega arith, places_of ∙ (let e : suc p ≡ p + 1 = omega arith in ap (from_on 0) e), no_second, no_asks))
    (λ h. let l = ltb-false (p + 1) s.n h in (
      omega arith,
      places_of ∙ (let e : suc p ≡ s.n = omega arith in ap (from_on 0) e),
      ap (map place_of) no_second,
      no_asks,
    ))))
  where
    more : Try
    more = record { first = t.first ++ r ∷ []; second = t.second; asks = t.asks }

    places_of : map place_of (t.first ++ r ∷ []) ≡ from_on 0 (suc p)
    places_of = places_more t.first r p places at

    heads_of : (before : List Try) → Heads s before t
        → Heads s before (record { first = t.first ++ r ∷ []; second = t.second; asks = t.asks })
    heads_of [] h = let l : length (map number_met t.second) ≡ 0 = ap (λ (y : List Read). length (map number_met y)) no_second in
        ((λ e. absurd (omega arith)), (λ e. absurd (omega arith)))
    heads_of (x ∷ before) h = h

-- a read of a second collect
pub told_second : (s : Scan) (r : Read) (p : ℕ) (before : List Try) (t : Try) → IsSized s → r.place ≡ p → Counted s before t
    → Arrays s t → Heads s before t → Follows s.n before t (Second p)
    → IsScanAfter (second_at r.number s p) (reads_of (before ++ t ∷ []) ++ r ∷ [])
told_second s r p before t z at count arrays heads (lt, places, seconds, no_asks) =
    subst (IsScanAfter (second_at r.number s p))
    (sym (reads_then before t more r (tail_second t.first t.second t.asks r no_asks)))
    (cond_both (ltb (p + 1) s.n) (record s { found = set s.found p r.number; next = Second (p + 1) })
    (collected (record s { found = set s.found p r.number })) (λ (y : Scan). IsScanAfter y (reads_of (before ++ more ∷ [])))
    (λ h. let l = ltb-true (p + 1) s.n h in
    told_of (record s { found = set s.found p r.number; next = Second (p + 1) }) before more
    (counted_on s before t more count) (arrays.0, arrays.1, found_of)
    (heads_of l before heads) (
      omega arith,
      places,
      places_of ∙ (let e : suc p ≡ p + 1 = omega arith in ap (from_on 0) e),
      no_asks,
    ))
    (λ h. let l = ltb-false (p + 1) s.n h in told_collects (record s { found = set s.found p r.number }) before more
    (sized_put r.number p s z)
    (counted_on s before t more count) (arrays.0, arrays.1, found_of) (later before heads)
    (record { first = places; second = places_of ∙ (let e : suc p ≡ s.n = omega arith in ap (from_on 0) e) }) no_asks))
  where
    more : Try
    more = record { first = t.first; second = t.second ++ r ∷ []; asks = t.asks }

    places_of : map place_of (t.second ++ r ∷ []) ≡ from_on 0 (suc p)
    places_of = places_more t.second r p seconds at

    found_of : Stands number_met 0 (set s.found p r.number) (t.second ++ r ∷ [])
    found_of = stands_more number_met 0 s.found p r.number t.second r seconds at (let l = z.found in let m = z.most in
        omega arith) refl arrays.2

    heads_of : p + 1 < s.n → (before : List Try) → Heads s before t
        → Heads s before (record { first = t.first; second = t.second ++ r ∷ []; asks = t.asks })
    heads_of l [] h = let c : length (map number_met (t.second ++ r ∷ [])) ≡ suc p = length-map (t.second ++ r ∷ []) number_met
        ∙ count_of (t.second ++ r ∷ []) 0 (suc p) places_of in ((λ e. absurd (omega arith)), (λ e. absurd (omega arith)))
    heads_of l (x ∷ before) h = h

    later : (before : List Try) → Heads s before t → (u : Try) (us : List Try) → before ≡ u ∷ us
        → Heads s before (record { first = t.first; second = t.second ++ r ∷ []; asks = t.asks })
    later [] h u us e = absurd (cc)
    later (x ∷ before) h u us e = h

-- whether a read lends, by the vector that it meets
abbrev is_lent : List ℕ → Option (List ℕ) → Bool
is_lent floor None = false
is_lent floor (Some v) = is_above floor v

lends_as : (floor : List ℕ) (r : Read) (vector : Option (List ℕ)) → lent_by r ≡ vector → lends floor r ≡ is_lent floor vector
lends_as floor r vector is = go r.torn r.view ∙ ap (is_lent floor) is
  where
    go : (torn : Bool) (view : Option View) → (not torn && lends_view floor view) ≡ is_lent floor
        (cond torn None (vector_of view))
    go true view = refl
    go false None = refl
    go false (Some v) = refl

-- a read of an asked worker
pub told_asked : (s : Scan) (vector : Option (List ℕ)) (r : Read) (p : ℕ) (before : List Try) (t : Try) → IsSized s → r.place ≡ p
    → lent_by r ≡ vector → Counted s before t → Arrays s t → Heads s before t → Follows s.n before t (Ask p)
    → IsScanAfter (asked_at vector s p) (reads_of (before ++ t ∷ []) ++ r ∷ [])
told_asked s vector r p before t z at is count arrays heads (lt, both, un, none, rest) =
    subst (IsScanAfter (asked_at vector s p)) (sym (reads_then before t more r (tail_asks t.first t.second t.asks r)))
    (go vector is)
  where
    more : Try
    more = record { first = t.first; second = t.second; asks = t.asks ++ r ∷ [] }

    same : (floor_of before t ≡ floor_of before more) × (base_of before t ≡ base_of before more)
    same = first_same before t more refl refl

    heads_of : (before : List Try) → Heads s before t
        → Heads s before (record { first = t.first; second = t.second; asks = t.asks ++ r ∷ [] })
    heads_of [] h = h
    heads_of (x ∷ before) h = h

    over : Over s before t
    over = record {
      sized = z;
      counted = count;
      arrays = arrays;
      heads = heads;
      collects = record { first = both.first; second = both.second };
    }

    over_more : Over s before more
    over_more = record {
      sized = z;
      counted = counted_on s before t more count;
      arrays = arrays;
      heads = heads_of before heads;
      collects = record { first = both.first; second = both.second };
    }

    floor_is : floor_of before t ≡ words s.n s.floor
    floor_is = heads.0 (complete s before t count.1 (record { first = both.first; second = both.second }))

    later_is : rest.0 ≡ asked_over s.base s.found (p + 1) (s.n - (p + 1))
    later_is = asked_after s.base s.found 0 s.n (map place_of t.asks) p rest.0 (sym (rest.1 ∙ to_ask_is s before t over))
        ∙ (let e : 0 + s.n - (p + 1) ≡ s.n - (p + 1) = omega arith in ap (asked_over s.base s.found (p + 1)) e)

    asked_more : map place_of (t.asks ++ r ∷ []) ++ rest.0 ≡ to_ask (base_of before more) t.second
    asked_more = ap (λ (y : List ℕ). y ++ rest.0) (map_push place_of t.asks r)
        ∙ append_assoc (map place_of t.asks) (r.place ∷ []) rest.0 ∙ ap (λ (y : ℕ). map place_of t.asks ++ y ∷ rest.0) at ∙ rest.1
        ∙ ap (λ (y : List ℕ). to_ask y t.second) same.1

    refuse : lends (floor_of before t) r ≡ false → IsScanAfter (asked_from (p + 1) s) (reads_of (before ++ more ∷ []))
    refuse denied = told_asks (p + 1) s before more (omega arith) over_more un
        (none_more (floor_of before more) t.asks r (ap (λ (y : List ℕ). none_lends y t.asks) (sym same.0) ∙ none)
        (ap (λ (y : List ℕ). lends y r) (sym same.0) ∙ denied))
        (ap (λ (y : List ℕ). map place_of (t.asks ++ r ∷ []) ++ y) (sym later_is) ∙ asked_more)

    lend : lends (floor_of before t) r ≡ true → IsScanAfter (record s { next = Lent p }) (reads_of (before ++ more ∷ []))
    lend given = told_of (record s { next = Lent p }) before more over_more.counted arrays over_more.heads (
      lt,
      (
        r.view,
        record {
          collects = record { first = both.first; second = both.second };
          unclean = un;
          before = t.asks;
          last = r;
          later = rest.0;
          asks = refl;
          asked = asked_more;
          none = ap (λ (y : List ℕ). none_lends y t.asks) (sym same.0) ∙ none;
          lends = ap (λ (y : List ℕ). lends y r) (sym same.0) ∙ given;
          from_is = at;
          view_is = refl;
        },
      ),
    )

    go : (vector : Option (List ℕ)) → lent_by r ≡ vector → IsScanAfter (asked_at vector s p) (reads_of (before ++ more ∷ []))
    go None is = refuse (ap (λ (y : List ℕ). lends y r) floor_is ∙ lends_as (words s.n s.floor) r None is)
    go (Some v) is = cond_both (lends_to s v) (record s { next = Lent p }) (asked_from (p + 1) s)
        (λ (y : Scan). IsScanAfter y (reads_of (before ++ more ∷ [])))
        (λ h. lend (ap (λ (y : List ℕ). lends y r) floor_is ∙ lends_as (words s.n s.floor) r (Some v) is ∙ h))
        (λ h. refuse (ap (λ (y : List ℕ). lends y r) floor_is ∙ lends_as (words s.n s.floor) r (Some v) is ∙ h))

-- what the calls of a scan ensure
pub after_first : (number : ℕ) (whole : Bool) (s y : Scan) (reads : List Read) (r : Read) → IsSized s
    → y ≡ first_by number whole s s.next → IsScanAfter s reads → s.next ≡ First r.place → r.number ≡ number → r.torn ≡ not whole
    → IsScanAfter y (reads ++ r ∷ [])
after_first number whole s y reads r z is told next e1 e2 =
    subst (λ (v : Scan × List Read). IsScanAfter v.0 (v.1 ++ r ∷ [])) (λ i. (sym new_is i, sym told.all i))
    (told_first s r r.place told.before told.now z refl (told.count, told.failed) (told.opened, told.whole, told.found)
    (told.floor, told.base) (subst (Follows s.n told.before told.now) next told.follows))
  where
    new_is : y ≡ first_at r.number (not r.torn) s r.place
    new_is = is ∙ ap (first_by number whole s) next ∙ ap (λ (v : ℕ × Bool). first_at v.0 v.1 s r.place)
        (λ i. (sym e1 i, sym (ap not e2 ∙ not-not whole) i))

pub after_second : (number : ℕ) (s y : Scan) (reads : List Read) (r : Read) → IsSized s → y ≡ second_by number s s.next
    → IsScanAfter s reads → s.next ≡ Second r.place → r.number ≡ number → IsScanAfter y (reads ++ r ∷ [])
after_second number s y reads r z is told next e1 =
    subst (λ (v : Scan × List Read). IsScanAfter v.0 (v.1 ++ r ∷ [])) (λ i. (sym new_is i, sym told.all i))
    (told_second s r r.place told.before told.now z refl (told.count, told.failed) (told.opened, told.whole, told.found)
    (told.floor, told.base) (subst (Follows s.n told.before told.now) next told.follows))
  where
    new_is : y ≡ second_at r.number s r.place
    new_is = is ∙ ap (second_by number s) next ∙ ap (λ (v : ℕ). second_at v s r.place) (sym e1)

pub after_asked : (vector : Option (List ℕ)) (s y : Scan) (reads : List Read) (r : Read) → IsSized s
    → y ≡ asked_by vector s s.next → IsScanAfter s reads → s.next ≡ Ask r.place → lent_by r ≡ vector
    → IsScanAfter y (reads ++ r ∷ [])
after_asked vector s y reads r z is told next e1 =
    subst (λ (v : Scan × List Read). IsScanAfter v.0 (v.1 ++ r ∷ []))
    (λ i. (sym (is ∙ ap (asked_by vector s) next) i, sym told.all i))
    (told_asked s vector r r.place told.before told.now z refl e1 (told.count, told.failed) (told.opened, told.whole, told.found)
    (told.floor, told.base) (subst (Follows s.n told.before told.now) next told.follows))
