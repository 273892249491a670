-- A scan's tries come to what the core says of their reads.
use Rattle.std.proofs.Common.{◌≡◌, inl, inr, ℕ, zero, suc, ◌+◌, ◌<◌, ◌&&◌, ◌==◌, not, cond, Bool, true, false, nat_le, Some, None}
use Rattle.std.proofs.Common.{List, [], ◌∷◌, ◌++◌, length, map, take, drop, slice_index, sym, refl, ap, ◌∙◌, subst, arith}
use Rattle.std.proofs.Common.{append_assoc}
use mathlib.Core.Option.{some, some-injective, some-ne-none}
use lib.ListN.{get_elem?}
use Rattle.std.proofs.lemmas.List.{length-map, map-append}
use Rattle.std.proofs.lemmas.Bool.{eq-eqb, ne_eqb, lt-leb, and_from}
use Rattle.ledger_core.specs.Vectors.{is_above}
use Rattle.register_rule.specs.declared.view.Asked.{Asked}
use Rattle.snapshot_core.specs.declared.next.Next.TheVariants.{Direct, Lent, GaveUp}
use Rattle.snapshot_core.specs.Tries.{place_of, number_met, from_on, TwoCollects, is_whole, same_numbers, is_clean, to_ask}
use Rattle.snapshot_core.specs.Tries.{lends_view, lends, none_lends, Failed, AllFailed, EndsLent, floor_of, base_of, reads_of}
use Rattle.snapshot_core.specs.Next.{FailedAt, HeldAt, Comes}
use Rattle.snapshot_scan.specs.Asking.{DoesNotLend, IsBelow, due_from, asked_worker}
use Rattle.snapshot_scan.specs.Scanned.{Tried, FailedTry}
use Rattle.snapshot_scan.specs.Core.{number_read, collect_reads, view_in, asked_read, core_try, core_reads}

-- all of them failed, and the first one has this floor and this base
abbrev pub AllFail : (n : ℕ) (floor base : List ℕ) → List Tried → Type 0
AllFail n floor base tries = (q : ℕ) (t : Tried) → get_elem? tries q ≡ some t → FailedTry n floor base t

abbrev pub HeadIs : (floor base : List ℕ) → List Tried → Type 0
HeadIs floor base [] = Unit {0}
HeadIs floor base (t ∷ ts) = (t.first ≡ floor) × (t.second ≡ base)

-- the reads of a collect
places_are : (i : ℕ) (xs : List ℕ) → map place_of (collect_reads i xs) ≡ from_on i (length xs)
places_are i [] = refl
places_are i (x ∷ xs) = ap (λ (z : List ℕ). i ∷ z) (places_are (suc i) xs)

numbers_are : (i : ℕ) (xs : List ℕ) → map number_met (collect_reads i xs) ≡ xs
numbers_are i [] = refl
numbers_are i (x ∷ xs) = ap (λ (z : List ℕ). x ∷ z) (numbers_are (suc i) xs)

all_whole : (i : ℕ) (xs : List ℕ) → is_whole (collect_reads i xs) ≡ true
all_whole i [] = refl
all_whole i (x ∷ xs) = all_whole (suc i) xs

read_at : (i : ℕ) (xs : List ℕ) (k : ℕ) → k < length xs
    → get_elem? (collect_reads i xs) k ≡ some (number_read (i + k) (slice_index xs k))
read_at i [] k h = absurd (omega (arith, h))
read_at i (x ∷ xs) zero h = let e : i ≡ i + 0 = omega arith in ap (λ (z : ℕ). some (number_read z x)) e
read_at i (x ∷ xs) (suc k) h =
    let e : suc i + k ≡ i + suc k = omega arith in
    read_at (suc i) xs k (omega (arith, h)) ∙ ap (λ (z : ℕ). some (number_read z (slice_index xs k))) e

and_right : (a b : Bool) → b ≡ false → (a && b) ≡ false
and_right true b e = e
and_right false b e = refl

same_refl : (xs : List ℕ) → same_numbers xs xs ≡ true
same_refl [] = refl
same_refl (x ∷ xs) = and_from (x == x) (same_numbers xs xs) (eq-eqb x x refl) (same_refl xs)

differ : (xs ys : List ℕ) (q : ℕ) → q < length xs → slice_index xs q < slice_index ys q → same_numbers xs ys ≡ false
differ [] ys q h lt = absurd (omega (arith, h))
differ (x ∷ xs) [] q h lt = refl
differ (x ∷ xs) (y ∷ ys) zero h lt = ap (λ (b : Bool). b && same_numbers xs ys) (ne_eqb x y (λ e. omega (arith, e, lt)))
differ (x ∷ xs) (y ∷ ys) (suc q) h lt = and_right (x == y) (same_numbers xs ys) (differ xs ys q (omega (arith, h)) lt)

-- who is to be asked, place by place
due_is : (full : List ℕ) (i : ℕ) (base found : List ℕ) → length base ≡ length found
    → ((k : ℕ) → slice_index full (i + k) ≡ slice_index base k)
    → to_ask full (collect_reads i found) ≡ due_from i base found
due_is full i [] [] e same = refl
due_is full i [] (f ∷ found) e same = absurd (omega (arith, e))
due_is full i (x ∷ base) [] e same = refl
due_is full i (x ∷ base) (f ∷ found) e same =
    let here : i ≡ i + 0 = omega arith in
    let later : (k : ℕ) → suc i + k ≡ i + suc k = λ k. omega arith in
    let rest = due_is full (suc i) base found (omega (arith, e)) (λ k. ap (slice_index full) (later k) ∙ same (suc k)) in
    ap (λ (z : ℕ). cond (nat_le (z + 2) f) (i ∷ to_ask full (collect_reads (suc i) found))
    (to_ask full (collect_reads (suc i) found))) (ap (slice_index full) here ∙ same 0)
    ∙ ap (λ (z : List ℕ). cond (nat_le (x + 2) f) (i ∷ z) z) rest

within_more : (b : Bool) (q m : ℕ) (rest : List ℕ) → q < m → ((k x : ℕ) → get_elem? rest k ≡ some x → x < m)
    → (k x : ℕ) → get_elem? (cond b (q ∷ rest) rest) k ≡ some x → x < m
within_more true q m rest lt h zero x e = let s = some-injective q x e in omega (arith, s, lt)
within_more true q m rest lt h (suc k) x e = h k x e
within_more false q m rest lt h k x e = h k x e

due_within : (q : ℕ) (base found : List ℕ) (k x : ℕ) → get_elem? (due_from q base found) k ≡ some x → x < q + length found
due_within q [] found k x e = absurd (some-ne-none x (sym e))
due_within q (b ∷ base) [] k x e = absurd (some-ne-none x (sym e))
due_within q (b ∷ base) (f ∷ found) k x e =
    within_more (nat_le (b + 2) f) q (q + suc (length found)) (due_from (suc q) base found) (omega arith)
    (λ j y at. let h = due_within (suc q) base found j y at in omega (arith, h)) k x e

at_seam : (pre post : List ℕ) (x : ℕ) → get_elem? (pre ++ x ∷ post) (length pre) ≡ some x
at_seam [] post x = refl
at_seam (y ∷ pre) post x = at_seam pre post x

-- a worker that refuses does not lend
below_false : (floor vector : List ℕ) (q x y : ℕ) → get_elem? floor q ≡ some x → get_elem? vector q ≡ some y → y < x
    → is_above floor vector ≡ false
below_false [] vector q x y e f lt = absurd (some-ne-none x (sym e))
below_false (a ∷ floor) [] q x y e f lt = refl
below_false (a ∷ floor) (b ∷ vector) zero x y e f lt =
    let s = some-injective a x e in
    let t = some-injective b y f in
    ap (λ (z : Bool). z && is_above floor vector) (lt-leb a b (omega (arith, s, t, lt)))
below_false (a ∷ floor) (b ∷ vector) (suc q) x y e f lt = and_right (nat_le a b) (is_above floor vector)
    (below_false floor vector q x y e f lt)

module _ (n w : ℕ) (floor : List ℕ) where
  no_flag : (words : List ℕ) → get_elem? words 0 ≡ some 0 → lends_view floor (view_in n w words) ≡ false
  no_flag [] e = refl
  no_flag (flag ∷ words) e =
      ap (λ (z : ℕ). lends_view floor
      (cond (z == 1) (Some (record { vector = take n words; totals = take w (drop n words) })) None))
      (some-injective flag 0 e)

  too_low : (words : List ℕ) → IsBelow floor (take n (drop 1 words)) → lends_view floor (view_in n w words) ≡ false
  too_low [] below = refl
  too_low (flag ∷ words) (q, x, y, e, f, lt) =
      elim (flag == 1) as (λ b. lends_view floor
      (cond b (Some (record { vector = take n words; totals = take w (drop n words) })) None) ≡ false) [
        | true ↦ below_false floor (take n words) q x y e f lt
        | false ↦ refl
      ]

  refused_lends : (e : Asked) → DoesNotLend n floor e → lends floor (asked_read n w e) ≡ false
  refused_lends e (inl moved) = ap (λ (b : Bool). not (not b) && lends_view floor (view_in n w e.words))
      (ne_eqb e.number e.again moved)
  refused_lends e (inr (inl flag)) = and_right (not (not (e.number == e.again))) (lends_view floor (view_in n w e.words))
      (no_flag e.words flag)
  refused_lends e (inr (inr below)) = and_right (not (not (e.number == e.again))) (lends_view floor (view_in n w e.words))
      (too_low e.words below)

  none_of : (es : List Asked) → ((q : ℕ) (e : Asked) → get_elem? es q ≡ some e → DoesNotLend n floor e)
      → none_lends floor (map (asked_read n w) es) ≡ true
  none_of [] h = refl
  none_of (e ∷ es) h =
      and_from (not (lends floor (asked_read n w e))) (none_lends floor (map (asked_read n w) es))
      (ap not (refused_lends e (h 0 e refl))) (none_of es (λ q x at. h (suc q) x at))

  workers_are : (es : List Asked) → map place_of (map (asked_read n w) es) ≡ map asked_worker es
  workers_are [] = refl
  workers_are (e ∷ es) = ap (λ (z : List ℕ). e.worker ∷ z) (workers_are es)

  -- and one whose number is found again, whose flag is 1 and whose vector is not below the floor lends
  flagged : (words : List ℕ) → slice_index words 0 ≡ 1 → is_above floor (take n (drop 1 words)) ≡ true
      → lends_view floor (view_in n w words) ≡ true
  flagged [] e above = absurd (omega (arith, e))
  flagged (flag ∷ words) e above =
      ap (λ (z : ℕ). lends_view floor
      (cond (z == 1) (Some (record { vector = take n words; totals = take w (drop n words) })) None)) e ∙ above

  lends_it : (e : Asked) → e.number ≡ e.again → slice_index e.words 0 ≡ 1 → is_above floor (take n (drop 1 e.words)) ≡ true
      → lends floor (asked_read n w e) ≡ true
  lends_it e same flag above =
      and_from (not (not (e.number == e.again))) (lends_view floor (view_in n w e.words))
      (ap (λ (b : Bool). not (not b)) (eq-eqb e.number e.again same)) (flagged e.words flag above)

-- a try of the core
collects_of : (n w : ℕ) (t : Tried) → length t.first ≡ n → length t.second ≡ n → TwoCollects n (core_try n w t)
collects_of n w t first second = record {
  first = places_are 0 t.first ∙ ap (from_on 0) first;
  second = places_are 0 t.second ∙ ap (from_on 0) second;
}

numbers_same : (t : Tried) (b : Bool) → same_numbers t.first t.second ≡ b
    → same_numbers (map number_met (collect_reads 0 t.first)) (map number_met (collect_reads 0 t.second)) ≡ b
numbers_same t b h = ap (λ (z : List ℕ). same_numbers z (map number_met (collect_reads 0 t.second))) (numbers_are 0 t.first)
    ∙ (ap (same_numbers t.first) (numbers_are 0 t.second) ∙ h)

unclean_of : (n w : ℕ) (t : Tried) → length t.first ≡ n → (q : ℕ) × (q < n) × (slice_index t.first q < slice_index t.second q)
    → is_clean (core_try n w t) ≡ false
unclean_of n w t first (q, lt, rose) =
    and_right (is_whole (collect_reads 0 t.first)) _
    (numbers_same t false (differ t.first t.second q (omega (arith, first, lt)) rose))

due_of_try : (base second : List ℕ) → length base ≡ length second → to_ask base (collect_reads 0 second) ≡ due_from 0 base second
due_of_try base second e = due_is base 0 base second e (λ k. let z : 0 + k ≡ k = omega arith in ap (slice_index base) z)

failed_of : (n w : ℕ) (floor base : List ℕ) → length base ≡ n → (t : Tried) → FailedTry n floor base t
    → Failed n floor base (core_try n w t)
failed_of n w floor base long t f = record {
  collects = collects_of n w t f.opened f.found;
  unclean = unclean_of n w t f.opened f.rose;
  asked = workers_are n w floor t.asks ∙ (f.asked ∙ sym (due_of_try base t.second (long ∙ sym f.found)));
  none = none_of n w floor t.asks f.none;
}

all_failed : (n w : ℕ) (floor base : List ℕ) → length base ≡ n → (ts : List Tried) → AllFail n floor base ts
    → AllFailed n floor base (map (core_try n w) ts)
all_failed n w floor base long [] fails = tt
all_failed n w floor base long (t ∷ ts) fails = (
  failed_of n w floor base long t (fails 0 t refl),
  all_failed n w floor base long ts (λ q x at. fails (suc q) x at),
)

-- the floor and the base of a scan are those of its first try
heads : (n w : ℕ) (floor base : List ℕ) (ts : List Tried) (t : Tried) → HeadIs floor base (ts ++ t ∷ [])
    → (floor_of (map (core_try n w) ts) (core_try n w t) ≡ floor) × (base_of (map (core_try n w) ts) (core_try n w t) ≡ base)
heads n w floor base [] t head = (numbers_are 0 t.first ∙ head.0, numbers_are 0 t.second ∙ head.1)
heads n w floor base (u ∷ us) t head = (numbers_are 0 u.first ∙ head.0, numbers_are 0 u.second ∙ head.1)

base_long : (n : ℕ) (floor base : List ℕ) (ts : List Tried) (t : Tried) → AllFail n floor base ts → length t.second ≡ n
    → HeadIs floor base (ts ++ t ∷ []) → length base ≡ n
base_long n floor base [] t fails long head = sym (ap length head.1) ∙ long
base_long n floor base (u ∷ us) t fails long head = sym (ap length head.1) ∙ (fails 0 u refl).found

head_more : (floor base : List ℕ) (ts : List Tried) (t u : Tried) (us : List Tried) → ts ≡ u ∷ us → HeadIs floor base ts
    → HeadIs floor base (ts ++ t ∷ [])
head_more floor base [] t u us e head = cc
head_more floor base (x ∷ ts) t u us e head = head

-- what is true of this floor and base is true of the core's
of_heads : (n w : ℕ) (floor base : List ℕ) (ts : List Tried) (t : Tried) → HeadIs floor base (ts ++ t ∷ [])
    → (P : List ℕ → List ℕ → Type 0) → P floor base
    → P (floor_of (map (core_try n w) ts) (core_try n w t)) (base_of (map (core_try n w) ts) (core_try n w t))
of_heads n w floor base ts t head P p =
    let e = heads n w floor base ts t head in
    subst (λ (z : List ℕ). P z (base_of (map (core_try n w) ts) (core_try n w t))) (sym e.0)
    (subst (λ (z : List ℕ). P floor z) (sym e.1) p)

-- without a try before there is none that failed
failed_before : (n w : ℕ) (floor base : List ℕ) (ts : List Tried) (t : Tried) → AllFail n floor base ts → HeadIs floor base ts
    → AllFailed n (floor_of (map (core_try n w) ts) (core_try n w t)) (base_of (map (core_try n w) ts) (core_try n w t))
    (map (core_try n w) ts)
failed_before n w floor base [] t fails head = tt
failed_before n w floor base (u ∷ us) t fails head =
    of_heads n w floor base (u ∷ us) t head (λ f b. AllFailed n f b (map (core_try n w) (u ∷ us)))
    (all_failed n w floor base (sym (ap length head.1) ∙ (fails 0 u refl).found) (u ∷ us) fails)

reads_are : (n w : ℕ) (ts : List Tried) (t : Tried)
    → core_reads n w (ts ++ t ∷ []) ≡ reads_of (map (core_try n w) ts ++ core_try n w t ∷ [])
reads_are n w ts t = ap reads_of (map-append (core_try n w) ts (t ∷ []))

held_at : (n w : ℕ) (t : Tried) → length t.first ≡ n → length t.second ≡ n → (k : ℕ) → k < n
    → slice_index t.first k ≡ slice_index t.second k → HeldAt (core_try n w t) k
held_at n w t first second k lt same = record {
  one = number_read (0 + k) (slice_index t.first k);
  two = number_read (0 + k) (slice_index t.second k);
  is_one = read_at 0 t.first k (omega (arith, first, lt));
  is_two = read_at 0 t.second k (omega (arith, second, lt));
  holds = eq-eqb (slice_index t.first k) (slice_index t.second k) same;
}

failed_at : (n w : ℕ) (t : Tried) → length t.first ≡ n → length t.second ≡ n → (k : ℕ) → k < n
    → slice_index t.first k < slice_index t.second k
    → FailedAt (core_try n w t) k (slice_index t.first k) (slice_index t.second k)
failed_at n w t first second k lt rose = record {
  one = number_read (0 + k) (slice_index t.first k);
  two = number_read (0 + k) (slice_index t.second k);
  is_one = read_at 0 t.first k (omega (arith, first, lt));
  is_two = read_at 0 t.second k (omega (arith, second, lt));
  numbers = (refl, refl);
  fails = ne_eqb (slice_index t.first k) (slice_index t.second k) (λ e. omega (arith, e, rose));
}

module _ (n w : ℕ) (floor base : List ℕ) (before : List Tried) (fails : AllFail n floor base before)
    (head : HeadIs floor base before) where
  -- the last try met the same numbers twice
  pub comes_direct : (opened : List ℕ) → length opened ≡ n → length before < n + 2
      → Comes n (core_reads n w (before ++ record { first = opened; second = opened; asks = [] } ∷ [])) Direct
  comes_direct opened long few =
      let t : Tried = record { first = opened; second = opened; asks = [] } in
      record {
        before = map (core_try n w) before;
        now = core_try n w t;
        all = reads_are n w before t;
        few = omega (arith, few, length-map before (core_try n w));
        failed = failed_before n w floor base before t fails head;
        follows = record {
          collects = collects_of n w t long long;
          is_clean = and_from (is_whole (collect_reads 0 opened)) _ (all_whole 0 opened) (numbers_same t true (same_refl opened));
          none_asked = refl;
        };
      }

  -- in the last try, which is not the first, the worker e lends
  pub comes_lent : (t u : Tried) (us : List Tried) (es : List Asked) (e : Asked) (more : List ℕ) → before ≡ u ∷ us
      → length before < n + 2 → length t.first ≡ n → length t.second ≡ n
      → (q : ℕ) × (q < n) × (slice_index t.first q < slice_index t.second q)
      → t.asks ≡ es ++ e ∷ [] → map asked_worker es ++ asked_worker e ∷ more ≡ due_from 0 base t.second
      → ((q : ℕ) (x : Asked) → get_elem? es q ≡ some x → DoesNotLend n floor x)
      → e.number ≡ e.again → length e.words ≡ 1 + n + w → slice_index e.words 0 ≡ 1
      → is_above floor (take n (drop 1 e.words)) ≡ true
      → Comes n (core_reads n w (before ++ t ∷ [])) (Lent e.worker)
  comes_lent t u us es e more some_before few first second rose asks due refuse same wide flag above =
      let head' = head_more floor base before t u us some_before head in
      let long = base_long n floor base before t fails second head' in
      let within = due_within 0 base t.second (length (map asked_worker es)) e.worker
      (ap (λ (z : List ℕ). get_elem? z (length (map asked_worker es))) (sym due)
      ∙ at_seam (map asked_worker es) more e.worker) in
      let places : map place_of (map (asked_read n w) t.asks) ≡ map asked_worker es ++ e.worker ∷ [] =
      workers_are n w floor t.asks ∙ (ap (map asked_worker) asks ∙ map-append asked_worker es (e ∷ [])) in
      let asked : map place_of (map (asked_read n w) t.asks) ++ more ≡ to_ask base (collect_reads 0 t.second) =
      ap (λ (z : List ℕ). z ++ more) places
      ∙ (append_assoc (map asked_worker es) (e.worker ∷ []) more
      ∙ (due ∙ sym (due_of_try base t.second (long ∙ sym second)))) in
      record {
        before = map (core_try n w) before;
        now = core_try n w t;
        all = reads_are n w before t;
        few = omega (arith, few, length-map before (core_try n w));
        failed = failed_before n w floor base before t fails head;
        follows = (
          omega (arith, within, second),
          (
            view_in n w e.words,
            of_heads n w floor base before t head' (λ f b. EndsLent n f b e.worker (view_in n w e.words) (core_try n w t))
                (record {
                  collects = collects_of n w t first second;
                  unclean = unclean_of n w t first rose;
                  before = map (asked_read n w) es;
                  last = asked_read n w e;
                  later = more;
                  asks = ap (map (asked_read n w)) asks ∙ map-append (asked_read n w) es (e ∷ []);
                  asked = asked;
                  none = none_of n w floor es refuse;
                  lends = lends_it n w floor e same flag above;
                  from_is = refl;
                  view_is = refl;
                }),
          ),
        );
      }

  -- all n + 2 tries failed, and `worker` is the least that failed in the last one
  pub comes_gave_up : (t : Tried) → FailedTry n floor base t → HeadIs floor base (before ++ t ∷ []) → length before ≡ n + 1
      → (worker : ℕ) → worker < n → slice_index t.first worker < slice_index t.second worker
      → ((k : ℕ) → k < worker → slice_index t.first k ≡ slice_index t.second k)
      → Comes n (core_reads n w (before ++ t ∷ [])) (GaveUp worker (slice_index t.first worker) (slice_index t.second worker))
  comes_gave_up t failed head' count worker inside rose least =
      let long = base_long n floor base before t fails failed.found head' in
      record {
        before = map (core_try n w) before;
        now = core_try n w t;
        all = reads_are n w before t;
        few = omega (arith, count, length-map before (core_try n w));
        failed = failed_before n w floor base before t fails head;
        follows = (
          of_heads n w floor base before t head' (λ f b. Failed n f b (core_try n w t)) (failed_of n w floor base long t failed),
          length-map before (core_try n w) ∙ count,
          failed_at n w t failed.opened failed.found worker inside rose,
          (λ k lt. held_at n w t failed.opened failed.found k (omega (arith, inside, lt)) (least k lt)),
        );
      }
