-- A read of an actor's scan is told to it, and a scan that is over is what its answer says.
use Rattle.std.proofs.Common.{◌≡◌, ℕ, zero, suc, ◌+◌, ◌-◌, ◌<◌, ◌≤◌, Bool, true, false, not, cond, List, [], ◌∷◌, ◌++◌, length}
use Rattle.std.proofs.Common.{map, take, get_or, eqb, ltb, sym, refl, ap, ◌∙◌, subst, arith, Option, Some, None, append_assoc}
use Rattle.std.proofs.Common.{append-nil}
use Rattle.std.proofs.Math.ListN.{set}
use Rattle.std.proofs.Math.Bool.{not-not}
use Rattle.std.proofs.lemmas.Option.{none-some, same_Some}
use Rattle.std.proofs.lemmas.Bool.{cond_both}
use Rattle.std.proofs.lemmas.List.{same_from_push}
use Rattle.snapshot_core.specs.declared.next.Next.{Next}
use Rattle.snapshot_core.specs.declared.next.Next.TheVariants.{First, Second, Ask, Direct, Lent, GaveUp}
use Rattle.snapshot_core.specs.declared.scan.Scan.{Scan}
use Rattle.snapshot_core.specs.declared.trace.ScanEnd.{ScanEnd}
use Rattle.snapshot_core.specs.declared.trace.ScanEnd.TheVariants as how
use Rattle.snapshot_core.specs.Next.{Follows}
use Rattle.snapshot_core.specs.Scan.{least_of, failed_at, next_asked_of, lends_to, failed_of, given_up, asks_or_fails, asked_from}
use Rattle.snapshot_core.specs.Scan.{based, asks_or_ends, collected, first_by, second_by, asked_by}
use Rattle.snapshot_core.specs.Sized.{IsSized}
use Rattle.snapshot_core.specs.Told.{IsScanAfter, vector_of}
use Rattle.snapshot_core.specs.Tries.{View, Read, Try, number_met, from_on, reads_of, EndsLent, floor_of, base_of}
use Rattle.snapshot_core.specs.Faithful.{Ends, IsScan}
use Rattle.snapshot_core.specs.Machine.{Seg, Act, read_by, place_in, end_by, not_torn}
use Rattle.snapshot_core.proofs.Collects.{parts_are}
use Rattle.snapshot_core.proofs.Sized.{sized_first, sized_second, sized_asked}
use Rattle.snapshot_core.proofs.Told.{after_first, after_second, after_asked, reads_append}

-- The number of workers stays.
n_failed : (s : Scan) → (failed_of s).n ≡ s.n
n_failed s = cond_both (ltb s.tries (s.n + 2)) (record s { tries = s.tries + 1; next = First 0 }) (given_up s (least_of s))
    (λ (y : Scan). y.n ≡ s.n) (λ _. refl) (λ _. refl)

n_asks : (k : ℕ) (s : Scan) → (asked_from k s).n ≡ s.n
n_asks k s = go (next_asked_of s.base s.found k (s.n - k))
  where
    go : (o : Option ℕ) → (asks_or_fails s o).n ≡ s.n
    go None = n_failed s
    go (Some p) = refl

n_ends : (t : Bool) (s : Scan) → (asks_or_ends t s).n ≡ s.n
n_ends true s = n_asks 0 s
n_ends false s = refl

n_based : (s : Scan) → (based s).n ≡ s.n
n_based s = cond_both (eqb s.tries 1) (record s { floor = s.opened; base = s.found }) s (λ (y : Scan). y.n ≡ s.n) (λ _. refl)
    (λ _. refl)

n_first : (number : ℕ) (whole : Bool) (s : Scan) (x : Next) → (first_by number whole s x).n ≡ s.n
n_first number whole s (First p) = refl
n_first number whole s (Second p) = refl
n_first number whole s (Ask p) = refl
n_first number whole s Direct = refl
n_first number whole s (Lent p) = refl
n_first number whole s (GaveUp x y z) = refl

n_second : (number : ℕ) (s : Scan) (x : Next) → (second_by number s x).n ≡ s.n
n_second number s (Second p) = cond_both (ltb (p + 1) s.n) (record s { found = set s.found p number; next = Second (p + 1) })
    (collected (record s { found = set s.found p number })) (λ (y : Scan). y.n ≡ s.n) (λ _. refl)
    (λ _. n_ends (failed_at s.opened s.whole (set s.found p number) (least_of (record s { found = set s.found p number })))
    (based (record s { found = set s.found p number })) ∙ n_based (record s { found = set s.found p number }))
n_second number s (First p) = refl
n_second number s (Ask p) = refl
n_second number s Direct = refl
n_second number s (Lent p) = refl
n_second number s (GaveUp x y z) = refl

n_asked : (vector : Option (List ℕ)) (s : Scan) (x : Next) → (asked_by vector s x).n ≡ s.n
n_asked None s (Ask p) = n_asks (p + 1) s
n_asked (Some v) s (Ask p) = cond_both (lends_to s v) (record s { next = Lent p }) (asked_from (p + 1) s)
    (λ (y : Scan). y.n ≡ s.n) (λ _. refl) (λ _. n_asks (p + 1) s)
n_asked v s (First p) = refl
n_asked v s (Second p) = refl
n_asked v s Direct = refl
n_asked v s (Lent p) = refl
n_asked v s (GaveUp x y z) = refl

-- the read of a segment at the event k
abbrev pub read_here : (p k : ℕ) → Bool → Seg → Read
read_here p k torn s = record { place = p; at = k; torn = torn; number = s.number; view = s.view }

-- the actor after a read
pub record HasRead (s : Seg) (torn : Bool) (k p : ℕ) (reads : List Read) (a b : Act) : Type 0 where
  pub phase : b.phase ≡ a.phase
  pub begin : b.begin ≡ a.begin
  pub sized : IsSized b.scan
  pub wide : b.scan.n ≡ a.scan.n
  pub told : IsScanAfter b.scan (reads ++ read_here p k torn s ∷ [])

lent_same : (t : Bool) (v : Option View) → cond t None (vector_of v) ≡ not_torn t (vector_of v)
lent_same true v = refl
lent_same false v = refl

pub has_read : (a : Act) (s : Seg) (torn : Bool) (k p : ℕ) (reads : List Read) → IsSized a.scan → IsScanAfter a.scan reads
    → place_in a.scan.next ≡ Some p → HasRead s torn k p reads a (read_by s torn a a.scan.next)
has_read a s torn k p reads z told at = go a.scan.next refl at
  where
    go : (x : Next) → a.scan.next ≡ x → place_in x ≡ Some p → HasRead s torn k p reads a (read_by s torn a x)
    go (First q) is at = record {
      phase = refl;
      begin = refl;
      sized = sized_first s.number (not torn) a.scan a.scan.next z;
      wide = n_first s.number (not torn) a.scan a.scan.next;
      told = after_first s.number (not torn) a.scan (first_by s.number (not torn) a.scan a.scan.next) reads (read_here p k torn s)
          z refl told (is ∙ ap First (same_Some q p at)) refl (sym (not-not torn));
    }
    go (Second q) is at = record {
      phase = refl;
      begin = refl;
      sized = sized_second s.number a.scan a.scan.next z;
      wide = n_second s.number a.scan a.scan.next;
      told = after_second s.number a.scan (second_by s.number a.scan a.scan.next) reads (read_here p k torn s) z refl told
          (is ∙ ap Second (same_Some q p at)) refl;
    }
    go (Ask q) is at = record {
      phase = refl;
      begin = refl;
      sized = sized_asked (not_torn torn (vector_of s.view)) a.scan a.scan.next z;
      wide = n_asked (not_torn torn (vector_of s.view)) a.scan a.scan.next;
      told = after_asked (not_torn torn (vector_of s.view)) a.scan
          (asked_by (not_torn torn (vector_of s.view)) a.scan a.scan.next) reads (read_here p k torn s) z refl told
          (is ∙ ap Ask (same_Some q p at)) (lent_same torn s.view);
    }
    go Direct is at = absurd (none-some p at)
    go (Lent q) is at = absurd (none-some p at)
    go (GaveUp x y w) is at = absurd (none-some p at)

-- The last read of some tries.
last_read : (before : List Try) (t : Try) (asks : List Read) (x : Read) → t.asks ≡ asks ++ x ∷ []
    → reads_of (before ++ t ∷ []) ≡ (reads_of before ++ t.first ++ t.second ++ asks) ++ x ∷ []
last_read before t asks x e = reads_append before (t ∷ [])
    ∙ ap (λ (y : List Read). reads_of before ++ (t.first ++ t.second ++ y ++ [])) e ∙ ending
  where
    ending : reads_of before ++ (t.first ++ t.second ++ (asks ++ x ∷ []) ++ []) ≡ (reads_of before ++ t.first ++ t.second ++ asks)
        ++ x ∷ []
    ending = simp (append_assoc, append-nil)

-- the first m of a list
take_words : (f : ℕ → ℕ) (k m : ℕ) (xs : List ℕ) → m ≤ length xs → ((j : ℕ) → j < m → get_or xs j 0 ≡ f (k + j))
    → take m xs ≡ map f (from_on k m)
take_words f k zero xs le h = refl
take_words f k (suc m) [] le h = absurd (omega arith)
take_words f k (suc m) (x ∷ xs) le h = ap (λ (z : ℕ × List ℕ). z.0 ∷ z.1)
    (λ i. (
      (h 0 (omega arith) ∙ (let e : k + 0 ≡ k = omega arith in ap f e)) i,
      take_words f (suc k) m xs (omega arith) (λ j lt. h (suc j) (omega arith) ∙ (let e : k + suc j ≡ suc k + j = omega arith in
          ap f e)) i,
    ))

-- a scan that is over
over_at : (s : Scan) (seg : Seg) (a : Act) (torn : Bool) (k p : ℕ) (reads : List Read) (e : ScanEnd × Option View) → s ≡ a.scan
    → IsSized s → IsScanAfter s (reads ++ read_here p k torn seg ∷ []) → (x : Next) → s.next ≡ x → end_by seg a x ≡ Some e
    → IsScan s.n (reads ++ read_here p k torn seg ∷ []) s.tries e.0 e.1
over_at s seg a torn k p reads e same z t x is ends = record {
  before = t.before;
  last = t.now;
  all = t.all;
  count = t.count;
  failed = t.failed;
  ends = go x ends (subst (Follows s.n t.before t.now) is t.follows);
}
  where
    shown : (y : ScanEnd) (v : Option View) → Some (y, v) ≡ Some e → Ends s.n t.before t.now y v → Ends s.n t.before t.now e.0 e.1
    shown y v q en = subst (λ (u : ScanEnd × Option View). Ends s.n t.before t.now u.0 u.1) (same_Some (y, v) e q) en

    vector : map (λ (r : Read). r.place) t.now.first ≡ from_on 0 s.n → take a.scan.n a.scan.opened ≡ map number_met t.now.first
    vector places = ap (λ (u : Scan). take u.n u.opened) (sym same)
        ∙ take_words (λ q. get_or s.opened q 0) 0 s.n s.opened (let l = z.opened in let m = z.most in omega arith)
        (λ j lt. let g : j ≡ 0 + j = omega arith in ap (λ (q : ℕ). get_or s.opened q 0) g)
        ∙ sym (parts_are number_met 0 s.opened t.now.first s.n places t.opened)

    go : (x : Next) → end_by seg a x ≡ Some e → Follows s.n t.before t.now x → Ends s.n t.before t.now e.0 e.1
    go (First q) en f = absurd (none-some e en)
    go (Second q) en f = absurd (none-some e en)
    go (Ask q) en f = absurd (none-some e en)
    go Direct en f = shown how.Direct (Some (record { vector = take a.scan.n a.scan.opened; totals = a.totals })) en (
      f,
      vector f.collects.first,
    )
    go (Lent q) en f = shown (how.Lent q) seg.view en
        (subst (λ (v : Option View). EndsLent s.n (floor_of t.before t.now) (base_of t.before t.now) q v t.now)
        (sym (ap (λ (r : Read). r.view)
        (same_from_push reads _ (read_here p k torn seg) f.1.1.last
        (t.all ∙ last_read t.before t.now f.1.1.before f.1.1.last f.1.1.asks)).1 ∙ f.1.1.view_is)) f.1.1)
    go (GaveUp u v w) en f = shown how.GaveUp None en (f.0, f.1, refl)

pub scan_over : (n : ℕ) (seg : Seg) (a : Act) (torn : Bool) (k p : ℕ) (reads : List Read) (e : ScanEnd × Option View)
    → a.scan.n ≡ n → IsSized a.scan → IsScanAfter a.scan (reads ++ read_here p k torn seg ∷ [])
    → end_by seg a a.scan.next ≡ Some e
    → IsScan n (reads ++ read_here p k torn seg ∷ []) a.scan.tries e.0 e.1
scan_over n seg a torn k p reads e wide z t ends =
    subst (λ (m : ℕ). IsScan m (reads ++ read_here p k torn seg ∷ []) a.scan.tries e.0 e.1) wide
    (over_at a.scan seg a torn k p reads e refl z t a.scan.next refl ends)
