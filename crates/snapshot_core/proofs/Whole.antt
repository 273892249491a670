-- Where no event is torn, no scan is given up, and each makes 2n reads a try, and one more where its view is lent.
use Rattle.std.proofs.Common.{◌≡◌, ◌≢◌, ℕ, zero, suc, ◌+◌, ◌-◌, ◌*◌, ◌<◌, ◌≤◌, Bool, true, false, cond, not, ◌&&◌, Option, Some}
use Rattle.std.proofs.Common.{None, List, [], ◌∷◌, ◌++◌, length, map, sym, refl, ap, ◌∙◌, subst, arith, mul-suc}
use Rattle.std.proofs.lemmas.Bool.{leb-true, false≢true, and_parts, both_ways, not-true}
use mathlib.Core.Logic.{dite}
use mathlib.Core.Option.{some, some-injective, some-ne-none}
use native.Mathlib.Decide.{ℕ_discrete, dec_le}
use lib.ListN.{get_elem?, length-map}
use Rattle.std.specs.Prelude.{slice_get, slice_index, nat_le}
use Rattle.ledger_core.specs.declared.op.Op.{Op}
use Rattle.snapshot_core.specs.declared.event.Event.{Event}
use Rattle.snapshot_core.specs.declared.event.Event.TheVariants.{Torn}
use Rattle.snapshot_core.specs.declared.trace.ScanEnd.{ScanEnd}
use Rattle.snapshot_core.specs.declared.trace.ScanEnd.TheVariants.{Direct, Lent, GaveUp}
use Rattle.ledger_core.specs.Vectors.{is_above}
use Rattle.snapshot_core.specs.Tries.{View, Read, Try, place_of, number_met, from_on, reads_of, TwoCollects, to_ask, lends}
use Rattle.snapshot_core.specs.Tries.{lends_view, none_lends, Failed, AllFailed, EndsLent, first_try, floor_of, base_of}
use Rattle.snapshot_core.specs.History.{Published, number_at, IsMoment, OneStep}
use Rattle.snapshot_core.specs.Turns.{Answered}
use Rattle.snapshot_core.specs.Faithful.{lent_at, where_and_torn, Ends, IsScan, IsJustified, reads_in, reads_by, WholeReadsAnswer}
use Rattle.snapshot_core.proofs.Past.{number_rises}
use Rattle.snapshot_core.proofs.Collects.{count_of, read_at, try_long}
use Rattle.snapshot_core.proofs.Rising.{RisingPairs, own_rising, Fine, Within, within_of, within_span, within_at, Spans}
use Rattle.snapshot_core.proofs.Rising.{try_parts, tries_more, number_newer, moment_above, none_more}
use Rattle.snapshot_core.proofs.Told.{first_two}
use Rattle.snapshot_core.proofs.Lending.{within}

-- what is known of the publishes and answers that a list of events came to
pub record Run (n w : ℕ) (adds : List Op → ℕ → ℕ) (es : List Event) (ps : List Published) (answers : List Answered) : Type 0 where
  pub justified : (q : ℕ) (a : Answered) → get_elem? answers q ≡ some a
      → IsJustified n ps answers (reads_in es a) a.tries a.how a.view
  pub rise : (q r : ℕ) (a b : Answered) → get_elem? answers q ≡ some a → get_elem? answers r ≡ some b → q < r → a.end < b.end
  pub steps : (q : ℕ) (a : Answered) (v : View) → get_elem? answers q ≡ some a → a.view ≡ Some v
      → OneStep adds n w ps a.begin a.end v
  pub ordered : (q : ℕ) (a : Answered) → get_elem? answers q ≡ some a → a.begin < a.end
  -- a worker that has published before the event e lends, at e, the view of an answer of its own, which began after the
  -- publish before its last one
  pub lends : (e i : ℕ) → i < n → 0 < number_at ps e i → (q : ℕ) × (a : Answered) × (get_elem? answers q ≡ some a) × (a.end < e)
      × (number_at ps a.begin i + 1 ≡ number_at ps e i) × (lent_at ps answers e i ≡ a.view)
  pub some : 1 ≤ n

-- a read that is to be asked
asked_at : (base : List ℕ) (rs : List Read) (p : ℕ) (later : List ℕ) → to_ask base rs ≡ p ∷ later → (q : ℕ) × (r : Read)
    × (get_elem? rs q ≡ some r) × (r.place ≡ p) × (slice_index base p + 2 ≤ r.number)
asked_at base [] p later e = absurd (cc)
asked_at base (r ∷ rs) p later e = go (nat_le (slice_index base r.place + 2) r.number) refl e (asked_at base rs p later)
  where
    go : (t : Bool) → nat_le (slice_index base r.place + 2) r.number ≡ t
        → cond t (r.place ∷ to_ask base rs) (to_ask base rs) ≡ p ∷ later
        → (to_ask base rs ≡ p ∷ later → (q : ℕ) × (s : Read) × (get_elem? rs q ≡ some s) × (s.place ≡ p)
        × (slice_index base p + 2 ≤ s.number))
        → (q : ℕ) × (s : Read) × (get_elem? (r ∷ rs) q ≡ some s) × (s.place ≡ p) × (slice_index base p + 2 ≤ s.number)
    go true is e rec = let same : r.place ≡ p = cc in (
      0,
      r,
      refl,
      same,
      subst (λ (z : ℕ). slice_index base z + 2 ≤ r.number) same
          (leb-true (slice_index base r.place + 2) r.number is),
    )
    go false is e rec = let t = rec e in (suc t.0, t.1, t.2, t.3, t.4)

place_in : (rs : List Read) (q k m : ℕ) (r : Read) → get_elem? rs q ≡ some r → map place_of rs ≡ from_on k m → (r.place ≡ k + q)
    × (q < m)
place_in rs q k m r is e =
    let lt : q < m = (let l = within rs q r is in let c = count_of rs k m e in omega arith) in
    let s = read_at rs k m q e lt in (ap place_of (some-injective r s.0 (sym is ∙ s.1)) ∙ s.2, lt)

index_of : (rs : List Read) (q : ℕ) (r : Read) → get_elem? rs q ≡ some r → slice_index (map number_met rs) q ≡ r.number
index_of [] q r is = absurd (some-ne-none r (sym is))
index_of (x ∷ rs) zero r is = ap number_met (some-injective x r is)
index_of (x ∷ rs) (suc q) r is = index_of rs q r is

not_both : (x : Bool) (y : Bool) → x ≡ true → (not x && y) ≡ true → ⊥
not_both x y e h = both_ways x (not-true x (and_parts (not x) y h).0) e

lends_so : (floor : List ℕ) (r : Read) (v : View) → r.torn ≡ false → r.view ≡ Some v → is_above floor v.vector ≡ true
    → lends floor r ≡ true
lends_so floor r v intact seen above = ap (λ (z : Bool × Option View). not z.0 && lends_view floor z.1) (λ k. (intact k, seen k))
    ∙ above

module _ (adds : List Op → ℕ → ℕ) (n w : ℕ) (ps : List Published) (answers : List Answered) where
  -- the view that worker i lends at the event e is all segments at one event after its publish before the last one
  record Loan (e i : ℕ) : Type 0 where
    pub since : ℕ
    pub moment : ℕ
    pub view : View
    pub lent : lent_at ps answers e i ≡ Some view
    pub count : number_at ps since i + 1 ≡ number_at ps e i
    pub after : since ≤ moment
    pub right : IsMoment adds n w ps moment view

  abbrev Loans : ℕ → Type 0
  Loans top = (e i : ℕ) → e < top → i < n → 0 < number_at ps e i → Loan e i

  -- the collects of the first try, over before the event b
  record Collected (one two : List Read) (b : ℕ) : Type 0 where
    pub start : ℕ
    pub mid : ℕ
    pub first : Within ps answers start mid one
    pub second : Within ps answers mid b two
    pub first_places : map place_of one ≡ from_on 0 n
    pub second_places : map place_of two ≡ from_on 0 n

  meets_at : (r : Read) (p : ℕ) → Fine ps answers r → r.place ≡ p → r.number ≡ number_at ps r.at p
  meets_at r p fine e = fine.meets.number ∙ ap (number_at ps r.at) e

  -- a view of a moment after the first try's first collect
  loan_lends : (one : List Read) (a mid : ℕ) (r : Read) → Within ps answers a mid one → map place_of one ≡ from_on 0 n
      → (l : Loan r.at r.place) → mid ≤ l.moment → Fine ps answers r → lends (map number_met one) r ≡ true
  loan_lends one a mid r h places l later fine =
      lends_so (map number_met one) r l.view fine.intact (fine.meets.view ∙ l.lent)
      (moment_above ps answers one l.view.vector 0 n a mid l.moment places l.right.vector_wide
      (λ i lt. l.right.numbers i lt ∙ (let g : i ≡ 0 + i = omega arith in ap (number_at ps l.moment) g)) h later)

  -- who is asked has published twice since the base, so that its view is of such a moment
  first_lends : (one two found : List Read) (b c d top : ℕ) (r : Read) (later : List ℕ) → Loans top → Collected one two b
      → Within ps answers c d found → b ≤ d → map place_of found ≡ from_on 0 n
      → to_ask (map number_met two) found ≡ r.place ∷ later → Fine ps answers r → d ≤ r.at → r.at < top
      → lends (map number_met one) r ≡ true
  first_lends one two found b c d top r later loans base second le places asked fine from to =
      let a = asked_at (map number_met two) found r.place later asked in
      let s = a.1 in let high = a.4 in let sp = a.3 in
      let pl = place_in found a.0 0 n s a.2 places in
      let pl0 = pl.0 in let pl1 = pl.1 in
      let inside : r.place < n = omega (arith, sp, pl0, pl1) in
      let sw = within_at ps answers c d found a.0 s second a.2 in
      let sw1 = sw.1 in
      let old = read_at two 0 n r.place base.second_places inside in
      let o = old.0 in
      let ow = within_at ps answers base.mid b two r.place o base.second old.1 in
      let ow0 = ow.0 in
      let op : o.place ≡ r.place = old.2 ∙ (let g : 0 + r.place ≡ r.place = omega arith in g) in
      let based = index_of two r.place o old.1 in
      let no = meets_at o r.place ow.2 op in
      let ns = meets_at s r.place sw.2 sp in
      let up = number_rises ps s.at r.at r.place (omega arith) in
      let pos : 0 < number_at ps r.at r.place = omega (arith, high, ns, up) in
      let loan = loans r.at r.place to inside pos in
      let count = loan.count in
      let newer : o.at < loan.since = number_newer ps o.at loan.since r.place (omega (arith, high, ns, up, based, no, count)) in
      let after = loan.after in
      loan_lends one base.start base.mid r base.first base.first_places loan (omega (arith, ow0, newer, after)) fine

  -- asks that begin with a read
  asks_lend : (one two : List Read) (b lo hi top : ℕ) (t : Try) (r : Read) (rest : List Read) (later : List ℕ) → Loans top
      → Collected one two b → (s : Spans ps answers lo hi t) → b ≤ s.two → hi ≤ top → TwoCollects n t
      → t.asks ≡ r ∷ rest → to_ask (map number_met two) t.second ≡ r.place ∷ later → lends (map number_met one) r ≡ true
  asks_lend one two b lo hi top t r rest later loans base s le below collects is asked =
      let h : Within ps answers s.two hi (r ∷ rest) = subst (Within ps answers s.two hi) is s.asked in
      let from = h.0 in
      let to = within_span ps answers (suc r.at) hi rest h.2 in
      first_lends one two t.second b s.one s.two top r later loans base s.seconds le collects.second asked h.1 from
      (omega (arith, to, below))

  -- a try that failed asked nobody
  failed_asks : (one two : List Read) (b lo hi top : ℕ) (t : Try) → Loans top → Collected one two b
      → (s : Spans ps answers lo hi t) → b ≤ s.two → hi ≤ top → Failed n (map number_met one) (map number_met two) t → t.asks ≡ []
  failed_asks one two b lo hi top t loans base s le below failed = go t.asks refl
    where
      go : (xs : List Read) → t.asks ≡ xs → t.asks ≡ []
      go [] e = e
      go (r ∷ rest) e = absurd (not_both (lends (map number_met one) r) (none_lends (map number_met one) rest)
          (asks_lend one two b lo hi top t r rest (map place_of rest) loans base s le below failed.collects e
          (sym failed.asked ∙ ap (map place_of) e))
          (sym (ap (none_lends (map number_met one)) e) ∙ failed.none))

  -- a try that ends with a view that is lent asked one
  lent_asks : (one two : List Read) (b lo hi top from : ℕ) (view : Option View) (t : Try) → Loans top → Collected one two b
      → (s : Spans ps answers lo hi t) → b ≤ s.two → hi ≤ top → EndsLent n (map number_met one) (map number_met two) from view t
      → length t.asks ≡ 1
  lent_asks one two b lo hi top from view t loans base s le below ends = go ends.before ends.asks ends.none
    where
      go : (xs : List Read) → t.asks ≡ xs ++ ends.last ∷ [] → none_lends (map number_met one) xs ≡ true → length t.asks ≡ 1
      go [] e none = ap length e
      go (r ∷ rest) e none = absurd (not_both (lends (map number_met one) r) (none_lends (map number_met one) rest)
          (asks_lend one two b lo hi top t r (rest ++ ends.last ∷ []) (map place_of (rest ++ ends.last ∷ []) ++ ends.later) loans
          base s le below ends.collects e
          (sym ends.asked ∙ ap (λ (z : List Read). map place_of z ++ ends.later) e)) none)

  -- tries in the order of their events, whose second collects are over after the first try's are
  abbrev Timed : (b lo hi : ℕ) → List Try → Type 0
  Timed b lo hi [] = lo ≤ hi
  Timed b lo hi (t ∷ ts) = (mid : ℕ) × (s : Spans ps answers lo mid t) × (b ≤ s.two) × Timed b mid hi ts

  timed_span : (b lo hi : ℕ) (ts : List Try) → Timed b lo hi ts → lo ≤ hi
  timed_span b lo hi [] h = h
  timed_span b lo hi (t ∷ ts) h =
      let s = h.1 in let x = within_span ps answers lo s.one t.first s.firsts in
      let y = within_span ps answers s.one s.two t.second s.seconds in
      let z = within_span ps answers s.two h.0 t.asks s.asked in
      let u = timed_span b h.0 hi ts h.3 in omega (arith, x, y, z, u)

  timed_of : (b lo hi : ℕ) (ts : List Try) → b ≤ lo → Within ps answers lo hi (reads_of ts) → Timed b lo hi ts
  timed_of b lo hi [] le h = h
  timed_of b lo hi (t ∷ ts) le h =
      let p = try_parts ps answers lo hi t (reads_of ts) h in
      let s = p.1 in let x = within_span ps answers lo s.one t.first s.firsts in
      let y = within_span ps answers s.one s.two t.second s.seconds in
      let z = within_span ps answers s.two p.0 t.asks s.asked in
      (p.0, p.1, omega (arith, le, x, y), timed_of b p.0 hi ts (omega (arith, le, x, y, z)) p.2)

  begins_timed : (lo hi : ℕ) (t : Try) (ts : List Try) → TwoCollects n t → Within ps answers lo hi (reads_of (t ∷ ts)) → (b : ℕ)
      × Collected t.first t.second b × Timed b lo hi (t ∷ ts)
  begins_timed lo hi t ts two h =
      let p = try_parts ps answers lo hi t (reads_of ts) h in
      let s = p.1 in let z = within_span ps answers s.two p.0 t.asks s.asked in (
        s.two,
        record {
          start = lo;
          mid = s.one;
          first = s.firsts;
          second = s.seconds;
          first_places = two.first;
          second_places = two.second;
        },
        (p.0, p.1, omega arith, timed_of s.two p.0 hi ts z p.2),
      )

  all_timed : (lo hi : ℕ) (before : List Try) (last : Try) → TwoCollects n (first_try before last)
      → Within ps answers lo hi (reads_of (before ++ last ∷ []))
      → (b : ℕ) × Collected (first_try before last).first (first_try before last).second b × Timed b lo hi (before ++ last ∷ [])
  all_timed lo hi [] last two h = begins_timed lo hi last [] two h
  all_timed lo hi (t ∷ ts) last two h = begins_timed lo hi t (ts ++ last ∷ []) two h

  -- each try that failed has 2n reads
  failed_long : (one two : List Read) (b lo hi top : ℕ) (ts : List Try) (last : Try) → Loans top → Collected one two b → hi ≤ top
      → Timed b lo hi (ts ++ last ∷ []) → AllFailed n (map number_met one) (map number_met two) ts
      → (mid : ℕ) × Timed b mid hi (last ∷ [])
      × (length (reads_of (ts ++ last ∷ [])) ≡ 2 * n * length ts + length (reads_of (last ∷ [])))
  failed_long one two b lo hi top [] last loans base below timed failed = (
    lo,
    timed,
    (let g : 2 * n * 0 ≡ 0 = omega arith in
        let goal : length (reads_of (last ∷ [])) ≡ 2 * n * 0 + length (reads_of (last ∷ [])) = omega (arith, g) in goal),
  )
  failed_long one two b lo hi top (t ∷ ts) last loans base below timed failed =
      let r = failed_long one two b timed.0 hi top ts last loans base below timed.3 failed.1 in
      let span = timed_span b timed.0 hi (ts ++ last ∷ []) timed.3 in
      let none = ap length (failed_asks one two b lo timed.0 top t loans base timed.1 timed.2 (omega (arith, span, below))
      failed.0) in
      let long = try_long n t (reads_of (ts ++ last ∷ [])) failed.0.collects in
      let rest = r.2 in
      let more = mul-suc (2 * n) (length ts) in
      (r.0, r.1, omega (arith, none, long, rest, more))

  -- not all n + 2 tries fail
  not_all : (lo hi : ℕ) (before : List Try) (last : Try) → Loans hi → Within ps answers lo hi (reads_of (before ++ last ∷ []))
      → AllFailed n (floor_of before last) (base_of before last) before
      → Failed n (floor_of before last) (base_of before last) last → length before ≡ n + 1 → ⊥
  not_all lo hi [] last loans h failed end long = omega (arith, long)
  not_all lo hi (t ∷ ts) last loans h failed end long =
      let all = begins_timed lo hi t (ts ++ last ∷ []) failed.0.collects h in
      let z = failed_long t.first t.second all.0 lo hi hi (t ∷ ts) last loans all.1 (omega arith) all.2 failed in
      let l = z.1 in
      let asks = failed_asks t.first t.second all.0 z.0 l.0 hi last loans all.1 l.1 l.2 l.3 end in
      let none : to_ask (map number_met t.second) last.second ≡ [] = sym end.asked ∙ ap (map place_of) asks in
      let wide : length (map number_met t.second) ≡ n = length-map t.second number_met
      ∙ count_of t.second 0 n failed.0.collects.second in
      let most = none_more (map number_met t.second) (map number_met t.second) last.second 0 n end.collects.second wide
      (λ i. (let g : 0 + i ≡ i = omega arith in ap (slice_index (map number_met t.second)) g)) none in
      let p = try_parts ps answers lo hi t (reads_of (ts ++ last ∷ [])) h in
      let s = p.1 in
      let least = tries_more ps answers n (map number_met t.first) (map number_met t.second) ts last t.second s.one s.two p.0 hi
      failed.0.collects.second s.seconds (within_span ps answers s.two p.0 t.asks s.asked) p.2 failed.1 end in
      omega (arith, most, least, long)

  -- a scan's reads
  last_long : (lo hi tries k : ℕ) (before : List Try) (last : Try) → Loans hi
      → Within ps answers lo hi (reads_of (before ++ last ∷ [])) → AllFailed n (floor_of before last) (base_of before last) before
      → TwoCollects n last → tries ≡ length before + 1
      → ((b lo' mid : ℕ) (s : Spans ps answers lo' mid last) → b ≤ s.two → mid ≤ hi
      → Collected (first_try before last).first (first_try before last).second b → length last.asks ≡ k)
      → length (reads_of (before ++ last ∷ [])) ≡ 2 * n * tries + k
  last_long lo hi tries k before last loans h failed two count asks =
      let all = all_timed lo hi before last (first_two n (floor_of before last) (base_of before last) before last failed two) h in
      let z = failed_long (first_try before last).first (first_try before last).second all.0 lo hi hi before last loans all.1
      (omega arith) all.2 failed in
      let l = z.1 in
      let e = asks all.0 z.0 l.0 l.1 l.2 l.3 all.1 in
      let long = try_long n last [] two in
      let rest = z.2 in
      let more = mul-suc (2 * n) (length before) in
      let c : tries ≡ suc (length before) = omega (arith, count) in
      let d = ap (λ (z : ℕ). 2 * n * z) c in
      omega (arith, e, long, rest, more, d)

  scan_long : (lo hi : ℕ) (reads : List Read) (tries : ℕ) (how : ScanEnd) (view : Option View) → Loans hi
      → Within ps answers lo hi reads → IsScan n reads tries how view → (how ≢ GaveUp) × (length reads ≡ reads_by n tries how)
  scan_long lo hi reads tries Direct None loans h scan = absurd scan.ends
  scan_long lo hi reads tries Direct (Some v) loans h scan =
      let long = last_long lo hi tries 0 scan.before scan.last loans (subst (Within ps answers lo hi) scan.all h) scan.failed
      scan.ends.0.collects scan.count (λ b lo' mid s le below base. ap length scan.ends.0.none_asked) in (
        (λ e. absurd (cc)),
        ap length scan.all
            ∙ (let g : length (reads_of (scan.before ++ scan.last ∷ [])) ≡ 2 * n * tries = omega (arith, long) in g),
      )
  scan_long lo hi reads tries (Lent from) view loans h scan =
      let long = last_long lo hi tries 1 scan.before scan.last loans (subst (Within ps answers lo hi) scan.all h) scan.failed
      scan.ends.collects scan.count
      (λ b lo' mid s le below base. lent_asks (first_try scan.before scan.last).first (first_try scan.before scan.last).second b
      lo' mid hi from view scan.last loans base s le below scan.ends) in
      ((λ e. absurd (cc)), ap length scan.all ∙ long)
  scan_long lo hi reads tries GaveUp view loans h scan =
      absurd (not_all lo hi scan.before scan.last loans (subst (Within ps answers lo hi) scan.all h) scan.failed scan.ends.0
      scan.ends.1)

-- a scan that was not given up has a view
has_view : (n : ℕ) (before : List Try) (last : Try) (how : ScanEnd) (view : Option View) → Ends n before last how view
    → how ≢ GaveUp → (v : View) × (view ≡ Some v)
has_view n before last Direct None ends ne = absurd ends
has_view n before last Direct (Some v) ends ne = (v, refl)
has_view n before last GaveUp view ends ne = absurd (ne refl)
has_view n before last (Lent from) view ends ne = go ends.last.view refl
  where
    go : (x : Option View) → ends.last.view ≡ x → (v : View) × (view ≡ Some v)
    go None e = absurd (false≢true
        (and_parts (not ends.last.torn) false
        (sym (ap (λ (z : Option View). not ends.last.torn && lends_view (floor_of before last) z) e) ∙ ends.lends)).1)
    go (Some v) e = (v, sym ends.view_is ∙ e)

module _ (n w : ℕ) (adds : List Op → ℕ → ℕ) (es : List Event) (ps : List Published) (answers : List Answered)
    (run : Run n w adds es ps answers) where
  -- the answers before were not given up
  abbrev Before : ℕ → Type 0
  Before q = (r : ℕ) (b : Answered) → r < q → get_elem? answers r ≡ some b → b.how ≢ GaveUp

  loans_to : (q : ℕ) (a : Answered) → get_elem? answers q ≡ some a → Before q → Loans adds n w ps answers (suc a.end)
  loans_to q a is before e i lt inside pos =
      let l = run.lends e i inside pos in
      let r = l.0 in let b = l.1 in let ended = l.3 in
      let first : r < q = dite (dec_le q r)
      (λ le. dite (ℕ_discrete q r)
      (λ same. let equal : a ≡ b = some-injective a b (sym is ∙ (ap (get_elem? answers) same ∙ l.2)) in
      let at : a.end ≡ b.end = ap (λ (z : Answered). z.end) equal in absurd (omega (arith, at, ended, lt)))
      (λ other. let up = run.rise q r a b is l.2 (omega arith) in absurd (omega (arith, up, ended, lt))))
      (λ gt. omega arith) in
      let j = run.justified r b l.2 in
      let v = has_view n j.scan.before j.scan.last b.how b.view j.scan.ends (before r b first l.2) in
      let step = run.steps r b v.0 l.2 v.1 in
      record {
        since = b.begin;
        moment = step.at;
        view = v.0;
        lent = l.5 ∙ v.1;
        count = l.4;
        after = step.after;
        right = step.right;
      }

  answer_long : ((e actor : ℕ) → slice_get es e ≢ Some (Torn actor)) → (q : ℕ) (a : Answered) → get_elem? answers q ≡ some a
      → Before q → (a.how ≢ GaveUp) × (length (reads_in es a) ≡ reads_by n a.tries a.how)
  answer_long whole q a is before =
      let j = run.justified q a is in
      let order = run.ordered q a is in
      let pairs = subst (λ (z : ℕ). RisingPairs (suc a.begin) z (reads_in es a))
      (let g : suc a.begin + (a.end - a.begin) ≡ suc a.end = omega (arith, order) in
      g) (own_rising es a.actor (suc a.begin) (a.end - a.begin) whole) in
      let h = within_of ps answers (suc a.begin) (suc a.end) j.met
      (subst (RisingPairs (suc a.begin) (suc a.end)) (sym j.same) pairs) j.meets in
      let r = scan_long adds n w ps answers (suc a.begin) (suc a.end) j.met a.tries a.how a.view (loans_to q a is before) h
      j.scan in
      (r.0, ap length (sym j.same) ∙ length-map j.met where_and_torn ∙ r.1)

  all_before : ((e actor : ℕ) → slice_get es e ≢ Some (Torn actor)) → (k : ℕ) → Before k
  all_before whole zero r b lt is = absurd (omega arith)
  all_before whole (suc k) r b lt is = (answer_long whole r b is (λ s c less at. all_before whole k s c (omega arith) at)).0

pub whole_reads : (n w : ℕ) (adds : List Op → ℕ → ℕ) (es : List Event) (ps : List Published) (answers : List Answered)
    → Run n w adds es ps answers → WholeReadsAnswer es n ps answers
whole_reads n w adds es ps answers run whole = (
  each,
  λ e i inside some.
      let l = run.lends e i inside some in
      let j = run.justified l.0 l.1 l.2 in
      let v = has_view n j.scan.before j.scan.last l.1.how l.1.view j.scan.ends (each l.0 l.1 l.2).0 in
      (v.0, l.5 ∙ v.1),
)
  where
    each : (q : ℕ) (a : Answered) → get_elem? answers q ≡ some a → (a.how ≢ GaveUp)
        × (length (reads_in es a) ≡ reads_by n a.tries a.how)
    each q a is = answer_long n w adds es ps answers run whole q a is (all_before n w adds es ps answers run whole q)
