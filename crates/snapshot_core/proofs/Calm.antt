-- A turn without an answer is not justified, and one that nobody disturbs ends directly in its first try.
use Rattle.std.proofs.Common.{◌≡◌, ◌⊎◌, ⊎_elim, ℕ, zero, suc, ◌+◌, ◌-◌, ◌*◌, ◌<◌, ◌≤◌, ◌==◌, Bool, true, false, cond, not, Option}
use Rattle.std.proofs.Common.{Some, None, List, [], ◌∷◌, ◌++◌, length, map, sym, refl, ap, ◌∙◌, subst, arith, eq-eqb}
use mathlib.Core.Option.{some, some-ne-none}
use lib.ListN.{get_elem?, length-map}
use Rattle.std.specs.Prelude.{slice_get}
use Rattle.std.proofs.lemmas.Bool.{both_ways, and_from}
use Rattle.snapshot_core.specs.declared.event.Event.{Event}
use Rattle.snapshot_core.specs.declared.event.Event.TheVariants.{Begin, Step, Torn}
use Rattle.snapshot_core.specs.declared.next.Next.{Next}
use Rattle.snapshot_core.specs.declared.next.Next.TheVariants.{First, Second, Ask, Direct, Lent, GaveUp}
use Rattle.snapshot_core.specs.declared.trace.ScanEnd.{ScanEnd}
use Rattle.snapshot_core.specs.declared.trace.ScanEnd.TheVariants as how
use Rattle.snapshot_core.specs.declared.scan.Scan.{Scan}
use Rattle.snapshot_core.specs.Tries.{View, Read, Try, place_of, number_met, reads_of, TwoCollects, is_whole, same_numbers}
use Rattle.snapshot_core.specs.Tries.{is_clean, AllFailed, floor_of, base_of}
use Rattle.snapshot_core.specs.Next.{Follows}
use Rattle.snapshot_core.specs.Told.{IsScanAfter}
use Rattle.snapshot_core.specs.History.{Published, number_at}
use Rattle.snapshot_core.specs.Turns.{Answered, IsTurn, own, own_reads}
use Rattle.snapshot_core.specs.Faithful.{Meets, where_and_torn, Ends, lent_at, IsJustified, NoneTorn, UndisturbedIsDirect}
use Rattle.snapshot_core.proofs.Collects.{count_of, length_parts}
use Rattle.snapshot_core.proofs.Unique.{AllAlike, IsMissingChild, wanted_not_ended, head_same, tail_same}
use Rattle.snapshot_core.proofs.Lending.{in_both, in_first, get_map, only_one, number_calm}
use Rattle.snapshot_core.proofs.Turns.{own_front}

-- a scan in progress: what it was told is all its own reads, and each meets its moment
pub record Scans (n : ℕ) (ps : List Published) (answers : List Answered) (reads : List (ℕ × Bool)) : Type 0 where
  pub scan : Scan
  pub size : scan.n ≡ n
  pub few : scan.tries ≤ n + 2
  pub wanted : IsMissingChild scan.next
  pub told_reads : List Read
  pub told : IsScanAfter scan told_reads
  pub same : map where_and_torn told_reads ≡ reads
  pub meets : (q : ℕ) (r : Read) → get_elem? told_reads q ≡ some r → Meets ps answers r

-- reads of the same events, each of which meets its moment, are alike
pub alike_all : (ps : List Published) (answers : List Answered) (xs ys : List Read)
    → map where_and_torn xs ≡ map where_and_torn ys → ((q : ℕ) (r : Read) → get_elem? xs q ≡ some r → Meets ps answers r)
    → ((q : ℕ) (r : Read) → get_elem? ys q ≡ some r → Meets ps answers r) → AllAlike xs ys
alike_all ps answers [] [] e mx my = tt
alike_all ps answers [] (y ∷ ys) e mx my = absurd (cc)
alike_all ps answers (x ∷ xs) [] e mx my = absurd (cc)
alike_all ps answers (x ∷ xs) (y ∷ ys) e mx my = (
  record { same = same_read },
  alike_all ps answers xs ys (tail_same (where_and_torn x) (where_and_torn y) (map where_and_torn xs) (map where_and_torn ys) e)
      (λ q. mx (suc q)) (λ q. my (suc q)),
)
  where
    first_same : where_and_torn x ≡ where_and_torn y
    first_same = head_same (where_and_torn x) (where_and_torn y) (map where_and_torn xs) (map where_and_torn ys) e

    same_read : x.place ≡ y.place → x ≡ y
    same_read p =
        let at : x.at ≡ y.at = ap (λ (z : ℕ × Bool). z.0) first_same in
        let torn : x.torn ≡ y.torn = ap (λ (z : ℕ × Bool). z.1) first_same in
        let mx0 = mx 0 x refl in let my0 = my 0 y refl in
        let number : x.number ≡ y.number = mx0.number ∙ ((λ k. number_at ps (at k) (p k)) ∙ sym my0.number) in
        let view : x.view ≡ y.view = mx0.view ∙ ((λ k. lent_at ps answers (at k) (p k)) ∙ sym my0.view) in
        λ k. record { place = p k; at = at k; torn = torn k; number = number k; view = view k }

-- where what comes next is a read, no scan with these reads has ended
pub not_justified : (n : ℕ) (ps : List Published) (answers : List Answered) (reads : List (ℕ × Bool)) → Scans n ps answers reads
    → (tries : ℕ) (h : ScanEnd) (view : Option View) → IsJustified n ps answers reads tries h view → ⊥
not_justified n ps answers reads s tries h view j =
    let told = s.told in
    let alike = alike_all ps answers s.told_reads j.met (s.same ∙ sym j.same) s.meets j.meets in
    let count = told.count in let few = s.few in let size = s.size in
    wanted_not_ended n told.before j.scan.before told.now j.scan.last s.scan.next h view s.wanted
    (subst (λ (z : ℕ). Follows z told.before told.now s.scan.next) s.size told.follows)
    (subst (λ (z : ℕ). AllFailed z (floor_of told.before told.now) (base_of told.before told.now) told.before) s.size told.failed)
    (omega (arith, count, few)) j.scan.failed j.scan.ends
    (subst (λ (z : List Read × List Read). AllAlike z.0 z.1) (λ k. (told.all k, j.scan.all k)) alike)

-- an actor's own read of an event is of that event
if_own : (e : ℕ) (torn t : Bool) (q : ℕ) (x : ℕ × Bool) → get_elem? (cond t ((e, torn) ∷ []) []) q ≡ some x → x.0 ≡ e
if_own e torn true q x h = sym (ap (λ (z : ℕ × Bool). z.0) (only_one (e, torn) q x h))
if_own e torn false q x h = absurd (some-ne-none x (sym h))

one_own : (actor e : ℕ) (o : Option Event) (q : ℕ) (x : ℕ × Bool) → get_elem? (own actor e o) q ≡ some x → x.0 ≡ e
one_own actor e None q x h = absurd (some-ne-none x (sym h))
one_own actor e (Some (Begin who ops)) q x h = absurd (some-ne-none x (sym h))
one_own actor e (Some (Step who)) q x h = if_own e false (who == actor) q x h
one_own actor e (Some (Torn who)) q x h = if_own e true (who == actor) q x h

-- own reads are of the events that are looked at
pub own_within : (es : List Event) (actor e m q : ℕ) (x : ℕ × Bool) → get_elem? (own_reads es actor e m) q ≡ some x → (e ≤ x.0)
    × (x.0 < e + m)
own_within es actor e zero q x h = absurd (some-ne-none x (sym h))
own_within es actor e (suc m) q x h = ⊎_elim
    (λ t. let z = one_own actor e (slice_get es e) q x t in (omega (arith, z), omega (arith, z)))
    (λ t. let z = own_within es actor (suc e) m t.0 x t.2 in let z0 = z.0 in let z1 = z.1 in
    (omega (arith, z0), omega (arith, z1)))
    (in_both (own actor e (slice_get es e)) (own_reads es actor (suc e) m) q x h)

-- whole reads that meet the numbers of one moment
module _ (ps : List Published) (b : ℕ) where
  abbrev pub IsCalm : Read → Type 0
  IsCalm r = (r.torn ≡ false) × (r.number ≡ number_at ps (suc b) r.place)

  abbrev pub AreCalm : List Read → Type 0
  AreCalm [] = Unit {0}
  AreCalm (r ∷ rs) = IsCalm r × AreCalm rs

  calm_from : (rs : List Read) → ((q : ℕ) (r : Read) → get_elem? rs q ≡ some r → IsCalm r) → AreCalm rs
  calm_from [] h = tt
  calm_from (r ∷ rs) h = (h 0 r refl, calm_from rs (λ q. h (suc q)))

  calm_front : (xs ys : List Read) → AreCalm (xs ++ ys) → AreCalm xs
  calm_front [] ys h = tt
  calm_front (x ∷ xs) ys h = (h.0, calm_front xs ys h.1)

  calm_back : (xs ys : List Read) → AreCalm (xs ++ ys) → AreCalm ys
  calm_back [] ys h = h
  calm_back (x ∷ xs) ys h = calm_back xs ys h.1

  calm_whole : (rs : List Read) → AreCalm rs → is_whole rs ≡ true
  calm_whole [] h = refl
  calm_whole (r ∷ rs) h = and_from (not r.torn) (is_whole rs) (ap not h.0.0) (calm_whole rs h.1)

  calm_numbers : (rs : List Read) → AreCalm rs → map number_met rs ≡ map (number_at ps (suc b)) (map place_of rs)
  calm_numbers [] h = refl
  calm_numbers (r ∷ rs) h = λ k. h.0.1 k ∷ calm_numbers rs h.1 k

  same_self : (xs : List ℕ) → same_numbers xs xs ≡ true
  same_self [] = refl
  same_self (x ∷ xs) = and_from (x == x) (same_numbers xs xs) (eq-eqb x x refl) (same_self xs)

  calm_clean : (n : ℕ) (t : Try) → TwoCollects n t → AreCalm t.first → AreCalm t.second → is_clean t ≡ true
  calm_clean n t c f s =
      let numbers : map number_met t.second ≡ map number_met t.first = calm_numbers t.second s
      ∙ (ap (map (number_at ps (suc b))) (c.second ∙ sym c.first) ∙ sym (calm_numbers t.first f)) in
      and_from (is_whole t.first) (same_numbers (map number_met t.first) (map number_met t.second)) (calm_whole t.first f)
      (ap (same_numbers (map number_met t.first)) numbers ∙ same_self (map number_met t.first))

  -- the first try of reads that are calm
  calm_try : (n : ℕ) (t : Try) (xs : List Read) → TwoCollects n t → AreCalm (t.first ++ t.second ++ t.asks ++ xs)
      → is_clean t ≡ true
  calm_try n t xs c h = let two = calm_front (t.first ++ t.second) t.asks (calm_front (t.first ++ t.second ++ t.asks) xs h) in
      calm_clean n t c (calm_front t.first t.second two) (calm_back t.first t.second two)

  -- so a scan that ended with calm reads was direct at once
  calm_ends : (n : ℕ) (before : List Try) (last : Try) (h : ScanEnd) (view : Option View)
      → AllFailed n (floor_of before last) (base_of before last) before → Ends n before last h view
      → AreCalm (reads_of (before ++ last ∷ [])) → (h ≡ how.Direct) × (before ≡ [])
  calm_ends n (s ∷ ts) last h view f e calm =
      absurd (both_ways (is_clean s) f.0.unclean (calm_try n s (reads_of (ts ++ last ∷ [])) f.0.collects calm))
  calm_ends n [] last how.Direct view f e calm = (refl, refl)
  calm_ends n [] last (how.Lent from) view f e calm =
      absurd (both_ways (is_clean last) e.unclean (calm_try n last [] e.collects calm))
  calm_ends n [] last how.GaveUp view f e calm =
      absurd (both_ways (is_clean last) e.0.unclean (calm_try n last [] e.0.collects calm))

  -- and one that goes on has made fewer than 2n reads
  calm_goes_on : (n : ℕ) (before : List Try) (t : Try) (next : Next) → IsMissingChild next
      → AllFailed n (floor_of before t) (base_of before t) before → Follows n before t next
      → AreCalm (reads_of (before ++ t ∷ [])) → length (reads_of (before ++ t ∷ [])) < 2 * n
  calm_goes_on n (s ∷ ts) t next w f follows calm =
      absurd (both_ways (is_clean s) f.0.unclean (calm_try n s (reads_of (ts ++ t ∷ [])) f.0.collects calm))
  calm_goes_on n [] t (First p) w f (lt, places, second, asks) calm =
      let l0 = count_of t.first 0 p places in let l1 = length_parts t.first t.second t.asks [] in
      let z : length t.second ≡ 0 = ap (λ (x : List Read). length x) second in
      let y : length t.asks ≡ 0 = ap (λ (x : List Read). length x) asks in omega (arith, l0, l1, z, y, lt)
  calm_goes_on n [] t (Second p) w f (lt, places, seconds, asks) calm =
      let l0 = count_of t.first 0 n places in let l1 = length_parts t.first t.second t.asks [] in
      let z = count_of t.second 0 p seconds in let y : length t.asks ≡ 0 = ap (λ (x : List Read). length x) asks in
      omega (arith, l0, l1, z, y, lt)
  calm_goes_on n [] t (Ask p) w f (lt, collects, unclean, none, later) calm =
      absurd (both_ways (is_clean t) unclean (calm_try n t [] collects calm))
  calm_goes_on n [] t Direct w f follows calm = absurd w
  calm_goes_on n [] t (Lent p) w f follows calm = absurd w
  calm_goes_on n [] t (GaveUp x y z) w f follows calm = absurd w

calm_met : (n c h g : ℕ) (es : List Event) (ps : List Published) (answers : List Answered) (actor b m d : ℕ) → d ≤ m
    → NoneTorn (own_reads es actor (suc b) m) → ((q : ℕ) (p : Published) → get_elem? ps q ≡ some p → b < p.at → ¬ (p.at ≤ b + m))
    → (met : List Read) → map where_and_torn met ≡ own_reads es actor (suc b) d
    → ((q : ℕ) (r : Read) → get_elem? met q ≡ some r → Meets ps answers r) → AreCalm ps b met
calm_met n c h g es ps answers actor b m d le whole none met same meets = calm_from ps b met each
  where
    each : (q : ℕ) (r : Read) → get_elem? met q ≡ some r → IsCalm ps b r
    each q r e =
        let there : get_elem? (own_reads es actor (suc b) d) q ≡ some (where_and_torn r) =
        sym (ap (λ (z : List (ℕ × Bool)). get_elem? z q) same) ∙ get_map where_and_torn met q r e in
        let all : get_elem? (own_reads es actor (suc b) m) q ≡ some (where_and_torn r) =
        (let z : d + (m - d) ≡ m = omega arith in sym (ap (λ (y : ℕ). get_elem? (own_reads es actor (suc b) y) q) z)
        ∙ (ap (λ (y : List (ℕ × Bool)). get_elem? y q) (own_front es actor (suc b) d (m - d))
        ∙ in_first (own_reads es actor (suc b) d) (own_reads es actor (suc b + d) (m - d)) q (where_and_torn r) there)) in
        let within = own_within es actor (suc b) d q (where_and_torn r) there in let w0 = within.0 in let w1 = within.1 in
        let met_it = meets q r e in (
          whole q (where_and_torn r) all,
          met_it.number ∙ number_calm ps r.place (suc b) r.at (omega arith)
              (λ e lo hi k p is at of. none k p is (omega arith) (omega arith)),
        )

-- a turn that makes 2n reads while nobody publishes is answered directly in its first try
pub undisturbed : (n c h g : ℕ) (es : List Event) (ps : List Published) (answers : List Answered)
    → ((q : ℕ) (a : Answered) → get_elem? answers q ≡ some a
    → IsJustified n ps answers (own_reads es a.actor (suc a.begin) (a.end - a.begin)) a.tries a.how a.view)
    → ((actor b m : ℕ) → IsTurn n c h g es ps answers actor b → b + m < length es
    → Scans n ps answers (own_reads es actor (suc b) m)
    ⊎ ((q : ℕ) × (a : Answered) × (get_elem? answers q ≡ some a) × (a.actor ≡ actor) × (a.begin ≡ b) × (a.end ≤ b + m)))
    → UndisturbedIsDirect n c h g es ps answers
undisturbed n c h g es ps answers justified progress actor b m turn inside long whole none = ⊎_elim
    (λ (s : Scans n ps answers (own_reads es actor (suc b) m)).
    let told = s.told in
    let calm = calm_met n c h g es ps answers actor b m m (omega arith) whole none s.told_reads s.same s.meets in
    let fewer = calm_goes_on ps b n told.before told.now s.scan.next s.wanted
    (subst (λ (z : ℕ). AllFailed z (floor_of told.before told.now) (base_of told.before told.now) told.before) s.size
    told.failed)
    (subst (λ (z : ℕ). Follows z told.before told.now s.scan.next) s.size told.follows) (subst (AreCalm ps b) told.all calm) in
    let l0 : length s.told_reads ≡ length (own_reads es actor (suc b) m) = sym (length-map s.told_reads where_and_torn)
    ∙ ap (λ (z : List (ℕ × Bool)). length z) s.same in
    let l1 : length s.told_reads ≡ length (reads_of (told.before ++ told.now ∷ [])) = ap (λ (z : List Read). length z) told.all in
    absurd (omega (arith, fewer, l0, l1, long)))
    (λ (t : (q : ℕ) × (a : Answered) × (get_elem? answers q ≡ some a) × (a.actor ≡ actor) × (a.begin ≡ b) × (a.end ≤ b + m)).
    let a : Answered = t.1 in let is_b = t.4 in let by = t.5 in
    let j = justified t.0 a t.2 in
    let same : map where_and_torn j.met ≡ own_reads es actor (suc b) (a.end - a.begin) = j.same
    ∙ λ k. own_reads es (t.3 k) (suc (t.4 k)) (a.end - a.begin) in
    let calm = calm_met n c h g es ps answers actor b m (a.end - a.begin) (omega (arith, is_b, by)) whole none j.met same
    j.meets in
    let ends = calm_ends ps b n j.scan.before j.scan.last a.how a.view j.scan.failed j.scan.ends
    (subst (AreCalm ps b) j.scan.all calm) in
    let count = j.scan.count in let l : length j.scan.before ≡ 0 = ap (λ (z : List Try). length z) ends.1 in
    (t.0, a, t.2, t.3, t.4, ends.0, omega (arith, count, l)))
    (progress actor b m turn inside)
