-- A list of reads is a scan in one way at most, so that one whose next read is still wanted is no scan that has ended.
use Rattle.std.proofs.Common.{◌≡◌, ℕ, suc, ◌+◌, ◌<◌, Bool, true, false, not, ◌&&◌, Option, Some, None, List, [], ◌∷◌, ◌++◌}
use Rattle.std.proofs.Common.{length, map, sym, refl, ap, ◌∙◌, subst, arith, length-append, append-nil, append_assoc, ◌≤◌}
use Rattle.std.proofs.lemmas.Bool.{both_ways, and_right, and_parts}
use Rattle.std.proofs.Math.Nat.{zero-add}
use lib.ListN.{length-map}
use Rattle.snapshot_core.specs.declared.next.Next.{Next}
use Rattle.snapshot_core.specs.declared.next.Next.TheVariants.{First, Second, Ask, Direct, Lent, GaveUp}
use Rattle.snapshot_core.specs.declared.trace.ScanEnd.{ScanEnd}
use Rattle.snapshot_core.specs.declared.trace.ScanEnd.TheVariants as how
use Rattle.snapshot_core.specs.Tries.{View, Read, Try, place_of, number_met, from_on, reads_of, TwoCollects, is_clean, to_ask}
use Rattle.snapshot_core.specs.Tries.{lends, none_lends, Failed, AllFailed, EndsDirectly, EndsLent, first_try, floor_of, base_of}
use Rattle.snapshot_core.specs.Next.{Follows}
use Rattle.snapshot_core.specs.Faithful.{Ends}
use Rattle.snapshot_core.proofs.Collects.{count_of, length_parts, try_long}
use Rattle.snapshot_core.proofs.Told.{first_two}

-- two reads of one event, which meet the same where they are of one place
pub record Alike (r q : Read) : Type 0 where
  pub same : r.place ≡ q.place → r ≡ q

abbrev pub AllAlike : List Read → List Read → Type 0
AllAlike [] [] = Unit {0}
AllAlike (r ∷ rs) (q ∷ qs) = Alike r q × AllAlike rs qs
AllAlike _ _ = ⊥

pub head_same : {A : Type 0} (x y : A) (xs ys : List A) → x ∷ xs ≡ y ∷ ys → x ≡ y
head_same x y xs ys e = cc

pub tail_same : {A : Type 0} (x y : A) (xs ys : List A) → x ∷ xs ≡ y ∷ ys → xs ≡ ys
tail_same x y xs ys e = cc

-- where the places of two fronts are the same, so are the fronts, and what follows is alike
pub same_front : (xs xs' ys ys' : List Read) → map place_of xs ≡ map place_of xs' → AllAlike (xs ++ ys) (xs' ++ ys') → (xs ≡ xs')
    × AllAlike ys ys'
same_front [] [] ys ys' e a = (refl, a)
same_front [] (q ∷ qs) ys ys' e a = absurd (cc)
same_front (r ∷ rs) [] ys ys' e a = absurd (cc)
same_front (r ∷ rs) (q ∷ qs) ys ys' e a =
    let t = same_front rs qs ys ys' (tail_same r.place q.place (map place_of rs) (map place_of qs) e) a.1 in
    let h = a.0.same (head_same r.place q.place (map place_of rs) (map place_of qs) e) in
    (λ k. h k ∷ t.0 k, t.1)

pub alike_back : (xs ys : List Read) → AllAlike xs ys → AllAlike ys xs
alike_back [] [] a = tt
alike_back [] (q ∷ qs) a = absurd a
alike_back (r ∷ rs) [] a = absurd a
alike_back (r ∷ rs) (q ∷ qs) a = (record { same = λ e. sym (a.0.same (sym e)) }, alike_back rs qs a.1)

pub alike_length : (xs ys : List Read) → AllAlike xs ys → length xs ≡ length ys
alike_length [] [] a = refl
alike_length [] (q ∷ qs) a = absurd a
alike_length (r ∷ rs) [] a = absurd a
alike_length (r ∷ rs) (q ∷ qs) a = ap suc (alike_length rs qs a.1)

front_form : (t : Try) (xs : List Read) → t.first ++ t.second ++ t.asks ++ xs ≡ t.first ++ (t.second ++ (t.asks ++ xs))
front_form t xs = simp append_assoc

-- both collects of two tries
pub record SameTwo (n : ℕ) (t u : Try) (xs ys : List Read) : Type 0 where
  pub first : t.first ≡ u.first
  pub second : t.second ≡ u.second
  pub rest : AllAlike (t.asks ++ xs) (u.asks ++ ys)

pub same_two : (n : ℕ) (t u : Try) (xs ys : List Read) → TwoCollects n t → TwoCollects n u
    → AllAlike (t.first ++ t.second ++ t.asks ++ xs) (u.first ++ u.second ++ u.asks ++ ys) → SameTwo n t u xs ys
same_two n t u xs ys ct cu a =
    let f = same_front t.first u.first (t.second ++ (t.asks ++ xs)) (u.second ++ (u.asks ++ ys)) (ct.first ∙ sym cu.first)
    (subst (λ (z : List Read × List Read). AllAlike z.0 z.1) (λ k. (front_form t xs k, front_form u ys k)) a) in
    let s = same_front t.second u.second (t.asks ++ xs) (u.asks ++ ys) (ct.second ∙ sym cu.second) f.1 in
    record { first = f.0; second = s.0; rest = s.1 }

pub clean_same : (t u : Try) → t.first ≡ u.first → t.second ≡ u.second → is_clean t ≡ is_clean u
clean_same t u f s = ap (λ (z : List Read × List Read). is_clean (record { first = z.0; second = z.1; asks = [] }))
    (λ k. (f k, s k))

-- two tries that failed
pub same_failed : (n : ℕ) (floor base : List ℕ) (t u : Try) (xs ys : List Read) → Failed n floor base t → Failed n floor base u
    → AllAlike (t.first ++ t.second ++ t.asks ++ xs) (u.first ++ u.second ++ u.asks ++ ys) → (t ≡ u) × AllAlike xs ys
same_failed n floor base t u xs ys ft fu a =
    let two = same_two n t u xs ys ft.collects fu.collects a in
    let asks = same_front t.asks u.asks xs ys (ft.asked ∙ (ap (to_ask base) two.second ∙ sym fu.asked)) two.rest in
    (λ k. record { first = two.first k; second = two.second k; asks = asks.0 k }, asks.1)

-- one that lends is among those asked
lends_among : (floor : List ℕ) (before : List Read) (last : Read) → lends floor last ≡ true
    → none_lends floor (before ++ last ∷ []) ≡ false
lends_among floor [] last e = ap (λ (b : Bool). not b && true) e
lends_among floor (r ∷ rs) last e = and_right (not (lends floor r)) (none_lends floor (rs ++ last ∷ []))
    (lends_among floor rs last e)

-- where the places of both begin one list, the shorter reads begin the longer ones
pub front_of : (rs qs : List Read) (cs ds : List ℕ) (xs ys : List Read) → length rs ≤ length qs
    → map place_of rs ++ cs ≡ map place_of qs ++ ds → AllAlike (rs ++ xs) (qs ++ ys)
    → (more : List Read) × (qs ≡ rs ++ more) × AllAlike xs (more ++ ys)
front_of [] qs cs ds xs ys l e a = (qs, refl, a)
front_of (r ∷ rs) [] cs ds xs ys l e a = absurd (omega (arith, l))
front_of (r ∷ rs) (q ∷ qs) cs ds xs ys l e a =
    let rest = front_of rs qs cs ds xs ys (omega (arith, l))
    (tail_same r.place q.place (map place_of rs ++ cs) (map place_of qs ++ ds) e) a.1 in
    let one = a.0.same (head_same r.place q.place (map place_of rs ++ cs) (map place_of qs ++ ds) e) in
    (rest.0, λ k. sym one k ∷ rest.1 k, rest.2)

-- where none of the reads lends, none at their beginning does
none_front : (floor : List ℕ) (f m : List Read) → none_lends floor (f ++ m) ≡ true → none_lends floor f ≡ true
none_front floor [] m e = refl
none_front floor (r ∷ rs) m e =
    let both = and_parts (not (lends floor r)) (none_lends floor (rs ++ m)) e in
    λ k. both.0 k && none_front floor rs m both.1 k

-- where one of some reads lends, one lends of all that go on from them
lent_none : (floor : List ℕ) (us ts before : List Read) (last : Read) (cs ds : List ℕ) (xs ys : List Read)
    → us ≡ before ++ last ∷ [] → lends floor last ≡ true → none_lends floor ts ≡ true → length us ≤ length ts
    → map place_of us ++ cs ≡ map place_of ts ++ ds
    → AllAlike (us ++ xs) (ts ++ ys) → ⊥
lent_none floor us ts before last cs ds xs ys is lent none le places a =
    let front = front_of us ts cs ds xs ys le places a in
    both_ways (none_lends floor us) (ap (none_lends floor) is ∙ lends_among floor before last lent)
    (none_front floor us front.0 (ap (none_lends floor) (sym front.1) ∙ none))

-- how a try ends a scan; one that gives up is the last of n + 2
module _ (n : ℕ) (floor base : List ℕ) where
  abbrev pub EndsSo : (before : ℕ) → Try → ScanEnd → Option View → Type 0
  EndsSo before t how.Direct view = EndsDirectly n t
  EndsSo before t (how.Lent from) view = EndsLent n floor base from view t
  EndsSo before t how.GaveUp view = Failed n floor base t × (before ≡ n + 1)

  -- a try in which a worker lends is not one that failed
  pub lent_failed : (t u : Try) (from : ℕ) (view : Option View) (xs ys : List Read) → EndsLent n floor base from view t
      → Failed n floor base u → AllAlike (t.first ++ t.second ++ t.asks ++ xs) (u.first ++ u.second ++ u.asks ++ ys) → ⊥
  lent_failed t u from view xs ys et fu a =
      let two = same_two n t u xs ys et.collects fu.collects a in
      let places : map place_of t.asks ++ et.later ≡ map place_of u.asks ++ [] = et.asked
      ∙ (ap (to_ask base) two.second ∙ (sym fu.asked ∙ sym (append-nil (map place_of u.asks)))) in
      let len = ap (λ (z : List ℕ). length z) places in
      let l1 = length-append (map place_of t.asks) et.later in
      let l2 = length-append (map place_of u.asks) [] in
      let l3 : length (map place_of t.asks) ≡ length t.asks = length-map t.asks place_of in
      let l4 : length (map place_of u.asks) ≡ length u.asks = length-map u.asks place_of in
      lent_none floor t.asks u.asks et.before et.last et.later [] xs ys et.asks et.lends fu.none
      (omega (arith, len, l1, l2, l3, l4)) places two.rest

  -- a try that ends a scan, and one that failed: the first is the last of n + 2
  pub ends_failed : (t u : Try) (h : ScanEnd) (view : Option View) (before : ℕ) (xs ys : List Read) → EndsSo before t h view
      → Failed n floor base u → AllAlike (t.first ++ t.second ++ t.asks ++ xs) (u.first ++ u.second ++ u.asks ++ ys)
      → before ≡ n + 1
  ends_failed t u how.Direct view before xs ys et fu a = let two = same_two n t u xs ys et.collects fu.collects a in
      absurd (both_ways (is_clean t) (clean_same t u two.first two.second ∙ fu.unclean) et.is_clean)
  ends_failed t u (how.Lent from) view before xs ys et fu a = absurd (lent_failed t u from view xs ys et fu a)
  ends_failed t u how.GaveUp view before xs ys et fu a = et.1

  -- a try in progress: not over
  abbrev pub InProgress : Try → Next → Type 0
  InProgress t (First place) = (place < n) × (map place_of t.first ≡ from_on 0 place) × (t.second ≡ []) × (t.asks ≡ [])
  InProgress t (Second place) = (place < n) × (map place_of t.first ≡ from_on 0 n) × (map place_of t.second ≡ from_on 0 place)
      × (t.asks ≡ [])
  InProgress t (Ask place) = (place < n) × TwoCollects n t × (is_clean t ≡ false) × (none_lends floor t.asks ≡ true)
      × ((later : List ℕ) × (map place_of t.asks ++ place ∷ later ≡ to_ask base t.second))
  InProgress t _ = ⊥

  -- it is too short for two collects and all asks of a try
  too_short : (t u : Try) (next : Next) (ys : List Read) → InProgress t next → TwoCollects n u
      → AllAlike (t.first ++ t.second ++ t.asks ++ []) (u.first ++ u.second ++ u.asks ++ ys)
      → (place : ℕ) × (next ≡ Ask place)
  too_short t u (First p) ys (lt, f, s, q) cu a =
      let len = alike_length (t.first ++ t.second ++ t.asks ++ []) (u.first ++ u.second ++ u.asks ++ ys) a in
      let l1 = length_parts t.first t.second t.asks [] in let l2 = try_long n u ys cu in
      let m0 = count_of t.first 0 p f in let m1 : length t.second ≡ 0 = ap (λ (z : List Read). length z) s in
      let m2 : length t.asks ≡ 0 = ap (λ (z : List Read). length z) q in absurd (omega (arith, len, l1, l2, m0, m1, m2))
  too_short t u (Second p) ys (lt, f, s, q) cu a =
      let len = alike_length (t.first ++ t.second ++ t.asks ++ []) (u.first ++ u.second ++ u.asks ++ ys) a in
      let l1 = length_parts t.first t.second t.asks [] in let l2 = try_long n u ys cu in
      let m0 = count_of t.first 0 n f in let m1 = count_of t.second 0 p s in
      let m2 : length t.asks ≡ 0 = ap (λ (z : List Read). length z) q in absurd (omega (arith, len, l1, l2, m0, m1, m2))
  too_short t u (Ask p) ys h cu a = (p, refl)
  too_short t u Direct ys h cu a = absurd h
  too_short t u (Lent p) ys h cu a = absurd h
  too_short t u (GaveUp x y z) ys h cu a = absurd h

  -- a try that still asks has fewer reads than one that has asked all
  asks_fewer : (t u : Try) (p : ℕ) (ys : List Read) → InProgress t (Ask p) → Failed n floor base u
      → AllAlike (t.first ++ t.second ++ t.asks ++ []) (u.first ++ u.second ++ u.asks ++ ys) → ⊥
  asks_fewer t u p ys (lt, collects, unclean, none, (later, asked)) fu a =
      let two = same_two n t u [] ys collects fu.collects a in
      let len = alike_length (t.asks ++ []) (u.asks ++ ys) two.rest in
      let l1 = length-append t.asks [] in let l2 = length-append u.asks ys in
      let l3 : length (map place_of t.asks ++ p ∷ later) ≡ length (to_ask base t.second) = ap (λ (z : List ℕ). length z) asked in
      let l4 = length-append (map place_of t.asks) (p ∷ later) in
      let l5 : length (map place_of t.asks) ≡ length t.asks = length-map t.asks place_of in
      let l6 : length u.asks ≡ length (to_ask base t.second) = sym (length-map u.asks place_of)
      ∙ ap (λ (z : List ℕ). length z) (fu.asked ∙ ap (to_ask base) (sym two.second)) in
      omega (arith, len, l1, l2, l3, l4, l5, l6)

  ask_ends : (t u : Try) (p : ℕ) (h : ScanEnd) (view : Option View) (before : ℕ) → InProgress t (Ask p)
      → EndsSo before u h view
      → AllAlike (t.first ++ t.second ++ t.asks ++ []) (u.first ++ u.second ++ u.asks ++ []) → ⊥
  ask_ends t u p how.Direct view before (lt, collects, unclean, none, (later, asked)) eu a =
      let two = same_two n t u [] [] collects eu.collects a in
      both_ways (is_clean t) unclean (clean_same t u two.first two.second ∙ eu.is_clean)
  ask_ends t u p (how.Lent from) view before (lt, collects, unclean, none, (later, asked)) eu a =
      let two = same_two n t u [] [] collects eu.collects a in
      let len = alike_length (t.asks ++ []) (u.asks ++ []) two.rest in
      let l1 = length-append t.asks [] in let l2 = length-append u.asks [] in
      lent_none floor u.asks t.asks eu.before eu.last eu.later (p ∷ later) [] [] eu.asks eu.lends none
      (omega (arith, len, l1, l2)) (eu.asked ∙ (ap (to_ask base) (sym two.second) ∙ sym asked)) (alike_back _ _ two.rest)
  ask_ends t u p how.GaveUp view before at eu a = asks_fewer t u p [] at eu.0 a

  collects_of : (before : ℕ) (u : Try) (h : ScanEnd) (view : Option View) → EndsSo before u h view → TwoCollects n u
  collects_of before u how.Direct view e = e.collects
  collects_of before u (how.Lent from) view e = e.collects
  collects_of before u how.GaveUp view e = e.0.collects

  -- a scan in progress has not ended: k tries that failed stand before both
  not_over : (k : ℕ) (ts us : List Try) (t u : Try) (next : Next) (h : ScanEnd) (view : Option View) → AllFailed n floor base ts
      → InProgress t next → AllFailed n floor base us → EndsSo (k + length us) u h view → k + length ts < n + 2
      → AllAlike (reads_of (ts ++ t ∷ [])) (reads_of (us ++ u ∷ [])) → ⊥
  not_over k [] [] t u next h view ft at fu eu few a =
      let s = too_short t u next [] at (collects_of (k + 0) u h view eu) a in
      ask_ends t u s.0 h view (k + 0) (subst (InProgress t) s.1 at) eu a
  not_over k [] (v ∷ us) t u next h view ft at fu eu few a =
      let s = too_short t v next (reads_of (us ++ u ∷ [])) at fu.0.collects a in
      asks_fewer t v s.0 (reads_of (us ++ u ∷ [])) (subst (InProgress t) s.1 at) fu.0 a
  not_over k (s ∷ ts) [] t u next h view ft at fu eu few a = let e = ends_failed u s h view (k + 0) [] (reads_of (ts ++ t ∷ []))
      eu ft.0 (alike_back _ _ a) in omega (arith, e, few)
  not_over k (s ∷ ts) (v ∷ us) t u next h view ft at fu eu few a =
      let r = same_failed n floor base s v (reads_of (ts ++ t ∷ [])) (reads_of (us ++ u ∷ [])) ft.0 fu.0 a in
      let z : k + suc (length us) ≡ suc k + length us = omega arith in
      not_over (suc k) ts us t u next h view ft.1 at fu.1 (subst (λ (x : ℕ). EndsSo x u h view) z eu) (omega (arith, few)) r.1

-- what comes next is a read
abbrev pub IsMissingChild : Next → Type 0
IsMissingChild (First place) = Unit {0}
IsMissingChild (Second place) = Unit {0}
IsMissingChild (Ask place) = Unit {0}
IsMissingChild _ = ⊥

in_progress : (n : ℕ) (before : List Try) (t : Try) (next : Next) → IsMissingChild next → Follows n before t next
    → InProgress n (floor_of before t) (base_of before t) t next
in_progress n before t (First p) w f = f
in_progress n before t (Second p) w f = f
in_progress n before t (Ask p) w f = f
in_progress n before t Direct w f = absurd w
in_progress n before t (Lent p) w f = absurd w
in_progress n before t (GaveUp x y z) w f = absurd w

pub ends_so : (n : ℕ) (before : List Try) (t : Try) (h : ScanEnd) (view : Option View) → Ends n before t h view
    → EndsSo n (floor_of before t) (base_of before t) (0 + length before) t h view
ends_so n before t how.Direct None e = absurd e
ends_so n before t how.Direct (Some v) e = e.0
ends_so n before t (how.Lent from) view e = e
ends_so n before t how.GaveUp view e = (e.0, zero-add (length before) ∙ e.1)

-- what follows the asks of the first try
abbrev after_first : List Try → Try → List Read
after_first [] t = []
after_first (s ∷ ts) t = reads_of (ts ++ t ∷ [])

first_form : (before : List Try) (t : Try)
    → reads_of (before ++ t ∷ []) ≡ (first_try before t).first ++ (first_try before t).second ++ (first_try before t).asks
    ++ after_first before t
first_form [] t = refl
first_form (s ∷ ts) t = refl

-- both collects of the first try of a scan that has ended
pub ended_two : (n : ℕ) (before : List Try) (t : Try) (h : ScanEnd) (view : Option View)
    → AllFailed n (floor_of before t) (base_of before t) before → Ends n before t h view → TwoCollects n (first_try before t)
ended_two n before t h view f e = first_two n (floor_of before t) (base_of before t) before t f
    (collects_of n (floor_of before t) (base_of before t) (0 + length before) t h view (ends_so n before t h view e))

-- where the first tries of alike scans made both collects, floor and base are the same
pub same_heads : (n : ℕ) (before us : List Try) (t u : Try) (xs : List Read) → TwoCollects n (first_try before t)
    → TwoCollects n (first_try us u) → AllAlike (reads_of (before ++ t ∷ []) ++ xs) (reads_of (us ++ u ∷ []))
    → (floor_of us u ≡ floor_of before t) × (base_of us u ≡ base_of before t)
same_heads n before us t u xs c d a =
    let s = first_try before t in
    let form = ap (λ (z : List Read). z ++ xs) (first_form before t) ∙ append_assoc (s.first ++ s.second ++ s.asks)
    (after_first before t) xs in
    let two = same_two n s (first_try us u) (after_first before t ++ xs) (after_first us u) c d
    (subst (λ (z : List Read × List Read). AllAlike z.0 z.1) (λ k. (form k, first_form us u k)) a) in
    (sym (ap (map number_met) two.first), sym (ap (map number_met) two.second))

-- a scan whose next read is wanted is not one that has ended, whatever the reads of one event met
pub wanted_not_ended : (n : ℕ) (before us : List Try) (t u : Try) (next : Next) (h : ScanEnd) (view : Option View)
    → IsMissingChild next
    → Follows n before t next → AllFailed n (floor_of before t) (base_of before t) before → length before < n + 2
    → AllFailed n (floor_of us u) (base_of us u) us → Ends n us u h view
    → AllAlike (reads_of (before ++ t ∷ [])) (reads_of (us ++ u ∷ [])) → ⊥
wanted_not_ended n before us t u next h view w follows ft few fu ends a = go before follows ft few a
  where
    first_u : TwoCollects n (first_try us u)
    first_u = ended_two n us u h view fu ends

    over : (before : List Try) (t : Try) (next : Next) → IsMissingChild next → Follows n before t next
        → AllFailed n (floor_of before t) (base_of before t) before → length before < n + 2
        → AllAlike (reads_of (before ++ t ∷ [])) (reads_of (us ++ u ∷ []))
        → TwoCollects n (first_try before t) → ⊥
    over before t next w follows ft few a two =
        let heads = same_heads n before us t u [] two first_u
        (subst (λ (z : List Read). AllAlike z (reads_of (us ++ u ∷ []))) (sym (append-nil (reads_of (before ++ t ∷ []))))
        a) in
        not_over n (floor_of before t) (base_of before t) 0 before us t u next h view ft (in_progress n before t next w follows)
        (subst (λ (z : List ℕ × List ℕ). AllFailed n z.0 z.1 us) (λ k. (heads.0 k, heads.1 k)) fu)
        (subst (λ (z : List ℕ × List ℕ). EndsSo n z.0 z.1 (0 + length us) u h view) (λ k. (heads.0 k, heads.1 k))
        (ends_so n us u h view ends))
        (omega (arith, few)) a

    alone : (t : Try) (next : Next) → IsMissingChild next → Follows n [] t next
        → AllAlike (reads_of ([] ++ t ∷ [])) (reads_of (us ++ u ∷ [])) → TwoCollects n t
    alone t next w follows a =
        let s = too_short n (floor_of [] t) (base_of [] t) t (first_try us u) next (after_first us u)
        (in_progress n [] t next w follows) first_u
        (subst (λ (z : List Read). AllAlike (reads_of ([] ++ t ∷ [])) z) (first_form us u) a) in
        (subst (Follows n [] t) s.1 follows).1

    go : (bs : List Try) → Follows n bs t next → AllFailed n (floor_of bs t) (base_of bs t) bs → length bs < n + 2
        → AllAlike (reads_of (bs ++ t ∷ [])) (reads_of (us ++ u ∷ [])) → ⊥
    go [] follows ft few a = over [] t next w follows ft few a (alone t next w follows a)
    go (s ∷ ts) follows ft few a = over (s ∷ ts) t next w follows ft few a ft.0.collects
