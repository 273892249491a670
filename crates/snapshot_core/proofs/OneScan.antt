-- Where the reads of a scan that has ended begin those of another that has ended, they are all of them, and both scans end the
-- same.
use Rattle.std.proofs.Common.{◌≡◌, ℕ, suc, ◌+◌, ◌<◌, ◌≤◌, true, not, Option, Some, None, List, [], ◌∷◌, ◌++◌, length, map, sym}
use Rattle.std.proofs.Common.{refl, ap, ◌∙◌, subst, arith, length-append, append_assoc}
use Rattle.std.proofs.lemmas.Bool.{and_parts, both_ways}
use Rattle.std.proofs.lemmas.List.{nil_from_length}
use Rattle.snapshot_core.specs.declared.trace.ScanEnd.{ScanEnd}
use Rattle.snapshot_core.specs.declared.trace.ScanEnd.TheVariants as how
use Rattle.snapshot_core.specs.Tries.{View, Read, Try, place_of, number_met, reads_of, is_clean, to_ask, lends, none_lends}
use Rattle.snapshot_core.specs.Tries.{AllFailed, EndsLent, floor_of, base_of}
use Rattle.snapshot_core.specs.Told.{vector_of}
use Rattle.snapshot_core.specs.Faithful.{Ends, IsScan}
use Rattle.snapshot_core.proofs.Unique.{AllAlike, head_same, tail_same, same_front, alike_length, same_two, clean_same}
use Rattle.snapshot_core.proofs.Unique.{same_failed, EndsSo, ends_so, ended_two, same_heads, alike_back, front_of, lent_failed}
use Rattle.snapshot_core.proofs.Unique.{ends_failed}

-- reads that are alike to none are none
alike_none : (xs : List Read) → AllAlike xs [] → xs ≡ []
alike_none xs a = nil_from_length xs (alike_length xs [] a)

-- where a list of reads ends with its first that lends, and another such list begins it, no more reads are in it
one_last : (floor : List ℕ) (cs bs more : List Read) (r q : Read) → lends floor r ≡ true → none_lends floor bs ≡ true
    → bs ++ q ∷ [] ≡ cs ++ r ∷ [] ++ more → (more ≡ []) × (q ≡ r)
one_last floor [] [] more r q l none e = (sym (tail_same q r [] more e), head_same q r [] more e)
one_last floor [] (b ∷ bs) more r q l none e =
    let same = head_same b r (bs ++ q ∷ []) more e in
    let not_b = (and_parts (not (lends floor b)) (none_lends floor bs) none).0 in
    absurd (both_ways (not (lends floor b)) (ap (λ (z : Read). not (lends floor z)) same ∙ ap not l) not_b)
one_last floor (a ∷ cs) [] more r q l none e =
    let len : 1 ≡ suc (length (cs ++ r ∷ [] ++ more)) = ap (λ (z : List Read). length z) e in
    let l1 = length-append (cs ++ r ∷ []) more in let l2 = length-append cs (r ∷ []) in absurd (omega (arith, len, l1, l2))
one_last floor (a ∷ cs) (b ∷ bs) more r q l none e =
    one_last floor cs bs more r q l (and_parts (not (lends floor b)) (none_lends floor bs) none).1
    (tail_same b a (bs ++ q ∷ []) (cs ++ r ∷ [] ++ more) e)

-- a try, what is read after it, and what is read after that
after_try : (s : Try) (ys xs : List Read) → s.first ++ s.second ++ s.asks ++ ys ++ xs ≡ s.first ++ s.second ++ s.asks
    ++ (ys ++ xs)
after_try s ys xs = append_assoc (s.first ++ s.second ++ s.asks) ys xs

-- the view is the same where it is lent
abbrev SameLent : ScanEnd → Option View → Option View → Type 0
SameLent how.Direct v v' = Unit {0}
SameLent (how.Lent from) v v' = v ≡ v'
SameLent how.GaveUp v v' = Unit {0}

-- the last tries of two scans end them the same, and nothing is read after
record SameLast (t u : Try) (h h' : ScanEnd) (v v' : Option View) (xs : List Read) : Type 0 where
  pub none : xs ≡ []
  pub ended : h ≡ h'
  pub first : t.first ≡ u.first
  pub lent : SameLent h v v'

module _ (n : ℕ) (floor base : List ℕ) where
  -- two tries that end with an ask that lends
  both_lent : (t u : Try) (from from' : ℕ) (v v' : Option View) (xs : List Read) → EndsLent n floor base from v t
      → EndsLent n floor base from' v' u → AllAlike (t.first ++ t.second ++ t.asks ++ xs) (u.first ++ u.second ++ u.asks ++ [])
      → SameLast t u (how.Lent from) (how.Lent from') v v' xs
  both_lent t u from from' v v' xs et eu a =
      let two = same_two n t u xs [] et.collects eu.collects a in
      let places : map place_of t.asks ++ et.later ≡ map place_of u.asks ++ eu.later = et.asked
      ∙ (ap (to_ask base) two.second ∙ sym eu.asked) in
      let len = alike_length (t.asks ++ xs) (u.asks ++ []) two.rest in
      let l1 = length-append t.asks xs in let l2 = length-append u.asks [] in
      let front = front_of t.asks u.asks et.later eu.later xs [] (omega (arith, len, l1, l2)) places two.rest in
      let last = one_last floor et.before eu.before front.0 et.last eu.last et.lends eu.none
      (sym eu.asks ∙ (front.1 ∙ ap (λ (z : List Read). z ++ front.0) et.asks)) in
      record {
        none = alike_none xs (subst (λ (z : List Read). AllAlike xs (z ++ [])) last.0 front.2);
        ended = ap (λ (z : ℕ). how.Lent z) (sym et.from_is ∙ (ap place_of (sym last.1) ∙ eu.from_is));
        first = two.first;
        lent = sym et.view_is ∙ (ap (λ (z : Read). z.view) (sym last.1) ∙ eu.view_is);
      }

  -- two tries that end a scan
  both_end : (t u : Try) (h h' : ScanEnd) (v v' : Option View) (before before' : ℕ) (xs : List Read)
      → EndsSo n floor base before t h v → EndsSo n floor base before' u h' v' → AllAlike (t.first ++ t.second ++ t.asks ++ xs)
      (u.first ++ u.second ++ u.asks ++ [])
      → SameLast t u h h' v v' xs
  both_end t u how.Direct how.Direct v v' before before' xs et eu a =
      let two = same_two n t u xs [] et.collects eu.collects a in
      let rest = same_front t.asks u.asks xs [] (ap (map place_of) (et.none_asked ∙ sym eu.none_asked)) two.rest in
      record { none = alike_none xs rest.1; ended = refl; first = two.first; lent = tt }
  both_end t u how.Direct (how.Lent from) v v' before before' xs et eu a =
      let two = same_two n t u xs [] et.collects eu.collects a in
      absurd (both_ways (is_clean t) (clean_same t u two.first two.second ∙ eu.unclean) et.is_clean)
  both_end t u how.Direct how.GaveUp v v' before before' xs et eu a =
      let two = same_two n t u xs [] et.collects eu.0.collects a in
      absurd (both_ways (is_clean t) (clean_same t u two.first two.second ∙ eu.0.unclean) et.is_clean)
  both_end t u (how.Lent from) how.Direct v v' before before' xs et eu a =
      let two = same_two n t u xs [] et.collects eu.collects a in
      absurd (both_ways (is_clean t) et.unclean (clean_same t u two.first two.second ∙ eu.is_clean))
  both_end t u (how.Lent from) (how.Lent from') v v' before before' xs et eu a = both_lent t u from from' v v' xs et eu a
  both_end t u (how.Lent from) how.GaveUp v v' before before' xs et eu a =
      absurd (lent_failed n floor base t u from v xs [] et eu.0 a)
  both_end t u how.GaveUp how.Direct v v' before before' xs et eu a =
      let two = same_two n t u xs [] et.0.collects eu.collects a in
      absurd (both_ways (is_clean t) et.0.unclean (clean_same t u two.first two.second ∙ eu.is_clean))
  both_end t u how.GaveUp (how.Lent from) v v' before before' xs et eu a =
      absurd (lent_failed n floor base u t from v' [] xs eu et.0 (alike_back _ _ a))
  both_end t u how.GaveUp how.GaveUp v v' before before' xs et eu a =
      let same = same_failed n floor base t u xs [] et.0 eu.0 a in
      record { none = alike_none xs same.1; ended = refl; first = ap (λ (z : Try). z.first) same.0; lent = tt }

  -- two scans that have ended, where k tries that failed stand before both
  one_end : (k : ℕ) (ts us : List Try) (t u : Try) (h h' : ScanEnd) (v v' : Option View) (xs : List Read)
      → AllFailed n floor base ts → EndsSo n floor base (k + length ts) t h v → AllFailed n floor base us
      → EndsSo n floor base (k + length us) u h' v' → k + length ts < n + 2 → k + length us < n + 2
      → AllAlike (reads_of (ts ++ t ∷ []) ++ xs) (reads_of (us ++ u ∷ [])) → (length ts ≡ length us) × SameLast t u h h' v v' xs
  one_end k [] [] t u h h' v v' xs ft et fu eu few few' a = (
    refl,
    both_end t u h h' v v' (k + 0) (k + 0) xs et eu
        (subst (λ (z : List Read). AllAlike z (reads_of ([] ++ u ∷ []))) (after_try t [] xs) a),
  )
  one_end k [] (w ∷ us) t u h h' v v' xs ft et fu eu few few' a =
      let e = ends_failed n floor base t w h v (k + 0) xs (reads_of (us ++ u ∷ [])) et fu.0
      (subst (λ (z : List Read). AllAlike z (reads_of (w ∷ us ++ u ∷ []))) (after_try t [] xs) a) in
      absurd (omega (arith, e, few'))
  one_end k (s ∷ ts) [] t u h h' v v' xs ft et fu eu few few' a =
      let e = ends_failed n floor base u s h' v' (k + 0) [] (reads_of (ts ++ t ∷ []) ++ xs) eu ft.0
      (alike_back _ _ (subst (λ (z : List Read). AllAlike z (reads_of ([] ++ u ∷ [])))
      (after_try s (reads_of (ts ++ t ∷ [])) xs) a)) in
      absurd (omega (arith, e, few))
  one_end k (s ∷ ts) (w ∷ us) t u h h' v v' xs ft et fu eu few few' a =
      let same = same_failed n floor base s w (reads_of (ts ++ t ∷ []) ++ xs) (reads_of (us ++ u ∷ [])) ft.0 fu.0
      (subst (λ (z : List Read). AllAlike z (reads_of (w ∷ us ++ u ∷ []))) (after_try s (reads_of (ts ++ t ∷ [])) xs) a) in
      let y : k + suc (length ts) ≡ suc k + length ts = omega arith in
      let z : k + suc (length us) ≡ suc k + length us = omega arith in
      let rest = one_end (suc k) ts us t u h h' v v' xs ft.1 (subst (λ (x : ℕ). EndsSo n floor base x t h v) y et) fu.1
      (subst (λ (x : ℕ). EndsSo n floor base x u h' v') z eu) (omega (arith, few)) (omega (arith, few')) same.1 in
      (ap suc rest.0, rest.1)

-- scans that end the same have one vector, where they have a view
same_vector : (n : ℕ) (ts us : List Try) (t u : Try) (h : ScanEnd) (v v' : Option View) → Ends n ts t h v → Ends n us u h v'
    → t.first ≡ u.first → SameLent h v v' → vector_of v ≡ vector_of v'
same_vector n ts us t u how.Direct None v' et eu f l = absurd et
same_vector n ts us t u how.Direct (Some v) None et eu f l = absurd eu
same_vector n ts us t u how.Direct (Some v) (Some v') et eu f l = ap (λ (z : List ℕ). Some z)
    (et.1 ∙ (ap (map number_met) f ∙ sym eu.1))
same_vector n ts us t u (how.Lent from) v v' et eu f l = ap vector_of l
same_vector n ts us t u how.GaveUp v v' et eu f l = ap vector_of (et.2 ∙ sym eu.2)

-- where two scans have ended and the reads of the one begin those of the other, no read follows, and both made as many
-- tries, ended the same and found one vector
pub ended_once : (n : ℕ) (rs xs rs' : List Read) (tries tries' : ℕ) (h h' : ScanEnd) (v v' : Option View)
    → IsScan n rs tries h v → IsScan n rs' tries' h' v' → tries ≤ n + 2 → tries' ≤ n + 2 → AllAlike (rs ++ xs) rs'
    → (xs ≡ []) × (tries ≡ tries') × (h ≡ h') × (vector_of v ≡ vector_of v')
ended_once n rs xs rs' tries tries' h h' v v' s s' few few' a = (
  same.1.none,
  s.count ∙ (ap (λ (z : ℕ). z + 1) same.0 ∙ sym s'.count),
  same.1.ended,
  same_vector n s.before s'.before s.last s'.last h v v' s.ends
      (subst (λ (z : ScanEnd). Ends n s'.before s'.last z v') (sym same.1.ended) s'.ends) same.1.first same.1.lent,
)
  where
    reads : AllAlike (reads_of (s.before ++ s.last ∷ []) ++ xs) (reads_of (s'.before ++ s'.last ∷ []))
    reads = subst (λ (z : List Read × List Read). AllAlike (z.0 ++ xs) z.1) (λ k. (s.all k, s'.all k)) a

    -- floor and base are the same
    heads : (floor_of s'.before s'.last ≡ floor_of s.before s.last) × (base_of s'.before s'.last ≡ base_of s.before s.last)
    heads = same_heads n s.before s'.before s.last s'.last xs (ended_two n s.before s.last h v s.failed s.ends)
        (ended_two n s'.before s'.last h' v' s'.failed s'.ends) reads

    same : (length s.before ≡ length s'.before) × SameLast s.last s'.last h h' v v' xs
    same =
        let c = s.count in let c' = s'.count in
        one_end n (floor_of s.before s.last) (base_of s.before s.last) 0 s.before s'.before s.last s'.last h h' v v' xs s.failed
        (ends_so n s.before s.last h v s.ends)
        (subst (λ (z : List ℕ × List ℕ). AllFailed n z.0 z.1 s'.before) (λ k. (heads.0 k, heads.1 k)) s'.failed)
        (subst (λ (z : List ℕ × List ℕ). EndsSo n z.0 z.1 (0 + length s'.before) s'.last h' v') (λ k. (heads.0 k, heads.1 k))
        (ends_so n s'.before s'.last h' v' s'.ends))
        (omega (arith, few, c)) (omega (arith, few', c')) reads
