-- The loads of a scan: what each leaves true of it.
use Rattle.std.proofs.Common.{◌≡◌, ℕ, zero, suc, ◌+◌, ◌<◌, ◌≤◌, ◌⊎◌, inl, inr, ⊎_elim, Bool, true, false, ◌&&◌, ◌||◌, not, ◌==◌}
use Rattle.std.proofs.Common.{List, [], ◌∷◌, ◌++◌, length, map, take, get_or, slice_index, slice_set, sym, refl, ap, ◌∙◌, subst}
use Rattle.std.proofs.Common.{arith, length-set, Some}
use mathlib.Core.Logic.{dite}
use mathlib.Core.Option.{some, some-injective, some-ne-none}
use native.Mathlib.Decide.{ℕ_discrete}
use lib.ListN.{get_elem?, length-map}
use lib.Seq.{take-length, take_all}
use Rattle.std.proofs.lemmas.Bool.{and_parts, cond_both, eqb-true, not-true, ne_eqb, or_from, true≢false}
use Rattle.atomic_table.proofs.Lists.{at_map, at_longer, at_set}
use Rattle.ledger_core.specs.declared.op.Op.{Op}
use Rattle.register_rule.specs.declared.view.PublishEntry.{PublishEntry}
use Rattle.register_rule.specs.declared.view.Look.{Look}
use Rattle.register_rule.specs.declared.view.Version.{Version}
use Rattle.register_rule.specs.declared.view.Answer.{Answer}
use Rattle.register_rule.specs.declared.view.ScanInProgress.{ScanInProgress}
use Rattle.register_rule.specs.declared.view.ScanLog.{ScanLog}
use Rattle.register_rule.specs.declared.load.Load.{Load}
use Rattle.register_rule.specs.declared.load.Load.TheVariants.{Open, Read, Confirm, Ask, EndAsk}
use Rattle.register_rule.specs.History.{tab, count, numbers_after, IsCut}
use Rattle.register_rule.specs.Sums.{word_after, vector_total, last_lent}
use Rattle.register_rule.specs.Shown.{Shows}
use Rattle.register_rule.specs.Loads.{IsTried, AreOrdered}
use Rattle.register_rule.specs.SoundScans.{opened_at, AreLoads, IsStale, IsLook, HasStale, IsVersion, IsOneMoment, IsSound}
use Rattle.register_rule.specs.ScanSteps.{every, answered, given_up_if_spent, remembered_words, begun}
use Rattle.register_rule.specs.ScanSteps.{unsure, opens_next, after_open}
use Rattle.register_rule.specs.ScanSteps.{noted}
use Rattle.register_rule.specs.ScanSteps.{after_read, confirmed_look, remembered_then, confirmed_at, clean, are_clean, sum_words}
use Rattle.register_rule.specs.ScanSteps.{answer_of_try}
use Rattle.register_rule.specs.ScanSteps.{with_base, failed_once_more, ended, after_confirm, is_lender, lent_in, lent_or_passed}
use Rattle.register_rule.specs.ScanSteps.{lent_or_passed_at}
use Rattle.register_rule.specs.ScanSteps.{after}
use Rattle.register_rule.proofs.Words.{at_below, there, from_map, last_is, each_of, each_push}
use Rattle.register_rule.proofs.Moments.{tab_at}
use Rattle.register_rule.proofs.Finds.{Finds}
use Rattle.register_rule.proofs.Upper.{upper_at}
use Rattle.register_rule.proofs.Ordering.{rest_ordered, map_ordered, open_ordered, begin_ordered, confirm_ordered}
use Rattle.register_rule.proofs.Asks.{once_asked, nothing_lent, with_now, scan_gives, scan_answered, ask_right, end_ask_right}

every_at : {A : Type 0} (p : A → Bool) (xs : List A) → every p xs ≡ true → (q : ℕ) (x : A) → get_elem? xs q ≡ some x → p x ≡ true
every_at p [] e q x at = absurd (some-ne-none x (sym at))
every_at p (y ∷ ys) e zero x at = ap p (sym (some-injective y x at)) ∙ (and_parts (p y) (every p ys) e).0
every_at p (y ∷ ys) e (suc q) x at = every_at p ys (and_parts (p y) (every p ys) e).1 q x at

-- the numbers of a try, place by place
as_tab : (i : ℕ) (ls : List Look) (f : ℕ → ℕ) → ((q : ℕ) (l : Look) → get_elem? ls q ≡ some l → l.number ≡ f (i + q))
    → map opened_at ls ≡ tab i (length ls) f
as_tab i [] f h = refl
as_tab i (l ∷ ls) f h = let e : i + 0 ≡ i = omega arith in let a : l.number ≡ f i = h 0 l refl ∙ ap f e in
    let rest = as_tab (suc i) ls f (λ q x at. let e' : i + suc q ≡ suc i + q = omega arith in h (suc q) x at ∙ ap f e') in
    λ k. a k ∷ rest k

map_same : (f : Look → Look) → ((l : Look) → (f l).number ≡ l.number) → (ls : List Look)
    → map opened_at (map f ls) ≡ map opened_at ls
map_same f same [] = refl
map_same f same (l ∷ ls) = λ k. same l k ∷ map_same f same ls k

-- the words that are remembered are those of the version of this number, or there are none
words_from : (P : List ℕ → Type 0) (i s : ℕ) (remembered : List Version) → P []
    → ((v : Version) → get_elem? remembered i ≡ some v → v.number ≡ s → P v.row) → P (remembered_words i s remembered)
words_from P i s [] none each = none
words_from P zero s (v ∷ vs) none each = cond_both (v.number == s) v.row [] P (λ same. each v refl (eqb-true _ _ same))
    (λ _. none)
words_from P (suc i) s (v ∷ vs) none each = words_from P i s vs none each

length_remembered : (w i : ℕ) (ls : List Look) (remembered : List Version) → length (remembered_then w i ls remembered)
    ≡ length remembered
length_remembered w i [] remembered = refl
length_remembered w i (l ∷ ls) remembered = cond_both (l.place == i && l.sure && length l.words == w)
    (slice_set remembered i (record { number = l.number; row = l.words })) (remembered_then w i ls remembered)
    (λ (z : List Version). length z ≡ length remembered)
    (λ _. length-set remembered i _) (λ _. length_remembered w i ls remembered)

module _ (n w : ℕ) (adds : List Op → ℕ → ℕ) (made : ℕ → List PublishEntry) (h : List ℕ)
    (counted : (i : ℕ) → i < n → count i h ≡ length (made i)) where
  -- one more load, of the place i
  loads_more : (xs : List (ℕ × ℕ)) (i x : ℕ) → i < n → x ≡ length (made i) → AreLoads n w adds made xs
      → AreLoads n w adds made (xs ++ (i, x) ∷ [])
  loads_more xs i x inside is ok = each_push (λ (z : ℕ × ℕ). (z.0 < n) × (z.1 ≤ length (made z.0))) xs (i, x) ok (
    inside,
    omega (arith, is),
  )

  -- no load of this place found more
  topmost : (xs : List (ℕ × ℕ)) (i x : ℕ) → x ≡ length (made i) → AreLoads n w adds made xs → (q : ℕ) (y : ℕ × ℕ)
      → get_elem? xs q ≡ some y → y.0 ≡ i → y.1 ≤ x
  topmost xs i x is ok q y e at = let h = (ok q y e).1 in let same = ap (λ (z : ℕ). length (made z)) at in
      omega (arith, is, h, same)

  -- of places of which none is confirmed, one has moved, or all stand at their numbers
  moved_or : (ls : List Look) → ((q : ℕ) (l : Look) → get_elem? ls q ≡ some l → (l.number ≤ length (made l.place))
      × (l.sure ≡ false))
      → HasStale n w adds made ls ⊎ ((q : ℕ) (l : Look) → get_elem? ls q ≡ some l → l.number ≡ length (made l.place))
  moved_or [] ok = inr (λ q l e. absurd (some-ne-none l (sym e)))
  moved_or (l ∷ ls) ok = dite (ℕ_discrete l.number (length (made l.place)))
      (λ same. ⊎_elim (λ (d : HasStale n w adds made ls). inl (suc d.0, d.1, d.2, d.3))
      (λ (all : (q : ℕ) (x : Look) → get_elem? ls q ≡ some x → x.number ≡ length (made x.place)). inr
      (each_of (λ (x : Look). x.number ≡ length (made x.place)) l ls same all))
      (moved_or ls (λ q x e. ok (suc q) x e)))
      (λ other. let le = (ok 0 l refl).0 in inl (0, l, refl, ((ok 0 l refl).1, omega arith)))

  -- the numbers of this moment
  moment_now : (ls : List Look) → length ls ≡ n → ((q : ℕ) (l : Look) → get_elem? ls q ≡ some l → IsLook n w adds made 0 l
      × (l.place ≡ q))
      → ((q : ℕ) (l : Look) → get_elem? ls q ≡ some l → l.number ≡ length (made l.place)) → IsCut n h (map opened_at ls)
  moment_now ls len ok same = (
    length h,
    omega arith,
    as_tab 0 ls (λ i. count i h) (λ q l e. let t = ok q l e in let z : q ≡ 0 + q = omega arith in
        same q l e ∙ (sym (counted l.place t.0.inside) ∙ ap (λ (y : ℕ). count y h) (t.1 ∙ z)))
        ∙ (ap (λ (z : ℕ). tab 0 z (λ i. count i h)) len ∙ ap (numbers_after n) (sym (take-length h))),
  )

  -- a look begins with the row that is remembered, or with no words
  begun_right : (i x : ℕ) (remembered : List Version) → i < n → x ≡ length (made i)
      → ((p : ℕ) (v : Version) → get_elem? remembered p ≡ some v → IsVersion n w adds made p v)
      → IsLook n w adds made 0 (begun i x (remembered_words i x remembered))
  begun_right i x remembered inside is ok = record {
    inside = inside;
    old = omega (arith, is);
    risen = inl refl;
    right = words_from (λ (ws : List ℕ). (k y : ℕ) → get_elem? ws k ≡ some y → Shows n w adds (take x (made i)) (0 + k) y
        ⊎ IsStale n w adds made (begun i x (remembered_words i x remembered))) i x remembered
        (λ k y e. absurd (some-ne-none y (sym e)))
        (λ v at new k y e. inl (let lt = at_below v.row k y e in let wide = (ok i v at).wide in let z : k ≡ 0 + k = omega arith in
        record {
          row = λ _. (ok i v at).row k y e ∙ (λ c. word_after adds (take (new c) (made i)) (z c));
          flag = λ is. absurd (omega arith);
          vector = λ a j _ _ is. absurd (omega arith);
          totals = λ a j _ _ is. absurd (omega arith);
        }));
  }

  -- the opening load
  after_open_right : (c : ScanLog) (i x : ℕ) → i < n → x ≡ length (made i) → IsSound n w adds made h c
      → IsSound n w adds made h (after_open i x c)
  after_open_right c i x inside is ok = cond_both (opens_next i c.trying)
      (record c.trying { looks = c.trying.looks ++ begun i x (remembered_words i x c.remembered) ∷ [] }) c.trying
      (λ (t : ScanInProgress). IsSound n w adds made h (record c { opened = c.opened ++ (i, x) ∷ []; trying = t }))
      (λ hit. let t = and_parts _ _ hit in let at : i ≡ length c.trying.looks = eqb-true _ _ t.0 in
      let free = (and_parts _ _ t.1).1 in
      let new = begun i x (remembered_words i x c.remembered) in
      let looks' : (q : ℕ) (l : Look) → get_elem? (c.trying.looks ++ new ∷ []) q ≡ some l → IsLook n w adds made 0 l
      × (l.place ≡ q) =
      λ q l e. ⊎_elim (ok.looks q l)
      (λ (z : (new ≡ l) × (q ≡ length c.trying.looks)). subst (λ (y : Look). IsLook n w adds made 0 y × (y.place ≡ q)) z.0
      (begun_right i x c.remembered inside is ok.remembered, at ∙ sym z.1))
      (last_is c.trying.looks _ l q e) in
      let none : (q : ℕ) (l : Look) → get_elem? (c.trying.looks ++ new ∷ []) q ≡ some l → (l.number ≤ length (made l.place))
      × (l.sure ≡ false) =
      λ q l e. (
        (looks' q l e).0.old,
        each_push (λ (y : Look). y.sure ≡ false) c.trying.looks new
            (λ q y z. not-true y.sure (every_at unsure c.trying.looks free q y z)) refl q l e,
      ) in
      with_now n w adds made h c (c.opened ++ (i, x) ∷ []) c.asked c.quit (record c.trying { looks = c.trying.looks ++ new ∷ [] })
      (loads_more c.opened i x inside is ok.opened)
      (begin_ordered c.opened c.confirmed c.before c.trying.looks i x (topmost c.opened i x is ok.opened)
      (topmost c.confirmed i x is ok.confirmed) ok.ordered new refl refl refl refl) ok.asked looks' ok.asks
      (λ len. ⊎_elim (λ (d : HasStale n w adds made (c.trying.looks ++ new ∷ [])). inl d)
      (λ all. inr (moment_now _ len looks' all))
      (moved_or (c.trying.looks ++ new ∷ []) none)) ok)
      (λ _. with_now n w adds made h c (c.opened ++ (i, x) ∷ []) c.asked c.quit c.trying
      (loads_more c.opened i x inside is ok.opened)
      (open_ordered c.opened c.confirmed c.before c.trying.looks i x (topmost c.opened i x is ok.opened)
      (topmost c.confirmed i x is ok.confirmed) ok.ordered) ok.asked ok.looks ok.asks ok.whole ok)

  -- a load that changes looks one by one, and no place or number
  scan_maps : (c : ScanLog) (f g : Look → Look) (found : List (ℕ × ℕ)) (marks : List ℕ) → AreLoads n w adds made found
      → AreOrdered c.opened found marks (map f c.trying.looks) → ((l : Look) → (f l).number ≡ l.number)
      → ((l : Look) → (f l).place ≡ l.place) → ((l : Look) → IsLook n w adds made 0 l → IsLook n w adds made 0 (f l))
      → ((l : Look) → IsLook n w adds made w l → IsLook n w adds made w (g l))
      → ((l : Look) → IsStale n w adds made l → (f l).sure ≡ false)
      → IsSound n w adds made h c
      → IsSound n w adds made h
      (record c {
        confirmed = found;
        before = marks;
        trying = record c.trying { looks = map f c.trying.looks; asks = map g c.trying.asks };
      })
  scan_maps c f g found marks confirmed' ordered' number place look look' sure ok = record {
    opened = ok.opened;
    confirmed = confirmed';
    ordered = ordered';
    asked = ok.asked;
    recorded = ok.recorded;
    seen = ok.seen;
    seen_wide = ok.seen_wide;
    remembered = ok.remembered;
    remembered_wide = ok.remembered_wide;
    looks = (λ q l e. let t = from_map f c.trying.looks q l e in
        subst (λ (z : Look). IsLook n w adds made 0 z × (z.place ≡ q)) t.2 (
          look t.0 (ok.looks q t.0 t.1).0,
          place t.0 ∙ (ok.looks q t.0 t.1).1,
        ));
    asks = (λ q l e. let t = from_map g c.trying.asks q l e in subst (IsLook n w adds made w) t.2
        (look' t.0 (ok.asks q t.0 t.1)));
    whole = (λ len. ⊎_elim
        (λ (d : HasStale n w adds made c.trying.looks). inl (
          d.0,
          f d.1,
          at_map f c.trying.looks d.0 d.1 d.2,
          (sure d.1 d.3, subst (λ (z : ℕ × ℕ). z.0 < length (made z.1)) (λ k. (sym (number d.1) k, sym (place d.1) k)) d.3.1),
        ))
        (λ (p : IsCut n h (map opened_at c.trying.looks)). inr (subst (IsCut n h) (sym (map_same f number c.trying.looks)) p))
        (ok.whole (sym (length-map c.trying.looks f) ∙ len)));
  }

  -- the load of a word, which is right as long as the number of the segment is s
  after_read_right : (c : ScanLog) (i s k x : ℕ) → (s ≡ length (made i) → Shows n w adds (made i) k x) → IsSound n w adds made h c
      → IsSound n w adds made h (after_read w i s k x c)
  after_read_right c i s k x right ok = scan_maps c (noted 0 i s k x) (noted w i s k x) c.confirmed c.before ok.confirmed
      (map_ordered c.opened c.confirmed c.before c.trying.looks (noted 0 i s k x)
      (λ l t. cond_both (test 0 l) (record l { words = l.words ++ x ∷ [] }) l (IsTried c.opened c.confirmed c.before) (λ _. t)
      (λ _. t)) ok.ordered)
      (λ l. cond_both (test 0 l) _ _ (λ (y : Look). y.number ≡ l.number) (λ _. refl) (λ _. refl))
      (λ l. cond_both (test 0 l) _ _ (λ (y : Look). y.place ≡ l.place) (λ _. refl) (λ _. refl))
      (λ l ok'. cond_both (test 0 l) (record l { words = l.words ++ x ∷ [] }) l (IsLook n w adds made 0)
      (λ hit. notes 0 l ok' hit) (λ _. ok'))
      (λ l ok'. cond_both (test w l) (record l { words = l.words ++ x ∷ [] }) l (IsLook n w adds made w)
      (λ hit. notes w l ok' hit) (λ _. ok'))
      (λ l moved. cond_both (test 0 l) _ _ (λ (y : Look). y.sure ≡ false) (λ _. moved.0) (λ _. moved.0))
      ok
    where
      test : ℕ → Look → Bool
      test from l = l.place == i && l.number == s && not l.sure && k == from + length l.words

      notes : (from : ℕ) (l : Look) → IsLook n w adds made from l
          → (l.place == i && l.number == s && not l.sure && k == from + length l.words) ≡ true
          → IsLook n w adds made from (record l { words = l.words ++ x ∷ [] })
      notes from l ok' hit =
          let t3 = and_parts _ _ hit in let t2 = and_parts _ _ t3.0 in let t1 = and_parts _ _ t2.0 in
          let here : l.place ≡ i = eqb-true _ _ t1.0 in let this : l.number ≡ s = eqb-true _ _ t1.1 in
          let off : l.sure ≡ false = not-true _ t2.1 in let at : k ≡ from + length l.words = eqb-true _ _ t3.1 in record {
            inside = ok'.inside;
            old = ok'.old;
            risen = ok'.risen;
            right = λ q y e. ⊎_elim (λ e'. ok'.right q y e')
                (λ (t : (x ≡ y) × (q ≡ length l.words)). dite (ℕ_discrete l.number (length (made l.place)))
                (λ is. let kq : k ≡ from + q = at ∙ ap (λ (z : ℕ). from + z) (sym t.1) in
                let fresh : s ≡ length (made i) = sym this ∙ (is ∙ ap (λ (z : ℕ). length (made z)) here) in
                let all : made i ≡ take l.number (made l.place) = ap made (sym here)
                ∙ sym (take_all l.number (made l.place) (omega (arith, is))) in
                inl (subst (λ (z : List PublishEntry × ℕ × ℕ). Shows n w adds z.0 z.1 z.2) (λ c. (all c, kq c, t.0 c))
                (right fresh)))
                (λ other. let le = ok'.old in inr (off, omega arith)))
                (last_is l.words x y q e);
          }

  -- the row of a place that is sure is that of the version of its number
  remembers : (i : ℕ) (ls : List Look) (remembered : List Version)
      → ((q : ℕ) (l : Look) → get_elem? ls q ≡ some l → IsLook n w adds made 0 l)
      → ((p : ℕ) (v : Version) → get_elem? remembered p ≡ some v → IsVersion n w adds made p v)
      → (p : ℕ) (v : Version) → get_elem? (remembered_then w i ls remembered) p ≡ some v → IsVersion n w adds made p v
  remembers i [] remembered each ok = ok
  remembers i (l ∷ ls) remembered each ok = cond_both (l.place == i && l.sure && length l.words == w)
      (slice_set remembered i (record { number = l.number; row = l.words })) (remembered_then w i ls remembered)
      (λ (z : List Version). (p : ℕ) (v : Version) → get_elem? z p ≡ some v → IsVersion n w adds made p v)
      (λ hit p v e. ⊎_elim
      (λ t. subst (λ (z : ℕ × Version). IsVersion n w adds made z.0 z.1) (λ k. (sym t.0 k, t.1 k)) (new hit))
      (λ t. ok p v t.1)
      (at_set remembered i p (record { number = l.number; row = l.words }) v e))
      (λ _. remembers i ls remembered (λ q x e. each (suc q) x e) ok)
    where
      new : (l.place == i && l.sure && length l.words == w) ≡ true
          → IsVersion n w adds made i (record { number = l.number; row = l.words })
      new hit = let t2 = and_parts _ _ hit in let t1 = and_parts _ _ t2.0 in
          let here : l.place ≡ i = eqb-true _ _ t1.0 in let on : l.sure ≡ true = t1.1 in
          let wide' : length l.words ≡ w = eqb-true _ _ t2.1 in let right = each 0 l refl in record {
            old = let o = right.old in subst (λ (z : ℕ). l.number ≤ length (made z)) here o;
            wide = wide';
            row = λ k x e. let lt = at_below l.words k x e in let z : 0 + k ≡ k = omega arith in ⊎_elim
                (λ (t : Shows n w adds (take l.number (made l.place)) (0 + k) x). t.row (omega arith)
                ∙ (λ c. word_after adds (take l.number (made (here c))) (z c)))
                (λ (t : IsStale n w adds made l). absurd (true≢false (sym on ∙ t.0)))
                (right.right k x e);
          }

  -- a confirming load, but for the end of the try
  confirmed_right : (c : ScanLog) (i x : ℕ) → i < n → x ≡ length (made i) → IsSound n w adds made h c
      → IsSound n w adds made h (confirmed_at w i x c)
  confirmed_right c i x inside is ok = let m = scan_maps c (confirmed_look i x) (λ l. l) (c.confirmed ++ (i, x) ∷ [])
      (c.before ++ length c.opened ∷ []) (loads_more c.confirmed i x inside is ok.confirmed)
      (confirm_ordered c.opened c.confirmed c.before c.trying.looks i x (topmost c.opened i x is ok.opened)
      (topmost c.confirmed i x is ok.confirmed) ok.ordered)
      (λ l. cond_both (l.place == i) _ _ (λ (y : Look). y.number ≡ l.number) (λ _. refl) (λ _. refl))
      (λ l. cond_both (l.place == i) _ _ (λ (y : Look). y.place ≡ l.place) (λ _. refl) (λ _. refl))
      (λ l ok'. cond_both (l.place == i) (record l { sure = l.sure || l.number == x; found = x }) l (IsLook n w adds made 0)
      (λ same. let end = still l same in record {
        inside = ok'.inside;
        old = ok'.old;
        risen = let o = ok'.old in inr (omega (arith, end), omega (arith, end));
        right = λ k y e. ⊎_elim (λ t. inl t) (λ (t : IsStale n w adds made l). inr (off l same t, t.1)) (ok'.right k y e);
      })
      (λ _. ok'))
      (λ l ok'. ok')
      (λ l moved. cond_both (l.place == i) (record l { sure = l.sure || l.number == x; found = x }) l
      (λ (y : Look). y.sure ≡ false) (λ same. off l same moved) (λ _. moved.0))
      ok in record {
        opened = m.opened;
        confirmed = m.confirmed;
        ordered = m.ordered;
        asked = m.asked;
        recorded = m.recorded;
        seen = m.seen;
        seen_wide = m.seen_wide;
        remembered = remembers i (map (confirmed_look i x) c.trying.looks) c.remembered
            (λ q l e. (m.looks q l e).0) ok.remembered;
        remembered_wide = length_remembered w i (map (confirmed_look i x) c.trying.looks) c.remembered ∙ ok.remembered_wide;
        looks = m.looks;
        asks = ok.asks;
        whole = m.whole;
      }
    where
      still : (l : Look) → (l.place == i) ≡ true → x ≡ length (made l.place)
      still l same = is ∙ ap (λ (z : ℕ). length (made z)) (sym (eqb-true _ _ same))

      -- a number that has moved is not found again
      off : (l : Look) → (l.place == i) ≡ true → IsStale n w adds made l → (l.sure || l.number == x) ≡ false
      off l same moved = or_from l.sure (l.number == x) moved.0
          (ne_eqb l.number x (λ e. let end = still l same in let lt = moved.1 in omega (arith, e, end)))

  -- the sums of a clean try
  sums_right : (k i : ℕ) (ls : List Look)
      → ((q : ℕ) (l : Look) → get_elem? ls q ≡ some l → (l.place ≡ i + q)
      × (slice_index l.words k ≡ word_after adds (take l.number (made l.place)) k))
      → sum_words k ls ≡ vector_total adds made i (map opened_at ls) k
  sums_right k i [] ok = refl
  sums_right k i (l ∷ ls) ok =
      let e : i + 0 ≡ i = omega arith in
      let t = ok 0 l refl in
      let here : slice_index l.words k ≡ word_after adds (take l.number (made i)) k = t.1
      ∙ ap (λ (z : ℕ). word_after adds (take l.number (made z)) k) (t.0 ∙ e) in
      let rest = sums_right k (suc i) ls (λ q x at. let e' : i + suc q ≡ suc i + q = omega arith in
      ((ok (suc q) x at).0 ∙ e', (ok (suc q) x at).1)) in
      λ c. here c + rest c

  -- the numbers of a try are at most those of the segments
  low_of : (i : ℕ) (ls : List Look) → ((q : ℕ) (l : Look) → get_elem? ls q ≡ some l → (l.number ≤ length (made l.place))
      × (l.place ≡ i + q)) → (q s : ℕ) → get_elem? (map opened_at ls) q ≡ some s → s ≤ length (made (i + q))
  low_of i [] ok q s e = absurd (some-ne-none s (sym e))
  low_of i (l ∷ ls) ok zero s e = let t = ok 0 l refl in
      subst (λ (z : ℕ × ℕ). z.0 ≤ length (made z.1)) (λ c. (some-injective l.number s e c, t.1 c)) t.0
  low_of i (l ∷ ls) ok (suc q) s e = let e' : suc i + q ≡ i + suc q = omega arith in subst (λ (z : ℕ). s ≤ length (made z)) e'
      (low_of (suc i) ls (λ p x at. let e'' : i + suc p ≡ suc i + p = omega arith in
      ((ok (suc p) x at).0, (ok (suc p) x at).1 ∙ e'')) q s e)

  -- the answer of a clean try
  clean_right : (c : ScanLog) → IsSound n w adds made h c → are_clean n w c.trying.looks ≡ true
      → IsOneMoment n w adds made h (answer_of_try w c.trying.looks) × (length (map opened_at c.trying.looks) ≡ n)
  clean_right c ok hit =
      let t = and_parts _ _ hit in let len : length c.trying.looks ≡ n = eqb-true _ _ t.0 in
      let each : (q : ℕ) (l : Look) → get_elem? c.trying.looks q ≡ some l → (l.sure ≡ true) ×
      (length l.words ≡ w) = λ q l e. let p =
      and_parts _ _ (every_at (clean w) c.trying.looks t.1 q l e) in (p.0, eqb-true _ _ p.1) in (
        record {
          low = λ i s e. let z : 0 + i ≡ i = omega arith in
              subst (λ (y : ℕ). s ≤ length (made y)) z (low_of 0 c.trying.looks (λ q l at. let z' : q ≡ 0 + q = omega arith in
              ((ok.looks q l at).0.old, (ok.looks q l at).1 ∙ z')) i s e);
          moment = ⊎_elim (λ (d : HasStale n w adds made c.trying.looks). absurd (true≢false (sym (each d.0 d.1 d.2).0 ∙ d.3.0)))
              (λ p. p) (ok.whole len);
          totals = λ k lt. tab_at 0 w _ k lt ∙ ap some (let z : 0 + k ≡ k = omega arith in ap
              (λ (y : ℕ). sum_words y c.trying.looks) z
              ∙ sums_right k 0 c.trying.looks (λ q l at. let z' : q ≡ 0 + q = omega arith in (
                (ok.looks q l at).1 ∙ z',
                let long = (each q l at).1 in
                    ⊎_elim (λ (r : Shows n w adds (take l.number (made l.place)) (0 + k) (get_or l.words k 0)). let z'' : 0 + k
                    ≡ k =
                    omega arith in r.row (omega arith) ∙ ap (word_after adds (take l.number (made l.place))) z'')
                    (λ (r : IsStale n w adds made l). absurd (true≢false (sym (each q l at).0 ∙ r.0)))
                    ((ok.looks q l at).0.right k (get_or l.words k 0) (there l.words k 0 (omega (arith, long)))),
              )));
        },
        length-map c.trying.looks opened_at ∙ len,
      )

  -- the end of a try
  ended_right : (c : ScanLog) → 0 < n → IsSound n w adds made h c → IsSound n w adds made h (ended n w c)
  ended_right c some_n ok = cond_both (are_clean n w c.trying.looks) (answered (answer_of_try w c.trying.looks) c)
      (given_up_if_spent n (record c { trying = failed_once_more (with_base c.trying) })) (IsSound n w adds made h)
      (λ hit. let t = clean_right c ok hit in scan_answered n w adds made h c (answer_of_try w c.trying.looks) some_n t.1 t.0 ok)
      (λ _. scan_gives n w adds made h (record c { trying = failed_once_more (with_base c.trying) }) some_n
      (with_now n w adds made h c c.opened c.asked c.quit (failed_once_more (with_base c.trying)) ok.opened
      (rest_ordered c.opened c.confirmed c.before c.trying.looks ok.ordered) ok.asked (λ q l e. absurd (some-ne-none l (sym e)))
      (cond_both (c.trying.failed == 0) (record c.trying { floor = _; base = _ }) c.trying
      (λ (t : ScanInProgress). (q : ℕ) (l : Look)
      → get_elem? t.asks q ≡ some l → IsLook n w adds made w l) (λ _. ok.asks) (λ _. ok.asks))
      (λ none. absurd (let z : 0 ≡ n = none in omega arith)) ok))

  -- the confirming load
  after_confirm_right : (c : ScanLog) (i x : ℕ) → 0 < n → i < n → x ≡ length (made i) → IsSound n w adds made h c
      → IsSound n w adds made h (after_confirm n w i x c)
  after_confirm_right c i x some_n inside is ok = let new = confirmed_right c i x inside is ok in
      cond_both (i + 1 == n) (ended n w (confirmed_at w i x c)) (confirmed_at w i x c) (IsSound n w adds made h)
      (λ _. ended_right (confirmed_at w i x c) some_n new) (λ _. new)

-- a load of a scan
pub scan_after : (n w : ℕ) (adds : List Op → ℕ → ℕ) (made : ℕ → List PublishEntry) (h : List ℕ)
    → ((i : ℕ) → i < n → count i h ≡ length (made i))
    → ((i : ℕ) (a : Answer) → i < n → last_lent (made i) ≡ Some a → IsOneMoment n w adds made h a)
    → (what : Load) (x : ℕ) (c : ScanLog) → 0 < n → Finds n w adds made what x → IsSound n w adds made h c
    → IsSound n w adds made h (after n w what x c)
scan_after n w adds made h counted lent (Open place) x c some_n found ok = after_open_right n w adds made h counted c place x
    found.0 found.1 ok
scan_after n w adds made h counted lent (Read place number item) x c some_n found ok =
    after_read_right n w adds made h counted c place number item x found ok
scan_after n w adds made h counted lent (Confirm place) x c some_n found ok = after_confirm_right n w adds made h counted c place
    x some_n found.0 found.1 ok
scan_after n w adds made h counted lent (Ask place) x c some_n found ok = ask_right n w adds made h c place x found.0 found.1 ok
scan_after n w adds made h counted lent (EndAsk place) x c some_n found ok = end_ask_right n w adds made h c place x some_n
    found.1 (λ a e. lent place a found.0 e) ok

-- no answer is lost, and nothing that was seen falls
record Stays (c d : ScanLog) : Type 0 where
  answer : (p : ℕ) (a : Answer) → get_elem? c.recorded p ≡ some a → get_elem? d.recorded p ≡ some a
  seen : (i x : ℕ) → get_elem? c.seen i ≡ some x → (z : ℕ) × (get_elem? d.seen i ≡ some z) × (x ≤ z)

-- where both are as they were
as_was : (c d : ScanLog) → d.recorded ≡ c.recorded → d.seen ≡ c.seen → Stays c d
as_was c d r s = record {
  answer = λ p a e. ap (λ (z : List Answer). get_elem? z p) r ∙ e;
  seen = λ i x e. (x, ap (λ (z : List ℕ). get_elem? z i) s ∙ e, omega arith);
}

answer_stays : (c d : ScanLog) (a : Answer) → d.recorded ≡ c.recorded → d.seen ≡ c.seen → Stays c (answered a d)
answer_stays c d a r s = let was = as_was c d r s in record {
  answer = λ p b e. at_longer d.recorded (a ∷ []) p b (was.answer p b e);
  seen = λ i x e. let t = upper_at d.seen a.vector i x (ap (λ (z : List ℕ). get_elem? z i) s ∙ e) in t;
}

give_stays : (n : ℕ) (c d : ScanLog) → d.recorded ≡ c.recorded → d.seen ≡ c.seen → Stays c (given_up_if_spent n d)
give_stays n c d r s = cond_both (length d.trying.due == 0 && d.trying.failed == n + 2) _ d (Stays c) (λ _. as_was c _ r s)
    (λ _. as_was c d r s)

ask_stays : (n w i x : ℕ) (ls : List Look) (c : ScanLog) → Stays c (lent_or_passed_at n w i x ls c)
ask_stays n w i x [] c = as_was c c refl refl
ask_stays n w i x (l ∷ ls) c = cond_both (l.place == i) (lent_or_passed n w x l c) c (Stays c)
    (λ _. cond_both (is_lender n w x c.trying.floor l) (answered (lent_in n w l.words) (once_asked n x l c))
    (given_up_if_spent n (nothing_lent n x l c)) (Stays c)
    (λ _. answer_stays c (once_asked n x l c) (lent_in n w l.words) refl refl)
    (λ _. give_stays n c (nothing_lent n x l c) refl refl))
    (λ _. as_was c c refl refl)

end_stays : (n w i x : ℕ) (c : ScanLog) → Stays c (ended n w (confirmed_at w i x c))
end_stays n w i x c = let d = confirmed_at w i x c in
    cond_both (are_clean n w d.trying.looks) (answered (answer_of_try w d.trying.looks) d)
    (given_up_if_spent n (record d { trying = failed_once_more (with_base d.trying) })) (Stays c)
    (λ _. answer_stays c d (answer_of_try w d.trying.looks) refl refl)
    (λ _. give_stays n c (record d { trying = failed_once_more (with_base d.trying) }) refl refl)

stays : (n w : ℕ) (what : Load) (x : ℕ) (c : ScanLog) → Stays c (after n w what x c)
stays n w (Open place) x c = as_was c _ refl refl
stays n w (Read place number item) x c = as_was c _ refl refl
stays n w (Confirm place) x c = cond_both (place + 1 == n) (ended n w (confirmed_at w place x c)) (confirmed_at w place x c)
    (Stays c) (λ _. end_stays n w place x c) (λ _. as_was c _ refl refl)
stays n w (Ask place) x c = as_was c _ refl refl
stays n w (EndAsk place) x c = ask_stays n w place x c.trying.asks c

pub records_stay : (n w : ℕ) (what : Load) (x : ℕ) (c : ScanLog) (p : ℕ) (a : Answer) → get_elem? c.recorded p ≡ some a
    → get_elem? (after n w what x c).recorded p ≡ some a
records_stay n w what x c p a e = (stays n w what x c).answer p a e

pub seen_stays : (n w : ℕ) (what : Load) (x : ℕ) (c : ScanLog) (i y : ℕ) → get_elem? c.seen i ≡ some y → (z : ℕ)
    × (get_elem? (after n w what x c).seen i ≡ some z) × (y ≤ z)
seen_stays n w what x c i y e = (stays n w what x c).seen i y e
