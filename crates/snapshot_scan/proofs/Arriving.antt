-- What a scan's loads come to, in the terms of the core.
use Rattle.std.proofs.Common.{◌≡◌, ℕ, zero, suc, ◌+◌, ◌<◌, List, [], ◌∷◌, ◌++◌, length, map, slice_index, sym, refl, ap, ◌∙◌}
use Rattle.std.proofs.Common.{subst, arith, append_assoc}
use Rattle.std.proofs.lemmas.List.{append-nil}
use mathlib.Core.Option.{some, some-ne-none}
use lib.ListN.{get_elem?}
use Rattle.register_rule.specs.declared.view.Asked.{Asked}
use Rattle.register_rule.specs.declared.view.Answer.{Answer}
use Rattle.register_rule.specs.declared.view.ScanLog.{ScanLog}
use Rattle.register_rule.specs.ScanSteps.{answered, given_up_if_spent, lent_in}
use Rattle.snapshot_core.specs.declared.next.Next.TheVariants.{Direct, Lent, GaveUp}
use Rattle.snapshot_core.specs.Next.{Comes}
use Rattle.snapshot_scan.specs.declared.contended.Contended.{Contended}
use Rattle.snapshot_scan.specs.declared.remembered_row.RememberedRow.{RememberedRow}
use Rattle.snapshot_scan.specs.RememberedRows.{opening, settling, pairs}
use Rattle.snapshot_scan.specs.Asking.{DoesNotLend, Lends, due_from, asked_worker, asked_too}
use Rattle.snapshot_scan.specs.Contention.{IsFirstMoved}
use Rattle.snapshot_scan.specs.Scanned.{Tried, all_opened, all_confirmed, all_before, all_asked}
use Rattle.snapshot_scan.specs.Core.{CameTo, AnswersBy, core_reads}
use Rattle.snapshot_scan.proofs.Trying.{AreTries, stood, asking, given_last, opened_snoc, confirmed_snoc, before_snoc, asked_snoc}
use Rattle.snapshot_scan.proofs.Trying.{count_snoc}
use Rattle.snapshot_scan.proofs.Coming.{AllFail, HeadIs, comes_direct, comes_lent, comes_gave_up}

-- the first try is clean
pub came_first : (n w : ℕ) (opened found : List ℕ) (gs : List RememberedRow) (c : ScanLog) (a : Answer) → length opened ≡ n
    → opened ≡ found → a.vector ≡ opened
    → AnswersBy n w c (answered a (settling opened found gs (opening opened gs c))) a
came_first n w opened found gs c a long same is = record {
  next = Direct;
  ends = is;
  came = record {
    before = [];
    last = record { first = opened; second = opened; asks = [] };
    loads = record {
      opened = ap (λ z. c.opened ++ z) (sym (append-nil (pairs 0 opened)));
      confirmed = ap (λ z. c.confirmed ++ pairs 0 z) (sym same) ∙ ap (λ z. c.confirmed ++ z) (sym (append-nil (pairs 0 opened)));
      before = ap (λ (z : List ℕ). c.before ++ map (λ _. length (c.opened ++ pairs 0 opened)) z) (sym same)
          ∙ ap (λ z. c.before ++ z) (sym (append-nil (map (λ _. length (c.opened ++ pairs 0 opened)) opened)));
      asked = sym (append-nil c.asked);
    };
    comes = comes_direct n w [] [] [] (λ q t e. absurd (some-ne-none t (sym e))) tt opened long (omega arith);
  };
}

module _ (n w : ℕ) (floor base first last : List ℕ) (tries : List Tried) (tried : AreTries n floor base first last tries)
    (gs0 : List RememberedRow) (c : ScanLog) where
  head_is : HeadIs floor base tries
  head_is = subst (HeadIs floor base) (sym tried.all) (tried.is_floor, tried.is_base)

  one_more : {A : Type 0} (l m : List A) (xs ys : List A) → xs ≡ l ++ m → (ys ++ l) ++ m ≡ ys ++ xs
  one_more l m xs ys e = append_assoc ys l m ∙ ap (λ z. ys ++ z) (sym e)

  -- a later try is clean
  pub came_later : (opened found : List ℕ) (gs : List RememberedRow) (a : Answer) → length opened ≡ n → opened ≡ found
      → length tries < n + 2 → a.vector ≡ opened
      → AnswersBy n w c (answered a (settling opened found gs (opening opened gs (stood tries gs0 floor base c)))) a
  came_later opened found gs a long same few is = let t : Tried = record { first = opened; second = opened; asks = [] } in
      record {
        next = Direct;
        ends = is;
        came = record {
          before = tries;
          last = t;
          loads = record {
            opened = one_more (all_opened tries) (pairs 0 opened) (all_opened (tries ++ t ∷ [])) c.opened (opened_snoc tries t);
            confirmed = ap (λ z. (c.confirmed ++ all_confirmed tries) ++ pairs 0 z) (sym same)
                ∙ one_more (all_confirmed tries) (pairs 0 opened) (all_confirmed (tries ++ t ∷ [])) c.confirmed
                (confirmed_snoc tries t);
            before = ap (λ (z : List ℕ). (c.before ++ all_before c.opened tries) ++ map
                (λ _. length ((c.opened ++ all_opened tries) ++ pairs 0 opened)) z) (sym same)
                ∙ one_more (all_before c.opened tries)
                (map (λ _. length ((c.opened ++ all_opened tries) ++ pairs 0 opened)) opened)
                (all_before c.opened (tries ++ t ∷ [])) c.before (before_snoc c.opened tries t);
            asked = ap (λ z. c.asked ++ z) (sym (asked_snoc tries t ∙ append-nil (all_asked tries)));
          };
          comes = comes_direct n w floor base tries tried.each head_is opened long few;
        };
      }

  -- a worker lends
  pub came_lending : (opened found : List ℕ) (gs : List RememberedRow) (a : Answer) (e : Asked) (es : List Asked)
      (more workers : List ℕ) → length opened ≡ n → length found ≡ n → length tries < n + 2
      → (q : ℕ) × (q < n) × (slice_index opened q < slice_index found q)
      → map asked_worker es ++ asked_worker e ∷ more ≡ due_from 0 base found
      → ((q : ℕ) (x : Asked) → get_elem? es q ≡ some x → DoesNotLend n floor x) → Lends n w floor e → a ≡ lent_in n w e.words
      → AnswersBy n w c (answered a (asked_too e (asking opened found gs floor base es workers (stood tries gs0 floor base c)))) a
  came_lending opened found gs a e es more workers long deep few rose due refuse lends is = let t : Tried =
      record { first = opened; second = found; asks = es ++ e ∷ [] } in
      record {
        next = Lent e.worker;
        ends = (es, e, refl, refl, is);
        came = record {
          before = tries;
          last = t;
          loads = record {
            opened = one_more (all_opened tries) (pairs 0 opened) (all_opened (tries ++ t ∷ [])) c.opened (opened_snoc tries t);
            confirmed = one_more (all_confirmed tries) (pairs 0 found) (all_confirmed (tries ++ t ∷ [])) c.confirmed
                (confirmed_snoc tries t);
            before = one_more (all_before c.opened tries)
                (map (λ _. length ((c.opened ++ all_opened tries) ++ pairs 0 opened)) found)
                (all_before c.opened (tries ++ t ∷ [])) c.before (before_snoc c.opened tries t);
            asked = append_assoc (c.asked ++ all_asked tries) es (e ∷ []) ∙ one_more (all_asked tries) (es ++ e ∷ [])
                (all_asked (tries ++ t ∷ [])) c.asked (asked_snoc tries t);
          };
          comes = comes_lent n w floor base tries tried.each head_is t tried.head tried.others es e more tried.all few long deep
              rose refl due refuse lends.same lends.all lends.flag lends.above;
        };
      }

  -- all tries have failed
  pub came_up : length tries ≡ n + 2 → (e : Contended) → IsFirstMoved first last e
      → CameTo n w c (given_up_if_spent n (stood tries gs0 floor base c)) (GaveUp e.worker e.first e.last)
  came_up count e moved = subst (λ (x : ScanLog). CameTo n w c x (GaveUp e.worker e.first e.last))
      (sym (given_last n (stood tries gs0 floor base c) refl count)) (record {
        before = tried.ends.0;
        last = tried.ends.1;
        loads = record {
          opened = ap (λ z. c.opened ++ all_opened z) tried.ends.2;
          confirmed = ap (λ z. c.confirmed ++ all_confirmed z) tried.ends.2;
          before = ap (λ z. c.before ++ all_before c.opened z) tried.ends.2;
          asked = ap (λ z. c.asked ++ all_asked z) tried.ends.2;
        };
        comes = subst (λ (ts : List Tried). Comes n (core_reads n w ts) (GaveUp e.worker e.first e.last)) tried.ends.2
            (go tried.ends.0 tried.ends.1 tried.ends.2 tried.ends.3 tried.ends.4);
      })
    where
      in_front : (xs : List Tried) (t : Tried) (q : ℕ) (x : Tried) → get_elem? xs q ≡ some x → get_elem? (xs ++ t ∷ []) q ≡ some x
      in_front [] t q x at = absurd (some-ne-none x (sym at))
      in_front (y ∷ xs) t zero x at = at
      in_front (y ∷ xs) t (suc q) x at = in_front xs t q x at

      at_last : (xs : List Tried) (t : Tried) → get_elem? (xs ++ t ∷ []) (length xs) ≡ some t
      at_last [] t = refl
      at_last (y ∷ xs) t = at_last xs t

      head_of : (xs : List Tried) (t : Tried) → HeadIs floor base (xs ++ t ∷ []) → HeadIs floor base xs
      head_of [] t h = tt
      head_of (x ∷ xs) t h = h

      go : (before : List Tried) (final : Tried) → tries ≡ before ++ final ∷ [] → final.first ≡ first → final.second ≡ last
          → Comes n (core_reads n w tries) (GaveUp e.worker e.first e.last)
      go before final is f l =
          let each : AllFail n floor base (before ++ final ∷ []) = subst (AllFail n floor base) is tried.each in
          let head : HeadIs floor base (before ++ final ∷ []) = subst (HeadIs floor base) is head_is in
          let fails = each (length before) final (at_last before final) in
          let many : length before ≡ n + 1 = (let s = count_snoc before final in let k = ap (λ (z : List Tried). length z) is in
          omega (arith, s, k, count)) in
          let one : slice_index final.first e.worker ≡ e.first = ap (λ (z : List ℕ). slice_index z e.worker) f ∙ moved.first_is in
          let two : slice_index final.second e.worker ≡ e.last = ap (λ (z : List ℕ). slice_index z e.worker) l ∙ moved.last_is in
          let inside : e.worker < n = (let h = moved.inside in let k = ap (λ (z : List ℕ). length z) f in let m = fails.opened in
          omega (arith, h, k, m)) in
          let all : Comes n (core_reads n w (before ++ final ∷ []))
          (GaveUp e.worker (slice_index final.first e.worker) (slice_index final.second e.worker)) =
          comes_gave_up n w floor base before (λ q t at. each q t (in_front before final q t at)) (head_of before final head)
          final fails head many e.worker inside
          (let r = moved.rose in omega (arith, one, two, r)) (λ k lt. ap (λ (z : List ℕ). slice_index z k) f
          ∙ (moved.least k lt ∙ ap (λ (z : List ℕ). slice_index z k) (sym l))) in
          subst (λ (ts : List Tried). Comes n (core_reads n w ts) (GaveUp e.worker e.first e.last)) (sym is)
          (subst (λ (x : ℕ). Comes n (core_reads n w (before ++ final ∷ [])) (GaveUp e.worker e.first x)) two
          (subst (λ (x : ℕ). Comes n (core_reads n w (before ++ final ∷ []))
          (GaveUp e.worker x (slice_index final.second e.worker))) one all))
