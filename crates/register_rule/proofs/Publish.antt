-- The store of the own number keeps the rule: the hidden buffer becomes the shown one.
use Rattle.std.proofs.Common.{◌≡◌, ◌≢◌, ℕ, suc, ◌+◌, ◌*◌, ◌%◌, ◌<◌, ◌≤◌, Bool, true, false, cond, List, [], ◌∷◌, ◌++◌, length}
use Rattle.std.proofs.Common.{take, set, slice_index, sym, refl, ap, ◌∙◌, subst, arith, length-set, length-append, append_assoc}
use Rattle.std.proofs.Common.{append-nil, Some, None, eq-eqb, ne_eqb}
use mathlib.Core.Logic.{dite}
use mathlib.Core.Option.{some}
use native.Mathlib.Decide.{ℕ_discrete}
use lib.ListN.{get_elem?}
use lib.Arith.{digits_lt}
use lib.Seq.{length-take-le}
use Rattle.std.proofs.lemmas.List.{take-append-le, take_all, get_or-take}
use Rattle.std.proofs.lemmas.Option.{none-some, same_Some}
use Rattle.atomic_table.specs.Table.{State, Me, keeps, Allows}
use Rattle.atomic_table.proofs.Lists.{set_here}
use Rattle.segment_layout.specs.Layout.{span}
use Rattle.ledger_core.specs.declared.op.Op.{Op}
use Rattle.register_rule.specs.declared.view.PublishEntry.{PublishEntry}
use Rattle.register_rule.specs.declared.view.Who.TheVariants.{Worker}
use Rattle.register_rule.specs.declared.view.Answer.{Answer}
use Rattle.register_rule.specs.declared.view.Version.{Version}
use Rattle.register_rule.specs.declared.view.Member.{Member}
use Rattle.register_rule.specs.declared.view.SeatView.{SeatView}
use Rattle.register_rule.specs.Words.{version_item, seg}
use Rattle.register_rule.specs.History.{count}
use Rattle.register_rule.specs.Sums.{word_after, AcceptedInTurn, last_lent}
use Rattle.register_rule.specs.Shown.{Shows}
use Rattle.register_rule.specs.SoundScans.{IsVersion}
use Rattle.register_rule.specs.Rule.{IsWorker, IsRole, IsMember, Rule}
use Rattle.register_rule.specs.Members.{group, led, newest, made_of, published}
use Rattle.register_rule.specs.Told.{AllCompare, HoldsNext, KeepsRule}
use Rattle.register_rule.proofs.Words.{item_lt, seg_here, seg_else, at_below, there, read_at, each_push, put, put_here, put_else}
use Rattle.register_rule.proofs.Moments.{count_append}
use Rattle.register_rule.proofs.Growth.{Grows, answer_grows, scan_grows, scan_published}
use Rattle.register_rule.proofs.Pairs.{compares, allows_both}
use Rattle.register_rule.proofs.Keeping.{everywhere, first, as_worker, stays, views_apart, one_apart}

-- what is lent after one more publish
pub lent_last : (xs : List PublishEntry) (x : PublishEntry) → last_lent (xs ++ x ∷ []) ≡ x.lends
lent_last [] x = refl
lent_last (y ∷ []) x = refl
lent_last (y ∷ z ∷ zs) x = lent_last (z ∷ zs) x

at_last_entry : (l : List Answer) (a : Answer) → newest l ≡ Some a → (q : ℕ) × (get_elem? l q ≡ some a)
at_last_entry [] a e = absurd (none-some a e)
at_last_entry (x ∷ []) a e = (0, ap some (same_Some x a e))
at_last_entry (x ∷ y ∷ ys) a e = let t = at_last_entry (y ∷ ys) a e in (suc t.0, t.1)

-- what a publish lends is an answer that its worker recorded
lent_recorded : (m : Member) (lends : Bool) (a : Answer) → cond lends (newest m.scan.recorded) None ≡ Some a → (q : ℕ)
    × (get_elem? m.scan.recorded q ≡ some a)
lent_recorded m true a e = at_last_entry m.scan.recorded a e
lent_recorded m false a e = absurd (none-some a e)

-- what a list of versions adds, and one more
pub total_last : (adds : List Op → ℕ → ℕ) (xs : List PublishEntry) (x : PublishEntry) (k : ℕ)
    → word_after adds (xs ++ x ∷ []) k ≡ word_after adds xs k + adds x.ops k
total_last adds [] x k = omega arith
total_last adds (y ∷ ys) x k = let e = total_last adds ys x k in omega (arith, e)

-- a list that the row accepts may come next
legal_more : (adds : List Op → ℕ → ℕ) (accepts : (ℕ → ℕ) → List Op → Type 0) (before xs : List PublishEntry) (x : PublishEntry)
    → AcceptedInTurn adds accepts before xs → accepts (word_after adds (before ++ xs)) x.ops → AcceptedInTurn adds accepts before
    (xs ++ x ∷ [])
legal_more adds accepts before [] y h a = (
  subst (λ (z : List PublishEntry). accepts (word_after adds z) y.ops)
      (append-nil before) a,
  tt,
)
legal_more adds accepts before (x ∷ xs) y h a = (
  h.0,
  legal_more adds accepts (before ++ x ∷ []) xs y h.1
      (subst (λ (z : List PublishEntry). accepts (word_after adds z) y.ops) (sym (append_assoc before (x ∷ []) xs)) a),
)

-- the version after the next one has its words where this one has them
item_again : (b s k : ℕ) → version_item b (suc (suc s)) k ≡ version_item b s k
item_again b s k = let e : suc (suc s) % 2 ≡ s % 2 = omega arith in ap (λ (z : ℕ). 1 + z * b + k) e

module _ (n w b : ℕ) (adds : List Op → ℕ → ℕ) (accepts : (ℕ → ℕ) → List Op → Type 0) (slots id : ℕ) (me : Me (Unit {0}) SeatView)
    (m : Member) (i x at : ℕ) (ops : List Op) (lends : Bool) where
  abbrev Ruled : State (Unit {0}) SeatView → Type 0
  Ruled = Rule n w b adds accepts

  abbrev last : PublishEntry
  last = made_of ops lends m

  abbrev new : Member
  new = published w i ops lends m

  abbrev row : Version
  row = record { number = suc (length m.work.made); row = take w m.work.hidden }

  -- the worker's new row is that of its new version
  row_right : (made : ℕ → List PublishEntry) → made i ≡ m.work.made ++ last ∷ [] → length m.work.hidden ≡ b → w ≤ b
      → HoldsNext n w b adds ops lends m → IsVersion n w adds made i row
  row_right made is deep room holds =
      let longer : List PublishEntry = m.work.made ++ last ∷ [] in
      let len : length longer ≡ suc (length m.work.made) = omega (arith, length-append m.work.made (last ∷ [])) in
      let whole : take (suc (length m.work.made)) (made i) ≡ longer = ap (take (suc (length m.work.made))) is
      ∙ take_all (suc (length m.work.made)) longer (omega arith) in record {
        old = let e : length (made i) ≡ length longer = ap (λ (l : List PublishEntry). length l) is in omega arith;
        wide = length-take-le w m.work.hidden (omega arith);
        row = λ k y e. let below = at_below (take w m.work.hidden) k y e in
            let len : length (take w m.work.hidden) ≡ w = length-take-le w m.work.hidden (omega arith) in
            let lt : k < w = omega arith in
            sym (read_at (take w m.work.hidden) k y 0 e)
            ∙ (get_or-take w m.work.hidden k 0 lt
            ∙ ((holds k (omega arith)).row lt ∙ ap (λ (l : List PublishEntry). word_after adds l k) (sym whole)));
      }

  -- the worker's segment shows the new version from now on, and the history has one more publish
  publishes : me.0.members ≡ m ∷ [] → m.who ≡ Worker i → at ≡ i * span b + 0 → x ≡ suc (length m.work.made) → w ≤ b
      → HoldsNext n w b adds ops lends m → accepts (word_after adds m.work.made) ops
      → Allows Ruled slots id me at (λ _. x) (λ _ me'. (me'.0 ≡ group (led (published w i ops lends) me.0.members))
      × (me'.1 ≡ me.1))
  publishes one who place next room holds fine s r deep seat fits =
      let ok = first n w b adds accepts s r id me.0 m [] seat one in
      let was : IsWorker n w b adds r.made s.words i m = as_worker n w b adds accepts r.made r.owner r.history s.words id i m who
      ok in
      let own : r.owner (Worker i) ≡ id = sym (ap r.owner who) ∙ ok.here in
      let inside = was.work.inside in
      let old : List PublishEntry = r.made i in
      let longer : List PublishEntry = old ++ last ∷ [] in
      let made' : ℕ → List PublishEntry = put r.made i longer in
      let now : made' i ≡ longer = put_here r.made i longer in
      let all : m.work.made ≡ old = was.work.all in
      let mine : m.work.made ++ last ∷ [] ≡ made' i = ap (λ (l : List PublishEntry). l ++ last ∷ []) all ∙ sym now in
      let len : length longer ≡ suc (length old) = omega (arith, length-append old (last ∷ [])) in
      let number : length (made' i) ≡ suc (length old) = ap (λ (l : List PublishEntry). length l) now ∙ len in
      let number' : suc (length m.work.made) ≡ length (made' i) = ap (λ (l : List PublishEntry). suc (length l)) all
      ∙ sym number in
      let at_lt : at < length s.words = subst (λ (z : ℕ × ℕ). z.0 < z.1) (λ c. (sym place c, sym r.wide c))
      (digits_lt inside (omega arith)) in
      let words' : List ℕ = set s.words at x in
      let same : (j : ℕ) → j ≢ i → made' j ≡ r.made j = λ j other. put_else r.made i longer j other in
      let more : Grows r.made made' = λ j. dite (ℕ_discrete j i)
      (λ e. subst (λ (z : ℕ). (length (r.made z) ≤ length (made' z))
      × ((q : ℕ) → q ≤ length (r.made z) → take q (made' z) ≡ take q (r.made z))) (sym e)
      (subst (λ (z : List PublishEntry). (length old ≤ length z) × ((q : ℕ) → q ≤ length old → take q z ≡ take q old)) (sym now)
      (omega (arith, len), λ q h. take-append-le q old (last ∷ []) h)))
      (λ other. subst (λ (z : List PublishEntry). (length (r.made j) ≤ length z)
      × ((q : ℕ) → q ≤ length (r.made j) → take q z ≡ take q (r.made j))) (sym (same j other)) (omega arith, λ q h. refl)) in
      -- only the number of the segment changes
      let item_stays : (j v k : ℕ) → k < b → seg b words' j (version_item b v k) ≡ seg b s.words j (version_item b v k) =
      λ j v k lt. seg_else b s.words i 0 x at j _ place (omega arith) (item_lt b v k lt) (λ _ z. omega (arith, z)) in
      let else_word : (j y : ℕ) → j ≢ i → y < span b → seg b words' j y ≡ seg b s.words j y =
      λ j y other lt. seg_else b s.words i 0 x at j y place (omega arith) lt (λ e. absurd (other e)) in
      let later : List ℕ = r.history ++ i ∷ [] in
      let hidden_deep = was.work.hidden_deep in
      let shown_deep = was.work.shown_deep in
      let seen_wide = ok.scan.seen_wide in
      let role : IsWorker n w b adds made' words' i new = record {
        work = record {
          inside = inside;
          all = mine;
          hidden_deep = shown_deep;
          shown_deep = hidden_deep;
          hidden = λ k y e. let lt = at_below m.work.shown k y e in
              ap (λ (z : ℕ). seg b words' i (version_item b (suc z) k)) number
              ∙ (ap (λ (z : ℕ). seg b words' i z) (item_again b (length old) k)
              ∙ (item_stays i (length old) k (omega arith) ∙ was.work.shown k y e));
          shown = λ k y e. let lt = at_below m.work.hidden k y e in
              ap (λ (z : ℕ). seg b words' i (version_item b z k)) number
              ∙ (item_stays i (suc (length old)) k (omega arith) ∙ was.work.hidden k y e);
        };
        own_number = set_here m.scan.seen i (suc (length m.work.made)) (omega arith) ∙ ap some number';
        lends = λ q y a. each_push (λ (z : PublishEntry). z.lends ≡ Some a → (p : ℕ)
            × (get_elem? m.scan.recorded p ≡ some a)) m.work.made
            last (λ p z. was.lends p z a) (lent_recorded m lends a) q y;
      } in
      let here : IsMember n w b adds made' r.owner later words' id new = record {
        here = ok.here;
        role = subst (IsRole n w b adds made' words' new) (sym who) role;
        scan = scan_published n w adds made' later i row m.scan inside (row_right made' (sym mine) hidden_deep room holds) number'
            (suc (length m.work.made)) number'
            (λ y e. let le = ok.scan.seen i y e in omega arith)
            (scan_grows n w adds r.made made' r.history (i ∷ []) m.scan more ok.scan);
      } in
      let rule : Ruled record { words = words'; homes = s.homes; views = set s.views id (group (new ∷ [])) } = record {
        made = made';
        owner = r.owner;
        history = later;
        counted = λ j h. dite (ℕ_discrete j i)
            (λ e. subst (λ (z : ℕ). count z later ≡ length (made' z)) (sym e)
            (let one' : count i (i ∷ []) ≡ 1 = ap (λ (z : Bool). cond z 1 0 + 0) (eq-eqb i i refl) in
            let c = count_append i r.history (i ∷ []) in let c' = r.counted i inside in omega arith))
            (λ other. let none : count j (i ∷ []) ≡ 0 = ap (λ (z : Bool). cond z 1 0 + 0) (ne_eqb i j (λ e. other (sym e))) in
            let c = count_append j r.history (i ∷ []) in let c' = r.counted j h in
            let l : length (made' j) ≡ length (r.made j) = ap (λ (z : List PublishEntry). length z)
            (same j other) in omega arith);
        legal = λ j h. dite (ℕ_discrete j i)
            (λ e. subst (λ (z : ℕ). AcceptedInTurn adds accepts [] (made' z)) (sym e)
            (subst (AcceptedInTurn adds accepts []) (sym now)
            (legal_more adds accepts [] old last (r.legal i inside)
            (subst (λ (z : List PublishEntry). accepts (word_after adds z) ops) all fine))))
            (λ other. subst (AcceptedInTurn adds accepts []) (sym (same j other)) (r.legal j h));
        wide = length-set s.words at x ∙ r.wide;
        number = λ j h. dite (ℕ_discrete j i)
            (λ e. subst (λ (z : ℕ). seg b words' z 0 ≡ length (made' z)) (sym e) (seg_here b s.words i 0 x at place at_lt
            ∙ (next ∙ number')))
            (λ other. else_word j 0 other (omega arith) ∙ (r.number j h
            ∙ ap (λ (l : List PublishEntry). length l) (sym (same j other))));
        shown = λ j k h lt. dite (ℕ_discrete j i)
            (λ e. subst (λ (z : ℕ). Shows n w adds (made' z) k (seg b words' z (version_item b (length (made' z)) k))) (sym e)
            (subst (λ (z : List PublishEntry × ℕ). Shows n w adds z.0 k z.1)
            (λ c. (mine c, sym (role.work.shown k (slice_index m.work.hidden k) (there m.work.hidden k 0 (omega arith))) c))
            (holds k lt)))
            (λ other. subst (λ (l : List PublishEntry). Shows n w adds l k (seg b words' j (version_item b (length l) k)))
            (sym (same j other))
            (subst (Shows n w adds (r.made j) k) (sym (item_stays j (length (r.made j)) k lt)) (r.shown j k h lt)));
        lent = λ j a h e. dite (ℕ_discrete j i)
            (λ ji. let e' : last_lent longer ≡ Some a = sym (ap last_lent now)
            ∙ (ap (λ (z : ℕ). last_lent (made' z)) (sym ji) ∙ e) in
            let t = lent_recorded m lends a (sym (lent_last old last) ∙ e') in
            answer_grows n w adds r.made made' r.history (i ∷ []) a more (ok.scan.recorded t.0 a t.1).0)
            (λ other. answer_grows n w adds r.made made' r.history (i ∷ []) a more
            (r.lent j a h (ap last_lent (sym (same j other)) ∙ e)));
        bounded = λ j v k h lt. subst (λ (z : ℕ). z ≤ 281474976710655) (sym (item_stays j v k (omega arith)))
            (r.bounded j v k h lt);
        apart = views_apart s.views id (group (new ∷ [])) (one_apart new) r.apart;
        each = everywhere (IsMember n w b adds made' r.owner later words') s.views id new here
            (λ j v other e p y at'. stays n w b adds accepts r.made made' r.owner r.history (i ∷ []) s.words words' i id own more
            same else_word j y other (r.each j v e p y at'));
      } in
      (group (new ∷ []), keeps, tt, rule, (ap (λ (z : List Member). group (led (published w i ops lends) z)) (sym one), refl))

  pub publish_allows : me.0.members ≡ m ∷ [] → m.who ≡ Worker i → at ≡ i * span b + 0 → x ≡ suc (length m.work.made) → w ≤ b
      → HoldsNext n w b adds ops lends m → accepts (word_after adds m.work.made) ops
      → Allows (KeepsRule n w b adds accepts) slots id me at (λ _. x)
      (λ _ me'. (me'.0 ≡ group (led (published w i ops lends) me.0.members)) × (me'.1 ≡ me.1))
  publish_allows one who place next room holds fine = allows_both Ruled (AllCompare n b) (compares n w b adds accepts) slots id me
      at (λ _. x)
      (λ _ me'. (me'.0 ≡ group (led (published w i ops lends) me.0.members)) × (me'.1 ≡ me.1))
      (publishes one who place next room holds fine)
