-- Each load, and each store into a hidden buffer, keeps the rule.
use Rattle.std.proofs.Common.{◌≡◌, ◌≢◌, ℕ, suc, ◌+◌, ◌*◌, ◌<◌, ◌≤◌, ⊎_elim, List, [], ◌∷◌, ◌++◌, length, get_or, set, sym, refl}
use Rattle.std.proofs.Common.{ap, ◌∙◌, subst, arith, length-set, append-nil}
use mathlib.Core.Option.{some, some-ne-none}
use mathlib.Core.Logic.{dite}
use native.Mathlib.Decide.{ℕ_discrete}
use lib.ListN.{get_elem?}
use lib.Arith.{digits_lt}
use lib.Seq.{set-get_or}
use Rattle.atomic_table.specs.Table.{State, Me, keeps, Allows}
use Rattle.atomic_table.proofs.Lists.{at_set, set_again}
use Rattle.segment_layout.specs.Layout.{span}
use Rattle.ledger_core.specs.declared.op.Op.{Op}
use Rattle.register_rule.specs.declared.view.PublishEntry.{PublishEntry}
use Rattle.register_rule.specs.declared.view.Who.{Who}
use Rattle.register_rule.specs.declared.view.Who.TheVariants.{Worker, Reader}
use Rattle.register_rule.specs.declared.view.Member.{Member}
use Rattle.register_rule.specs.declared.view.SeatView.{SeatView}
use Rattle.register_rule.specs.declared.load.Load.{Load}
use Rattle.register_rule.specs.declared.load.Load.TheVariants.{Open, Read, Confirm, Ask, EndAsk}
use Rattle.register_rule.specs.Words.{version_item, seg}
use Rattle.register_rule.specs.History.{count}
use Rattle.register_rule.specs.Sums.{AcceptedInTurn}
use Rattle.register_rule.specs.Shown.{Shows}
use Rattle.register_rule.specs.SoundScans.{IsSound}
use Rattle.register_rule.specs.Rule.{IsWorker, IsRole, IsMember, Rule, AreApart}
use Rattle.register_rule.specs.ScanSteps.{after}
use Rattle.register_rule.specs.Members.{group, led, scan_changed, filled}
use Rattle.register_rule.specs.Told.{IsNumber, IsLoad, word_of, LoadTells, AreRuled, AreRuledAt, Sits, AllCompare, KeepsRule}
use Rattle.register_rule.proofs.Words.{item_lt, same_item, items_apart, seg_here, seg_else, seg_at, at_below, from_replicate}
use Rattle.register_rule.proofs.Words.{each_of}
use Rattle.register_rule.proofs.Growth.{Grows, scan_grows, own_rises}
use Rattle.register_rule.proofs.Finds.{Finds}
use Rattle.register_rule.proofs.Looks.{scan_after, records_stay, seen_stays}
use Rattle.register_rule.proofs.Pairs.{fewer, compares, allows_both, compares_now}

-- all members of all seats, where the seat `id` has the view u from now on
pub everyone_else : (F : ℕ → Member → Type 0) (vs : List SeatView) (id : ℕ) (u : SeatView)
    → ((p : ℕ) (x : Member) → get_elem? u.members p ≡ some x → F id x)
    → ((j : ℕ) (v : SeatView) → j ≢ id → get_elem? vs j ≡ some v → (p : ℕ) (x : Member) → get_elem? v.members p ≡ some x → F j x)
    → (j : ℕ) (v : SeatView) → get_elem? (set vs id u) j ≡ some v → (p : ℕ) (x : Member) → get_elem? v.members p ≡ some x → F j x
everyone_else F vs id u here others j v e p x at = ⊎_elim
    (λ (t : (j ≡ id) × (u ≡ v)). subst (λ (z : ℕ). F z x) (sym t.0)
    (here p x (ap (λ (y : SeatView). get_elem? y.members p) t.1 ∙ at)))
    (λ (t : (j ≢ id) × (get_elem? vs j ≡ some v)). others j v t.0 t.1 p x at)
    (at_set vs id j u v e)

-- the same, where this view has the one member m
pub everywhere : (F : ℕ → Member → Type 0) (vs : List SeatView) (id : ℕ) (m : Member) → F id m
    → ((j : ℕ) (v : SeatView) → j ≢ id → get_elem? vs j ≡ some v → (p : ℕ) (x : Member) → get_elem? v.members p ≡ some x → F j x)
    → (j : ℕ) (v : SeatView) → get_elem? (set vs id (group (m ∷ []))) j ≡ some v → (p : ℕ) (x : Member)
    → get_elem? v.members p ≡ some x → F j x
everywhere F vs id m here = everyone_else F vs id (group (m ∷ [])) (λ p x at. subst (F id) (from_replicate 1 m p x at) here)

-- members are apart in all views where they are in the one that changes
pub views_apart : (vs : List SeatView) (id : ℕ) (u : SeatView) → AreApart u.members
    → ((j : ℕ) (v : SeatView) → get_elem? vs j ≡ some v → AreApart v.members) → (j : ℕ) (v : SeatView)
    → get_elem? (set vs id u) j ≡ some v → AreApart v.members
views_apart vs id u here all j v e = ⊎_elim
    (λ (t : (j ≡ id) × (u ≡ v)). subst (λ (y : SeatView). AreApart y.members) t.1 here)
    (λ (t : (j ≢ id) × (get_elem? vs j ≡ some v)). all j v t.1)
    (at_set vs id j u v e)

pub one_apart : (m : Member) → AreApart (m ∷ [])
one_apart m = (λ q o e. absurd (some-ne-none o (sym e)), tt)

module _ (n w b : ℕ) (adds : List Op → ℕ → ℕ) (accepts : (ℕ → ℕ) → List Op → Type 0) where
  abbrev Ruled : State (Unit {0}) SeatView → Type 0
  Ruled = Rule n w b adds accepts

  abbrev Mine : Type 0
  Mine = Me (Unit {0}) SeatView

  -- the first member of a seat, and what it is where it is a worker
  pub first : (s : State (Unit {0}) SeatView) (r : Ruled s) (id : ℕ) (v : SeatView) (m : Member) (ms : List Member)
      → get_elem? s.views id ≡ some v → v.members ≡ m ∷ ms → IsMember n w b adds r.made r.owner r.history s.words id m
  first s r id v m ms at one = r.each id v at 0 m (ap (λ (l : List Member). get_elem? l 0) one)

  pub as_worker : (made : ℕ → List PublishEntry) (owner : Who → ℕ) (history words : List ℕ) (j i : ℕ) (m : Member)
      → m.who ≡ Worker i
      → IsMember n w b adds made owner history words j m → IsWorker n w b adds made words i m
  as_worker made owner history words j i m who ok = subst (IsRole n w b adds made words m) who ok.role

  -- the members of other seats, when the worker i of the seat id writes
  module _ (made made' : ℕ → List PublishEntry) (owner : Who → ℕ) (history later words words' : List ℕ) (i id : ℕ)
      (own : owner (Worker i) ≡ id) (more : Grows made made')
      (same : (j : ℕ) → j ≢ i → made' j ≡ made j) (else_word : (j y : ℕ) → j ≢ i → y < span b
      → seg b words' j y ≡ seg b words j y) where
    role_stays : (j : ℕ) (m : Member) (who : Who) → owner who ≡ j → j ≢ id → IsRole n w b adds made words m who
        → IsRole n w b adds made' words' m who
    role_stays j m (Worker h) at other ok =
        let apart : h ≢ i = λ e. other (sym at ∙ (ap (λ (z : ℕ). owner (Worker z)) e ∙ own)) in
        let is : made' h ≡ made h = same h apart in
        let hidden_deep = ok.work.hidden_deep in
        let shown_deep = ok.work.shown_deep in record {
          work = record {
            inside = ok.work.inside;
            all = ok.work.all ∙ sym is;
            hidden_deep = hidden_deep;
            shown_deep = shown_deep;
            hidden = λ k x e. let lt = at_below m.work.hidden k x e in
                ap (λ (l : List PublishEntry). seg b words' h (version_item b (suc (length l)) k)) is
                ∙ (else_word h _ apart (item_lt b (suc (length (made h))) k (omega arith)) ∙ ok.work.hidden k x e);
            shown = λ k x e. let lt = at_below m.work.shown k x e in
                ap (λ (l : List PublishEntry). seg b words' h (version_item b (length l) k)) is
                ∙ (else_word h _ apart (item_lt b (length (made h)) k (omega arith)) ∙ ok.work.shown k x e);
          };
          own_number = ok.own_number ∙ ap (λ (l : List PublishEntry). some (length l)) (sym is);
          lends = ok.lends;
        }
    role_stays j m (Reader h) at other ok = tt

    pub stays : (j : ℕ) (m : Member) → j ≢ id → IsMember n w b adds made owner history words j m
        → IsMember n w b adds made' owner (history ++ later) words' j m
    stays j m other ok = record {
      here = ok.here;
      role = role_stays j m m.who ok.here other ok.role;
      scan = scan_grows n w adds made made' history later m.scan more ok.scan;
    }

  -- **A store into the own hidden buffer**
  module _ (slots id : ℕ) (me : Mine) (m : Member) (i k x at : ℕ) where
    -- a row's words stay at most 2^48 - 1, where the word that is stored is
    stays_small : (item : ℕ) (words : List ℕ) → w ≤ b → at ≡ i * span b + item → item < span b → at < length words
        → ((v q : ℕ) → q < w → version_item b v q ≡ item → x ≤ 281474976710655)
        → ((j v q : ℕ) → j < n → q < w → seg b words j (version_item b v q) ≤ 281474976710655) → (j v q : ℕ) → j < n → q < w
        → seg b (set words at x) j (version_item b v q) ≤ 281474976710655
    stays_small item words room place item_lt' at_lt low was j v q h lt =
        let was' : seg b words j (version_item b v q) ≤ 281474976710655 = was j v q h lt in
        let inside : version_item b v q < span b = item_lt b v q (omega arith) in
        let same : (j ≡ i → version_item b v q ≢ item) → seg b (set words at x) j (version_item b v q) ≤ 281474976710655 =
        λ ne. subst (λ (z : ℕ). z ≤ 281474976710655)
        (sym (seg_else b words i item x at j (version_item b v q) place item_lt' inside ne)) was' in
        dite (ℕ_discrete (version_item b v q) item)
        (λ e. dite (ℕ_discrete j i)
        (λ ji. subst (λ (z : ℕ × ℕ). seg b (set words at x) z.0 z.1 ≤ 281474976710655) (λ c. (sym ji c, sym e c))
        (subst (λ (z : ℕ). z ≤ 281474976710655) (sym (seg_here b words i item x at place at_lt)) (low v q lt e)))
        (λ other. same (λ ji. absurd (other ji))))
        (λ ne. same (λ _. ne))

    fills : me.0.members ≡ m ∷ [] → m.who ≡ Worker i → k < b → w ≤ b → (k < w → x ≤ 281474976710655)
        → at ≡ i * span b + version_item b (suc (length m.work.made)) k
        → Allows Ruled slots id me at (λ _. x) (λ _ me'. (me'.0 ≡ group (led (filled k x) me.0.members)) × (me'.1 ≡ me.1))
    fills one who inside room low place s r deep seat fits =
        let ok = first s r id me.0 m [] seat one in
        let was : IsWorker n w b adds r.made s.words i m = as_worker r.made r.owner r.history s.words id i m who ok in
        let own : r.owner (Worker i) ≡ id = sym (ap r.owner who) ∙ ok.here in
        let number : ℕ = length (r.made i) in
        let place' : at ≡ i * span b + version_item b (suc number) k = place
        ∙ ap (λ (l : List PublishEntry). i * span b + version_item b (suc (length l)) k) was.work.all in
        let item = item_lt b (suc number) k inside in
        let at_lt : at < length s.words = subst (λ (z : ℕ × ℕ). z.0 < z.1) (λ c. (sym place' c, sym r.wide c))
        (digits_lt was.work.inside item) in
        let words' : List ℕ = set s.words at x in
        let new : Member = filled k x m in
        let hidden_deep = was.work.hidden_deep in
        let shown_deep = was.work.shown_deep in
        let role : IsWorker n w b adds r.made words' i new = record {
          work = record {
            inside = was.work.inside;
            all = was.work.all;
            hidden_deep = length-set m.work.hidden k x ∙ was.work.hidden_deep;
            shown_deep = was.work.shown_deep;
            hidden = λ j y e. ⊎_elim
                (λ (t : (j ≡ k) × (x ≡ y)). ap (λ (z : ℕ). seg b words' i (version_item b (suc number) z)) t.0
                ∙ (seg_here b s.words i _ x at place' at_lt ∙ t.1))
                (λ (t : (j ≢ k) × (get_elem? m.work.hidden j ≡ some y)). let lt = at_below m.work.hidden j y t.1 in
                seg_else b s.words i _ x at i _ place' item (item_lt b (suc number) j (omega arith))
                (λ _ z. t.0 (omega (arith, z))) ∙ was.work.hidden j y t.1)
                (at_set m.work.hidden k j x y e);
            shown = λ j y e. let lt = at_below m.work.shown j y e in
                seg_else b s.words i _ x at i _ place' item (item_lt b number j (omega arith))
                (λ _ z. items_apart b number k j inside (omega arith) (sym z)) ∙ was.work.shown j y e;
          };
          own_number = was.own_number;
          lends = was.lends;
        } in
        let here : IsMember n w b adds r.made r.owner r.history words' id new = record {
          here = ok.here;
          role = subst (IsRole n w b adds r.made words' new) (sym who) role;
          scan = ok.scan;
        } in
        let rule : Ruled record { words = words'; homes = s.homes; views = set s.views id (group (new ∷ [])) } = record {
          made = r.made;
          owner = r.owner;
          history = r.history;
          counted = r.counted;
          legal = r.legal;
          wide = length-set s.words at x ∙ r.wide;
          number = λ j h. seg_else b s.words i _ x at j 0 place' item (omega arith) (λ _ e. omega (arith, e)) ∙ r.number j h;
          shown = λ j k' h lt. subst (Shows n w adds (r.made j) k')
              (sym (seg_else b s.words i _ x at j _ place' item (item_lt b (length (r.made j)) k' lt)
              (λ ji e. items_apart b number k k' inside lt (sym e ∙ ap (λ (z : ℕ). version_item b (length (r.made z)) k') ji))))
              (r.shown j k' h lt);
          lent = r.lent;
          bounded = stays_small (version_item b (suc number) k) s.words room place' item at_lt
              (λ v q lt e. low (subst (λ (z : ℕ). z < w) (same_item b (suc number) v k q inside (omega arith) e).1 lt)) r.bounded;
          apart = views_apart s.views id (group (new ∷ [])) (one_apart new) r.apart;
          each = everywhere (IsMember n w b adds r.made r.owner r.history words') s.views id new here
              (λ j v other e p y at'. subst (λ (z : List ℕ). IsMember n w b adds r.made r.owner z words' j y)
              (append-nil r.history)
              (stays r.made r.made r.owner r.history [] s.words words' i id own (λ _. (omega arith, λ _ _. refl)) (λ _ _. refl)
              (λ h y' apart lt. seg_else b s.words i _ x at h y' place' item lt (λ same. absurd (apart same))) j y other
              (r.each j v e p y at')));
        } in
        (group (new ∷ []), keeps, tt, rule, (ap (λ (z : List Member). group (led (filled k x) z)) (sym one), refl))

    pub fill_allows : me.0.members ≡ m ∷ [] → m.who ≡ Worker i → k < b → w ≤ b → (k < w → x ≤ 281474976710655)
        → at ≡ i * span b + version_item b (suc (length m.work.made)) k
        → Allows (KeepsRule n w b adds accepts) slots id me at (λ _. x) (λ _ me'. (me'.0 ≡ group (led (filled k x) me.0.members))
        × (me'.1 ≡ me.1))
    fill_allows one who inside room low place = allows_both Ruled (AllCompare n b) (compares n w b adds accepts) slots id me at
        (λ _. x) (λ _ me'. (me'.0 ≡ group (led (filled k x) me.0.members)) × (me'.1 ≡ me.1)) (fills one who inside room low place)

  -- what the rule says of the members of one seat
  module _ (made : ℕ → List PublishEntry) (owner : Who → ℕ) (history words : List ℕ) (id : ℕ) where
    -- its number is at least all that they found of it
    number_told : (i x : ℕ) (ms : List Member) → x ≡ length (made i)
        → ((p : ℕ) (m : Member) → get_elem? ms p ≡ some m → IsMember n w b adds made owner history words id m) → IsNumber i ms x
    number_told i x [] is each = record {
      opened = λ q y e. absurd (some-ne-none _ (sym e));
      confirmed = λ q y e. absurd (some-ne-none _ (sym e));
      asked = λ q a e at. absurd (some-ne-none a (sym e));
      seen = λ y e. absurd (some-ne-none y (sym e));
      own_number = λ p m e who. absurd (some-ne-none m (sym e));
    }
    number_told i x (m ∷ ms) is each = let ok = (each 0 m refl).scan in record {
      opened = λ q y e. let h = (ok.opened q (i, y) e).1 in omega arith;
      confirmed = λ q y e. let h = (ok.confirmed q (i, y) e).1 in omega arith;
      asked = λ q a e at. let h = (ok.asked q a e).old in let is' = ap (λ (z : ℕ). length (made z)) at in omega arith;
      seen = λ y e. let h = ok.seen i y e in omega arith;
      own_number = λ p o e who. let was = as_worker made owner history words id i o who (each p o e) in
          is ∙ ap (λ (l : List PublishEntry). length l) (sym was.work.all);
    }

    ruled : (ms : List Member) → ((i : ℕ) → i < n → count i history ≡ length (made i))
        → ((i : ℕ) → i < n → AcceptedInTurn adds accepts [] (made i))
        → ((p : ℕ) (m : Member) → get_elem? ms p ≡ some m → IsMember n w b adds made owner history words id m) → AreApart ms
        → AreRuled n w adds accepts ms
    ruled ms counted legal each apart = record {
      apart = apart;
      made = made;
      history = history;
      counted = counted;
      legal = legal;
      workers = λ p i m e who. let was = as_worker made owner history words id i m who (each p m e) in
          (was.work.inside, was.work.all, was.own_number);
      scans = λ p m e. (each p m e).scan;
    }

    -- a load of a scan leaves what the member is
    role_after : (m : Member) (who : Who) (what : Load) (x : ℕ) → IsSound n w adds made history (after n w what x m.scan)
        → IsRole n w b adds made words m who → IsRole n w b adds made words (scan_changed (after n w what x) m) who
    role_after m (Worker i) what x ok was = record {
      work = was.work;
      own_number = own_rises n w adds made m.scan.seen (after n w what x m.scan).seen i ok.seen
          (seen_stays n w what x m.scan i) was.own_number;
      lends = λ q y a e l. let t = was.lends q y a e l in (t.0, records_stay n w what x m.scan t.0 a t.1);
    }
    role_after m (Reader r) what x ok was = tt

    member_after : (m : Member) (what : Load) (x : ℕ) → IsSound n w adds made history (after n w what x m.scan)
        → IsMember n w b adds made owner history words id m → IsMember n w b adds made owner history words id
        (scan_changed (after n w what x) m)
    member_after m what x ok' was = record { here = was.here; role = role_after m m.who what x ok' was.role; scan = ok' }

  -- what a load of a word of the board finds
  module _ (s : State (Unit {0}) SeatView) (r : Ruled s) where
    found_number : (i at : ℕ) → i < n → at ≡ i * span b + 0 → get_or s.words at 0 ≡ length (r.made i)
    found_number i at inside place = seg_at b s.words i 0 at place ∙ r.number i inside

    finds : (what : Load) (at : ℕ) → IsLoad n b what → at ≡ word_of b what → Finds n w adds r.made what (get_or s.words at 0)
    finds (Open place) at inside is = (inside, found_number place at inside is)
    finds (Read place number item) at inside is = λ e. subst (Shows n w adds (r.made place) item)
        (sym (seg_at b s.words place _ at is ∙ ap (λ (z : ℕ). seg b s.words place (version_item b z item)) e))
        (r.shown place item inside.0 inside.1)
    finds (Confirm place) at inside is = (inside, found_number place at inside is)
    finds (Ask place) at inside is = (inside, found_number place at inside is)
    finds (EndAsk place) at inside is = (inside, found_number place at inside is)

    told : (id : ℕ) (what : Load) (at : ℕ) (ms : List Member) → IsLoad n b what → at ≡ word_of b what
        → ((p : ℕ) (m : Member) → get_elem? ms p ≡ some m → IsMember n w b adds r.made r.owner r.history s.words id m)
        → LoadTells w what ms (get_or s.words at 0)
    told id (Open place) at ms inside is each = number_told r.made r.owner r.history s.words id place _ ms
        (found_number place at inside is) each
    told id (Read place number item) at ms inside is each = λ lt. subst (λ (z : ℕ). z ≤ 281474976710655)
        (sym (seg_at b s.words place _ at is)) (r.bounded place number item inside.0 lt)
    told id (Confirm place) at ms inside is each = number_told r.made r.owner r.history s.words id place _ ms
        (found_number place at inside is) each
    told id (Ask place) at ms inside is each = number_told r.made r.owner r.history s.words id place _ ms
        (found_number place at inside is) each
    told id (EndAsk place) at ms inside is each = number_told r.made r.owner r.history s.words id place _ ms
        (found_number place at inside is) each

  some_worker : (what : Load) → IsLoad n b what → 0 < n
  some_worker (Open place) h = omega arith
  some_worker (Read place number item) h = let h0 = h.0 in omega arith
  some_worker (Confirm place) h = omega arith
  some_worker (Ask place) h = omega arith
  some_worker (EndAsk place) h = omega arith

  -- **A load of a scan** by the first member
  module _ (slots id : ℕ) (me : Mine) (m : Member) (ms : List Member) (what : Load) (at : ℕ) where
    abbrev Loaded : ℕ → Mine → Type 0
    Loaded found me' = (me'.0 ≡ group (led (scan_changed (after n w what found)) me.0.members)) × (me'.1 ≡ me.1)
        × LoadTells w what me.0.members found × AreRuled n w adds accepts me'.0.members

    loads : me.0.members ≡ m ∷ ms → IsLoad n b what → at ≡ word_of b what → Allows Ruled slots id me at (λ z. z) Loaded
    loads one inside place s r deep seat fits =
        let x : ℕ = get_or s.words at 0 in
        let new : Member = scan_changed (after n w what x) m in
        let was = first s r id me.0 m ms seat one in
        let each = r.each id me.0 seat in
        let ok = member_after r.made r.owner r.history s.words id m what x
        (scan_after n w adds r.made r.history r.counted r.lent what x m.scan (some_worker what inside)
        (finds s r what at inside place) was.scan) was in
        let here = each_of (IsMember n w b adds r.made r.owner r.history s.words id) new ms ok
        (λ p y e. each (suc p) y (ap (λ (l : List Member). get_elem? l (suc p)) one ∙ e)) in
        let here_apart : AreApart (m ∷ ms) = subst AreApart one (r.apart id me.0 seat) in
        let rule : Ruled record { words = set s.words at x; homes = s.homes; views = set s.views id (group (new ∷ ms)) } =
        subst (λ (ws : List ℕ). Ruled record { words = ws; homes = s.homes; views = set s.views id (group (new ∷ ms)) })
        (sym (set-get_or s.words at 0)) record {
          made = r.made;
          owner = r.owner;
          history = r.history;
          counted = r.counted;
          legal = r.legal;
          wide = r.wide;
          number = r.number;
          shown = r.shown;
          lent = r.lent;
          bounded = r.bounded;
          apart = views_apart s.views id (group (new ∷ ms)) here_apart r.apart;
          each = everyone_else (IsMember n w b adds r.made r.owner r.history s.words) s.views id (group (new ∷ ms)) here
              (λ j v other e. r.each j v e);
        } in (
          group (new ∷ ms),
          keeps,
          tt,
          rule,
          (
            ap (λ (l : List Member). group (led (scan_changed (after n w what x)) l)) (sym one),
            refl,
            told s r id what at me.0.members inside place each,
            ruled r.made r.owner r.history s.words id (new ∷ ms) r.counted r.legal here here_apart,
          ),
        )

    pub load_allows : me.0.members ≡ m ∷ ms → IsLoad n b what → at ≡ word_of b what
        → Allows (KeepsRule n w b adds accepts) slots id me at (λ z. z)
        (λ found me'. (me'.0 ≡ group (led (scan_changed (after n w what found)) me.0.members)) × (me'.1 ≡ me.1)
        × LoadTells w what me.0.members found × AreRuled n w adds accepts me'.0.members)
    load_allows one inside place = allows_both Ruled (AllCompare n b) (compares n w b adds accepts) slots id me at (λ z. z) Loaded
        (loads one inside place)

  -- **A load of a number** that changes no view
  module _ (slots id : ℕ) (me : Mine) (i at : ℕ) where
    abbrev Tells : ℕ → Mine → Type 0
    Tells found me' = (me'.0 ≡ me.0) × (me'.1 ≡ me.1) × IsNumber i me.0.members found
        × AreRuledAt n w adds accepts i me.0.members found

    tells : i < n → at ≡ i * span b + 0 → Allows Ruled slots id me at (λ z. z) Tells
    unfolding ruled
    tells inside place s r deep seat fits =
        let each = r.each id me.0 seat in (
          me.0,
          keeps,
          tt,
          subst (λ (z : List ℕ × List SeatView). Ruled record { words = z.0; homes = s.homes; views = z.1 })
              (λ k. (sym (set-get_or s.words at 0) k, sym (set_again s.views id me.0 seat) k)) r,
          (
            refl,
            refl,
            number_told r.made r.owner r.history s.words id i _ me.0.members (found_number s r i at inside place) each,
            (
              ruled r.made r.owner r.history s.words id me.0.members r.counted r.legal each (r.apart id me.0 seat),
              found_number s r i at inside place,
              fewer n (λ j. length (r.made j)) (Sits s) (λ m. (p : ℕ) × (get_elem? me.0.members p ≡ some m))
                  (λ m t. (id, t.0, me.0, seat, t.1)) (compares_now n w b adds accepts s r),
            ),
          ),
        )

    pub tell_allows : i < n → at ≡ i * span b + 0
        → Allows (KeepsRule n w b adds accepts) slots id me at (λ z. z) (λ found me'. (me'.0 ≡ me.0) × (me'.1 ≡ me.1)
        × IsNumber i me.0.members found × AreRuledAt n w adds accepts i me.0.members found)
    tell_allows inside place = allows_both Ruled (AllCompare n b) (compares n w b adds accepts) slots id me at (λ z. z) Tells
        (tells inside place)
