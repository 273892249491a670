-- The board at the start, and how its members are parted.
use Rattle.std.proofs.Common.{◌≡◌, ◌≢◌, ⊎_elim, ℕ, zero, suc, ◌+◌, ◌*◌, ◌-◌, ◌<◌, ◌≤◌, ◌==◌, true, false, List, [], ◌∷◌, ◌++◌}
use Rattle.std.proofs.Common.{length, map, replicate, get_or, slice_index, sym, refl, ap, ◌∙◌, subst, arith, eq-eqb, ne_eqb}
use Rattle.std.proofs.lemmas.Bool.{eqb-true}
use mathlib.Core.Option.{some, some-injective, some-ne-none}
use lib.ListN.{get_elem?, length-replicate}
use lib.Seq.{append_snoc}
use Rattle.std.proofs.lemmas.Bool.{cond-true, cond-false}
use Rattle.std.proofs.lemmas.List.{append-nil, get_or-replicate, map_push}
use Rattle.std.proofs.lemmas.List.Elements.{filter-append}
use Rattle.std.proofs.lemmas.Option.{none-some}
use Rattle.atomic_table.specs.Table.{opening}
use Rattle.segment_layout.specs.Layout.{span}
use Rattle.ledger_core.specs.declared.op.Op.{Op}
use Rattle.register_rule.specs.declared.view.PublishEntry.{PublishEntry}
use Rattle.register_rule.specs.declared.view.Who.{Who}
use Rattle.register_rule.specs.declared.view.Who.TheVariants.{Worker, Reader}
use Rattle.register_rule.specs.declared.view.Member.{Member}
use Rattle.register_rule.specs.declared.view.SeatView.{SeatView}
use Rattle.register_rule.specs.Shown.{Shows}
use Rattle.register_rule.specs.SoundScans.{IsVersion, IsSound}
use Rattle.register_rule.specs.Rule.{IsMember, Rule, AreApart}
use Rattle.register_rule.specs.Members.{fresh_scan, new_worker, new_reader, workers_from, readers_from, everyone, first_of}
use Rattle.register_rule.specs.Members.{same_who, picked, without}
use Rattle.register_rule.specs.Told.{KeepsRule}
use Rattle.register_rule.proofs.Words.{there, from_replicate, from_both}
use Rattle.register_rule.proofs.Ordering.{none_ordered}
use Rattle.register_rule.proofs.Pairs.{compares}
use Rattle.register_rule.proofs.Seating.{picked_is, without_is, both_apart}

zero_at : (k p : ℕ) → slice_index (replicate k 0) p ≡ 0
zero_at zero p = refl
zero_at (suc k) zero = refl
zero_at (suc k) (suc p) = zero_at k p

-- the members f i, f (i + 1), .., k of them, where no two have one name
pub record InOrder (f : ℕ → Member) (from : (i k : ℕ) → List Member) : Type 0 where
  pub none : (i : ℕ) → from i 0 ≡ []
  pub more : (i k : ℕ) → from i (suc k) ≡ f i ∷ from (i + 1) k
  pub names : (i j : ℕ) → same_who (f i).who (f j).who ≡ (i == j)

-- the workers of a new board are such members, and its readers
pub workers_in_order : (n w b : ℕ) → InOrder (new_worker n w b) (workers_from n w b)
workers_in_order n w b = record { none = λ _. refl; more = λ _ _. refl; names = λ _ _. refl }

pub readers_in_order : (n w : ℕ) → InOrder (new_reader n w) (readers_from n w)
readers_in_order n w = record { none = λ _. refl; more = λ _ _. refl; names = λ _ _. refl }

module _ {f : ℕ → Member} {from : (i k : ℕ) → List Member} (order : InOrder f from) where
  -- each of them is one of these
  from_order : (i k q : ℕ) (m : Member) → get_elem? (from i k) q ≡ some m → (h : ℕ) × (i ≤ h) × (h < i + k) × (f h ≡ m)
  from_order i zero q m e = absurd (some-ne-none m (sym (ap (λ (l : List Member). get_elem? l q) (sym (order.none i)) ∙ e)))
  from_order i (suc k) zero m e =
      (i, omega arith, omega arith, some-injective (f i) m (ap (λ (l : List Member). get_elem? l 0) (sym (order.more i k)) ∙ e))
  from_order i (suc k) (suc q) m e = let t =
      from_order (i + 1) k q m (ap (λ (l : List Member). get_elem? l (suc q)) (sym (order.more i k)) ∙ e) in
      let low = t.1 in let high = t.2 in (t.0, omega arith, omega arith, t.3)

  -- and no two of them have one name
  order_apart : (i k : ℕ) → AreApart (from i k)
  order_apart i zero = subst AreApart (sym (order.none i)) tt
  order_apart i (suc k) = subst AreApart (sym (order.more i k)) (
    λ q o e same. let t = from_order (i + 1) k q o e in let t1 = t.1 in
        let z : (i == t.0) ≡ true = sym (order.names i t.0)
        ∙ (ap (λ (x : Who). same_who (f i).who x) (ap (λ (x : Member). x.who) t.3 ∙ same)
        ∙ (order.names i i ∙ eq-eqb i i refl)) in
        let y : i ≡ t.0 = eqb-true i t.0 z in absurd (omega (arith, y)),
    order_apart (i + 1) k,
  )

-- nobody has published
abbrev none_made : ℕ → List PublishEntry
none_made i = []

new_scan_is : (n w : ℕ) (adds : List Op → ℕ → ℕ) → 0 < n → IsSound n w adds none_made [] (fresh_scan n w)
new_scan_is n w adds some_n = record {
  opened = λ q x e. absurd (some-ne-none x (sym e));
  confirmed = λ q x e. absurd (some-ne-none x (sym e));
  ordered = none_ordered;
  asked = λ q x e. absurd (some-ne-none x (sym e));
  recorded = λ q a e. absurd (some-ne-none a (sym e));
  seen = λ i x e. let z : 0 ≡ x = from_replicate n 0 i x e in let goal : x ≤ 0 = omega arith in goal;
  seen_wide = length-replicate n 0;
  remembered = λ i v e. subst (IsVersion n w adds none_made i) (from_replicate n _ i v e) record {
    old = omega arith;
    wide = length-replicate w 0;
    row = λ k x e'. sym (from_replicate w 0 k x e');
  };
  remembered_wide = length-replicate n _;
  looks = λ q l e. absurd (some-ne-none l (sym e));
  asks = λ q l e. absurd (some-ne-none l (sym e));
  whole = λ none. absurd (let z : 0 ≡ n = none in omega arith);
}

module _ (n w b : ℕ) (adds : List Op → ℕ → ℕ) (accepts : (ℕ → ℕ) → List Op → Type 0) (readers : ℕ) (ws : List ℕ)
    (is : ws ≡ replicate (n * span b) 0) (some_n : 0 < n) where
  zeros : (p : ℕ) → get_or ws p 0 ≡ 0
  zeros p = ap (λ (z : List ℕ). get_or z p 0) is ∙ zero_at (n * span b) p

  abbrev IsFirst : Member → Type 0
  IsFirst = IsMember n w b adds none_made (λ _. 0) [] ws 0

  worker_is : (i : ℕ) → i < n → IsFirst (new_worker n w b i)
  worker_is i h = record {
    here = refl;
    role = record {
      work = record {
        inside = h;
        all = refl;
        hidden_deep = length-replicate b 0;
        shown_deep = length-replicate b 0;
        hidden = λ k x e. zeros _ ∙ from_replicate b 0 k x e;
        shown = λ k x e. zeros _ ∙ from_replicate b 0 k x e;
      };
      own_number = let seen : List ℕ = replicate n 0 in let long : length seen ≡ n = length-replicate n 0 in
          there seen i 0 (omega (arith, h, long)) ∙ ap some (get_or-replicate n i 0 0 h);
      lends = λ q x a e. absurd (some-ne-none x (sym e));
    };
    scan = new_scan_is n w adds some_n;
  }

  reader_is : (i : ℕ) → IsFirst (new_reader n w i)
  reader_is i = record { here = refl; role = tt; scan = new_scan_is n w adds some_n }

  one : (p : ℕ) (m : Member) → get_elem? (workers_from n w b 0 n ++ readers_from n w 0 readers) p ≡ some m → IsFirst m
  one p m e = ⊎_elim
      (λ (t : get_elem? (workers_from n w b 0 n) p ≡ some m). let f = from_order (workers_in_order n w b) 0 n p m t in
      let below = f.2 in subst IsFirst f.3 (worker_is f.0 (omega arith)))
      (λ (t : (q : ℕ) × (get_elem? (readers_from n w 0 readers) q ≡ some m) × (p ≡ length (workers_from n w b 0 n) + q)). let f =
      from_order (readers_in_order n w) 0 readers t.0 m t.1 in subst IsFirst f.3 (reader_is f.0))
      (from_both _ _ p m e)

  each : (j : ℕ) (v : SeatView) → get_elem? (everyone n w b readers ∷ []) j ≡ some v → (p : ℕ) (m : Member)
      → get_elem? v.members p ≡ some m → IsMember n w b adds none_made (λ _. 0) [] ws j m
  each zero v e p m e' = one p m (ap (λ (z : SeatView). get_elem? z.members p) (some-injective _ v e) ∙ e')
  each (suc j) v e p m e' = absurd (some-ne-none v (sym e))

  -- no worker has a reader's name
  cross : (p q : ℕ) (m o : Member) → get_elem? (workers_from n w b 0 n) p ≡ some m
      → get_elem? (readers_from n w 0 readers) q ≡ some o → o.who ≢ m.who
  cross p q m o em eo same =
      let x = from_order (workers_in_order n w b) 0 n p m em in let y = from_order (readers_in_order n w) 0 readers q o eo in
      let e : Reader y.0 ≡ Worker x.0 = ap (λ (z : Member). z.who) y.3 ∙ (same ∙ sym (ap (λ (z : Member). z.who) x.3)) in
      let f : false ≡ true = ap (λ (z : Who). same_who (Worker x.0) z) e ∙ eq-eqb x.0 x.0 refl in
      absurd (let g : false ≡ true = f in cc)

  all_apart : (j : ℕ) (v : SeatView) → get_elem? (everyone n w b readers ∷ []) j ≡ some v → AreApart v.members
  all_apart zero v e = subst (λ (z : SeatView). AreApart z.members) (some-injective _ v e)
      (both_apart (workers_from n w b 0 n) (readers_from n w 0 readers) (order_apart (workers_in_order n w b) 0 n)
      (order_apart (readers_in_order n w) 0 readers) cross)
  all_apart (suc j) v e = absurd (some-ne-none v (sym e))

  ruled : Rule n w b adds accepts (opening ws [] (everyone n w b readers))
  ruled = record {
    made = none_made;
    owner = λ _. 0;
    history = [];
    counted = λ i h. refl;
    legal = λ i h. tt;
    wide = ap (λ (z : List ℕ). length z) is ∙ length-replicate (n * span b) 0;
    number = λ i h. zeros _;
    shown = λ i k h h'. subst (Shows n w adds [] k) (sym (zeros _)) record {
      row = λ _. refl;
      flag = λ _. refl;
      vector = λ a j e. absurd (none-some a e);
      totals = λ a j e. absurd (none-some a e);
    };
    lent = λ i a h e. absurd (none-some a e);
    bounded = λ i v k h h'. subst (λ (z : ℕ). z ≤ 281474976710655) (sym (zeros _)) (omega arith);
    apart = all_apart;
    each = each;
  }

  -- the opening state
  pub starts : KeepsRule n w b adds accepts (opening ws [] (everyone n w b readers))
  starts = (ruled, compares n w b adds accepts _ ruled)

-- those picked from two lists, one after the other
over : (who : Who) (xs ys : List Member) → (picked who (xs ++ ys) ≡ picked who xs ++ picked who ys)
    × (without who (xs ++ ys) ≡ without who xs ++ without who ys)
over who xs ys = (
  picked_is who (xs ++ ys) ∙ (filter-append _ xs ys ∙ λ c. sym (picked_is who xs) c ++ sym (picked_is who ys) c),
  without_is who (xs ++ ys) ∙ (filter-append _ xs ys ∙ λ c. sym (without_is who xs) c ++ sym (without_is who ys) c),
)

module _ {f : ℕ → Member} {from : (i k : ℕ) → List Member} (order : InOrder f from) where
  -- a name that none of them has
  none_of : (who : Who) (j k : ℕ) → ((h : ℕ) → j ≤ h → same_who who (f h).who ≡ false) → (picked who (from j k) ≡ [])
      × (without who (from j k) ≡ from j k)
  none_of who j zero other = (ap (picked who) (order.none j), ap (without who) (order.none j) ∙ sym (order.none j))
  none_of who j (suc k) other = let later = none_of who (j + 1) k (λ h le. other h (omega arith)) in
      let this = other j (omega arith) in (
        ap (picked who) (order.more j k) ∙ (cond-false (same_who who (f j).who) _ _ this ∙ later.0),
        ap (without who) (order.more j k)
            ∙ (cond-false (same_who who (f j).who) _ _ this ∙ (ap (λ z. f j ∷ z) later.1 ∙ sym (order.more j k))),
      )

  -- the first of them parts from them and from members of other names
  first_parts : (i n : ℕ) (ms later : List Member) → i < n → ms ≡ from i (n - i) ++ later → (picked (f i).who later ≡ [])
      × (without (f i).who later ≡ later)
      → (picked (f i).who ms ≡ f i ∷ []) × (without (f i).who ms ≡ from (i + 1) (n - (i + 1)) ++ later)
  first_parts i n ms later h is others =
      let who : Who = (f i).who in
      let k : ℕ = n - (i + 1) in
      let rest : List Member = from (i + 1) k ++ later in
      let e : n - i ≡ suc k = omega arith in
      let is' : ms ≡ f i ∷ rest = is
      ∙ (ap (λ (z : ℕ). from i z ++ later) e ∙ ap (λ (z : List Member). z ++ later) (order.more i k)) in
      let it : same_who who who ≡ true = order.names i i ∙ eq-eqb i i refl in
      let none = none_of who (i + 1) k (λ j le. order.names i j ∙ ne_eqb i j (λ same. omega (arith, same))) in
      let o = over who (from (i + 1) k) later in (
        ap (picked who) is' ∙ (cond-true (same_who who who) _ _ it ∙ ap (λ z. f i ∷ z) (o.0 ∙ λ c. none.0 c ++ others.0 c)),
        ap (without who) is' ∙ (cond-true (same_who who who) _ _ it ∙ (o.1 ∙ λ c. none.1 c ++ others.1 c)),
      )

  -- those parted so far, and one more
  pub one_more : {X : Type 0} (g : X → Member) (i n : ℕ) (xs : List X) (x : X) (all : List Member) → i < n → g x ≡ f i
      → map g xs ++ from i (n - i) ≡ all → map g (xs ++ x ∷ []) ++ from (i + 1) (n - (i + 1)) ≡ all
  one_more g i n xs x all h is was = let k : ℕ = n - (i + 1) in let e : n - i ≡ suc k = omega arith in
      ap (λ (z : List Member). z ++ from (i + 1) k) (map_push g xs x)
      ∙ (append_snoc (map g xs) (g x) (from (i + 1) k) ∙ ((λ c. map g xs ++ is c ∷ from (i + 1) k)
      ∙ (ap (λ (z : List Member). map g xs ++ z) (sym (order.more i k)) ∙ (ap (λ (z : ℕ). map g xs ++ from i z) (sym e) ∙ was))))

-- the worker i parts from the workers from i on
pub one_worker : (n w b i readers : ℕ) (ms : List Member) → i < n
    → ms ≡ workers_from n w b i (n - i) ++ readers_from n w 0 readers
    → (picked (Worker i) ms ≡ new_worker n w b i ∷ [])
    × (without (Worker i) ms ≡ workers_from n w b (i + 1) (n - (i + 1)) ++ readers_from n w 0 readers)
one_worker n w b i readers ms h is = first_parts (workers_in_order n w b) i n ms (readers_from n w 0 readers) h is
    (none_of (readers_in_order n w) (Worker i) 0 readers (λ _ _. refl))

pub one_reader : (n w i readers : ℕ) (ms : List Member) → i < readers → ms ≡ readers_from n w i (readers - i)
    → (picked (Reader i) ms ≡ new_reader n w i ∷ []) × (without (Reader i) ms ≡ readers_from n w (i + 1) (readers - (i + 1)))
one_reader n w i readers ms h is = let t = first_parts (readers_in_order n w) i readers ms [] h (is ∙ sym (append-nil _)) (
  refl,
  refl,
) in (t.0, t.1 ∙ append-nil _)

pub single : (ms : List Member) (m : Member) → ms ≡ m ∷ [] → ms ≡ first_of ms ∷ []
single ms m e = e ∙ ap (λ (z : List Member). first_of z ∷ []) (sym e)
