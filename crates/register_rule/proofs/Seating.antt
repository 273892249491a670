-- Parting and joining of seats keep the rule.
use Rattle.std.proofs.Common.{◌≡◌, ◌≢◌, ℕ, suc, ◌+◌, ◌*◌, ◌<◌, ◌≤◌, ◌==◌, ⊎_elim, max, Bool, true, false, not, cond, List, []}
use Rattle.std.proofs.Common.{◌∷◌, ◌++◌, length, map, get_or, set, sym, refl, ap, ◌∙◌, subst, arith, length-set, eq-eqb, ne_eqb}
use Rattle.std.specs.List.{filter}
use Rattle.std.proofs.lemmas.Bool.{false_from_ne_true, not-true, eqb-true, cond_both}
use Rattle.std.proofs.lemmas.List.Elements.{All-filter, filter_passes}
use Rattle.std.proofs.lemmas.Nat.{mul-add-lt}
use mathlib.Core.Option.{some, some-ne-none}
use lib.ListN.{get_elem?}
use Rattle.atomic_table.specs.Table.{Splits, Joins}
use Rattle.atomic_table.proofs.Lists.{at_set, set_else}
use Rattle.segment_layout.specs.Layout.{span}
use Rattle.ledger_core.specs.declared.op.Op.{Op}
use Rattle.register_rule.specs.declared.view.PublishEntry.{PublishEntry}
use Rattle.register_rule.specs.declared.view.Who.{Who}
use Rattle.register_rule.specs.declared.view.Who.TheVariants.{Worker, Reader}
use Rattle.register_rule.specs.declared.view.Member.{Member}
use Rattle.register_rule.specs.declared.view.SeatView.{SeatView}
use Rattle.register_rule.specs.SoundScans.{AtMost, IsSound}
use Rattle.register_rule.specs.ScanSteps.{upper}
use Rattle.register_rule.specs.Rule.{IsRole, IsMember, Rule, AreApart}
use Rattle.register_rule.specs.Members.{group, same_who, picked, without, raised_by, reach, greatest, raised, met}
use Rattle.register_rule.specs.Told.{KeepsRule, AllCompare}
use Rattle.register_rule.proofs.Words.{there, read_at, from_all, from_map, from_both, last_is}
use Rattle.register_rule.proofs.Upper.{length_upper, upper_from, upper_at}
use Rattle.register_rule.proofs.Growth.{scan_raised, own_rises}
use Rattle.register_rule.proofs.Pairs.{compares, splits_both, joins_both}
use Rattle.register_rule.proofs.Keeping.{everyone_else, views_apart}

pub some_words : (words n b : ℕ) → words ≡ n * span b → 0 < n → 0 < words
some_words words n b e h = subst (λ (z : ℕ). 0 < z) (sym e) (omega (arith, mul-add-lt 0 (span b) 0 n h (omega arith)))

-- what passes a test was in the list
from_filter : {A : Type 0} (p : A → Bool) (l : List A) (q : ℕ) (y : A) → get_elem? (filter p l) q ≡ some y
    → ((k : ℕ) × (get_elem? l k ≡ some y)) × (p y ≡ true)
from_filter {A} p l q y e = (
  from_all (λ (x : A). (k : ℕ) × (get_elem? l k ≡ some x)) (filter p l)
      (All-filter p (λ (x : A). (k : ℕ) × (get_elem? l k ≡ some x)) l (λ k d lt. (k, there l k d lt))) q y e,
  from_all (λ (x : A). p x ≡ true) (filter p l) (filter_passes p l) q y e,
)

-- members that are apart stay so where some are left out, where they learn, and beside others of other names
filter_apart : (f : Member → Bool) (l : List Member) → AreApart l → AreApart (filter f l)
filter_apart f [] h = tt
filter_apart f (m ∷ ms) h = cond_both (f m) (m ∷ filter f ms) (filter f ms) AreApart
    (λ _. (λ q o e. let t = from_filter f ms q o e in h.0 t.0.0 o t.0.1, filter_apart f ms h.1))
    (λ _. filter_apart f ms h.1)

pub both_apart : (xs ys : List Member) → AreApart xs → AreApart ys
    → ((p q : ℕ) (m o : Member) → get_elem? xs p ≡ some m → get_elem? ys q ≡ some o → o.who ≢ m.who) → AreApart (xs ++ ys)
both_apart [] ys a b c = b
both_apart (x ∷ xs) ys a b c = (
  λ q o e. ⊎_elim (λ (t : get_elem? xs q ≡ some o). a.0 q o t)
      (λ (t : (k : ℕ) × (get_elem? ys k ≡ some o) × (q ≡ length xs + k)). c 0 t.0 x o refl t.1) (from_both xs ys q o e),
  both_apart xs ys a.1 b (λ p. c (suc p)),
)

raised_apart : (v : List ℕ) (ms : List Member) → AreApart ms → AreApart (map (raised v) ms)
raised_apart v [] a = tt
raised_apart v (m ∷ ms) a = (
  λ q o e same. let t = from_map (raised v) ms q o e in
      a.0 q t.0 t.1 (ap (λ (z : Member). z.who) t.2 ∙ same),
  raised_apart v ms a.1,
)

-- the members that are picked, and those that are left, as those that pass a test
pub picked_is : (who : Who) (ms : List Member) → picked who ms ≡ filter (λ m. same_who who m.who) ms
picked_is who [] = refl
picked_is who (m ∷ ms) = λ k. cond (same_who who m.who) (m ∷ picked_is who ms k) (picked_is who ms k)

pub without_is : (who : Who) (ms : List Member) → without who ms ≡ filter (λ m. not (same_who who m.who)) ms
without_is who [] = refl
without_is who (m ∷ ms) = (λ k. cond (same_who who m.who) (without_is who ms k) (m ∷ without_is who ms k))
    ∙ turned (same_who who m.who) _ _
  where
    turned : (t : Bool) (xs ys : List Member) → cond t xs ys ≡ cond (not t) ys xs
    turned true xs ys = refl
    turned false xs ys = refl

-- a member that is picked was in the list and has this name, and one that is left was in it and has another
from_picked : (who : Who) (ms : List Member) (q : ℕ) (y : Member) → get_elem? (picked who ms) q ≡ some y
    → ((p : ℕ) × (get_elem? ms p ≡ some y)) × (same_who who y.who ≡ true)
from_picked who ms q y e = from_filter (λ m. same_who who m.who) ms q y
    (ap (λ (l : List Member). get_elem? l q) (sym (picked_is who ms)) ∙ e)

pub from_without : (who : Who) (ms : List Member) (q : ℕ) (y : Member) → get_elem? (without who ms) q ≡ some y
    → ((p : ℕ) × (get_elem? ms p ≡ some y)) × (same_who who y.who ≡ false)
from_without who ms q y e = let t = from_filter (λ (m : Member). not (same_who who m.who)) ms q y
    (ap (λ (l : List Member). get_elem? l q) (sym (without_is who ms)) ∙ e) in (t.0, not-true _ t.1)

pub same_is : (a c : Who) → same_who a c ≡ true → a ≡ c
same_is (Worker i) (Worker j) e = ap (λ (z : ℕ). Worker z) (eqb-true i j e)
same_is (Reader i) (Reader j) e = ap (λ (z : ℕ). Reader z) (eqb-true i j e)
same_is (Worker i) (Reader j) e = absurd (let f : false ≡ true = e in cc)
same_is (Reader i) (Worker j) e = absurd (let f : false ≡ true = e in cc)

module _ (n w b : ℕ) (adds : List Op → ℕ → ℕ) where
  module _ (made : ℕ → List PublishEntry) (owner : Who → ℕ) (h ws : List ℕ) (j : ℕ) where
    -- the seat of a member changes, and what it knows stays
    moves : (owner' : Who → ℕ) (j' : ℕ) (m : Member) → owner' m.who ≡ j' → IsMember n w b adds made owner h ws j m
        → IsMember n w b adds made owner' h ws j' m
    moves owner' j' m e ok = record { here = e; role = ok.role; scan = ok.scan }

    -- no number that a member has seen or made is above that of its segment
    reach_low : (m : Member) → IsMember n w b adds made owner h ws j m → AtMost n w adds made (reach m)
    reach_low m ok = go m.who ok.role
      where
        go : (who : Who) → IsRole n w b adds made ws m who → AtMost n w adds made (raised_by who (length m.work.made) m.scan.seen)
        go (Worker i) t k x e = ⊎_elim
            (λ (q : (k ≡ i) × (max (get_or m.scan.seen i 0) (length m.work.made) ≡ x)).
            let len : ℕ = length (made i) in let a : get_or m.scan.seen i 0 ≡ len = read_at m.scan.seen i _ 0 t.own_number in
            let c : length m.work.made ≡ len = ap (λ (z : List PublishEntry). length z) t.work.all in
            let q1 = q.1 in let low : x ≤ len = omega arith in subst (λ (z : ℕ). x ≤ length (made z)) (sym q.0) low)
            (λ (q : (k ≢ i) × (get_elem? m.scan.seen k ≡ some x)). ok.scan.seen k x q.1)
            (at_set m.scan.seen i k _ x e)
        go (Reader i) t k x e = ok.scan.seen k x e

    reach_wide : (m : Member) → IsMember n w b adds made owner h ws j m → length (reach m) ≡ n
    reach_wide m ok = go m.who
      where
        go : (who : Who) → length (raised_by who (length m.work.made) m.scan.seen) ≡ n
        go (Worker i) = length-set m.scan.seen i _ ∙ ok.scan.seen_wide
        go (Reader i) = ok.scan.seen_wide

    -- a member that meets others has seen more
    raises : (m : Member) (v : List ℕ) → AtMost n w adds made v → length v ≡ n → IsMember n w b adds made owner h ws j m
        → IsMember n w b adds made owner h ws j (raised v m)
    raises m v low wide ok = record { here = ok.here; role = go m.who ok.role; scan = scan }
      where
        scan : IsSound n w adds made h (raised v m).scan
        scan = scan_raised n w adds made h m.scan v low wide ok.scan

        go : (who : Who) → IsRole n w b adds made ws m who → IsRole n w b adds made ws (raised v m) who
        go (Worker i) t = record {
          work = t.work;
          own_number = own_rises n w adds made m.scan.seen (upper m.scan.seen v) i scan.seen
              (upper_at m.scan.seen v i) t.own_number;
          lends = t.lends;
        }
        go (Reader i) t = tt

  module _ (made : ℕ → List PublishEntry) where
    -- what each of these members reaches is such a vector, of n numbers
    abbrev Reaches : List Member → Type 0
    Reaches ms = (p : ℕ) (m : Member) → get_elem? ms p ≡ some m → AtMost n w adds made (reach m) × (length (reach m) ≡ n)

    greatest_low : (ms : List Member) → Reaches ms → AtMost n w adds made (greatest ms)
    greatest_low [] f i x e = absurd (some-ne-none x (sym e))
    greatest_low (m ∷ ms) f i x e = ⊎_elim (λ q. (f 0 m refl).0 i x q) (λ q. greatest_low ms (λ p. f (suc p)) i x q)
        (upper_from (reach m) (greatest ms) i x e)

    greatest_wide : (ms : List Member) (p : ℕ) (m : Member) → get_elem? ms p ≡ some m → Reaches ms → length (greatest ms) ≡ n
    greatest_wide [] p m e f = absurd (some-ne-none m (sym e))
    greatest_wide (x ∷ []) p m e f = length_upper (reach x) [] (omega arith) ∙ (f 0 x refl).1
    greatest_wide (x ∷ y ∷ ys) p m e f = let len = greatest_wide (y ∷ ys) 0 y refl (λ q. f (suc q)) in
        let wide = (f 0 x refl).1 in
        length_upper (reach x) (greatest (y ∷ ys)) (omega (arith, len, wide)) ∙ wide

module _ (n w b : ℕ) (adds : List Op → ℕ → ℕ) (accepts : (ℕ → ℕ) → List Op → Type 0) where
  -- the new seat owns the members of this name
  parts : (id : ℕ) (v : SeatView) (who : Who) → (m : Member) × (picked who v.members ≡ m ∷ [])
      → Splits (Rule n w b adds accepts) id v (group (without who v.members)) (group (picked who v.members))
  parts id v who there s r at =
      let fresh : ℕ = length s.views in
      let owner' : Who → ℕ = λ x. cond (same_who who x) fresh (r.owner x) in
      let first = from_picked who v.members 0 there.0 (ap (λ (l : List Member). get_elem? l 0) there.1) in
      let here : r.owner who ≡ id = ap r.owner (same_is who there.0.who first.1)
      ∙ (r.each id v at first.0.0 there.0 first.0.1).here in
      let else : (x : Who) → same_who who x ≡ false → owner' x ≡ r.owner x = λ x e. ap (λ (t : Bool). cond t fresh (r.owner x))
      e in
      let other : (x : Who) (j : ℕ) → j ≢ id → r.owner x ≡ j → same_who who x ≡ false = λ x j ne own. false_from_ne_true
      (same_who who x) (λ is. ne (sym own ∙ (ap r.owner (sym (same_is who x is)) ∙ here))) in
      record {
        made = r.made;
        owner = owner';
        history = r.history;
        counted = r.counted;
        legal = r.legal;
        wide = r.wide;
        number = r.number;
        shown = r.shown;
        lent = r.lent;
        bounded = r.bounded;
        apart = λ j u e. ⊎_elim
            (views_apart s.views id (group (without who v.members))
            (subst AreApart (sym (without_is who v.members)) (filter_apart _ v.members (r.apart id v at))) r.apart j u)
            (λ (t : (group (picked who v.members) ≡ u) × (j ≡ length (set s.views id (group (without who v.members))))). subst
            (λ (z : SeatView). AreApart z.members) t.0
            (subst AreApart (sym (picked_is who v.members)) (filter_apart _ v.members (r.apart id v at))))
            (last_is _ _ u j e);
        each = λ j u e. ⊎_elim
            (everyone_else (IsMember n w b adds r.made owner' r.history s.words) s.views id (group (without who v.members))
            (λ p m e'. let x = from_without who v.members p m e' in let ok = r.each id v at x.0.0 m x.0.1 in
            moves n w b adds r.made r.owner r.history s.words id owner' id m (else m.who x.1 ∙ ok.here) ok)
            (λ k z ne e' p m at'. let ok = r.each k z e' p m at' in
            moves n w b adds r.made r.owner r.history s.words k owner' k m (else m.who (other m.who k ne ok.here) ∙ ok.here)
            ok)
            j u)
            (λ (t : (group (picked who v.members) ≡ u) × (j ≡ length (set s.views id (group (without who v.members))))) p m e'.
            let x = from_picked who v.members p m (ap (λ (z : SeatView). get_elem? z.members p) t.0 ∙ e') in
            let j_is : j ≡ fresh = t.1 ∙ length-set s.views id _ in
            moves n w b adds r.made r.owner r.history s.words id owner' j m (ap (λ (k : Bool). cond k fresh (r.owner m.who)) x.1
            ∙ sym j_is) (r.each id v at x.0.0 m x.0.1))
            (last_is _ _ u j e);
      }

  pub part_splits : (id : ℕ) (v : SeatView) (who : Who) → (m : Member) × (picked who v.members ≡ m ∷ [])
      → Splits (KeepsRule n w b adds accepts) id v (group (without who v.members)) (group (picked who v.members))
  part_splits id v who there = splits_both (Rule n w b adds accepts) (AllCompare n b) (compares n w b adds accepts) id v _ _
      (parts id v who there)

  -- the seat that takes in the other one owns all members of both
  meets : (id : ℕ) (v : SeatView) (other : ℕ) (u : SeatView) → Joins (Rule n w b adds accepts) id v other u
      (group (met (v.members ++ u.members))) (group [])
  meets id v other u s r at apart there =
      let ms : List Member = v.members ++ u.members in
      let both : SeatView = group (met ms) in
      let owner' : Who → ℕ = λ x. cond (r.owner x == other) id (r.owner x) in
      let was : get_elem? s.views other ≡ some u = sym (set_else s.views id other both apart) ∙ there in
      let else : (x : Who) → r.owner x ≢ other → owner' x ≡ r.owner x = λ x e. ap (λ (t : Bool). cond t id (r.owner x))
      (ne_eqb (r.owner x) other e) in
      let here : (x : Who) → r.owner x ≡ other → owner' x ≡ id = λ x e. ap (λ (t : Bool). cond t id (r.owner x))
      (eq-eqb (r.owner x) other e) in
      -- each of them is a member of the joined seat, as it was before they met
      let one : (p : ℕ) (m : Member) → get_elem? ms p ≡ some m → IsMember n w b adds r.made owner' r.history s.words id m =
      λ p m e. ⊎_elim
      (λ (y : get_elem? v.members p ≡ some m). let ok = r.each id v at p m y in
      moves n w b adds r.made r.owner r.history s.words id owner' id m (else m.who (λ z. apart (sym z ∙ ok.here)) ∙ ok.here) ok)
      (λ (y : (k : ℕ) × (get_elem? u.members k ≡ some m) × (p ≡ length v.members + k)). let ok = r.each other u was y.0 m y.1 in
      moves n w b adds r.made r.owner r.history s.words other owner' id m (here m.who ok.here) ok)
      (from_both v.members u.members p m e) in
      let far : Reaches n w b adds r.made ms = λ p m e. (
        reach_low n w b adds r.made owner' r.history s.words id m (one p m e),
        reach_wide n w b adds r.made owner' r.history s.words id m (one p m e),
      ) in
      record {
        made = r.made;
        owner = owner';
        history = r.history;
        counted = r.counted;
        legal = r.legal;
        wide = r.wide;
        number = r.number;
        shown = r.shown;
        lent = r.lent;
        bounded = r.bounded;
        apart = views_apart (set s.views id both) other (group []) tt (views_apart s.views id both
            (raised_apart (greatest ms) ms (both_apart v.members u.members (r.apart id v at) (r.apart other u was)
            (λ p q m o em eo same. apart (sym (r.each other u was q o eo).here
            ∙ (ap r.owner same ∙ (r.each id v at p m em).here))))) r.apart);
        each = everyone_else (IsMember n w b adds r.made owner' r.history s.words) (set s.views id both) other (group [])
            (λ p m e. absurd (some-ne-none m (sym e)))
            (λ j x apart' e p m e'. everyone_else (λ k y. k ≢ other → IsMember n w b adds r.made owner' r.history s.words k y)
            s.views id both
            (λ q y at' _. let z = from_map (raised (greatest ms)) ms q y at' in
            subst (IsMember n w b adds r.made owner' r.history s.words id) z.2
            (raises n w b adds r.made owner' r.history s.words id z.0 (greatest ms) (greatest_low n w b adds r.made ms far)
            (greatest_wide n w b adds r.made ms q z.0 z.1 far) (one q z.0 z.1)))
            (λ k z _ e'' q y at' far'. let ok = r.each k z e'' q y at' in
            moves n w b adds r.made r.owner r.history s.words k owner' k y (else y.who (λ same. far' (sym ok.here ∙ same))
            ∙ ok.here) ok)
            j x e p m e' apart');
      }

  pub meet_joins : (id : ℕ) (v : SeatView) (other : ℕ) (u : SeatView) → Joins (KeepsRule n w b adds accepts) id v other u
      (group (met (v.members ++ u.members))) (group [])
  meet_joins id v other u = joins_both (Rule n w b adds accepts) (AllCompare n b) (compares n w b adds accepts) id v other u _ _
      (meets id v other u)
