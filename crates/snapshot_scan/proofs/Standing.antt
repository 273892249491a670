-- Workers that stand behind a reader: what scans, joinings and partings leave of them.
use Rattle.std.proofs.Common.{◌≡◌, ◌≢◌, ◌⊎◌, inl, inr, ⊎_elim, ℕ, zero, suc, ◌<◌, ◌≤◌, max, Bool, cond, List, [], ◌∷◌, ◌++◌}
use Rattle.std.proofs.Common.{length, map, slice_index, get_or, set, sym, refl, ap, ◌∙◌, subst, arith, eq-eqb}
use mathlib.Core.Option.{some, some-injective, some-ne-none}
use lib.ListN.{get_elem?}
use Rattle.std.proofs.lemmas.Bool.{true≢false}
use Rattle.register_rule.specs.declared.view.Member.{Member}
use Rattle.register_rule.specs.declared.view.Who.{Who}
use Rattle.register_rule.specs.declared.view.Who.TheVariants.{Worker, Reader}
use Rattle.register_rule.specs.declared.view.ScanLog.{ScanLog}
use Rattle.register_rule.specs.Members.{first_of, reach, greatest, raised, raised_by, met, without, same_who}
use Rattle.register_rule.specs.History.{Below}
use Rattle.register_rule.specs.Seats.{HasMember}
use Rattle.register_rule.specs.ScanSteps.{upper}
use Rattle.register_rule.proofs.Seating.{from_without}
use Rattle.register_rule.proofs.Upper.{upper_at}
use Rattle.register_rule.proofs.Words.{there, at_below, read_at}
use Rattle.snapshot_scan.specs.declared.remembered_row.RememberedRow.{RememberedRow}
use Rattle.snapshot_scan.specs.Scanned.{IsIdle}
use Rattle.snapshot_scan.specs.Shape.{scan_of, with_scan}
use Rattle.snapshot_scan.specs.Lent.{IsWorkerAmong, HasSeen, behind, NoneIsReader, IsWorkerAlone, SeesMore, HasSeenMore}

-- a reader is no worker
pub no_worker : (i k : ℕ) (who : Who) → who ≡ Reader k → who ≡ Worker i → ⊥
no_worker i k who e h = let x = sym e ∙ h in cc

nothing : {A : Type 0} (p : ℕ) (x : A) → get_elem? [] p ≡ some x → ⊥
nothing p x e = some-ne-none x (sym e)

-- who stands behind a reader stands at a place after it
pub stands_behind : (i k : ℕ) (m m0 : Member) (ms : List Member) → m0.who ≡ Reader k → IsWorkerAmong i m (m0 ∷ ms)
    → IsWorkerAmong i m ms
stands_behind i k m m0 ms is (zero, e, w) =
    absurd (no_worker i k m0.who is (ap (λ (x : Member). x.who) (some-injective m0 m e) ∙ w))
stands_behind i k m m0 ms is (suc p, e, w) = (p, e, w)

-- who stands behind a reader stands there after its scan
pub stands_scanned : (i k : ℕ) (c : ScanLog) (m : Member) (ms ms' : List Member) → (first_of ms).who ≡ Reader k
    → ms' ≡ with_scan c ms → IsWorkerAmong i m ms → IsWorkerAmong i m ms'
stands_scanned i k c m [] ms' first same (p, e, is) = absurd (some-ne-none m (sym e))
stands_scanned i k c m (m0 ∷ ms) ms' first same s = let b = stands_behind i k m m0 ms first s in
    (suc b.0, ap (λ (l : List Member). get_elem? l (suc b.0)) same ∙ b.1, b.2)

pub sees_same : (u : List ℕ) → SeesMore u u
sees_same u i x e = (x, e, omega arith)

pub sees_upper : (u v : List ℕ) → SeesMore u (upper u v)
sees_upper u v i x e = upper_at u v i x e

pub sees_right : (u v : List ℕ) → SeesMore v (upper u v)
sees_right [] v i x e = (x, e, omega arith)
sees_right (y ∷ u) [] i x e = absurd (nothing i x e)
sees_right (y ∷ u) (z ∷ v) zero x e = let h : z ≡ x = some-injective z x e in (max y z, refl, omega (arith, h))
sees_right (y ∷ u) (z ∷ v) (suc i) x e = sees_right u v i x e

pub sees_then : (u v w : List ℕ) → SeesMore u v → SeesMore v w → SeesMore u w
sees_then u v w f g i x e = let a = f i x e in let b = g i a.0 a.1 in let p = a.2 in let q = b.2 in
    (b.0, b.1, omega (arith, p, q))

-- a number that is at least n stands at the place i
abbrev Reaches : (n i : ℕ) → List ℕ → Type 0
Reaches n i l = (i < length l) × (n ≤ slice_index l i)

reaches_at : (n i x : ℕ) (l : List ℕ) → get_elem? l i ≡ some x → n ≤ x → Reaches n i l
reaches_at n i x l e h = let lt = at_below l i x e in let r = read_at l i x 0 e in (lt, omega (arith, r, h))

reaches_more : (n i : ℕ) (u v : List ℕ) → SeesMore u v → Reaches n i u → Reaches n i v
reaches_more n i u v more r = let lt = r.0 in let h = r.1 in let e = there u i 0 lt in let z = more i (get_or u i 0) e in
    let q = z.2 in reaches_at n i z.0 v z.1 (omega (arith, h, q))

-- after a scan of the reader
pub seen_scanned : (k : ℕ) (c : ScanLog) (m0 : Member) (ms : List Member) → m0.who ≡ Reader k → SeesMore m0.scan.seen c.seen
    → HasSeen (m0 ∷ ms) → HasSeen (with_scan c (m0 ∷ ms))
seen_scanned k c m0 ms is more h i m s =
    let b = stands_behind i k m (record m0 { scan = c }) ms is s in
    reaches_more (length m.work.made) i m0.scan.seen c.seen more (h i m (suc b.0, b.1, b.2))

-- a member of a list that was mapped
from_map : {A B : Type 0} (f : A → B) (l : List A) (p : ℕ) (y : B) → get_elem? (map f l) p ≡ some y → (x : A)
    × (get_elem? l p ≡ some x) × (f x ≡ y)
from_map f [] p y e = absurd (nothing p y e)
from_map f (x ∷ l) zero y e = (x, refl, some-injective (f x) y e)
from_map f (x ∷ l) (suc p) y e = from_map f l p y e

-- the greatest that members have seen or made is at least what each of them has
pub reaches : (ms : List Member) (p : ℕ) (m : Member) → get_elem? ms p ≡ some m → SeesMore (reach m) (greatest ms)
reaches [] p m e = absurd (nothing p m e)
reaches (x ∷ ms) zero m e = subst (λ (y : Member). SeesMore (reach y) (greatest (x ∷ ms))) (some-injective x m e)
    (sees_upper (reach x) (greatest ms))
reaches (x ∷ ms) (suc p) m e = sees_then (reach m) (greatest ms) (greatest (x ∷ ms)) (reaches ms p m e)
    (sees_right (reach x) (greatest ms))

-- a member of two lists, one behind the other
of_both : {A : Type 0} (l r : List A) (p : ℕ) (x : A) → get_elem? (l ++ r) p ≡ some x → (get_elem? l p ≡ some x)
    ⊎ ((q : ℕ) × (get_elem? r q ≡ some x))
of_both [] r p x e = inr (p, e)
of_both (y ∷ l) r zero x e = inl e
of_both (y ∷ l) r (suc p) x e = of_both l r p x e

in_second : {A : Type 0} (l r : List A) (q : ℕ) (x : A) → get_elem? r q ≡ some x → (p : ℕ) × (get_elem? (l ++ r) p ≡ some x)
in_second [] r q x e = (q, e)
in_second (y ∷ l) r q x e = let t = in_second l r q x e in (suc t.0, t.1)

-- what a worker reaches of its own segment
own_set : (l : List ℕ) (i n : ℕ) → get_elem? l i ≡ some n → Reaches n i (set l i (max (get_or l i 0) n))
own_set [] i n e = absurd (nothing i n e)
own_set (x ∷ l) zero n e = (omega arith, omega arith)
own_set (x ∷ l) (suc i) n e = let t = own_set l i n e in let a = t.0 in let b = t.1 in (omega (arith, a), omega (arith, b))

own_reach : (i : ℕ) (m : Member) → m.who ≡ Worker i → get_elem? m.scan.seen i ≡ some (length m.work.made)
    → Reaches (length m.work.made) i (reach m)
own_reach i m is own = subst (λ (w : Who). Reaches (length m.work.made) i (raised_by w (length m.work.made) m.scan.seen)) (sym is)
    (own_set m.scan.seen i (length m.work.made) own)

same_worker : (i j : ℕ) (who : Who) → who ≡ Worker i → who ≡ Worker j → i ≡ j
same_worker i j who e h = let x = sym e ∙ h in cc

-- after a worker has joined
module _ (k : ℕ) (m0 : Member) (ms : List Member) (is : m0.who ≡ Reader k) where
  abbrev all_of : Member → List Member
  all_of w = (m0 ∷ ms) ++ w ∷ []

  joined_one : (j : ℕ) (w : Member) → w.who ≡ Worker j → get_elem? w.scan.seen j ≡ some (length w.work.made) → HasSeen (m0 ∷ ms)
      → HasSeen (met ((m0 ∷ ms) ++ w ∷ []))
  joined_one j w whose own h i m (p, e, who) =
      let t = from_map (raised (greatest (all_of w))) (all_of w) p m e in let old = t.0 in
      let made : length old.work.made ≡ length m.work.made = ap (λ (x : Member). length x.work.made) t.2 in
      let named : old.who ≡ Worker i = ap (λ (x : Member). x.who) t.2 ∙ who in
      let g = greatest (all_of w) in
      subst (λ (n : ℕ). Reaches n i (upper m0.scan.seen g)) made (⊎_elim
      (λ here. reaches_more (length old.work.made) i m0.scan.seen (upper m0.scan.seen g) (sees_upper m0.scan.seen g)
      (h i old (p, here, named)))
      (λ last. let q = in_second (m0 ∷ ms) (w ∷ []) last.0 old last.1 in
      let is_last : w ≡ old = only last.0 old last.1 in
      let same : j ≡ i = same_worker j i old.who (ap (λ (x : Member). x.who) (sym is_last) ∙ whose) named in
      reaches_more (length old.work.made) i g (upper m0.scan.seen g) (sees_right m0.scan.seen g)
      (reaches_more (length old.work.made) i (reach old) g (reaches (all_of w) q.0 old q.1)
      (subst (λ (x : ℕ). Reaches (length old.work.made) x (reach old)) same
      (subst (λ (x : Member). Reaches (length x.work.made) j (reach x)) is_last (own_reach j w whose own)))))
      (of_both (m0 ∷ ms) (w ∷ []) p old t.1))
    where
      only : (q : ℕ) (x : Member) → get_elem? (w ∷ []) q ≡ some x → w ≡ x
      only zero x e' = some-injective w x e'
      only (suc q) x e' = absurd (nothing q x e')

  pub seen_joined : (ws : List Member) → IsWorkerAlone ws → HasSeen (m0 ∷ ms) → HasSeen (met ((m0 ∷ ms) ++ ws))
  seen_joined ws (j, w, one, whose, own) h = subst (λ (l : List Member). HasSeen (met ((m0 ∷ ms) ++ l))) (sym one)
      (joined_one j w whose own h)

  pub workers_joined : (ws : List Member) → IsWorkerAlone ws → NoneIsReader ms → NoneIsReader (behind (met ((m0 ∷ ms) ++ ws)))
  workers_joined ws (j, w, one, whose, own) all p r m e h =
      let t = from_map (raised (greatest ((m0 ∷ ms) ++ ws))) (ms ++ ws) p m e in
      let named : (t.0).who ≡ Reader r = ap (λ (x : Member). x.who) t.2 ∙ h in
      ⊎_elim (λ here. all p r t.0 here named)
      (λ last. no_worker j r (t.0).who named
      (ap (λ (x : Member). x.who) (sym (only last.0 t.0 (ap (λ (l : List Member). get_elem? l last.0) (sym one) ∙ last.1)))
      ∙ whose))
      (of_both ms ws p t.0 t.1)
    where
      only : (q : ℕ) (x : Member) → get_elem? (w ∷ []) q ≡ some x → w ≡ x
      only zero x e' = some-injective w x e'
      only (suc q) x e' = absurd (nothing q x e')

-- a reader stays where a worker leaves
pub reader_stays : (i k : ℕ) (m0 : Member) (ms : List Member) → m0.who ≡ Reader k → without (Worker i) (m0 ∷ ms) ≡ m0 ∷ without
    (Worker i) ms
reader_stays i k m0 ms is = ap (λ (w : Who). cond (same_who (Worker i) w) (without (Worker i) ms) (m0 ∷ without (Worker i) ms)) is

-- after a worker has left
pub seen_left : (i k : ℕ) (m0 : Member) (ms : List Member) → m0.who ≡ Reader k → HasSeen (m0 ∷ ms)
    → HasSeen (without (Worker i) (m0 ∷ ms))
seen_left i k m0 ms is h = subst HasSeen (sym (reader_stays i k m0 ms is)) (λ j m s.
    let b = stands_behind j k m m0 (without (Worker i) ms) is s in let t = from_without (Worker i) ms b.0 m b.1 in
    h j m (suc t.0.0, t.0.1, b.2))

pub workers_left : (i k : ℕ) (m0 : Member) (ms : List Member) → m0.who ≡ Reader k → NoneIsReader ms
    → NoneIsReader (behind (without (Worker i) (m0 ∷ ms)))
workers_left i k m0 ms is all = subst (λ (l : List Member). NoneIsReader (behind l)) (sym (reader_stays i k m0 ms is))
    (λ p r m e. let t = from_without (Worker i) ms p m e in all t.0.0 r m t.0.1)

-- the same, of a seat that scanned
pub scanned_seen : (k : ℕ) (ms ms' : List Member) → 0 < length ms → (first_of ms).who ≡ Reader k
    → ms' ≡ with_scan (scan_of ms') ms → SeesMore (scan_of ms).seen (scan_of ms').seen → HasSeen ms → HasSeen ms'
scanned_seen k [] ms' lt is e more h = absurd (omega (arith, lt))
scanned_seen k (m0 ∷ ms) ms' lt is e more h = subst HasSeen (sym e) (seen_scanned k (scan_of ms') m0 ms is more h)

pub scanned_member : (c : ScanLog) (ms ms' : List Member) → 0 < length ms → ms' ≡ with_scan c ms → HasMember ms'
scanned_member c [] ms' lt e = absurd (omega (arith, lt))
scanned_member c (m0 ∷ ms) ms' lt e = (record m0 { scan = c }, ms, e)

pub scanned_workers : (c : ScanLog) (ms ms' : List Member) → ms' ≡ with_scan c ms → NoneIsReader (behind ms)
    → NoneIsReader (behind ms')
scanned_workers c [] ms' e all = subst (λ (l : List Member). NoneIsReader (behind l)) (sym e) all
scanned_workers c (m0 ∷ ms) ms' e all = subst (λ (l : List Member). NoneIsReader (behind l)) (sym e) all

-- what a reader's type says of its members: it is reader k, it scans no more, and behind it are workers, of whom it has seen all
abbrev pub IsLed : (k : ℕ) → List RememberedRow → List Member → Type 0
IsLed k gs ms = (0 < length ms) × ((first_of ms).who ≡ Reader k) × IsIdle (scan_of ms) gs × NoneIsReader (behind ms) × HasSeen ms

pub led_joined : (k : ℕ) (gs : List RememberedRow) (ms ws ms' : List Member) → ms' ≡ met (ms ++ ws) → IsWorkerAlone ws
    → IsLed k gs ms → IsLed k gs ms'
led_joined k gs [] ws ms' e alone (lt, is, idle, all, seen) = absurd (omega (arith, lt))
led_joined k gs (m0 ∷ ms) ws ms' e alone (lt, is, idle, all, seen) =
    subst (IsLed k gs) (sym e) (
      omega arith,
      is,
      record { remembered = idle.remembered; rest = idle.rest },
      workers_joined k m0 ms is ws alone all,
      seen_joined k m0 ms is ws alone seen,
    )

pub led_left : (i k : ℕ) (gs : List RememberedRow) (ms ms' : List Member) → ms' ≡ without (Worker i) ms → IsLed k gs ms
    → IsLed k gs ms'
led_left i k gs [] ms' e (lt, is, idle, all, seen) = absurd (omega (arith, lt))
led_left i k gs (m0 ∷ ms) ms' e (lt, is, idle, all, seen) =
    let stays = reader_stays i k m0 ms is in
    subst (IsLed k gs) (sym e) (
      subst (λ (l : List Member). 0 < length l) (sym stays) (omega arith),
      subst (λ (l : List Member). (first_of l).who ≡ Reader k) (sym stays) is,
      subst (λ (l : List Member). IsIdle (scan_of l) gs) (sym stays) idle,
      workers_left i k m0 ms is all,
      seen_left i k m0 ms is seen,
    )

-- who has met a reader has seen what the reader had seen
pub sees_reader : (k : ℕ) (ms ws : List Member) (seen : List ℕ) → 0 < length ms → (first_of ms).who ≡ Reader k
    → Below (scan_of ms).seen (upper seen (greatest (ms ++ ws)))
sees_reader k [] ws seen lt is i x y e h = absurd (omega (arith, lt))
sees_reader k (m0 ∷ ms) ws seen lt is i x y e h =
    let own : reach m0 ≡ m0.scan.seen = ap (λ (w : Who). raised_by w (length m0.work.made) m0.scan.seen) is in
    let g = greatest ((m0 ∷ ms) ++ ws) in
    let up = sees_then m0.scan.seen g (upper seen g)
    (subst (λ (u : List ℕ). SeesMore u g) own (reaches ((m0 ∷ ms) ++ ws) 0 m0 refl)) (sees_right seen g) i x e in
    let same = some-injective up.0 y (sym up.1 ∙ h) in let le = up.2 in omega (arith, same, le)

-- a reader has seen the same where a worker leaves
pub sees_still : (i k : ℕ) (ms : List Member) → 0 < length ms → (first_of ms).who ≡ Reader k
    → scan_of (without (Worker i) ms) ≡ scan_of ms
sees_still i k [] lt is = absurd (omega (arith, lt))
sees_still i k (m0 ∷ ms) lt is = ap scan_of (reader_stays i k m0 ms is)

-- a scan leaves those behind the reader
pub behind_scanned : (c : ScanLog) (ms ms' : List Member) → ms' ≡ with_scan c ms → behind ms ≡ [] → behind ms' ≡ []
behind_scanned c [] ms' e alone = ap behind e
behind_scanned c (m0 ∷ ms) ms' e alone = ap behind e ∙ alone

-- a joining changes of the reader's scans what it has seen alone
pub seen_met : (ms ws ms' : List Member) → 0 < length ms → ms' ≡ met (ms ++ ws) → HasSeenMore (scan_of ms) (scan_of ms')
seen_met [] ws ms' lt joins = absurd (omega (arith, lt))
seen_met (m ∷ ms) ws ms' lt joins = subst (λ (l : List Member). HasSeenMore m.scan (scan_of l)) (sym joins)
    (record { only = refl; more = sees_upper m.scan.seen (greatest ((m ∷ ms) ++ ws)) })

-- who stands where a worker left stood there before, and is another one
pub stood_before : (i j : ℕ) (m : Member) (ms ms' : List Member) → ms' ≡ without (Worker j) ms → IsWorkerAmong i m ms'
    → IsWorkerAmong i m ms × (i ≢ j)
stood_before i j m ms ms' left (p, e, is) =
    let t = from_without (Worker j) ms p m (ap (λ (l : List Member). get_elem? l p) (sym left) ∙ e) in
    ((t.0.0, t.0.1, is), λ same. true≢false (sym (ap (λ (w : Who). same_who (Worker j) w) is ∙ eq-eqb j i (sym same)) ∙ t.1))

-- where nobody stands behind a reader, nobody does after one worker has met it
none_left : (i : ℕ) (f : Member → Member) (rest : List Member) (m : Member) → rest ≡ [] → (f m).who ≡ Worker i
    → without (Worker i) (map f (rest ++ m ∷ [])) ≡ []
none_left i f [] m e is = ap (λ (w : Who). cond (same_who (Worker i) w) [] (f m ∷ [])) is
    ∙ ap (λ (b : Bool). cond b [] (f m ∷ [])) (eq-eqb i i refl)
none_left i f (x ∷ rest) m e is = absurd (let h = ap (λ (l : List Member). length l) e in omega (arith, h))

pub alone_met : (i k : ℕ) (ms : List Member) (m : Member) → 0 < length ms → (first_of ms).who ≡ Reader k → m.who ≡ Worker i
    → behind ms ≡ [] → behind (without (Worker i) (met (ms ++ m ∷ []))) ≡ []
alone_met i k [] m lt first is alone = absurd (omega (arith, lt))
alone_met i k (m0 ∷ rest) m lt first is alone =
    let f = raised (greatest ((m0 ∷ rest) ++ m ∷ [])) in
    ap behind (reader_stays i k (f m0) (map f (rest ++ m ∷ [])) first) ∙ none_left i f rest m alone is
