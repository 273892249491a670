-- A snapshot of all workers: its vector, and its totals.
use Rattle.std.proofs.Common.{◌≡◌, ◌≢◌, ℕ, zero, suc, ◌+◌, ◌<◌, List, [], ◌∷◌, length, map, get_or, sym, refl, ap, ◌∙◌, arith}
use Rattle.std.proofs.lemmas.List.{length-map}
use mathlib.Core.Option.{some, some-injective, some-ne-none}
use lib.ListN.{get_elem?}
use Rattle.ledger_core.specs.Ops.{width, sum_ops}
use Rattle.ledger_core.specs.Row.{Accepts}
use Rattle.register_rule.specs.declared.view.Answer.{Answer}
use Rattle.register_rule.specs.declared.view.PublishEntry.{PublishEntry}
use Rattle.register_rule.specs.declared.view.Member.{Member}
use Rattle.register_rule.specs.declared.view.ScanLog.{ScanLog}
use Rattle.register_rule.specs.declared.view.Who.{Who}
use Rattle.register_rule.specs.declared.view.Who.TheVariants.{Worker as is_worker, Reader as is_reader}
use Rattle.register_rule.specs.Members.{first_of}
use Rattle.register_rule.specs.Rule.{AreApart}
use Rattle.register_rule.specs.SoundScans.{IsSound, IsOneMoment}
use Rattle.register_rule.specs.Sums.{word_after}
use Rattle.register_rule.specs.Told.{AreRuled}
use Rattle.register_rule.proofs.Moments.{length_tab}
use Rattle.snapshot_scan.specs.declared.reader.Reader.{Reader}
use Rattle.snapshot_scan.specs.Lent.{IsWorkerAmong, AllWorkersAmong, HasNumbers, behind}
use Rattle.snapshot_scan.specs.Order.{IsAlone}
use Rattle.snapshot_scan.specs.Readers.{members_with, scan_by}
use Rattle.snapshot_scan.specs.Scanned.{IsAnswered}
use Rattle.snapshot_scan.specs.Shape.{with_scan}
use Rattle.snapshot_scan.specs.Snapshots.{Taken, as_answer}
use Rattle.snapshot_scan.proofs.LastAnswer.{at_end}
use Rattle.snapshot_scan.proofs.Words.{at_map}
use Rattle.snapshot_scan.proofs.Publishing.{ops_of, whose_moments}
use Rattle.snapshot_scan.proofs.Sourced.{has_member}
use Rattle.std.proofs.Math.Logic.{∥∥₁_map}
use Rattle.snapshot_update.specs.declared.worker.Worker.{Worker}
use Rattle.snapshot_update.specs.Workers.{index_of, member_of, lists_of, ops_in}
use Rattle.snapshot_scan.proofs.Standing.{stands_scanned}
use Rattle.snapshot_update.proofs.Lending.{one_picked, apart_at, lent_scanned}
use Rattle.chain_law.specs.Lent.{AreLentFrom, IsLentFrom, AreDistinct, AreLent, IsBackFrom, AreBackFrom, HaveLeft}
use Rattle.chain_law.specs.Settled.{HasIndex, IsSettled, AreSame, AreMomentsOf, made_by}
use Rattle.register_rule.proofs.Words.{there, at_below}
use Rattle.chain_law.proofs.Sums.{sums, AreOnce, in_any_order}
use Rattle.chain_law.proofs.Totals.{all_sum, rows_sum}

-- of members that are apart one alone has each name
same_member : (i : ℕ) (a b : Member) (ms : List Member) → AreApart ms → IsWorkerAmong i a ms → IsWorkerAmong i b ms → a ≡ b
same_member i a b ms apart s t = only (sym (one_picked i a ms apart s) ∙ one_picked i b ms apart t)
  where
    only : a ∷ [] ≡ b ∷ [] → a ≡ b
    only e = cc

-- lists that agree at each place
same_lists : {A B : Type 0} (f : A → B) (vs ws : List A) → length ws ≡ length vs
    → ((p : ℕ) (v w : A) → get_elem? vs p ≡ some v → get_elem? ws p ≡ some w → f w ≡ f v) → map f ws ≡ map f vs
same_lists f [] [] e each = refl
same_lists f [] (w ∷ ws) e each = absurd (omega (arith, e))
same_lists f (v ∷ vs) [] e each = absurd (omega (arith, e))
same_lists f (v ∷ vs) (w ∷ ws) e each = let a = each 0 v w refl refl in
    let later = same_lists f vs ws (omega (arith, e)) (λ p x y at now. each (suc p) x y at now) in λ z. a z ∷ later z

-- who stands behind the reader stands there still after a scan
scanned_at : (ms ms' : List Member) (c : ScanLog) (p : ℕ) (m : Member) → 0 < p → ms' ≡ with_scan c ms → get_elem? ms p ≡ some m
    → get_elem? ms' p ≡ some m
scanned_at [] ms' c p m lt e at = absurd (some-ne-none m (sym at))
scanned_at (x ∷ ms) ms' c zero m lt e at = absurd (omega (arith, lt))
scanned_at (x ∷ ms) ms' c (suc p) m lt e at = ap (λ (l : List Member). get_elem? l (suc p)) e ∙ at

behind_at : (ms : List Member) (p : ℕ) (m : Member) → get_elem? (behind ms) p ≡ some m → get_elem? ms (suc p) ≡ some m
behind_at [] p m e = absurd (some-ne-none m (sym e))
behind_at (x ∷ ms) p m e = e

first_at : (ms : List Member) → 0 < length ms → get_elem? ms 0 ≡ some (first_of ms)
first_at [] lt = absurd (omega (arith, lt))
first_at (m ∷ ms) lt = refl

from_map : {A B : Type 0} (f : A → B) (l : List A) (p : ℕ) (y : B) → get_elem? (map f l) p ≡ some y → (x : A)
    × (get_elem? l p ≡ some x) × (f x ≡ y)
from_map f [] p y e = absurd (some-ne-none y (sym e))
from_map f (x ∷ l) zero y e = (x, refl, some-injective (f x) y e)
from_map f (x ∷ l) (suc p) y e = from_map f l p y e

once_from : (l : List ℕ) → ((p q x y : ℕ) → p < q → get_elem? l p ≡ some x → get_elem? l q ≡ some y → x ≢ y) → AreOnce l
once_from [] differ = tt
once_from (x ∷ l) differ = (
  (λ h. differ 0 (suc h.0) x x (omega arith) refl h.1 refl),
  once_from l (λ p q a b lt e h. differ (suc p) (suc q) a b (omega (arith, lt)) e h),
)

module _ {N C H G : ℕ} (place : ℕ) (vs ws us : List (Worker N C H G)) (r1 r2 : Reader N C H G) (long : length ws ≡ length vs)
    (lent : AreLentFrom place (length vs) vs ws r1)
    (scans : members_with r2 ≡ with_scan (scan_by r2) (members_with r1))
    (ruled : AreRuled N (width C H G) (sum_ops C H) (Accepts C H G) (members_with r2)) where
  -- the worker at a place of the slice, as it was and as it is
  pair : (p : ℕ) (w : Worker N C H G) → get_elem? ws p ≡ some w → (v : Worker N C H G) × (get_elem? vs p ≡ some v)
      × IsLentFrom (place + p) v w r1
  pair p w now = let lt = at_below ws p w now in let v = get_or vs p w in let at = there vs p w (omega (arith, lt, long)) in
      (v, at, lent p v w (omega (arith, lt, long)) at now)

  abbrev stands : (p : ℕ) (v w : Worker N C H G) → IsLentFrom (place + p) v w r1 → (m : Member)
      × IsWorkerAmong (index_of w) m (members_with r2)
  stands p v w l = (
    l.member,
    stands_scanned (index_of w) r1.index (scan_by r2) l.member (members_with r1) (members_with r2) r1.is
        scans l.lent.there,
  )

  pub still_lent : AreLent 0 ws r2
  still_lent p w _ now = let t = pair p w now in (t.2.member, lent_scanned w r1 r2 t.2.member t.2.lent (scan_by r2) scans)

  pub all_stand : ((i : ℕ) → i < N → HasIndex vs i) → AllWorkersAmong N (members_with r1)
  all_stand all i lt = let (p, v, at, e) = all i lt in
      let w = get_or ws p v in let h = at_below vs p v at in let now = there ws p v (omega (arith, h, long)) in
      let l = lent p v w h at now in (l.member, (l.lent.there.0, l.lent.there.1, l.lent.there.2 ∙ ap is_worker (l.index ∙ e)))

  module _ (some_place : 0 < place) where
    -- the member behind the reader that stands at a place, after the scan
    at_place : (p : ℕ) (v w : Worker N C H G) (l : IsLentFrom (place + p) v w r1)
        → get_elem? (members_with r2) (place + p) ≡ some l.member
    at_place p v w l = scanned_at (members_with r1) (members_with r2) (scan_by r2) (place + p) l.member
        (omega (arith, some_place)) scans l.at

    pub are_distinct : AreDistinct ws
    are_distinct p q x y lt e h same =
        let a = pair p x e in let b = pair q y h in
        apart_at (members_with r2) (place + p) (place + q) a.2.member b.2.member ruled.apart (omega (arith, lt))
        (at_place p a.0 x a.2) (at_place q b.0 y b.2)
        (b.2.lent.there.2 ∙ (ap is_worker (sym same) ∙ sym a.2.lent.there.2))

    -- all that the rule says of one of them
    owned : (p : ℕ) (v w : Worker N C H G) (l : IsLentFrom (place + p) v w r1) → (index_of w < N)
        × (l.member.work.made ≡ ruled.made (index_of w))
    owned p v w l = let o = ruled.workers (place + p) (index_of w) l.member (at_place p v w l) l.lent.there.2 in (o.0, o.1)

    module _ (back : AreBackFrom (length ws) ws us r2) (many : length us ≡ length ws) where
      pub are_same : AreSame vs us
      are_same = record {
        index = same_lists index_of vs us (many ∙ long) (λ p v u at now. let t = three p v u at now in t.2.1.index ∙ t.2.0.index);
        lists = same_lists lists_of vs us (many ∙ long) (λ p v u at now. let t = three p v u at now in
            let is : member_of u ≡ t.2.0.member = same_member (index_of t.0) (member_of u) t.2.0.member
            (members_with r2) ruled.apart t.2.1.stood (stands p v t.0 t.2.0).1 in
            ap (λ (m : Member). map ops_in m.work.made) is ∙ ap (map ops_in) t.2.0.made);
        made = same_lists made_by vs us (many ∙ long) (λ p v u at now. let t = three p v u at now in
            let is : member_of u ≡ t.2.0.member = same_member (index_of t.0) (member_of u) t.2.0.member
            (members_with r2) ruled.apart t.2.1.stood (stands p v t.0 t.2.0).1 in
            ap (λ (m : Member). m.work.made) is ∙ t.2.0.made);
      }
        where
          three : (p : ℕ) (v u : Worker N C H G) → get_elem? vs p ≡ some v → get_elem? us p ≡ some u → (w : Worker N C H G)
              × (get_elem? ws p ≡ some w) × (IsLentFrom (place + p) v w r1 × IsBackFrom w u r2)
          three p v u at now = let h = at_below vs p v at in let w = get_or ws p v in
              let e = there ws p v (omega (arith, h, long)) in
              (w, e, (lent p v w h at e, back p w u (omega (arith, h, long)) e now))

    -- and where all of them have left the reader, nobody is behind it
    pub nobody_behind : (r3 : Reader N C H G) → ((i : ℕ) → i < N → HasIndex vs i) → HaveLeft (length ws) ws r2 r3 → IsAlone r3
    nobody_behind r3 all left = go (behind (members_with r3)) refl
      where
        go : (ms : List Member) → behind (members_with r3) ≡ ms → ms ≡ []
        go [] e = refl
        go (m ∷ ms) e = of_who m.who refl
          where
            at : get_elem? (behind (members_with r3)) 0 ≡ some m
            at = ap (λ (l : List Member). get_elem? l 0) e

            of_who : (who : Who) → m.who ≡ who → m ∷ ms ≡ []
            of_who (is_reader k) is = absurd (r3.lent 0 k m at is)
            of_who (is_worker i) is =
                let t = left i m (1, behind_at (members_with r3) 0 m at, is) in
                let low = (ruled.workers t.0.0 i m t.0.1 is).0 in let (p, v, its, same) = all i low in
                let h = at_below vs p v its in let w = get_or ws p v in let now = there ws p v (omega (arith, h, long)) in
                absurd (t.1 p w (omega (arith, h, long)) now ((lent p v w h its now).index ∙ same))

    module _ (out : Taken) (answered : IsAnswered N (scan_by r1) (scan_by r2) (as_answer out))
        (numbers : HasNumbers (members_with r1) out.vector) (all : (i : ℕ) → i < N → HasIndex vs i) where
      -- the number of each of them
      number : (p : ℕ) (v : Worker N C H G) → get_elem? vs p ≡ some v
          → get_elem? out.vector (index_of v) ≡ some (length (member_of v).work.made)
      number p v at =
          let h = at_below vs p v at in let w = get_or ws p v in let e = there ws p v (omega (arith, h, long)) in
          let l = lent p v w h at e in
          ap (get_elem? out.vector) (sym l.index)
          ∙ (numbers (index_of w) l.member l.lent.there ∙ ap (λ (m : List PublishEntry). some (length m)) l.made)

      -- what the rule says that it published
      made_is : (p : ℕ) (v : Worker N C H G) → get_elem? vs p ≡ some v → (index_of v < N)
          × (ruled.made (index_of v) ≡ (member_of v).work.made)
      made_is p v at =
          let h = at_below vs p v at in let w = get_or ws p v in let e = there ws p v (omega (arith, h, long)) in
          let l = lent p v w h at e in
          let o = owned p v w l in let low = o.0 in let i = l.index in
          (omega (arith, low, i), ap ruled.made (sym l.index) ∙ (sym o.1 ∙ l.made))

      -- all that the reader recorded are moments of the history of what they published
      pub moments_of : AreMomentsOf vs (scan_by r2).recorded
      moments_of = ∥∥₁_map (whose_moments N C H G (let geometry = r2.memory.geometry in omega (arith, geometry))
          (members_with r2) ruled (has_member (members_with r2) r2.leads) r2.moments)
          (λ (history, accepted, along, lists). record {
            history = history;
            accepted = accepted;
            along = along;
            lists = λ p v at. let is = made_is p v at in lists (index_of v) is.0 ∙ ap (map ops_of) is.1;
          })

      sound : IsSound N (width C H G) (sum_ops C H) ruled.made ruled.history (scan_by r2)
      sound = ruled.scans 0 (first_of (members_with r2)) (first_at (members_with r2) r2.leads)

      entry : IsOneMoment N (width C H G) (sum_ops C H) ruled.made ruled.history (as_answer out)
      entry = (sound.recorded (length (scan_by r1).recorded) (as_answer out)
          (ap (λ (l : List Answer). get_elem? l (length (scan_by r1).recorded)) answered.recorded
          ∙ at_end (scan_by r1).recorded (as_answer out))).0

      wide : length out.vector ≡ N
      wide = ap (λ (z : List ℕ). length z) entry.moment.2 ∙ length_tab 0 N _

      whole : (j s : ℕ) → get_elem? out.vector j ≡ some s → s ≡ length (ruled.made (0 + j))
      whole j s at =
          let lt = at_below out.vector j s at in let (p, v, e, is) = all j (omega (arith, lt, wide)) in
          let z : index_of v ≡ 0 + j = is ∙ (let y : j ≡ 0 + j = omega arith in y) in
          some-injective s (length (member_of v).work.made) (sym at ∙ (ap (get_elem? out.vector) (sym is) ∙ number p v e))
          ∙ ap (λ (m : List PublishEntry). length m) (sym (made_is p v e).1 ∙ ap ruled.made z)

      once : AreOnce (map index_of vs)
      once = once_from (map index_of vs) (λ p q x y lt e h same.
          let a = from_map index_of vs p x e in let b = from_map index_of vs q y h in
          let i = at_below vs p a.0 a.1 in let j = at_below vs q b.0 b.1 in
          let w = get_or ws p a.0 in let u = get_or ws q b.0 in
          let ew = there ws p a.0 (omega (arith, i, long)) in let eu = there ws q b.0 (omega (arith, j, long)) in
          are_distinct p q w u lt ew eu
          ((lent p a.0 w i a.1 ew).index ∙ (a.2 ∙ (same ∙ (sym b.2 ∙ sym (lent q b.0 u j b.1 eu).index)))))

      pub is_settled : IsSettled vs out
      is_settled = record {
        vector = λ p v at. number p v at ∙ ap some (sym (length-map (member_of v).work.made ops_in));
        totals = λ k lt.
            let f = λ (x : ℕ). word_after (sum_ops C H) (ruled.made x) k in
            let e = all_sum C H k f vs (λ p v at. ap (λ (m : List PublishEntry). word_after (sum_ops C H) m k)
            (made_is p v at).1) in
            let d = in_any_order f 0 N (map index_of vs) once
            (λ x h. let t = from_map index_of vs h.0 x h.1 in let low = (made_is h.0 t.0 t.1).0 in let is = t.2 in
            (omega arith, omega (arith, low, is)))
            (λ x low high. let (p, v, at, is) = all x (omega (arith, high)) in (p, at_map index_of vs p v at ∙ ap some is)) in
            let r = rows_sum (sum_ops C H) ruled.made k 0 out.vector whole in
            entry.totals k lt ∙ ap some (r ∙ (ap (sums f 0) wide ∙ sym (e ∙ d)));
      }
