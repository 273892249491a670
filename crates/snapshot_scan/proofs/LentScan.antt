-- A scan of a reader to which workers are lent: their numbers are in its answer, and it is not given up where all are lent.
use Rattle.std.proofs.Common.{◌≡◌, ℕ, suc, ◌+◌, ◌<◌, List, [], ◌∷◌, ◌++◌, Result, Ok, Err, OnOk, IfErr, IsOk, length, get_or, sym}
use Rattle.std.proofs.Common.{refl, ap, ◌∙◌, subst, arith, append_assoc}
use mathlib.Core.Option.{some}
use lib.ListN.{get_elem?}
use Rattle.ledger_core.specs.declared.op.Op.{Op}
use Rattle.register_rule.specs.declared.view.Answer.{Answer}
use Rattle.register_rule.specs.declared.view.Member.{Member}
use Rattle.register_rule.specs.declared.view.ScanLog.{ScanLog}
use Rattle.register_rule.specs.declared.view.Who.TheVariants.{Reader}
use Rattle.register_rule.specs.Members.{first_of}
use Rattle.register_rule.specs.SoundScans.{IsSound}
use Rattle.register_rule.specs.Told.{AreRuled}
use Rattle.register_rule.proofs.Moments.{length_tab}
use Rattle.register_rule.proofs.Words.{there}
use Rattle.snapshot_scan.specs.declared.contended.Contended.{Contended}
use Rattle.snapshot_scan.specs.Contention.{IsContended}
use Rattle.snapshot_scan.specs.Lent.{IsWorkerAmong, AllWorkersAmong, HasNumbers, HasSeen, SeesMore}
use Rattle.snapshot_scan.specs.RememberedRows.{pairs}
use Rattle.snapshot_scan.specs.Scanned.{Tried, all_confirmed, IsAnswered, IsGivenUp}
use Rattle.snapshot_scan.specs.Shape.{scan_of, with_scan}
use Rattle.snapshot_scan.proofs.LastAnswer.{at_end, last_failed}
use Rattle.snapshot_scan.proofs.Standing.{sees_same, sees_upper, stands_behind}
use Rattle.snapshot_scan.proofs.Words.{front_at}
use Rattle.snapshot_scan.proofs.Trying.{confirmed_snoc, loads_at}

-- a scan forgets nothing that was seen
pub sees_on : {T : Type 0} (n : ℕ) (c c' : ScanLog) (a : Answer) (r : Result T Contended) → OnOk r (IsAnswered n c c' a)
    → IfErr r (IsContended n c c') → SeesMore c.seen c'.seen
sees_on n c c' a (Ok x) ok err = subst (SeesMore c.seen) (sym ok.seen) (sees_upper c.seen a.vector)
sees_on n c c' a (Err e) ok err = subst (SeesMore c.seen) (sym err.gave_up.seen) (sees_same c.seen)

module _ (n w k : ℕ) (adds : List Op → ℕ → ℕ) (accepts : (ℕ → ℕ) → List Op
    → Type 0) (m0 : Member) (ms : List Member) (c' : ScanLog)
    (is : m0.who ≡ Reader k)
    (seen : HasSeen (m0 ∷ ms)) (ruled : AreRuled n w adds accepts (with_scan c' (m0 ∷ ms))) where
  sound : IsSound n w adds ruled.made ruled.history c'
  sound = ruled.scans 0 (record m0 { scan = c' }) refl

  -- how often a worker that is lent has published
  lent_made : (i : ℕ) (m : Member) → IsWorkerAmong i m (m0 ∷ ms) → (i < n) × (length m.work.made ≡ length (ruled.made i))
  lent_made i m s = let b = stands_behind i k m m0 ms is s in let o = ruled.workers (suc b.0) i m b.1 b.2 in
      (o.0, ap (λ (l : List _). length l) o.1)

  pub numbers_lent : (a : Answer) → IsAnswered n m0.scan c' a → HasNumbers (m0 ∷ ms) a.vector
  numbers_lent a done i m s =
      let l = lent_made i m s in let inside = l.0 in let made = l.1 in
      let entry = (sound.recorded (length m0.scan.recorded) a
      (ap (λ (z : List Answer). get_elem? z (length m0.scan.recorded)) done.recorded ∙ at_end m0.scan.recorded a)).0 in
      let wide : length a.vector ≡ n = ap (λ (z : List ℕ). length z) entry.moment.2 ∙ length_tab 0 n _ in
      let here = there a.vector i 0 (omega (arith, wide, inside)) in
      let low = entry.low i (get_or a.vector i 0) here in
      let h = seen i m s in let old = there m0.scan.seen i 0 h.0 in
      let high = done.seen_before i (get_or m0.scan.seen i 0) (get_or a.vector i 0) old here in let reached = h.1 in
      let same : get_or a.vector i 0 ≡ length m.work.made = omega (arith, low, high, reached, made) in
      here ∙ ap some same

  not_given_up : (first last : List ℕ) → IsGivenUp n m0.scan c' first last → AllWorkersAmong n (m0 ∷ ms) → ⊥
  not_given_up first last up all =
      let t = last_failed n m0.scan c' first last up in let q = t.rose.0 in let lt = t.rose.1 in let rose = t.rose.2 in
      let m = (all q lt).0 in let s = (all q lt).1 in let l = lent_made q m s in let made = l.1 in
      let wide = t.opened in let deep = t.found in
      let before = up.ends.0 in
      let loads : c'.confirmed ≡ (m0.scan.confirmed ++ all_confirmed before) ++ pairs 0 up.final.second =
      up.confirmed ∙ (ap (λ (z : List Tried). m0.scan.confirmed ++ all_confirmed z) up.ends.1
      ∙ (ap (λ z. m0.scan.confirmed ++ z) (confirmed_snoc before up.final)
      ∙ sym (append_assoc m0.scan.confirmed (all_confirmed before) (pairs 0 up.final.second)))) in
      let found = there up.final.second q 0 (omega (arith, deep, lt)) in
      let load = sound.confirmed (length (m0.scan.confirmed ++ all_confirmed before) + q) (q, get_or up.final.second q 0)
      (ap (λ z. get_elem? z (length (m0.scan.confirmed ++ all_confirmed before) + q)) loads
      ∙ loads_at (m0.scan.confirmed ++ all_confirmed before) up.final.second [] q (get_or up.final.second q 0) found) in
      let low = load.1 in
      let h = seen q m s in let old = there m0.scan.seen q 0 h.0 in let reached = h.1 in
      let opened = there up.final.first q 0 (omega (arith, wide, lt)) in
      let at : get_elem? up.tries (length before) ≡ some up.final = ap (λ (z : List Tried). get_elem? z (length before)) up.ends.1
      ∙ at_end before up.final in
      let high = up.above (length before) up.final at q (get_or m0.scan.seen q 0) (get_or up.final.first q 0) old opened in
      omega (arith, low, high, reached, made, rose)

  pub all_lent : {T : Type 0} (r : Result T Contended) → IfErr r (IsContended n m0.scan c') → AllWorkersAmong n (m0 ∷ ms) → IsOk r
  all_lent (Ok x) err all = refl
  all_lent (Err e) err all = absurd (not_given_up err.first err.last err.gave_up all)

-- the same, of a seat that scanned
module _ {T : Type 0} (n w k : ℕ) (adds : List Op → ℕ → ℕ) (accepts : (ℕ → ℕ) → List Op → Type 0) (ms' : List Member)
    (ruled : AreRuled n w adds accepts ms') where
  pub lent_numbers : (ms : List Member) → 0 < length ms → (first_of ms).who ≡ Reader k → HasSeen ms
      → ms' ≡ with_scan (scan_of ms') ms
      → (a : Answer) (r : Result T Contended) → OnOk r (IsAnswered n (scan_of ms) (scan_of ms') a)
      → OnOk r (HasNumbers ms a.vector)
  lent_numbers [] lt is seen e a r done = absurd (omega (arith, lt))
  lent_numbers (m0 ∷ ms) lt is seen e a (Ok x) done = numbers_lent n w k adds accepts m0 ms (scan_of ms') is seen
      (subst (AreRuled n w adds accepts) e ruled) a done
  lent_numbers (m0 ∷ ms) lt is seen e a (Err x) done = tt

  pub gathers : (ms : List Member) → 0 < length ms → (first_of ms).who ≡ Reader k → HasSeen ms → ms' ≡ with_scan (scan_of ms') ms
      → (r : Result T Contended) → IfErr r (IsContended n (scan_of ms) (scan_of ms')) → AllWorkersAmong n ms → IsOk r
  gathers [] lt is seen e r err all = absurd (omega (arith, lt))
  gathers (m0 ∷ ms) lt is seen e r err all = all_lent n w k adds accepts m0 ms (scan_of ms') is seen
      (subst (AreRuled n w adds accepts) e ruled) r err all

-- what was recorded last is recorded
pub found_last : {T : Type 0} (n : ℕ) (c c' : ScanLog) (a : Answer) (r : Result T Contended) → OnOk r (IsAnswered n c c' a)
    → OnOk r ((q : ℕ) × (get_elem? c'.recorded q ≡ some a))
found_last n c c' a (Ok x) done = (
  length c.recorded,
  ap (λ (l : List Answer). get_elem? l (length c.recorded)) done.recorded
      ∙ at_end c.recorded a,
)
found_last n c c' a (Err e) done = tt

-- and what was recorded before is recorded still
pub found_still : {T : Type 0} (n : ℕ) (c c' : ScanLog) (b : Answer) (r : Result T Contended) → OnOk r (IsAnswered n c c' b)
    → IfErr r (IsContended n c c')
    → (a : Answer) → ((q : ℕ) × (get_elem? c.recorded q ≡ some a)) → (q : ℕ) × (get_elem? c'.recorded q ≡ some a)
found_still n c c' b (Ok x) ok err a (q, at) =
    (q, ap (λ (l : List Answer). get_elem? l q) ok.recorded ∙ front_at c.recorded (b ∷ []) q a at)
found_still n c c' b (Err e) ok err a (q, at) = (q, ap (λ (l : List Answer). get_elem? l q) err.gave_up.recorded ∙ at)
