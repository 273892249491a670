-- Where a scan was given up, some worker is the least whose number rose in the last try.
use Rattle.std.proofs.Common.{◌≡◌, ℕ, zero, suc, ◌<◌, ◌≤◌, List, [], ◌∷◌, length, slice_index, sym, refl, ap, ◌∙◌, arith}
use mathlib.Core.Logic.{dite}
use native.Mathlib.Decide.{dec_lt}
use Rattle.register_rule.specs.declared.view.ScanLog.{ScanLog}
use Rattle.snapshot_scan.specs.declared.contended.Contended.{Contended}
use Rattle.snapshot_scan.specs.Scanned.{IsGivenUp}
use Rattle.snapshot_scan.specs.Contention.{IsFirstMoved}
use Rattle.snapshot_scan.proofs.LastAnswer.{last_failed}

least : (first last : List ℕ) → length first ≡ length last
    → ((q : ℕ) → q < length first → slice_index first q ≤ slice_index last q)
    → (q : ℕ) → q < length first → slice_index first q < slice_index last q → (e : Contended) × IsFirstMoved first last e
least [] last same risen q lt rose = absurd (omega (arith, lt))
least (x ∷ first) [] same risen q lt rose = absurd (omega (arith, same))
least (x ∷ first) (y ∷ last) same risen zero lt rose = (
  record { worker = 0; first = x; last = y },
  record { inside = omega arith; first_is = refl; last_is = refl; rose = rose; least = λ k h. absurd (omega (arith, h)) },
)
least (x ∷ first) (y ∷ last) same risen (suc q) lt rose = dite (dec_lt x y)
    (λ up. (
      record { worker = 0; first = x; last = y },
      record { inside = omega arith; first_is = refl; last_is = refl; rose = up; least = λ k h. absurd (omega (arith, h)) },
    ))
    (λ not_up. let even : x ≡ y = (let h = risen 0 (omega arith) in omega (arith, h, not_up)) in
    let t = least first last (omega (arith, same)) (λ k h. risen (suc k) (omega (arith, h))) q (omega (arith, lt)) rose in
    more even t.0 t.1)
  where
    more : x ≡ y → (e : Contended) → IsFirstMoved first last e → (e' : Contended) × IsFirstMoved (x ∷ first) (y ∷ last) e'
    more even e is = (
      record { worker = suc e.worker; first = e.first; last = e.last },
      record {
        inside = let h = is.inside in omega (arith, h);
        first_is = is.first_is;
        last_is = is.last_is;
        rose = is.rose;
        least = λ k h. at_place even e is k h;
      },
    )
      where
        at_place : x ≡ y → (e : Contended) → IsFirstMoved first last e → (k : ℕ) → k < suc e.worker
            → slice_index (x ∷ first) k ≡ slice_index (y ∷ last) k
        at_place even e is zero h = even
        at_place even e is (suc k) h = is.least k (omega (arith, h))

pub first_moved : (n : ℕ) (c c' : ScanLog) (first last : List ℕ) → IsGivenUp n c c' first last → (e : Contended)
    × IsFirstMoved first last e
first_moved n c c' first last up =
    let t = last_failed n c c' first last up in let long = t.opened in let deep = t.found in
    let f = up.final_first in let l = up.final_last in
    let k : length first ≡ n = ap (λ (x : List ℕ). length x) (sym f) ∙ long in
    let k' : length last ≡ n = ap (λ (x : List ℕ). length x) (sym l) ∙ deep in
    let at : (q : ℕ) → slice_index up.final.first q ≡ slice_index first q = λ q. ap (λ (x : List ℕ). slice_index x q) f in
    let at' : (q : ℕ) → slice_index up.final.second q ≡ slice_index last q = λ q. ap (λ (x : List ℕ). slice_index x q) l in
    let rose = t.rose in
    least first last (k ∙ sym k') (λ q lt. let a = at q in let b = at' q in let r = t.risen q (omega (arith, lt, k)) in
    omega (arith, a, b, r)) rose.0
    (let h = rose.1 in omega (arith, h, k)) (let a = at rose.0 in let b = at' rose.0 in let h = rose.2 in omega (arith, a, b, h))
