-- What a source records: a scan's answer is whole, and not below the one before it.
use Rattle.std.proofs.Common.{◌≡◌, ℕ, zero, suc, ◌+◌, ◌<◌, ◌≤◌, max, List, [], ◌∷◌, ◌++◌, length, take, slice_index, sym, refl}
use Rattle.std.proofs.Common.{ap, subst, ◌∙◌, arith, inl, inr}
use Rattle.std.specs.Prelude.{Option, Some, None, Result, Ok, Err, OnOk, IfErr}
use mathlib.Core.Option.{some, some-injective, some-ne-none}
use Rattle.std.proofs.lemmas.Bool.{cases_lt}
use Rattle.std.proofs.lemmas.Option.{none-some}
use lib.ListN.{get_elem?}
use Rattle.std.specs.Option.{ForSome}
use Rattle.ledger_core.specs.declared.op.Op.{Op}
use Rattle.ledger_core.specs.Ops.{width, sum_ops}
use Rattle.ledger_core.specs.Row.{Accepts, Adds}
use Rattle.register_rule.specs.declared.view.Answer.{Answer}
use Rattle.register_rule.specs.declared.view.PublishEntry.{PublishEntry}
use Rattle.register_rule.specs.declared.view.Member.{Member}
use Rattle.register_rule.specs.declared.view.ScanLog.{ScanLog}
use Rattle.register_rule.specs.History.{Below}
use Rattle.register_rule.specs.Seats.{HasMember}
use Rattle.register_rule.specs.ScanSteps.{upper}
use Rattle.register_rule.specs.Sums.{word_after, vector_total}
use Rattle.register_rule.specs.Told.{AreRuled}
use Rattle.register_rule.proofs.Words.{at_below, read_at}
use Rattle.snapshot_scan.specs.Shape.{scan_of}
use Rattle.snapshot_scan.specs.Moments.{AreMoments}
use Rattle.snapshot_scan.specs.Scanned.{IsAnswered}
use Rattle.snapshot_scan.specs.Contention.{IsContended}
use Rattle.snapshot_scan.specs.declared.contended.Contended.{Contended}
use Rattle.snapshot_scan.specs.Sources.{NothingFalls, Records}
use Rattle.register_rule.specs.Members.{newest}
use Rattle.snapshot_scan.proofs.LastAnswer.{sits, is_first, all_recorded, records, last_failed}
use Rattle.snapshot_scan.proofs.Totals.{numbers_long, sum_at, totals_legal}
use Rattle.snapshot_scan.proofs.Words.{front_at}

abbrev entry_or : Answer → Option Answer → Answer
entry_or a None = a
entry_or a (Some b) = b

Some-injective : (a b : Answer) → Some a ≡ Some b → a ≡ b
Some-injective a b e = ap (entry_or a) e

-- the last one of some stands at the end
pub newest_at : (l : List Answer) (a : Answer) → newest l ≡ Some a → (q : ℕ) × (get_elem? l q ≡ some a)
newest_at [] a e = absurd (none-some a e)
newest_at (x ∷ []) a e = (0, ap some (Some-injective x a e))
newest_at (x ∷ y ∷ l) a e = let h = newest_at (y ∷ l) a e in (suc h.0, h.1)

pub newest_last : (l : List Answer) (a : Answer) → newest (l ++ a ∷ []) ≡ Some a
newest_last [] a = refl
newest_last (x ∷ []) a = refl
newest_last (x ∷ y ∷ l) a = newest_last (y ∷ l) a

elem_at : (l : List ℕ) (i : ℕ) → i < length l → (x : ℕ) × (get_elem? l i ≡ some x)
elem_at [] i lt = absurd (omega (arith, lt))
elem_at (x ∷ l) zero lt = (x, refl)
elem_at (x ∷ l) (suc i) lt = elem_at l i (omega (arith, lt))

-- where u is not above v, the greater of the two is v
upper_above : (u v : List ℕ) (i z y : ℕ) → Below u v → get_elem? (upper u v) i ≡ some z → get_elem? v i ≡ some y → z ≤ y
upper_above [] v i z y below e f = let h : z ≡ y = some-injective z y (sym e ∙ f) in omega (arith, h)
upper_above (x ∷ u) [] i z y below e f = absurd (some-ne-none y (sym f))
upper_above (x ∷ u) (t ∷ v) zero z y below e f =
    let a : max x t ≡ z = some-injective (max x t) z e in
    let b : t ≡ y = some-injective t y f in
    let le : x ≤ t = below 0 x t refl refl in
    omega (arith, a, b, le)
upper_above (x ∷ u) (t ∷ v) (suc i) z y below e f = upper_above u v i z y (λ j p q d d'. below (suc j) p q d d') e f

-- the first publishes of a worker add no more than some more of them
total_front : (adds : List Op → ℕ → ℕ) (xs : List PublishEntry) (s t k : ℕ) → s ≤ t
    → word_after adds (take s xs) k ≤ word_after adds (take t xs) k
total_front adds xs zero t k le = omega arith
total_front adds xs (suc s) zero k le = absurd (omega (arith, le))
total_front adds [] (suc s) (suc t) k le = omega arith
total_front adds (x ∷ xs) (suc s) (suc t) k le = let rest = total_front adds xs s t k (omega (arith, le)) in omega (arith, rest)

sum_front : (adds : List Op → ℕ → ℕ) (made : ℕ → List PublishEntry) (i : ℕ) (u v : List ℕ) (k : ℕ) → length u ≡ length v
    → ((j : ℕ) → slice_index u j ≤ slice_index v j) → vector_total adds made i u k ≤ vector_total adds made i v k
sum_front adds made i [] [] k e le = omega arith
sum_front adds made i [] (t ∷ v) k e le = absurd (omega (arith, e))
sum_front adds made i (s ∷ u) [] k e le = absurd (omega (arith, e))
sum_front adds made i (s ∷ u) (t ∷ v) k e le =
    let here = total_front adds (made i) s t k (le 0) in
    let rest = sum_front adds made (suc i) u v k (omega (arith, e)) (λ j. le (suc j)) in
    omega (arith, here, rest)

beyond : (l : List ℕ) (i : ℕ) → length l ≤ i → slice_index l i ≡ 0
beyond [] i le = refl
beyond (x ∷ l) zero le = absurd (omega (arith, le))
beyond (x ∷ l) (suc i) le = beyond l i (omega (arith, le))

module _ (n c h g : ℕ) (few : n ≤ 32) (ms : List Member) (ruled : AreRuled n (width c h g) (sum_ops c h) (Accepts c h g) ms)
    (t : HasMember ms)
    (before : ScanLog) (a : Answer) (answered : IsAnswered n before (scan_of ms) a) where
  own : get_elem? ms 0 ≡ some t.0
  own = sits n c h g few ms ruled t before a answered

  all : t.0.scan.recorded ≡ before.recorded ++ a ∷ []
  all = all_recorded n c h g few ms ruled t before a answered

  here : get_elem? t.0.scan.recorded (length before.recorded) ≡ some a
  here = records n c h g few ms ruled t before a answered

  a_long : length a.vector ≡ n
  a_long = numbers_long n c h g few ms ruled 0 (length before.recorded) t.0 a own here

  module _ (b : Answer) (q : ℕ) (there : get_elem? before.recorded q ≡ some b) where
    still : get_elem? t.0.scan.recorded q ≡ some b
    still = ap (λ (l : List Answer). get_elem? l q) all ∙ front_at before.recorded (a ∷ []) q b there

    b_long : length b.vector ≡ n
    b_long = numbers_long n c h g few ms ruled 0 q t.0 b own still

    number_rises : (i : ℕ) → i < n → slice_index b.vector i ≤ slice_index a.vector i
    number_rises i lt =
        let sound = ruled.scans 0 t.0 own in
        let below : Below b.vector t.0.scan.seen = (sound.recorded q b still).1 in
        let seen : t.0.scan.seen ≡ upper before.seen a.vector = ap (λ (x : ScanLog). x.seen) (sym (is_first n c h g few ms ruled t
        before a answered)) ∙ answered.seen in
        let x = elem_at b.vector i (omega (arith, b_long, lt)) in
        let y = elem_at a.vector i (omega (arith, a_long, lt)) in
        let long = sound.seen_wide in
        let z = elem_at t.0.scan.seen i (omega (arith, long, lt)) in
        let low = below i x.0 z.0 x.1 z.1 in
        let high = upper_above before.seen a.vector i z.0 y.0 answered.seen_before (ap (λ (l : List ℕ). get_elem? l i) (sym seen)
        ∙ z.1) y.1 in
        let xs = read_at b.vector i x.0 0 x.1 in
        let ys = read_at a.vector i y.0 0 y.1 in
        omega (arith, low, high, xs, ys)

    number_rises_at : (i : ℕ) → slice_index b.vector i ≤ slice_index a.vector i
    number_rises_at i = elim (cases_lt i n) [
      | inl lt ↦ number_rises i lt
      | inr le ↦ let z = beyond b.vector i (omega (arith, b_long, le)) in omega (arith, z)
    ]

    -- the answer is not below it
    pub is_above : Below b.vector a.vector
    is_above i x y ex ey =
        let lt = at_below b.vector i x ex in
        let le = number_rises i (omega (arith, lt, b_long)) in
        let p = read_at b.vector i x 0 ex in
        let q = read_at a.vector i y 0 ey in
        omega (arith, le, p, q)

    total_rises : (k : ℕ) → k < width c h g → slice_index b.totals k ≤ slice_index a.totals k
    total_rises k lt =
        let x = sum_at n c h g few ms ruled 0 q t.0 b own still k lt in
        let y = sum_at n c h g few ms ruled 0 (length before.recorded) t.0 a own here k lt in
        let le = sum_front (sum_ops c h) ruled.made 0 b.vector a.vector k (b_long ∙ sym a_long) number_rises_at in
        omega (arith, x, y, le)

  pub scan_records : length a.totals ≡ width c h g → AreMoments n c h g (scan_of ms).recorded
      → Records n c h g before.recorded (scan_of ms).recorded a
  scan_records wide moments = record {
    recorded = answered.recorded;
    whole = record {
      numbers = a_long;
      totals = wide;
      legal = totals_legal n c h g few ms ruled 0 (length before.recorded) t.0 a own here;
    };
    rises = λ b e. let at = newest_at before.recorded b e in
        record { numbers = number_rises b at.0 at.1; totals = total_rises b at.0 at.1 };
    moments = moments;
  }

-- a plain source: one worker, whose row is all there is
pub plain_rises : (n c h g count count' : ℕ) (row row' : List ℕ) (ops : List Op) (entries : List Answer) → n ≡ 1
    → Adds c h row ops row' → count' ≡ count + 1
    → ForSome (newest entries) (λ a. NothingFalls n (width c h g) a (record { vector = count ∷ []; totals = row }))
    → ForSome (newest entries) (λ a. NothingFalls n (width c h g) a (record { vector = count' ∷ []; totals = row' }))
plain_rises n c h g count count' row row' ops entries one adds more below a e =
    let old = below a e in
    record {
      numbers = λ i lt. let z : i ≡ 0 = omega (arith, lt, one) in let le = old.numbers 0 (omega (arith, one)) in
          subst (λ (j : ℕ). slice_index a.vector j ≤ slice_index (count' ∷ []) j) (sym z) (omega (arith, le, more));
      totals = λ k lt. let le = old.totals k lt in let s = adds.sums k in omega (arith, le, s);
    }

pub plain_newest : (n w count : ℕ) (row : List ℕ) (entries entries' : List Answer) (a : Answer) → entries' ≡ entries ++ a ∷ []
    → a.vector ≡ count ∷ [] → a.totals ≡ row
    → ForSome (newest entries') (λ b. NothingFalls n w b (record { vector = count ∷ []; totals = row }))
plain_newest n w count row entries entries' a is vector totals b e =
    let same : a ≡ b = Some-injective a b (sym (ap newest is ∙ newest_last entries a) ∙ e) in
    subst (λ (x : Answer). NothingFalls n w x (record { vector = count ∷ []; totals = row })) same (record {
      numbers = λ i _. let h : slice_index a.vector i ≡ slice_index (count ∷ []) i =
          ap (λ (l : List ℕ). slice_index l i) vector in omega (arith, h);
      totals = λ k _. let h : slice_index a.totals k ≡ slice_index row k = ap (λ (l : List ℕ). slice_index l k) totals in
          omega (arith, h);
    })

pub has_member : (ms : List Member) → 0 < length ms → HasMember ms
has_member [] lt = absurd (omega (arith, lt))
has_member (m ∷ ms) lt = (m, ms, refl)

-- a scan's answer, told by its result
pub scan_tells : {T E : Type 0} (n c h g : ℕ) (few : n ≤ 32) (ms : List Member)
    → AreRuled n (width c h g) (sum_ops c h) (Accepts c h g) ms → HasMember ms
    → AreMoments n c h g (scan_of ms).recorded → (before : ScanLog) (a : Answer) → length a.totals ≡ width c h g
    → (answer : Result T E) → OnOk answer (IsAnswered n before (scan_of ms) a)
    → OnOk answer (Records n c h g before.recorded (scan_of ms).recorded a)
scan_tells n c h g few ms ruled t moments before a wide (Ok x) answered = scan_records n c h g few ms ruled t before a answered
    wide moments
scan_tells n c h g few ms ruled t moments before a wide (Err e) answered = tt

-- and a scan that was given up names a worker whose number rose
pub contended_rose : {T : Type 0} (n : ℕ) (before after : ScanLog) (answer : Result T Contended)
    → IfErr answer (IsContended n before after)
    → IfErr answer (λ e. (e.worker < n) × (e.first < e.last))
contended_rose n before after (Ok x) contended = tt
contended_rose n before after (Err e) contended =
    let failed = last_failed n before after contended.first contended.last contended.gave_up in
    let same : length contended.first ≡ n = ap length (sym contended.gave_up.final_first) ∙ failed.opened in
    let inside = contended.moved.inside in
    (omega (arith, same, inside), contended.moved.rose)
