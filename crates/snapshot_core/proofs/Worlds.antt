-- What is true of the whole machine before each event.
use Rattle.std.proofs.Common.{◌≡◌, ◌≢◌, ℕ, zero, suc, ◌+◌, ◌<◌, ◌≤◌, ◌⊎◌, inl, inr, ⊎_elim, List, [], ◌∷◌, ◌++◌, length, take}
use Rattle.std.proofs.Common.{get_or, sym, refl, ap, ◌∙◌, subst, arith, Bool, Option, Some, length-set, replicate}
use Rattle.std.specs.Prelude.{slice_get}
use Rattle.std.proofs.Math.ListN.{set}
use Rattle.std.proofs.lemmas.Option.{none-some, same_Some}
use mathlib.Core.Option.{some}
use lib.ListN.{get_elem?}
use Rattle.ledger_core.specs.declared.op.Op.{Op}
use Rattle.ledger_core.proofs.Placing.{at_set}
use Rattle.snapshot_core.specs.declared.actor.Phase.{Phase}
use Rattle.snapshot_core.specs.declared.actor.Phase.TheVariants as phase
use Rattle.snapshot_core.specs.declared.next.Next.{Next}
use Rattle.snapshot_core.specs.declared.next.Next.TheVariants.{First, Second, Ask, Direct, Lent, GaveUp}
use Rattle.snapshot_core.specs.declared.scan.Scan.{Scan}
use Rattle.snapshot_core.specs.History.{Published, number_at, row_at, total_at, OneStep}
use Rattle.snapshot_core.specs.Machine.{Seg, Act, World}
use Rattle.snapshot_core.specs.Sized.{IsSized}
use Rattle.snapshot_core.specs.Tries.{View}
use Rattle.snapshot_core.specs.Turns.{Answered}
use Rattle.snapshot_core.proofs.Past.{number_grows, row_grows, total_grows, Inside, sum_ap}
use Rattle.snapshot_core.proofs.Scanning.{Firsts, Seconds, Based, NextOk, Good}
use Rattle.snapshot_core.proofs.Lending.{Below, at_publish, not_yet, number_quiet, row_quiet, in_both, only_one}

-- what stands in a list of one element several times
pub in_several : {A : Type 0} (m : ℕ) (x : A) (i : ℕ) (y : A) → slice_get (replicate m x) i ≡ Some y → x ≡ y
in_several zero x i y e = absurd (none-some y e)
in_several (suc m) x zero y e = same_Some x y e
in_several (suc m) x (suc i) y e = in_several m x i y e

abbrev pub with_actor : World → (who : ℕ) → Act → World
with_actor m who a = record m { actors = set m.actors who a }

-- what was so of the past before the event k is so still
pub record Same (adds : List Op → ℕ → ℕ) (k : ℕ) (ps qs : List Published) : Type 0 where
  pub numbers : (j i : ℕ) → j ≤ k → number_at qs j i ≡ number_at ps j i
  pub rows : (j i x : ℕ) → j ≤ k → row_at adds qs j i x ≡ row_at adds ps j i x
  pub totals : (j x : ℕ) → j ≤ k → total_at adds qs j x ≡ total_at adds ps j x

-- `adds` tells what operations add to a word, and a row has w words
module _ (adds : List Op → ℕ → ℕ) (w : ℕ) where
  -- the segment of the worker i before the event k
  pub record SegOk (n : ℕ) (ps : List Published) (k i : ℕ) (s : Seg) : Type 0 where
    pub number : s.number ≡ number_at ps k i
    pub words : length s.row ≡ w
    pub row : (x : ℕ) → x < w → get_or s.row x 0 ≡ row_at adds ps k i x
    pub small : (x : ℕ) → x < w → row_at adds ps k i x ≤ 281474976710655
    -- a view that it lends is of a turn that began before its last publish
    pub lends : (v : View) → s.view ≡ Some v → (b : ℕ) × (number_at ps b i + 1 ≡ s.number) × OneStep adds n w ps b k v

  -- an actor that scans before the event k: its last read was at `last`, and met `met`
  pub record ScanOk (n : ℕ) (ps : List Published) (k : ℕ) (a : Act) : Type 0 where
    pub last : ℕ
    pub met : Option View
    pub by : last < k
    pub after : a.begin ≤ last
    pub shape : IsSized a.scan
    pub good : Good adds w n ps a.begin last a.scan a.totals met

  abbrev pub PhaseOk : (n : ℕ) → List Published → (k i : ℕ) → Act → Phase → Type 0
  PhaseOk n ps k i a phase.Rest = Unit {0}
  PhaseOk n ps k i a phase.Scan = ScanOk n ps k a × (number_at ps a.begin i ≡ number_at ps k i)
  PhaseOk n ps k i a phase.Ready = ((v : View) → a.view ≡ Some v → OneStep adds n w ps a.begin k v) × (a.begin < k)
      × (number_at ps a.begin i ≡ number_at ps k i)

  abbrev pub ActOk : (n : ℕ) → List Published → (k i : ℕ) → Act → Type 0
  ActOk n ps k i a = (length a.totals ≡ w) × PhaseOk n ps k i a a.phase

  -- an answer: its view is the segments at one event of its turn, and its tries are few
  pub record AnswerOk (n : ℕ) (ps : List Published) (a : Answered) : Type 0 where
    pub tries : (1 ≤ a.tries) × (a.tries ≤ n + 2)
    pub order : a.begin < a.end
    pub step : (v : View) → a.view ≡ Some v → OneStep adds n w ps a.begin a.end v

  abbrev pub AllAnswers : (n : ℕ) → List Published → (k : ℕ) → List Answered → Type 0
  AllAnswers n ps k zs = (q : ℕ) (a : Answered) → get_elem? zs q ≡ some a → (a.end < k) × AnswerOk n ps a

  -- the machine of n workers before the event k
  pub record Inv (n k : ℕ) (m : World) : Type 0 where
    pub some : 1 ≤ n
    pub most : n ≤ 32
    pub inside : Inside n m.publishes
    pub count : length m.segments ≡ n
    pub people : length m.actors ≡ n + 4
    pub segment : (i : ℕ) (s : Seg) → slice_get m.segments i ≡ Some s → SegOk n m.publishes k i s
    pub actor : (i : ℕ) (a : Act) → slice_get m.actors i ≡ Some a → ActOk n m.publishes k i a
    pub answers : AllAnswers n m.publishes k m.answers

pub same_self : (adds : List Op → ℕ → ℕ) (k : ℕ) (ps : List Published) → Same adds k ps ps
same_self adds k ps = record { numbers = λ j i h. refl; rows = λ j i x h. refl; totals = λ j x h. refl }

pub same_more : (adds : List Op → ℕ → ℕ) (k : ℕ) (ps : List Published) (p : Published) → p.at ≡ k → Same adds k ps (ps ++ p ∷ [])
same_more adds k ps p e = record {
  numbers = λ j i h. number_grows ps p j i (omega arith);
  rows = λ j i x h. row_grows adds ps p j i x (omega arith);
  totals = λ j x h. total_grows adds ps p j x (omega arith);
}

-- more is published, at k or later
module _ (adds : List Op → ℕ → ℕ) (w n k : ℕ) (ps qs : List Published) (same : Same adds k ps qs) where
  pub step_grows : (b e f : ℕ) (v : View) → e ≤ k → e ≤ f → OneStep adds n w ps b e v → OneStep adds n w qs b f v
  step_grows b e f v le up s = let y = s.by in record {
    at = s.at;
    after = s.after;
    by = (let g : s.at ≤ f = omega arith in g);
    right = record {
      vector_wide = s.right.vector_wide;
      totals_wide = s.right.totals_wide;
      numbers = λ i h. s.right.numbers i h ∙ sym (same.numbers s.at i (omega arith));
      sums = λ x h. s.right.sums x h ∙ sym (same.totals s.at x (omega arith));
    };
  }

  firsts_grows : (b e p : ℕ) (o : List ℕ) (wh : List Bool) (t : List ℕ) → e ≤ k → Firsts adds w ps b e p o wh t
      → Firsts adds w qs b e p o wh t
  firsts_grows b e p o wh t le r = record {
    moment = r.moment;
    after = r.after;
    by = r.by;
    number = λ q h. r.number q h ∙ sym (same.numbers (r.moment q) q (let y = r.by q h in omega arith));
    sums = λ some all x hx. r.sums some all x hx
        ∙ sum_ap p _ _ (λ q l. sym (same.rows (r.moment q) q x (let y = r.by q l in omega arith)));
  }

  seconds_grows : (b e p : ℕ) (s : Scan) (t : List ℕ) → e ≤ k → Seconds adds w n ps b e p s t → Seconds adds w n qs b e p s t
  seconds_grows b e p s t le r = let y = r.by in
      record {
        mid = r.mid;
        after = r.after;
        by = r.by;
        firsts = firsts_grows b r.mid n s.opened s.whole t (omega arith) r.firsts;
        found = λ q l. let f = r.found q l in let f2 = f.2 in (f.0, f.1, f.2, f.3 ∙ sym (same.numbers f.0 q (omega arith)));
      }

  based_grows : (b e : ℕ) (s : Scan) → e ≤ k → Based n ps b e s → Based n qs b e s
  based_grows b e s le base q l = let f = base q l in let f2 = f.2 in
      (f.0, f.1, f.2, f.3 ∙ sym (same.numbers f.0 q (omega arith)))

  pub next_grows : (b e : ℕ) (s : Scan) (t : List ℕ) (v : Option View) (x : Next) → e ≤ k → NextOk adds w n ps b e s t v x
      → NextOk adds w n qs b e s t v x
  next_grows b e s t v (First p) le (lt, r, base) = (
    lt,
    firsts_grows b e p s.opened s.whole t le r,
    λ ne. based_grows b e s le (base ne),
  )
  next_grows b e s t v (Second p) le (lt, r, base) = (lt, seconds_grows b e p s t le r, λ ne. based_grows b e s le (base ne))
  next_grows b e s t v (Ask p) le (lt, base, seen, up) = (
    lt,
    based_grows b e s le base,
    λ q l. let a = seen q l in
        let g = same.numbers e q le in omega arith,
    let g = same.numbers e p le in omega arith,
  )
  next_grows b e s t v Direct le st = step_grows b e e (record { vector = take s.n s.opened; totals = t }) le (omega arith) st
  next_grows b e s t v (Lent p) le (a, is, st) = (a, is, step_grows b e e a le (omega arith) st)
  next_grows b e s t v (GaveUp x y z) le st = tt

  pub answers_grow : (zs : List Answered) → AllAnswers adds w n ps k zs → AllAnswers adds w n qs (suc k) zs
  answers_grow zs h q a is = let x = h q a is in let lt = x.0 in (
    omega arith,
    record {
      tries = x.1.tries;
      order = x.1.order;
      step = λ v seen. step_grows a.begin a.end a.end v (omega arith) (omega arith) (x.1.step v seen);
    },
  )

  -- an actor whose number did not move
  pub phase_grows : (i : ℕ) (a : Act) (ph : Phase) → number_at qs (suc k) i ≡ number_at ps k i → PhaseOk adds w n ps k i a ph
      → PhaseOk adds w n qs (suc k) i a ph
  phase_grows i a phase.Rest still h = tt
  phase_grows i a phase.Scan still (ok, e) = let y = ok.by in let z = ok.after in (
    record {
      last = ok.last;
      met = ok.met;
      by = (let g : ok.last < suc k = omega arith in g);
      after = ok.after;
      shape = ok.shape;
      good = (ok.good.0, next_grows a.begin ok.last a.scan a.totals ok.met a.scan.next (omega arith) ok.good.1);
    },
    same.numbers a.begin i (omega arith) ∙ e ∙ sym still,
  )
  phase_grows i a phase.Ready still (ok, lt, e) = (
    λ v is. step_grows a.begin k (suc k) v (omega arith) (omega arith) (ok v is),
    omega arith,
    same.numbers a.begin i (omega arith) ∙ e ∙ sym still,
  )

  -- a segment whose number and row did not move
  pub seg_grows : (i : ℕ) (s : Seg) → number_at qs (suc k) i ≡ number_at ps k i
      → ((x : ℕ) → row_at adds qs (suc k) i x ≡ row_at adds ps k i x) → SegOk adds w n ps k i s → SegOk adds w n qs (suc k) i s
  seg_grows i s still stays ok = record {
    number = ok.number ∙ sym still;
    words = ok.words;
    row = λ x h. ok.row x h ∙ sym (stays x);
    small = λ x h. let a = ok.small x h in let g = stays x in omega arith;
    lends = λ v is. let l = ok.lends v is in let af = l.2.after in let y = l.2.by in (
      l.0,
      ap (λ (y : ℕ). y + 1) (same.numbers l.0 i (omega arith)) ∙ l.1,
      step_grows l.0 k (suc k) v (omega arith) (omega arith) l.2,
    );
  }

module _ (adds : List Op → ℕ → ℕ) (w n k : ℕ) where
  pub answers_more : (ps : List Published) (zs : List Answered) (a : Answered) → AllAnswers adds w n ps k zs → a.end < k
      → AnswerOk adds w n ps a → AllAnswers adds w n ps k (zs ++ a ∷ [])
  answers_more ps zs a h lt ok q x is =
      ⊎_elim (λ t. h q x t) (λ t. subst (λ (y : Answered). (y.end < k) × AnswerOk adds w n ps y) (only_one a t.0 x t.2) (lt, ok))
      (in_both zs (a ∷ []) q x is)

  -- time passes
  pub ticks : (m : World) → Below at_publish k m.publishes → Inv adds w n k m → Inv adds w n (suc k) m
  ticks m early r = let same = same_self adds k m.publishes in record {
    some = r.some;
    most = r.most;
    inside = r.inside;
    count = r.count;
    people = r.people;
    segment = λ i s is. seg_grows adds w n k m.publishes m.publishes same i s
        (number_quiet m.publishes k i (not_yet m.publishes k i early))
        (λ x. row_quiet adds m.publishes k i x (not_yet m.publishes k i early)) (r.segment i s is);
    actor = λ i a is. let ok = r.actor i a is in (
      ok.0,
      phase_grows adds w n k m.publishes m.publishes same i a a.phase
          (number_quiet m.publishes k i (not_yet m.publishes k i early)) ok.1,
    );
    answers = answers_grow adds w n k m.publishes m.publishes same m.answers r.answers;
  }

  -- one actor changes
  pub one_actor : (m : World) (who : ℕ) (a : Act) → Inv adds w n k m → ActOk adds w n m.publishes k who a
      → Inv adds w n k (with_actor m who a)
  one_actor m who a r ok = record {
    some = r.some;
    most = r.most;
    inside = r.inside;
    count = r.count;
    people = length-set _ _ _ ∙ r.people;
    segment = r.segment;
    answers = r.answers;
    actor = λ i b is. ⊎_elim (λ t. subst (λ (z : ℕ × Act). ActOk adds w n m.publishes k z.0 z.1) (λ c. (sym t.0 c, t.1 c)) ok)
        (λ t. r.actor i b t.1) (at_set m.actors who a i b is);
  }
