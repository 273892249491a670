-- Each event keeps what is true of the machine.
use Rattle.std.proofs.Common.{◌≡◌, ◌≢◌, ℕ, suc, ◌+◌, ◌-◌, ◌^◌, ◌<◌, ◌≤◌, ⊎_elim, Bool, true, false, not, cond, List, [], ◌∷◌}
use Rattle.std.proofs.Common.{◌++◌, length, take, replicate, get_or, eqb, ltb, sym, refl, ap, ◌∙◌, subst, arith, Option, Some}
use Rattle.std.proofs.Common.{None, length-set, lt_of_not-le}
use Rattle.std.specs.Prelude.{slice_get}
use Rattle.std.proofs.Math.ListN.{set}
use Rattle.std.proofs.lemmas.Option.{slice_get_within, slice_get-get_or, none-some, same_Some}
use Rattle.std.proofs.lemmas.Bool.{cond_both}
use mathlib.Core.Logic.{dite}
use native.Mathlib.Decide.{dec_le}
use Rattle.ledger_core.specs.declared.op.Op.{Op}
use Rattle.ledger_core.proofs.Placing.{at_set}
use Rattle.ledger_core.specs.Ops.{width, sum_ops}
use Rattle.snapshot_core.specs.declared.actor.Phase.{Phase}
use Rattle.snapshot_core.specs.declared.actor.Phase.TheVariants as phase
use Rattle.snapshot_core.specs.declared.event.Event.{Event}
use Rattle.snapshot_core.specs.declared.event.Event.TheVariants.{Begin, Step, Torn}
use Rattle.snapshot_core.specs.declared.next.Next.{Next}
use Rattle.snapshot_core.specs.declared.next.Next.TheVariants.{First, Second, Ask, Direct, Lent, GaveUp}
use Rattle.snapshot_core.specs.declared.trace.ScanEnd.{ScanEnd}
use Rattle.snapshot_core.specs.declared.trace.ScanEnd.TheVariants as how
use Rattle.snapshot_core.specs.History.{Published, number_at, row_at, OneStep}
use Rattle.snapshot_core.specs.Machine.{Seg, Act, World, applied, added, begun_of, blank_of, not_torn, read_by, place_in, end_by}
use Rattle.snapshot_core.specs.Machine.{accepts, begins_if, begins, over, ends, reads_from, reads_place, publishes_row}
use Rattle.snapshot_core.specs.Machine.{publishes_as, steps_in, steps, happens_at}
use Rattle.snapshot_core.specs.Scan.{first_by, second_by, asked_by, asked_at}
use Rattle.snapshot_core.specs.Sized.{IsSized}
use Rattle.snapshot_core.specs.Told.{vector_of}
use Rattle.snapshot_core.specs.Tries.{View}
use Rattle.snapshot_core.specs.Turns.{ops_of}
use Rattle.snapshot_core.proofs.Past.{number_rises}
use Rattle.snapshot_core.proofs.Scanning.{Based, NextOk, Good, none_read, added_length, first_good, second_good, refused, lent}
use Rattle.snapshot_core.proofs.Sized.{sized_first, sized_second, sized_asked}
use Rattle.snapshot_core.proofs.Worlds.{Same, same_more, with_actor, SegOk, ScanOk, PhaseOk, ActOk, Inv, step_grows, phase_grows}
use Rattle.snapshot_core.proofs.Worlds.{seg_grows, answers_grow, answers_more, ticks, one_actor}
use Rattle.snapshot_core.proofs.Accepted.{taken}
use Rattle.snapshot_core.proofs.Lending.{at_publish, NoPublish, below_with, not_yet, number_quiet, row_quiet, Rising, rising_more}
use Rattle.snapshot_core.proofs.Lending.{at_end, only_one, in_both, number_now, row_now}
use Rattle.snapshot_core.proofs.Grows.{Ordered}

-- A read, by an actor of a machine whose rows have w words.
module _ (adds : List Op → ℕ → ℕ) (w n k : ℕ) (m : World) (r : Inv adds w n k m) where
  rows_small : (q x : ℕ) → q < n → x < w → row_at adds m.publishes k q x ≤ 281474976710655
  rows_small q x l hx = let c = r.count in
      (r.segment q (get_or m.segments q (blank_of w)) (slice_get-get_or m.segments q (blank_of w) (omega arith))).small x hx

  module _ (a : Act) (wide : length a.totals ≡ w) (ok : ScanOk adds w n m.publishes k a) (p : ℕ) (s : Seg) (torn : Bool)
      (seg : SegOk adds w n m.publishes k p s) where
    before_k : ok.last ≤ k
    before_k = let y = ok.by in omega arith

    begin_k : a.begin ≤ k
    begin_k = let y = ok.by in let z = ok.after in omega arith

    -- the lender's last publish began when its number was at least the base and 1, so after the base was read: what it
    -- lends is a step of this turn
    lends_step : Based n m.publishes a.begin ok.last a.scan → p < n → get_or a.scan.base p 0 + 2 ≤ number_at m.publishes ok.last p
        → (v : View) → s.view ≡ Some v → OneStep adds n w m.publishes a.begin k v
    lends_step base lt up v is = let l = seg.lends v is in let l1 = l.1 in let b = base p lt in let b1 = b.1 in let b3 = b.3 in
        let num = seg.number in
        let rise = number_rises m.publishes ok.last k p before_k in
        let af = l.2.after in
        record {
          at = l.2.at;
          by = l.2.by;
          right = l.2.right;
          after = dite (dec_le l.0 b.0)
              (λ le. let down = number_rises m.publishes l.0 b.0 p le in absurd (omega arith))
              (λ gt. let gt' : b.0 < l.0 = lt_of_not-le gt in omega arith);
        }

    asked_good : (q : ℕ) → q ≡ p → NextOk adds w n m.publishes a.begin ok.last a.scan a.totals ok.met (Ask q)
        → (t : Bool) (v : Option View) → s.view ≡ v
        → Good adds w n m.publishes a.begin k (asked_at (not_torn t (vector_of v)) a.scan q) a.totals v
    asked_good q same next true v is = refused adds w n m.publishes a.begin ok.last k q a.scan a.totals ok.met v before_k ok.shape
        ok.good.0 next
    asked_good q same next false None is = refused adds w n m.publishes a.begin ok.last k q a.scan a.totals ok.met None before_k
        ok.shape ok.good.0 next
    asked_good q same next false (Some v) is = lent adds w n m.publishes a.begin ok.last k q a.scan a.totals ok.met v before_k
        ok.shape ok.good.0
        (lends_step next.1 (subst (λ (z : ℕ). z < n) same next.0)
        (subst (λ (z : ℕ). get_or a.scan.base z 0 + 2 ≤ number_at m.publishes ok.last z) same next.3) v is) next

    read_good : (x : Next) → a.scan.next ≡ x → NextOk adds w n m.publishes a.begin ok.last a.scan a.totals ok.met x
        → place_in x ≡ Some p → Good adds w n m.publishes a.begin k (read_by s torn a x).scan (read_by s torn a x).totals s.view
    read_good (First q) is next at = let same : q ≡ p = same_Some q p at in
        subst (λ (y : Next). Good adds w n m.publishes a.begin k (first_by s.number (not torn) a.scan y)
        (cond torn a.totals (cond (eqb q 0) s.row (added a.totals s.row))) s.view) (sym is)
        (first_good adds w n m.publishes a.begin ok.last k q a.scan a.totals s.row ok.met s.view s.number torn before_k begin_k
        ok.shape ok.good.0 wide seg.words (seg.number ∙ ap (number_at m.publishes k) (sym same))
        (λ x l. seg.row x l ∙ ap (λ (z : ℕ). row_at adds m.publishes k z x) (sym same)) rows_small next)
    read_good (Second q) is next at = let same : q ≡ p = same_Some q p at in
        subst (λ (y : Next). Good adds w n m.publishes a.begin k (second_by s.number a.scan y) a.totals s.view) (sym is)
        (second_good adds w n m.publishes a.begin ok.last k q a.scan a.totals ok.met s.view s.number before_k r.inside ok.shape
        ok.good.0 wide (seg.number ∙ ap (number_at m.publishes k) (sym same)) next)
    read_good (Ask q) is next at = let same : q ≡ p = same_Some q p at in
        subst (λ (y : Next). Good adds w n m.publishes a.begin k (asked_by (not_torn torn (vector_of s.view)) a.scan y) a.totals
        s.view) (sym is)
        (asked_good q same next torn s.view refl)
    read_good Direct is next at = absurd (none-some p at)
    read_good (Lent q) is next at = absurd (none-some p at)
    read_good (GaveUp x y z) is next at = absurd (none-some p at)

    read_shape : (x : Next) → IsSized (read_by s torn a x).scan
    read_shape (First q) = sized_first s.number (not torn) a.scan a.scan.next ok.shape
    read_shape (Second q) = sized_second s.number a.scan a.scan.next ok.shape
    read_shape (Ask q) = sized_asked (not_torn torn (vector_of s.view)) a.scan a.scan.next ok.shape
    read_shape Direct = ok.shape
    read_shape (Lent q) = ok.shape
    read_shape (GaveUp x y z) = ok.shape

    read_wide : (x : Next) → length (read_by s torn a x).totals ≡ w
    read_wide (First q) = cond_both torn _ _ (λ y. length y ≡ w) (λ _. wide)
        (λ _. cond_both (eqb q 0) _ _ (λ y. length y ≡ w) (λ _. seg.words) (λ _. added_length a.totals s.row ∙ wide))
    read_wide (Second q) = wide
    read_wide (Ask q) = wide
    read_wide Direct = wide
    read_wide (Lent q) = wide
    read_wide (GaveUp x y z) = wide

    -- it scans on, from the same begin
    read_same : (x : Next) → ((read_by s torn a x).phase ≡ a.phase) × ((read_by s torn a x).begin ≡ a.begin)
    read_same (First q) = (refl, refl)
    read_same (Second q) = (refl, refl)
    read_same (Ask q) = (refl, refl)
    read_same Direct = (refl, refl)
    read_same (Lent q) = (refl, refl)
    read_same (GaveUp x y z) = (refl, refl)

-- The machine of n workers, with rows of c counters, h histograms and g gauges.
module _ (c h g n k : ℕ) (m : World) (r : Inv (sum_ops c h) (width c h g) n k m) (low : Ordered k m) where
  abbrev A : List Op → ℕ → ℕ
  A = sum_ops c h

  abbrev W : ℕ
  W = width c h g

  stays : Inv A W n (suc k) m
  stays = ticks A W n k m low.publishes r

  quiet : (i : ℕ) → NoPublish m.publishes k i
  quiet i = not_yet m.publishes k i low.publishes

  -- after a read of the segment s the scan goes on or ends
  module _ (who : ℕ) (s : Seg) (a : Act) (wide : length a.totals ≡ W) (begun : a.begin < k) (shape : IsSized a.scan)
      (good : Good A W n m.publishes a.begin k a.scan a.totals s.view) (scans : a.phase ≡ phase.Scan)
      (still : number_at m.publishes a.begin who ≡ number_at m.publishes k who) where
    still_next : number_at m.publishes a.begin who ≡ number_at m.publishes (suc k) who
    still_next = still ∙ sym (number_quiet m.publishes k who (quiet who))

    goes_on : Inv A W n (suc k) (with_actor m who a)
    goes_on = one_actor A W n (suc k) m who a stays (
      wide,
      subst (PhaseOk A W n m.publishes (suc k) who a) (sym scans)
          (record { last = k; met = s.view; by = omega arith; after = omega arith; shape = shape; good = good }, still_next),
    )

    ready : (e : ScanEnd × Option View) → ((v : View) → e.1 ≡ Some v → OneStep A n W m.publishes a.begin k v)
        → Inv A W n (suc k) (ends c h g n m k who a (Some e))
    ready e step = let next = one_actor A W n (suc k) m who
        (record a { phase = over c h g n (slice_get m.segments who); view = e.1 }) stays (
          wide,
          ready_phase (slice_get m.segments who),
        ) in
        record {
          some = next.some;
          most = next.most;
          inside = next.inside;
          count = next.count;
          people = next.people;
          segment = next.segment;
          actor = next.actor;
          answers = answers_more A W n (suc k) m.publishes m.answers
              (record { actor = who; begin = a.begin; end = k; tries = a.scan.tries; how = e.0; view = e.1 }) next.answers
              (omega arith)
              (record {
                tries = (shape.begun, subst (λ (z : ℕ). a.scan.tries ≤ z + 2) good.0 shape.few);
                order = begun;
                step = step;
              });
        }
      where
        ready_phase : (o : Option Seg)
            → PhaseOk A W n m.publishes (suc k) who (record a { phase = over c h g n (slice_get m.segments who); view = e.1 })
            (over c h g n o)
        ready_phase None = tt
        ready_phase (Some s) = (
          λ v is. let st = step v is in let y = st.by in
              record { at = st.at; after = st.after; by = (let g : st.at ≤ suc k = omega arith in g); right = st.right },
          omega arith,
          still_next,
        )

    ended : (x : Next) → NextOk A W n m.publishes a.begin k a.scan a.totals s.view x
        → Inv A W n (suc k) (ends c h g n m k who a (end_by s a x))
    ended (First p) next = goes_on
    ended (Second p) next = goes_on
    ended (Ask p) next = goes_on
    ended Direct next = ready (how.Direct, Some (record { vector = take a.scan.n a.scan.opened; totals = a.totals }))
        (λ v e. subst (OneStep A n W m.publishes a.begin k)
        (same_Some (record { vector = take a.scan.n a.scan.opened; totals = a.totals }) v e) next)
    ended (Lent p) (u, at, step) = ready (how.Lent p, s.view)
        (λ v e. subst (OneStep A n W m.publishes a.begin k) (same_Some u v (sym at ∙ e)) step)
    ended (GaveUp x y z) next = ready (how.GaveUp, None) (λ v e. absurd (none-some v e))

  reads : (who : ℕ) (a : Act) (torn : Bool) → a.phase ≡ phase.Scan → length a.totals ≡ W → ScanOk A W n m.publishes k a
      → number_at m.publishes a.begin who ≡ number_at m.publishes k who → (o : Option ℕ) → place_in a.scan.next ≡ o
      → Inv A W n (suc k) (reads_place c h g n m k who a torn o)
  reads who a torn scans wide ok still None is = stays
  reads who a torn scans wide ok still (Some p) is = from (slice_get m.segments p) refl
    where
      from : (o : Option Seg) → slice_get m.segments p ≡ o → Inv A W n (suc k) (reads_from c h g n m k who a torn o)
      from None at = stays
      from (Some s) at = let seg = r.segment p s at in let b = read_by s torn a a.scan.next in
          let same = read_same A W n k m r a wide ok p s torn seg a.scan.next in
          let good : Good A W n m.publishes a.begin k b.scan b.totals s.view = read_good A W n k m r a wide ok p s torn seg
          a.scan.next refl ok.good.1 is in
          let good' : Good A W n m.publishes b.begin k b.scan b.totals s.view =
          subst (λ (z : ℕ). Good A W n m.publishes z k b.scan b.totals s.view) (sym same.1) good in
          let lt : a.begin < k = (let x = ok.by in let y = ok.after in omega arith) in
          ended who s b (read_wide A W n k m r a wide ok p s torn seg a.scan.next) (subst (λ (z : ℕ). z < k) (sym same.1) lt)
          (read_shape A W n k m r a wide ok p s torn seg a.scan.next) good' (same.0 ∙ scans)
          (ap (λ (z : ℕ). number_at m.publishes z who) same.1 ∙ still) b.scan.next good'.1

  -- a publish
  module _ (who : ℕ) (a : Act) (wide : length a.totals ≡ W) (ops : List Op) (s : Seg) (at : slice_get m.segments who ≡ Some s)
      (row : List ℕ) (takes : applied c h g s.row ops ≡ Some row)
      (step : (v : View) → a.view ≡ Some v → OneStep A n W m.publishes a.begin k v) (begun : a.begin < k)
      (still : number_at m.publishes a.begin who ≡ number_at m.publishes k who) where
    abbrev one : Published
    one = record { at = k; worker = who; ops = ops }

    abbrev more : List Published
    more = m.publishes ++ one ∷ []

    same : Same A k m.publishes more
    same = same_more A k m.publishes one refl

    rise : Rising at_publish more
    rise = rising_more at_publish k m.publishes one low.publishes refl low.publishes_rise

    no_other : (i : ℕ) → i ≢ who → NoPublish more k i
    no_other i ne q p e at of = ⊎_elim (λ t. quiet i q p t at of)
        (λ t. ne (sym of ∙ sym (ap (λ (x : Published). x.worker) (only_one one t.0 p t.2))))
        (in_both m.publishes (one ∷ []) q p e)

    others : (i : ℕ) → i ≢ who → number_at more (suc k) i ≡ number_at m.publishes k i
    others i ne = number_quiet more k i (no_other i ne) ∙ same.numbers k i (omega arith)

    other_rows : (i x : ℕ) → i ≢ who → row_at A more (suc k) i x ≡ row_at A m.publishes k i x
    other_rows i x ne = row_quiet A more k i x (no_other i ne) ∙ same.rows k i x (omega arith)

    mine : number_at more (suc k) who ≡ number_at m.publishes k who + 1
    mine = number_now more k who (length m.publishes) one rise (at_end m.publishes [] one) refl refl
        ∙ ap (λ (z : ℕ). z + 1) (same.numbers k who (omega arith))

    my_row : (x : ℕ) → row_at A more (suc k) who x ≡ row_at A m.publishes k who x + A ops x
    my_row x = row_now A more k who (length m.publishes) x one rise (at_end m.publishes [] one) refl refl
        ∙ ap (λ (z : ℕ). z + A ops x) (same.rows k who x (omega arith))

    new_segment : SegOk A W n more (suc k) who (record { number = s.number + 1; row = row; view = a.view })
    new_segment = let ok = r.segment who s at in
        let t = taken c h g s.row ops row ok.words (λ x l. let y = ok.row x l in let z = ok.small x l in omega arith) takes in
        record {
          number = let num = ok.number in let e = mine in omega arith;
          words = t.wide;
          row = λ x l. t.sums x l ∙ ap (λ (z : ℕ). z + A ops x) (ok.row x l) ∙ sym (my_row x);
          small = λ x l. subst (λ (z : ℕ). z ≤ 281474976710655) (t.sums x l ∙ ap (λ (z : ℕ). z + A ops x) (ok.row x l)
              ∙ sym (my_row x)) (t.small x l);
          lends = λ v is. (
            a.begin,
            let num = ok.number in let e = same.numbers a.begin who (let g : a.begin ≤ k = omega arith in g) in omega arith,
            step_grows A W n k m.publishes more same a.begin k (suc k) v (omega arith) (omega arith) (step v is),
          );
        }

    published : Inv A W n (suc k)
        (record m {
          segments = set m.segments who (record { number = s.number + 1; row = row; view = a.view });
          actors = set m.actors who (record a { phase = phase.Rest; view = None });
          publishes = more;
        })
    published = record {
      some = r.some;
      most = r.most;
      inside = below_with (λ (p : Published). p.worker) n m.publishes one r.inside (let c = r.count in
          let l = slice_get_within m.segments who s at in omega arith);
      count = length-set _ _ _ ∙ r.count;
      people = length-set _ _ _ ∙ r.people;
      segment = λ i y is. ⊎_elim
          (λ t. subst (λ (z : ℕ × Seg). SegOk A W n more (suc k) z.0 z.1) (λ c. (sym t.0 c, t.1 c)) new_segment)
          (λ t. seg_grows A W n k m.publishes more same i y (others i t.0) (λ x. other_rows i x t.0) (r.segment i y t.1))
          (at_set m.segments who _ i y is);
      actor = λ i y is. ⊎_elim (λ t. subst (ActOk A W n more (suc k) i) t.1 (wide, tt))
          (λ t. let ok = r.actor i y t.1 in (ok.0, phase_grows A W n k m.publishes more same i y y.phase (others i t.0) ok.1))
          (at_set m.actors who _ i y is);
      answers = answers_grow A W n k m.publishes more same m.answers r.answers;
    }

  publishes : (who : ℕ) (a : Act) (ops : List Op) → length a.totals ≡ W → (ok : PhaseOk A W n m.publishes k who a phase.Ready)
      (o : Option Seg) → slice_get m.segments who ≡ o → Inv A W n (suc k) (publishes_as c h g n m k who ops a o)
  publishes who a ops wide ok None at = stays
  publishes who a ops wide ok (Some s) at = go (applied c h g s.row ops) refl
    where
      go : (o : Option (List ℕ)) → applied c h g s.row ops ≡ o → Inv A W n (suc k) (publishes_row c h g n m k who ops a s o)
      go None is = stays
      go (Some row) is = cond_both (ltb s.number (2 ^ 64 - 1)) _ m (λ (y : World). Inv A W n (suc k) y)
          (λ _. published who a wide ops s at row is ok.0 ok.1 ok.2) (λ _. stays)

  steps_ok : (es : List Event) (who : ℕ) (torn : Bool) (o : Option Act) → slice_get m.actors who ≡ o
      → Inv A W n (suc k) (steps c h g n es m k who torn o)
  steps_ok es who torn None at = stays
  steps_ok es who torn (Some a) at = go a.phase refl (r.actor who a at).1
    where
      go : (x : Phase) → a.phase ≡ x → PhaseOk A W n m.publishes k who a x
          → Inv A W n (suc k) (steps_in c h g n es m k who torn a x)
      go phase.Rest is ok = stays
      go phase.Scan is ok = reads who a torn is (r.actor who a at).0 ok.0 ok.1 (place_in a.scan.next) refl
      go phase.Ready is ok = cond_both torn m _ (λ (y : World). Inv A W n (suc k) y) (λ _. stays)
          (λ _. publishes who a (ops_of (slice_get es a.begin)) (r.actor who a at).0 ok (slice_get m.segments who) refl)

  begins_ok : (who : ℕ) (ops : List Op) (o : Option Act) → slice_get m.actors who ≡ o
      → Inv A W n (suc k) (begins c h g n m k who ops o)
  begins_ok who ops None at = stays
  begins_ok who ops (Some a) at = go a.phase
    where
      fresh : ActOk A W n m.publishes (suc k) who (begun_of n k a)
      fresh = let some = r.some in (
        (r.actor who a at).0,
        (
          record {
            last = k;
            met = None;
            by = omega arith;
            after = omega arith;
            shape = record {
              some = r.some;
              most = r.most;
              begun = omega arith;
              few = omega arith;
              inside = omega arith;
              opened = refl;
              whole = refl;
              found = refl;
            };
            good = (
              refl,
              (
                omega arith,
                none_read A W m.publishes k k (replicate 32 0) (replicate 32 false) a.totals,
                λ ne. absurd (ne refl),
              ),
            );
          },
          sym (number_quiet m.publishes k who (quiet who)),
        ),
      )

      go : (x : Phase) → Inv A W n (suc k) (begins_if c h g n m k who ops a x)
      go phase.Rest = cond_both (accepts c h g n ops (slice_get m.segments who)) _ m (λ (y : World). Inv A W n (suc k) y)
          (λ _. one_actor A W n (suc k) m who (begun_of n k a) stays fresh) (λ _. stays)
      go phase.Scan = stays
      go phase.Ready = stays

  pub happens_ok : (es : List Event) (o : Option Event) → Inv A W n (suc k) (happens_at c h g n es m k o)
  happens_ok es None = stays
  happens_ok es (Some (Begin who ops)) = begins_ok who ops.items (slice_get m.actors who) refl
  happens_ok es (Some (Step who)) = steps_ok es who false (slice_get m.actors who) refl
  happens_ok es (Some (Torn who)) = steps_ok es who true (slice_get m.actors who) refl
