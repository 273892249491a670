-- Each event keeps what is true of the machine.
use Rattle.std.proofs.Common.{◌≡◌, ◌≢◌, ℕ, suc, ◌+◌, ◌-◌, ◌^◌, ◌<◌, ◌≤◌, inl, inr, ⊎_elim, Bool, true, false, cond, List, [], ◌∷◌}
use Rattle.std.proofs.Common.{◌++◌, length, map, get_or, eqb, ltb, ltb-true, lt-ltb, sym, refl, ap, ◌∙◌, subst, arith, Option}
use Rattle.std.proofs.Common.{Some, None, true≢false, eqb-true}
use Rattle.std.specs.Prelude.{slice_get, slice_set}
use Rattle.std.proofs.lemmas.Option.{none-some, same_Some, slice_get_within, slice_get-get_or}
use Rattle.std.proofs.lemmas.Bool.{cond_both, and_parts, and_from}
use Rattle.std.proofs.lemmas.List.{map_push, nil_from_length}
use mathlib.Core.Logic.{dite}
use mathlib.Core.Option.{some, some-ne-none}
use native.Mathlib.Decide.{dec_le, ℕ_discrete}
use lib.ListN.{get_elem?}
use Rattle.ledger_core.specs.declared.op.Op.{Op}
use Rattle.ledger_core.specs.Ops.{sum_ops}
use Rattle.ledger_core.specs.Row.{Accepts}
use Rattle.snapshot_core.specs.declared.event.Event.{Event}
use Rattle.snapshot_core.specs.declared.event.Event.TheVariants.{Begin, Step, Torn}
use Rattle.snapshot_core.specs.declared.actor.Phase.{Phase}
use Rattle.snapshot_core.specs.declared.actor.Phase.TheVariants.{Rest, Scan, Ready}
use Rattle.snapshot_core.specs.declared.next.Next.{Next}
use Rattle.snapshot_core.specs.declared.next.Next.TheVariants.{First, Second, Ask, Direct, Lent, GaveUp}
use Rattle.snapshot_core.specs.declared.trace.ScanEnd.{ScanEnd}
use Rattle.snapshot_core.specs.Sized.{place_next}
use Rattle.snapshot_core.specs.Tries.{View, Read}
use Rattle.snapshot_core.specs.History.{Published, number_at, row_at}
use Rattle.snapshot_core.specs.Turns.{Answered, MayBegin, BeginsAt, IsOpen, own, own_reads, ops_of}
use Rattle.snapshot_core.specs.Faithful.{Meets, where_and_torn}
use Rattle.snapshot_core.specs.Machine.{Seg, Act, World, applied, blank_of, begun_of, is_some, accepts, place_in, read_by, end_by}
use Rattle.snapshot_core.specs.Machine.{over, begins_if, begins, ends, reads_from, reads_place, publishes_row, publishes_as}
use Rattle.snapshot_core.specs.Machine.{steps_in, steps, happens_at}
use Rattle.snapshot_core.proofs.Told.{told_new}
use Rattle.snapshot_core.proofs.Lending.{Rising, NoPublish, at_publish, at_answer, in_both, only_one, one_only, one_at, view_now}
use Rattle.snapshot_core.proofs.Grows.{Ordered, Extends, with_publish}
use Rattle.snapshot_core.proofs.Turns.{open_after, open_on, open_begins, closed_by, no_end, own_next, read_event, own_other}
use Rattle.snapshot_core.proofs.Turns.{own_mine, step_of}
use Rattle.snapshot_core.proofs.Accepted.{accepts_same, taken, takes}
use Rattle.snapshot_core.proofs.Scanned.{read_here, HasRead, has_read, scan_over}
use Rattle.snapshot_core.proofs.Justify.{RowTakes, InScan, IsReady, ActOk, AnswerOk, J, Idle, takes_on, before_or}
use Rattle.snapshot_core.proofs.Moves.{scan_ready, nobody_publishes, nobody_answers, rests_all, one_moves, publishes_j}
use Rattle.snapshot_core.proofs.Moves.{rest_ready}

module _ (c h g n : ℕ) (es : List Event) (ps : List Published) (zs : List Answered) where
  -- who may begin
  module _ (k : ℕ) (w : World) (j : J c h g n es ps zs k w) where
    no_segment : (who : ℕ) → slice_get w.segments who ≡ None → n ≤ who
    no_segment who e = dite (dec_le n who) (λ le. le) (λ gt. let m = j.many in
        absurd (none-some _ (sym e ∙ slice_get-get_or w.segments who (blank_of 0) (omega arith))))

    segment_below : (who : ℕ) (s : Seg) → slice_get w.segments who ≡ Some s → who < n
    segment_below who s e = let m = j.many in let l = slice_get_within w.segments who s e in omega arith

    applied_is : (o : Option (List ℕ)) → is_some c h g n o ≡ true → (r : List ℕ) × (o ≡ Some r)
    applied_is None e = absurd (cc)
    applied_is (Some r) e = (r, refl)

    may_begin : (who : ℕ) (ops : List Op) (o : Option Seg) → who < n + 4 → slice_get w.segments who ≡ o
        → accepts c h g n ops o ≡ true → MayBegin n c h g es ps zs k who ops
    may_begin who ops None actor is e = inr (no_segment who is, actor, nil_from_length ops (eqb-true (length ops) 0 e))
    may_begin who ops (Some s) actor is e =
        let b = and_parts (ltb s.number (2 ^ 64 - 1)) (is_some c h g n (applied c h g s.row ops)) e in
        let old = j.segment who s is in let r = applied_is (applied c h g s.row ops) b.1 in
        let t = taken c h g s.row ops r.0 old.wide old.small r.1 in
        inl (
          segment_below who s is,
          subst (λ (x : ℕ). x < 18446744073709551615) old.number (ltb-true s.number (2 ^ 64 - 1) b.0),
          accepts_same c h g (λ x. get_or s.row x 0) (row_at (sum_ops c h) ps k who) ops old.words t.accepted,
        )

    row_accepts : (who : ℕ) (ops : List Op) (s : Seg) → slice_get w.segments who ≡ Some s
        → Accepts c h g (row_at (sum_ops c h) ps k who) ops → (r : List ℕ) × (applied c h g s.row ops ≡ Some r)
    row_accepts who ops s is a = let old = j.segment who s is in
        takes c h g s.row ops (accepts_same c h g (row_at (sum_ops c h) ps k who) (λ x. get_or s.row x 0) ops
        (λ x lt. sym (old.words x lt)) a)

    number_test : (who : ℕ) (s : Seg) → slice_get w.segments who ≡ Some s → number_at ps k who < 18446744073709551615
        → ltb s.number (2 ^ 64 - 1) ≡ true
    number_test who s is lt = let old = j.segment who s is in
        lt-ltb s.number (2 ^ 64 - 1) (subst (λ (x : ℕ). x < 18446744073709551615) (sym old.number) lt)

    may_not : (who : ℕ) (ops : List Op) (o : Option Seg) → slice_get w.segments who ≡ o → accepts c h g n ops o ≡ false
        → ¬ MayBegin n c h g es ps zs k who ops
    may_not who ops None is e may = ⊎_elim
        (λ t. let le = no_segment who is in let lt = t.0 in absurd (omega arith))
        (λ t. absurd (true≢false (ap (λ (x : List Op). eqb (length x) 0) (sym t.2) ∙ e))) may
    may_not who ops (Some s) is e may = ⊎_elim
        (λ t. let r = row_accepts who ops s is t.2 in
        true≢false (sym (and_from (ltb s.number (2 ^ 64 - 1)) (is_some c h g n (applied c h g s.row ops))
        (number_test who s is t.1) (ap (is_some c h g n) r.1)) ∙ e))
        (λ t. let lt = segment_below who s is in let le = t.0 in absurd (omega arith)) may

  module _ (one : 1 ≤ n) (most : n ≤ 32) (rise_p : Rising at_publish ps) (rise_z : Rising at_answer zs) (k : ℕ) (w : World)
      (j : J c h g n es ps zs k w) (low : Ordered k w) where
    -- a read is no Begin
    no_begin : (who i : ℕ) (torn : Bool) → slice_get es k ≡ Some (read_event who torn)
        → ¬ BeginsAt n c h g es ps zs k i (slice_get es k)
    no_begin who i true here = subst (λ (o : Option Event). ¬ BeginsAt n c h g es ps zs k i o) (sym here) (λ t. t)
    no_begin who i false here = subst (λ (o : Option Event). ¬ BeginsAt n c h g es ps zs k i o) (sym here) (λ t. t)

    -- an event that is a read or a Begin of `who` is none of another's
    idle_step : (who i : ℕ) (torn : Bool) (x : Phase) → slice_get es k ≡ Some (read_event who torn) → i ≢ who
        → Idle c h g n es ps zs k i x
    idle_step who i torn Rest here ne = no_begin who i torn here
    idle_step who i torn Scan here ne = own_other who i k torn (slice_get es k) here ne
    idle_step who i torn Ready here ne = λ e. ne (sym (step_of who i torn (slice_get es k) here e).1)

    idle_begin : (who i : ℕ) (ops : _) (x : Phase) → slice_get es k ≡ Some (Begin who ops)
        → (x ≡ Rest → ¬ BeginsAt n c h g es ps zs k i (Some (Begin who ops))) → Idle c h g n es ps zs k i x
    idle_begin who i ops Rest here not_so = subst (λ (o : Option Event). ¬ BeginsAt n c h g es ps zs k i o) (sym here)
        (not_so refl)
    idle_begin who i ops Scan here not_so = ap (own i k) here
    idle_begin who i ops Ready here not_so = λ e. begin_step (sym here ∙ e)
      where
        begin_step : Some (Begin who ops) ≡ Some (Step i) → ⊥
        begin_step e = cc

    -- A read.
    module _ (who p : ℕ) (a : Act) (s : Seg) (torn : Bool) (at : slice_get w.actors who ≡ Some a) (is : a.phase ≡ Scan)
        (ok : InScan c h g n es ps zs k who a)
        (sat : slice_get w.segments p ≡ Some s) (pat : place_in a.scan.next ≡ Some p)
        (here : slice_get es k ≡ Some (read_event who torn)) where
      abbrev now : Act
      now = read_by s torn a a.scan.next

      read : HasRead s torn k p ok.reads a now
      read = has_read a s torn k p ok.reads ok.sized ok.told pat

      meets : (q : ℕ) (r : Read) → get_elem? (ok.reads ++ read_here p k torn s ∷ []) q ≡ some r → Meets ps zs r
      meets q r e = ⊎_elim (λ t. ok.meets q r t)
          (λ t. subst (Meets ps zs) (only_one (read_here p k torn s) t.0 r t.2)
          (record { number = (j.segment p s sat).number; view = (j.segment p s sat).view }))
          (in_both ok.reads (read_here p k torn s ∷ []) q r e)

      begun : now.begin < k
      begun = let l = open_after n c h g es ps zs k who a.begin ok.is_open in let e = read.begin in omega arith

      all_own : map where_and_torn (ok.reads ++ read_here p k torn s ∷ []) ≡ own_reads es who (suc now.begin)
          (suc k - suc now.begin)
      all_own = map_push where_and_torn ok.reads (read_here p k torn s)
          ∙ ap (λ (x : List (ℕ × Bool)). x ++ (k, torn) ∷ []) ok.all_own
          ∙ ap (λ (x : List (ℕ × Bool)). own_reads es who (suc a.begin) (k - suc a.begin) ++ x)
          (sym (own_mine who k torn (slice_get es k) here))
          ∙ sym (own_next es who a.begin k (open_after n c h g es ps zs k who a.begin ok.is_open))
          ∙ ap (λ (x : ℕ). own_reads es who (suc x) (suc k - suc x)) (sym read.begin)

      is_open : IsOpen n c h g es ps zs k who now.begin
      is_open = subst (IsOpen n c h g es ps zs k who) (sym read.begin) ok.is_open

      others : (i : ℕ) (x : Phase) → i ≢ who → Idle c h g n es ps zs k i x
      others i x ne = idle_step who i torn x here ne

      unready : a.phase ≢ Ready
      unready e = scan_ready (sym is ∙ e)

      fresh : (q : ℕ) (z : Answered) → get_elem? zs q ≡ some z → z.end < k → z.actor ≡ who → z.begin ≢ now.begin
      fresh q z e lt of same = ok.fresh q z e lt of (same ∙ read.begin)

      takes_still : NoPublish ps k who → who < n → RowTakes c h g n es ps zs (suc k) who now.begin
      takes_still none lt = subst (RowTakes c h g n es ps zs (suc k) who) (sym read.begin)
          (takes_on c h g n es ps zs k who a.begin none (ok.accepted lt))

      -- the scan goes on
      goes_on : (r : ℕ) → place_in now.scan.next ≡ Some r → r < n
          → Extends (suc k) ps zs (record w { actors = slice_set w.actors who now })
          → J c h g n es ps zs (suc k) (record w { actors = slice_set w.actors who now })
      goes_on r rat lt ext = one_moves c h g n es ps zs k w j low who a now w.answers at unready ext
          (λ q z e same. absurd (no_answer q z e same)) others
          (subst (ActOk c h g n es ps zs (suc k) who now) (sym (read.phase ∙ is)) (record {
            is_open = open_on n c h g es ps zs k who now.begin is_open
                (no_end n c h g es ps zs k who (λ _. no_publish) (λ _ q z e same. absurd (no_answer q z e same)));
            sized = read.sized;
            wide = read.wide ∙ ok.wide;
            goes = (r, rat, lt);
            reads = ok.reads ++ read_here p k torn s ∷ [];
            told = read.told;
            meets = meets;
            all_own = all_own;
            fresh = λ q z e lt of. ⊎_elim (λ l. fresh q z e l of) (λ same. absurd (no_answer q z e same)) (before_or z.end k lt);
            accepted = takes_still no_publish;
          }))
        where
          no_answer : (q : ℕ) (z : Answered) → get_elem? zs q ≡ some z → z.end ≢ k
          no_answer = nobody_answers c h g n es ps zs k w j low (record w { actors = slice_set w.actors who now }) ext refl

          no_publish : NoPublish ps k who
          no_publish q x e same = absurd
              (nobody_publishes c h g n es ps zs k w j low (record w { actors = slice_set w.actors who now }) ext refl q x e same)

      -- the scan is over
      module _ (e : ScanEnd × Option View) (ended : end_by s now now.scan.next ≡ Some e)
          (ext : Extends (suc k) ps zs (ends c h g n w k who now (Some e))) where
        abbrev given : Answered
        given = record { actor = who; begin = now.begin; end = k; tries = now.scan.tries; how = e.0; view = e.1 }

        abbrev after : Act
        after = record now { phase = over c h g n (slice_get w.segments who); view = e.1 }

        there : get_elem? zs (length w.answers) ≡ some given
        there = one_at w.answers zs ext.also given ext.answers

        only : (q : ℕ) (z : Answered) → get_elem? zs q ≡ some z → z.end ≡ k → given ≡ z
        only q z ez same = one_only at_answer zs rise_z (length w.answers) q given z there ez (sym same)

        no_publish : NoPublish ps k who
        no_publish q x ex same =
            absurd (nobody_publishes c h g n es ps zs k w j low (ends c h g n w k who now (Some e)) ext refl q x ex same)

        right : AnswerOk c h g n es ps zs given
        right = record {
          is_open = is_open;
          torn = torn;
          own_read = own_mine who k torn (slice_get es k) here;
          justified = record {
            met = ok.reads ++ read_here p k torn s ∷ [];
            same = all_own ∙ (let g : suc k - suc now.begin ≡ k - now.begin = omega arith in
                ap (own_reads es who (suc now.begin)) g);
            meets = meets;
            scan = scan_over n s now torn k p ok.reads e (read.wide ∙ ok.wide) read.sized read.told ended;
          };
        }

        after_ok : (o : Option Seg) → slice_get w.segments who ≡ o → ActOk c h g n es ps zs (suc k) who after (over c h g n o)
        after_ok None e0 = closed_by n c h g es ps zs k who now.begin is_open
            (inr (no_segment k w j who e0, (length w.answers, given, there, refl, refl)))
        after_ok (Some x) e0 = let inside = segment_below k w j who x e0 in record {
          is_open = open_on n c h g es ps zs k who now.begin is_open
              (no_end n c h g es ps zs k who (λ _. no_publish) (λ le. absurd (omega arith)));
          inside = inside;
          place = length w.answers;
          answer = given;
          is_answer = there;
          of_actor = refl;
          of_begin = refl;
          over = (let l : k < suc k = omega arith in l);
          view = view_now zs k who (length w.answers) given None rise_z there refl refl;
          no_step = λ i from before. absurd (omega arith);
          accepted = takes_still no_publish inside;
        }

        ready_if : (o : Option Seg) → slice_get w.segments who ≡ o → who < n → over c h g n o ≡ Ready
        ready_if None e0 lt = let le = no_segment k w j who e0 in absurd (omega arith)
        ready_if (Some x) e0 lt = refl

        is_over : J c h g n es ps zs (suc k) (ends c h g n w k who now (Some e))
        is_over = one_moves c h g n es ps zs k w j low who a after (w.answers ++ given ∷ []) at unready ext
            (λ q z ez same. subst (λ (y : Answered). (y.actor ≡ who) × AnswerOk c h g n es ps zs y
            × ((r : ℕ) (x : Answered) → get_elem? zs r ≡ some x → x.end < k → y.actor ≡ x.actor → y.begin ≢ x.begin)
            × (y.actor < n → after.phase ≡ Ready)) (only q z ez same)
            (refl, right, (λ r x ex lt of begin. fresh r x ex lt (sym of) (sym begin)), ready_if (slice_get w.segments who) refl))
            others (after_ok (slice_get w.segments who) refl)

      after_read : (x : Next) → now.scan.next ≡ x → Extends (suc k) ps zs (ends c h g n w k who now (end_by s now x))
          → J c h g n es ps zs (suc k) (ends c h g n w k who now (end_by s now x))
      after_read (First r) e ext = goes_on r (ap place_in e) (let i : place_next now.scan.next < now.scan.n = read.sized.inside in
          let m : now.scan.n ≡ n = read.wide ∙ ok.wide in let q : place_next now.scan.next ≡ r = ap place_next e in
          omega arith) ext
      after_read (Second r) e ext = goes_on r (ap place_in e)
          (let i : place_next now.scan.next < now.scan.n = read.sized.inside in let m : now.scan.n ≡ n = read.wide ∙ ok.wide in
          let q : place_next now.scan.next ≡ r = ap place_next e in omega arith) ext
      after_read (Ask r) e ext = goes_on r (ap place_in e) (let i : place_next now.scan.next < now.scan.n = read.sized.inside in
          let m : now.scan.n ≡ n = read.wide ∙ ok.wide in let q : place_next now.scan.next ≡ r = ap place_next e in
          omega arith) ext
      after_read Direct e ext = is_over _ (ap (end_by s now) e) ext
      after_read (Lent r) e ext = is_over _ (ap (end_by s now) e) ext
      after_read (GaveUp x y z) e ext = is_over _ (ap (end_by s now) e) ext

    -- the read of an actor in a scan
    reads : (who : ℕ) (a : Act) (torn : Bool) → slice_get w.actors who ≡ Some a → a.phase ≡ Scan → InScan c h g n es ps zs k who a
        → slice_get es k ≡ Some (read_event who torn)
        → Extends (suc k) ps zs (reads_place c h g n w k who a torn (place_in a.scan.next))
        → J c h g n es ps zs (suc k) (reads_place c h g n w k who a torn (place_in a.scan.next))
    reads who a torn at is ok here ext = subst (λ (y : Option ℕ). Extends (suc k) ps zs (reads_place c h g n w k who a torn y)
        → J c h g n es ps zs (suc k) (reads_place c h g n w k who a torn y)) (sym ok.goes.1)
        (from (get_or w.segments ok.goes.0 (blank_of 0)) (slice_get-get_or w.segments ok.goes.0 (blank_of 0) (let m = j.many in
        let l = ok.goes.2 in omega arith))) ext
      where
        from : (s : Seg) → slice_get w.segments ok.goes.0 ≡ Some s
            → Extends (suc k) ps zs (reads_from c h g n w k who a torn (slice_get w.segments ok.goes.0))
            → J c h g n es ps zs (suc k) (reads_from c h g n w k who a torn (slice_get w.segments ok.goes.0))
        from s sat ext = subst (λ (y : Option Seg). Extends (suc k) ps zs (reads_from c h g n w k who a torn y)
            → J c h g n es ps zs (suc k) (reads_from c h g n w k who a torn y)) (sym sat)
            (λ v. after_read who ok.goes.0 a s torn at is ok sat ok.goes.1 here (read_by s torn a a.scan.next).scan.next refl v)
            ext

    -- the Step of a ready worker
    publishes : (who : ℕ) (a : Act) → slice_get w.actors who ≡ Some a → a.phase ≡ Ready → IsReady c h g n es ps zs k who a
        → slice_get es k ≡ Some (Step who) → (o : Option Seg) → slice_get w.segments who ≡ o
        → Extends (suc k) ps zs (publishes_as c h g n w k who (ops_of (slice_get es a.begin)) a o)
        → J c h g n es ps zs (suc k) (publishes_as c h g n w k who (ops_of (slice_get es a.begin)) a o)
    publishes who a at is ok here None sat ext = let le = no_segment k w j who sat in let lt = ok.inside in absurd (omega arith)
    publishes who a at is ok here (Some s) sat ext = go (applied c h g s.row (ops_of (slice_get es a.begin))) refl ext
      where
        row : (r : List ℕ) × (applied c h g s.row (ops_of (slice_get es a.begin)) ≡ Some r)
        row = row_accepts k w j who (ops_of (slice_get es a.begin)) s sat ok.accepted.accepts

        go : (o : Option (List ℕ)) → applied c h g s.row (ops_of (slice_get es a.begin)) ≡ o
            → Extends (suc k) ps zs (publishes_row c h g n w k who (ops_of (slice_get es a.begin)) a s o)
            → J c h g n es ps zs (suc k) (publishes_row c h g n w k who (ops_of (slice_get es a.begin)) a s o)
        go None e ext = absurd (none-some row.0 (sym e ∙ row.1))
        go (Some r) e ext = cond_both (ltb s.number (2 ^ 64 - 1)) (with_publish k w who (ops_of (slice_get es a.begin)) a s r) w
            (λ (y : World). Extends (suc k) ps zs y → J c h g n es ps zs (suc k) y)
            (λ _ v. publishes_j c h g n es ps zs k w j low rise_p who (ops_of (slice_get es a.begin)) a s r at sat is ok refl here
            (λ i x ne. idle_step who i false x here ne) e v)
            (λ no_room v. absurd (true≢false (sym (number_test k w j who s sat ok.accepted.below) ∙ no_room))) ext

    -- nobody but who is not in it
    idles : (who : ℕ) (torn : Bool) → slice_get es k ≡ Some (read_event who torn)
        → ((a : Act) → slice_get w.actors who ≡ Some a → Idle c h g n es ps zs k who a.phase) → Extends (suc k) ps zs w
        → J c h g n es ps zs (suc k) w
    idles who torn here mine ext = rests_all c h g n es ps zs k w j low
        (λ i a at. dite (ℕ_discrete i who)
        (λ same. subst (λ (y : ℕ). Idle c h g n es ps zs k y a.phase) (sym same)
        (mine a (ap (slice_get w.actors) (sym same) ∙ at))) (λ ne. idle_step who i torn a.phase here ne)) ext

    steps_j : (who : ℕ) (torn : Bool) → slice_get es k ≡ Some (read_event who torn) → (o : Option Act)
        → slice_get w.actors who ≡ o → Extends (suc k) ps zs (steps c h g n es w k who torn o)
        → J c h g n es ps zs (suc k) (steps c h g n es w k who torn o)
    steps_j who torn here None at ext = idles who torn here (λ a is. absurd (none-some a (sym at ∙ is))) ext
    steps_j who torn here (Some a) at ext = go a.phase refl (j.actor who a at) ext
      where
        phase_of : (x : Phase) → a.phase ≡ x → Idle c h g n es ps zs k who x → (b : Act) → slice_get w.actors who ≡ Some b
            → Idle c h g n es ps zs k who b.phase
        phase_of x is idle b bat = subst (Idle c h g n es ps zs k who)
            (sym is ∙ ap (λ (y : Act). y.phase) (same_Some a b (sym at ∙ bat))) idle

        ready : (t : Bool) → torn ≡ t → a.phase ≡ Ready → IsReady c h g n es ps zs k who a
            → Extends (suc k) ps zs (cond t w
            (publishes_as c h g n w k who (ops_of (slice_get es a.begin)) a (slice_get w.segments who)))
            → J c h g n es ps zs (suc k)
            (cond t w (publishes_as c h g n w k who (ops_of (slice_get es a.begin)) a (slice_get w.segments who)))
        ready true t is ok ext =
            idles who torn here (phase_of Ready is (λ e. true≢false (sym t ∙ (step_of who who torn (slice_get es k) here e).0)))
            ext
        ready false t is ok ext = publishes who a at is ok (here ∙ ap (λ (y : Bool). Some (read_event who y)) t)
            (slice_get w.segments who) refl ext

        go : (x : Phase) → a.phase ≡ x → ActOk c h g n es ps zs k who a x
            → Extends (suc k) ps zs (steps_in c h g n es w k who torn a x)
            → J c h g n es ps zs (suc k) (steps_in c h g n es w k who torn a x)
        go Rest is ok ext = idles who torn here (phase_of Rest is (no_begin who who torn here)) ext
        go Scan is ok ext = reads who a torn at is ok here ext
        go Ready is ok ext = ready torn refl is ok ext

    -- A Begin.
    module _ (who : ℕ) (args : _) (here : slice_get es k ≡ Some (Begin who args)) where
      begin_idle : ((a : Act) → slice_get w.actors who ≡ Some a → a.phase ≡ Rest → ¬ MayBegin n c h g es ps zs k who args.items)
          → Extends (suc k) ps zs w → J c h g n es ps zs (suc k) w
      begin_idle refused ext = rests_all c h g n es ps zs k w j low
          (λ i a at. idle_begin who i args a.phase here
          (λ rests t. refused a (ap (slice_get w.actors) t.0 ∙ at) rests
          (subst (λ (y : ℕ). MayBegin n c h g es ps zs k y args.items) (sym t.0) t.1))) ext

      begin_now : (a : Act) → slice_get w.actors who ≡ Some a → a.phase ≡ Rest → ActOk c h g n es ps zs k who a Rest
          → accepts c h g n args.items (slice_get w.segments who) ≡ true
          → Extends (suc k) ps zs (record w { actors = slice_set w.actors who (begun_of n k a) })
          → J c h g n es ps zs (suc k) (record w { actors = slice_set w.actors who (begun_of n k a) })
      begin_now a at is closed allowed ext = one_moves c h g n es ps zs k w j low who a (begun_of n k a) w.answers at
          (λ e. rest_ready (sym is ∙ e)) ext
          (λ q z e same. absurd (no_answer q z e same))
          (λ i x ne. idle_begin who i args x here (λ _ t. ne (sym t.0)))
          (record {
            is_open = open_begins n c h g es ps zs k who closed (subst (BeginsAt n c h g es ps zs k who) (sym here) (refl, may));
            sized = record {
              some = one;
              most = most;
              begun = (let l : 1 ≤ 1 = omega arith in l);
              few = (let l : 1 ≤ n + 2 = omega arith in l);
              inside = (let l : 0 < n = omega arith in l);
              opened = refl;
              whole = refl;
              found = refl;
            };
            wide = refl;
            goes = (0, refl, (let l : 0 < n = omega arith in l));
            reads = [];
            told = told_new n one;
            meets = λ q r e. absurd (some-ne-none r (sym e));
            all_own = (let e : 0 ≡ suc k - suc k = omega arith in ap (own_reads es who (suc k)) e);
            fresh = λ q z e lt of same. ⊎_elim
                (λ l. let o = open_after n c h g es ps zs z.end z.actor z.begin (j.answer q z e l).is_open in
                absurd (omega arith)) (λ s. no_answer q z e s) (before_or z.end k lt);
            accepted = λ lt. takes_on c h g n es ps zs k who k no_publish (row lt);
          })
        where
          no_answer : (q : ℕ) (z : Answered) → get_elem? zs q ≡ some z → z.end ≢ k
          no_answer = nobody_answers c h g n es ps zs k w j low (record w { actors = slice_set w.actors who (begun_of n k a) })
              ext refl

          no_publish : NoPublish ps k who
          no_publish q x ex same =
              absurd (nobody_publishes c h g n es ps zs k w j low (record w { actors = slice_set w.actors who (begun_of n k a) })
              ext refl q x ex same)

          may : MayBegin n c h g es ps zs k who args.items
          may = may_begin k w j who args.items (slice_get w.segments who) (let m = j.actors in
              let l = slice_get_within w.actors who a at in omega arith) refl allowed

          row : who < n → RowTakes c h g n es ps zs k who k
          row lt = ⊎_elim (λ t. record {
            below = t.1;
            accepts = subst (Accepts c h g (row_at (sum_ops c h) ps k who)) (ap ops_of (sym here)) t.2;
          }) (λ t. let le = t.0 in
              absurd (omega arith)) may

      begins_j : (o : Option Act) → slice_get w.actors who ≡ o → Extends (suc k) ps zs (begins c h g n w k who args.items o)
          → J c h g n es ps zs (suc k) (begins c h g n w k who args.items o)
      begins_j None at ext = begin_idle (λ a is. absurd (none-some a (sym at ∙ is))) ext
      begins_j (Some a) at ext = go a.phase refl (j.actor who a at) ext
        where
          other : (x : Phase) → a.phase ≡ x → x ≢ Rest → (b : Act) → slice_get w.actors who ≡ Some b → b.phase ≡ Rest
              → ¬ MayBegin n c h g es ps zs k who args.items
          other x is ne b bat rests may = ne (sym is ∙ ap (λ (y : Act). y.phase) (same_Some a b (sym at ∙ bat)) ∙ rests)

          scan_rest : Scan ≡ Rest → ⊥
          scan_rest e = cc

          go : (x : Phase) → a.phase ≡ x → ActOk c h g n es ps zs k who a x
              → Extends (suc k) ps zs (begins_if c h g n w k who args.items a x)
              → J c h g n es ps zs (suc k) (begins_if c h g n w k who args.items a x)
          go Rest is ok ext = cond_both (accepts c h g n args.items (slice_get w.segments who))
              (record w { actors = slice_set w.actors who (begun_of n k a) }) w (λ (y : World). Extends (suc k) ps zs y
              → J c h g n es ps zs (suc k) y)
              (λ allowed v. begin_now a at is ok allowed v)
              (λ denied v. begin_idle (λ b bat rests. may_not k w j who args.items (slice_get w.segments who) refl denied) v) ext
          go Scan is ok ext = begin_idle (other Scan is scan_rest) ext
          go Ready is ok ext = begin_idle (other Ready is (λ e. rest_ready (sym e))) ext

    pub happens_j : (o : Option Event) → slice_get es k ≡ o → Extends (suc k) ps zs (happens_at c h g n es w k o)
        → J c h g n es ps zs (suc k) (happens_at c h g n es w k o)
    happens_j None is ext = rests_all c h g n es ps zs k w j low (λ i a at. nothing i a.phase) ext
      where
        nothing : (i : ℕ) (x : Phase) → Idle c h g n es ps zs k i x
        nothing i Rest = subst (λ (o : Option Event). ¬ BeginsAt n c h g es ps zs k i o) (sym is) (λ t. t)
        nothing i Scan = ap (own i k) is
        nothing i Ready = λ e. none-some (Step i) (sym is ∙ e)
    happens_j (Some (Begin who args)) is ext = begins_j who args is (slice_get w.actors who) refl ext
    happens_j (Some (Step who)) is ext = steps_j who false is (slice_get w.actors who) refl ext
    happens_j (Some (Torn who)) is ext = steps_j who true is (slice_get w.actors who) refl ext
