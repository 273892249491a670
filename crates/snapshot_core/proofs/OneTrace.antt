-- Of all lists, one of publishes and one of answers are what the events come to.
use Rattle.std.proofs.Common.{◌≡◌, ◌≢◌, ⊎_elim, ℕ, zero, suc, ◌+◌, ◌-◌, ◌<◌, ◌≤◌, Bool, Option, Some, None, List, [], ◌∷◌, ◌++◌}
use Rattle.std.proofs.Common.{length, map, sym, refl, ap, ◌∙◌, subst, arith, length-append}
use Rattle.std.specs.Prelude.{slice_get, slice_index}
use Rattle.std.proofs.lemmas.Grind.{same_number_lists}
use Rattle.std.proofs.lemmas.Option.{none-some, same_Some, slice_get_within}
use mathlib.Core.Logic.{dite}
use mathlib.Core.Option.{some, some-injective}
use native.Mathlib.Decide.{ℕ_discrete, dec_le}
use lib.ListN.{get_elem?}
use Rattle.ledger_core.specs.declared.op.Op.{Op}
use Rattle.ledger_core.specs.Ops.{width, sum_ops}
use Rattle.snapshot_core.specs.declared.event.Event.{Event}
use Rattle.snapshot_core.specs.declared.event.Event.TheVariants.{Step}
use Rattle.snapshot_core.specs.declared.trace.ScanEnd.{ScanEnd}
use Rattle.snapshot_core.specs.Tries.{View, Read}
use Rattle.snapshot_core.specs.Told.{vector_of}
use Rattle.snapshot_core.specs.History.{Published, number_at, total_at, OneStep}
use Rattle.snapshot_core.specs.Turns.{Answered, IsOpen, own, own_reads, ops_of}
use Rattle.snapshot_core.specs.Faithful.{where_and_torn, IsJustified, IsFirstStep, reads_in, IsFaithful, AreOneStep, AreFew}
use Rattle.snapshot_core.specs.Faithful.{IsOutcome}
use Rattle.snapshot_core.proofs.Unique.{AllAlike, head_same, tail_same}
use Rattle.snapshot_core.proofs.Past.{Inside, sum_ap, row_stays, rows_total}
use Rattle.snapshot_core.proofs.Lending.{at_publish, at_answer, in_first, get_map, find}
use Rattle.snapshot_core.proofs.Turns.{open_after, own_snoc, own_front, turn_of}
use Rattle.snapshot_core.proofs.Calm.{alike_all, own_within}
use Rattle.snapshot_core.proofs.OneScan.{ended_once}
use Rattle.snapshot_core.proofs.Agree.{Has, same_upto, upto_all, Agree, agree_back, number_same, total_same, meets_same}
use Rattle.snapshot_core.proofs.Agree.{open_same}
use Rattle.snapshot_core.proofs.OneTurn.{one_before}

-- Where all numbers are the same at two moments, so are the totals.
totals_fixed : (adds : List Op → ℕ → ℕ) (n : ℕ) (ps : List Published) (j k x : ℕ) → Inside n ps
    → ((i : ℕ) → i < n → number_at ps j i ≡ number_at ps k i) → total_at adds ps j x ≡ total_at adds ps k x
totals_fixed adds n ps j k x inside same = sym (rows_total adds n ps j x inside) ∙ (sum_ap n _ _ (λ i lt. dite (dec_le j k)
    (λ le. row_stays adds ps j k i x le (same i lt))
    (λ gt. sym (row_stays adds ps k j i x (omega (arith, gt)) (sym (same i lt))))) ∙ rows_total adds n ps k x inside)

-- two views of one vector, each all segments at one event up to e
views_same : (adds : List Op → ℕ → ℕ) (n w e b : ℕ) (ps qs : List Published) (zs ys : List Answered) → Agree e ps qs zs ys
    → Inside n qs → (v v' : Option View) → vector_of v ≡ vector_of v'
    → ((y : View) → v ≡ Some y → OneStep adds n w ps b e y) → ((y : View) → v' ≡ Some y → OneStep adds n w qs b e y) → v ≡ v'
views_same adds n w e b ps qs zs ys ag inside None None is s t = refl
views_same adds n w e b ps qs zs ys ag inside None (Some y) is s t = absurd (none-some _ is)
views_same adds n w e b ps qs zs ys ag inside (Some x) None is s t = absurd (none-some _ (sym is))
views_same adds n w e b ps qs zs ys ag inside (Some x) (Some y) is s t =
    λ d. Some (record { vector = vector d; totals = totals d })
  where
    one : OneStep adds n w ps b e x
    one = s x refl

    two : OneStep adds n w qs b e y
    two = t y refl

    vector : x.vector ≡ y.vector
    vector = same_Some x.vector y.vector is

    numbers : (i : ℕ) → i < n → number_at qs one.at i ≡ number_at qs two.at i
    numbers i lt = sym (number_same e ps qs zs ys ag one.at i one.by)
        ∙ (sym (one.right.numbers i lt) ∙ (ap (λ (z : List ℕ). slice_index z i) vector ∙ two.right.numbers i lt))

    totals : x.totals ≡ y.totals
    totals = same_number_lists x.totals y.totals (one.right.totals_wide ∙ sym two.right.totals_wide) (λ k lt.
        let wide = one.right.totals_wide in let in_w : k < w = omega (arith, lt, wide) in
        one.right.sums k in_w ∙ (total_same e ps qs zs ys ag adds one.at k one.by
        ∙ (totals_fixed adds n qs one.at two.at k inside numbers ∙ sym (two.right.sums k in_w))))

-- Reads.
pub record Split {A B : Type 0} (f : A → B) (xs : List A) (as' bs : List B) : Type 0 where
  pub front : List A
  pub rest : List A
  pub both : front ++ rest ≡ xs
  pub is_front : map f front ≡ as'
  pub is_rest : map f rest ≡ bs

split_map : {A B : Type 0} (f : A → B) (xs : List A) (as' bs : List B) → map f xs ≡ as' ++ bs → Split f xs as' bs
split_map f xs [] bs e = record { front = []; rest = xs; both = refl; is_front = refl; is_rest = e }
split_map f [] (a ∷ as') bs e = absurd (cc)
split_map f (x ∷ xs) (a ∷ as') bs e = go (split_map f xs as' bs (tail_same (f x) a (map f xs) (as' ++ bs) e))
  where
    go : Split f xs as' bs → Split f (x ∷ xs) (a ∷ as') bs
    go s = record {
      front = x ∷ s.front;
      rest = s.rest;
      both = (λ k. x ∷ s.both k);
      is_front = (λ k. head_same (f x) a (map f xs) (as' ++ bs) e k ∷ s.is_front k);
      is_rest = s.is_rest;
    }

alike_more : (xs ys zs : List Read) → AllAlike xs ys → AllAlike (xs ++ zs) (ys ++ zs)
alike_more [] [] [] a = tt
alike_more [] [] (z ∷ zs) a = (record { same = λ e. refl }, alike_more [] [] zs tt)
alike_more [] (y ∷ ys) zs a = absurd a
alike_more (x ∷ xs) [] zs a = absurd a
alike_more (x ∷ xs) (y ∷ ys) zs a = (a.0, alike_more xs ys zs a.1)

module _ (n c h g : ℕ) (es : List Event) where
  -- reads that are a scan in one trace are one in the other
  just_same : (e : ℕ) (ps qs : List Published) (zs ys : List Answered) → Agree e ps qs zs ys → (i b m : ℕ) → b + m ≤ e
      → (tries : ℕ) (how : ScanEnd) (view : Option View)
      → IsJustified n ps zs (own_reads es i (suc b) m) tries how view
      → IsJustified n qs ys (own_reads es i (suc b) m) tries how view
  just_same e ps qs zs ys ag i b m le tries how view j = record {
    met = j.met;
    same = j.same;
    meets = λ q r is. meets_same e ps qs zs ys ag r
        (let x = own_within es i (suc b) m q (where_and_torn r) (sym (ap (λ (z : List (ℕ × Bool)). get_elem? z q) j.same)
        ∙ get_map where_and_torn j.met q r is) in let hi = x.1 in omega (arith, hi, le))
        (j.meets q r is);
    scan = j.scan;
  }

  -- an actor's read is an event of the list
  read_within : (i e : ℕ) (x : ℕ × Bool) (o : Option Event) → slice_get es e ≡ o → own i e o ≡ x ∷ [] → e < length es
  read_within i e x None is own_is = absurd (let l : 0 ≡ 1 = ap (λ (z : List (ℕ × Bool)). length z) own_is in omega (arith, l))
  read_within i e x (Some event) is own_is = slice_get_within es e event is

  -- reads up to one of them are some
  reads_to : (i b d : ℕ) (x : ℕ × Bool) → own i (b + d) (slice_get es (b + d)) ≡ x ∷ [] → own_reads es i b (suc d) ≢ []
  reads_to i b d x is none =
      let l : length (own_reads es i b d ++ (x ∷ [])) ≡ 0 = ap (λ (z : List (ℕ × Bool)). length z)
      ((λ k. own_reads es i b d ++ sym is k) ∙ (sym (own_snoc es i b d) ∙ none)) in
      let m = length-append (own_reads es i b d) (x ∷ []) in omega (arith, l, m)

  -- what makes a trace the only one
  pub record IsRight (ps : List Published) (zs : List Answered) : Type 0 where
    pub faithful : IsFaithful n c h g es ps zs
    pub steps : AreOneStep n c h g ps zs
    pub few : AreFew n zs

  module _ (e : ℕ) (ps qs : List Published) (zs ys : List Answered) (ag : Agree e ps qs zs ys) (one : IsRight ps zs)
      (two : IsRight qs ys) where
    -- two publishes at one event, each at the first Step after an answer of the second trace
    same_publish : (p r : Published) (s t : ℕ) (a b : Answered) → get_elem? ys s ≡ some a → get_elem? ys t ≡ some b → a.actor < n
        → a.actor ≡ p.worker → b.actor ≡ r.worker → r.worker ≡ a.actor → r.at ≡ p.at
        → IsFirstStep es a.actor a.end p.at → IsFirstStep es b.actor b.end r.at → p.ops ≡ ops_of (slice_get es a.begin)
        → r.ops ≡ ops_of (slice_get es b.begin) → r ≡ p
    same_publish p r s t a b is_a is_b inside of_p of_r worker at first_p first_r ops_p ops_r =
        let same = one_before n c h g es qs ys two.faithful s t p.at a b is_a is_b inside (sym (of_r ∙ worker)) first_p
        (subst (IsFirstStep es b.actor b.end) at first_r) in
        λ d. record {
          at = at d;
          worker = (worker ∙ of_p) d;
          ops = (ops_r ∙ (ap (λ (y : Answered). ops_of (slice_get es y.begin)) (sym same) ∙ sym ops_p)) d;
        }

    -- a publish at e of the first trace is one of the second
    publish_there : (q : ℕ) (p : Published) → get_elem? ps q ≡ some p → p.at ≡ e → (r : ℕ) × (get_elem? qs r ≡ some p)
    publish_there q p is at = let u = one.faithful.published q p is in
        from u.1.0 u.1.1 u.1.2 u.1.3 u.1.4 u.1.5 (subst (λ (y : ℕ). y < n) (sym u.1.3) u.0)
      where
        from : (k : ℕ) (a : Answered) → get_elem? zs k ≡ some a → a.actor ≡ p.worker → p.ops ≡ ops_of (slice_get es a.begin)
            → IsFirstStep es a.actor a.end p.at → a.actor < n → (r : ℕ) × (get_elem? qs r ≡ some p)
        from k a is_a of ops first inside =
            let after = first.after in let there = ag.given k a is_a (omega (arith, after, at)) in
            let v = two.faithful.publishes there.0 p.at a there.1 inside first in
            let w = (two.faithful.published v.0 v.1 v.2).1 in
            (v.0, v.2 ∙ ap some (same_publish p v.1 there.0 w.0 a w.1 there.1 w.2 inside of w.3 v.3 v.4 first w.5 ops w.4))

    -- of a turn that the first trace answers at e, the second has the same answer
    module _ (q : ℕ) (a : Answered) (is : get_elem? zs q ≡ some a) (at : a.end ≡ e) where
      turn : IsOpen n c h g es ps zs a.end a.actor a.begin
      turn = (one.faithful.turns q a is).0

      begun : a.begin < a.end
      begun = open_after n c h g es ps zs a.end a.actor a.begin turn

      there_too : IsOpen n c h g es qs ys a.end a.actor a.begin
      there_too = open_same n c h g es e ps qs zs ys ag a.end a.actor a.begin (omega (arith, at)) turn

      just : IsJustified n qs ys (reads_in es a) a.tries a.how a.view
      just = just_same e ps qs zs ys ag a.actor a.begin (a.end - a.begin) (omega (arith, at, begun)) a.tries a.how a.view
          (one.faithful.justified q a is)

      none_there : ((r : ℕ) (b : Answered) → get_elem? ys r ≡ some b → b.actor ≡ a.actor → b.begin ≢ a.begin) → ⊥
      none_there none =
          let own_read = (one.faithful.turns q a is).1 in
          let within : a.end < length es = read_within a.actor a.end (a.end, own_read.0) (slice_get es a.end) refl own_read.1 in
          two.faithful.unanswered a.actor a.begin (a.end - a.begin) (turn_of n c h g es qs ys a.end a.actor a.begin there_too)
          none (omega (arith, within, begun)) a.tries a.how a.view just

      module _ (r : ℕ) (b : Answered) (ib : get_elem? ys r ≡ some b) (actor : b.actor ≡ a.actor) (begin : b.begin ≡ a.begin) where
        -- not before e
        not_early : b.end < e → ⊥
        not_early lt =
            let back = ag.ungiven r b ib lt in
            let same : b ≡ a = some-injective b a
            (sym back.1 ∙ (ap (get_elem? zs) (one.faithful.once back.0 q b a back.1 is actor begin) ∙ is)) in
            let ends : b.end ≡ a.end = ap (λ (y : Answered). y.end) same in omega (arith, lt, ends, at)

        module _ (d : ℕ) (later : b.end ≡ a.end + d) where
          -- its reads go on from those of the first trace's answer
          reads_on : reads_in es b ≡ reads_in es a ++ own_reads es a.actor (suc a.end) d
          reads_on = (λ k. own_reads es (actor k) (suc (begin k)) (many k))
              ∙ (own_front es a.actor (suc a.begin) (a.end - a.begin) d
              ∙ ap (λ (z : ℕ). reads_in es a ++ own_reads es a.actor z d) (let e : suc a.begin + (a.end - a.begin) ≡ suc a.end =
              omega (arith, begun) in e))
            where
              many : b.end - b.begin ≡ a.end - a.begin + d
              many = omega (arith, later, begin, begun)

          justified : IsJustified n qs ys (reads_in es a ++ own_reads es a.actor (suc a.end) d) b.tries b.how b.view
          justified = subst (λ (z : List (ℕ × Bool)). IsJustified n qs ys z b.tries b.how b.view) reads_on
              (two.faithful.justified r b ib)

          split : Split where_and_torn justified.met (reads_in es a) (own_reads es a.actor (suc a.end) d)
          split = split_map where_and_torn justified.met (reads_in es a) (own_reads es a.actor (suc a.end) d) justified.same

          ended : (split.rest ≡ []) × (a.tries ≡ b.tries) × (a.how ≡ b.how) × (vector_of a.view ≡ vector_of b.view)
          ended = ended_once n just.met split.rest justified.met a.tries b.tries a.how b.how a.view b.view just.scan
              justified.scan (one.few q a is) (two.few r b ib)
              (subst (AllAlike (just.met ++ split.rest)) split.both (alike_more just.met split.front split.rest
              (alike_all qs ys just.met split.front (just.same ∙ sym split.is_front) just.meets
              (λ k x ix. justified.meets k x (ap (λ (z : List Read). get_elem? z k) (sym split.both)
              ∙ in_first split.front split.rest k x ix)))))

          no_more : own_reads es a.actor (suc a.end) d ≡ []
          no_more = sym split.is_rest ∙ ap (map where_and_torn) ended.0

        -- so that it ends there too
        no_later : (d : ℕ) → b.end ≡ a.end + d → d ≡ 0
        no_later zero later = refl
        no_later (suc d) later = absurd (
            let own_read = (two.faithful.turns r b ib).1 in
            let end : b.end ≡ suc a.end + d = omega (arith, later) in
            reads_to a.actor (suc a.end) d (b.end, own_read.0)
            ((λ k. own (sym actor k) (sym end k) (slice_get es (sym end k))) ∙ own_read.1)
            (no_more (suc d) later))

        same_answer : b.end ≡ a.end → b ≡ a
        same_answer end =
            let zero_more : b.end ≡ a.end + 0 = omega (arith, end) in
            let x = ended 0 zero_more in
            let inside : Inside n qs = λ k p ip. (two.faithful.published k p ip).0 in
            let view : a.view ≡ b.view = views_same (sum_ops c h) n (width c h g) e a.begin ps qs zs ys ag inside a.view b.view
            x.3
            (λ y iy. subst (λ (z : ℕ). OneStep (sum_ops c h) n (width c h g) ps a.begin z y) at (one.steps q a y is iy))
            (λ y iy. subst (λ (z : ℕ × ℕ). OneStep (sum_ops c h) n (width c h g) qs z.0 z.1 y) (λ k. (begin k, (end ∙ at) k))
            (two.steps r b y ib iy)) in
            λ k. record { actor = actor k; begin = begin k; end = end k; tries = sym x.1 k; how = sym x.2 k; view = sym view k }

        the_same : b ≡ a
        the_same = dite (dec_le a.end b.end)
            (λ le. let later : b.end ≡ a.end + (b.end - a.end) = omega (arith, le) in let none = no_later (b.end - a.end) later in
            same_answer (omega (arith, later, none)))
            (λ gt. absurd (not_early (omega (arith, gt, at))))

      answer_there : (r : ℕ) × (get_elem? ys r ≡ some a)
      answer_there = ⊎_elim (λ t. (t.0, t.2 ∙ ap some (the_same t.0 t.1 t.2 t.3 t.4))) (λ none. absurd (none_there none))
          (find (λ (b : Answered). b.actor) (λ b. b.begin) ys a.actor a.begin)

  -- one event more
  has_next : {A : Type 0} (at : A → ℕ) (e : ℕ) (xs ys : List A) → Has at e xs ys
      → ((q : ℕ) (x : A) → get_elem? xs q ≡ some x → at x ≡ e → (r : ℕ) × (get_elem? ys r ≡ some x)) → Has at (suc e) xs ys
  has_next at e xs ys before now q x is lt = dite (ℕ_discrete (at x) e) (λ same. now q x is same)
      (λ ne. before q x is (omega (arith, lt, ne)))

  -- two traces are the same before every event
  agree_from : (e : ℕ) (ps qs : List Published) (zs ys : List Answered) → IsRight ps zs → IsRight qs ys
      → Has at_publish e ps qs → Has at_publish e qs ps → Has at_answer e zs ys → Has at_answer e ys zs → Agree e ps qs zs ys
  agree_from e ps qs zs ys one two s u g v = record {
    publishes = same_upto at_publish e ps qs one.faithful.publishes_rise two.faithful.publishes_rise s u;
    answers = same_upto at_answer e zs ys one.faithful.answers_rise two.faithful.answers_rise g v;
    sent = s;
    unsent = u;
    given = g;
    ungiven = v;
  }

  agrees : (e : ℕ) (ps qs : List Published) (zs ys : List Answered) → IsRight ps zs → IsRight qs ys → Agree e ps qs zs ys
  agrees zero ps qs zs ys one two = agree_from 0 ps qs zs ys one two (λ q x is lt. absurd (omega (arith, lt)))
      (λ q x is lt. absurd (omega (arith, lt))) (λ q x is lt. absurd (omega (arith, lt)))
      (λ q x is lt. absurd (omega (arith, lt)))
  agrees (suc e) ps qs zs ys one two = next (agrees e ps qs zs ys one two)
    where
      next : Agree e ps qs zs ys → Agree (suc e) ps qs zs ys
      next ag = let back = agree_back e ps qs zs ys ag in agree_from (suc e) ps qs zs ys one two
          (has_next at_publish e ps qs ag.sent (publish_there e ps qs zs ys ag one two))
          (has_next at_publish e qs ps ag.unsent (publish_there e qs ps ys zs back two one))
          (has_next at_answer e zs ys ag.given (answer_there e ps qs zs ys ag one two))
          (has_next at_answer e ys zs ag.ungiven (answer_there e qs ps ys zs back two one))

  publishes_within : (ps : List Published) (zs : List Answered) → IsRight ps zs → (q : ℕ) (p : Published)
      → get_elem? ps q ≡ some p → p.at < length es
  publishes_within ps zs one q p is = let u = (one.faithful.published q p is).1 in
      slice_get_within es p.at (Step u.1.actor) u.5.step

  answers_within : (ps : List Published) (zs : List Answered) → IsRight ps zs → (q : ℕ) (a : Answered) → get_elem? zs q ≡ some a
      → a.end < length es
  answers_within ps zs one q a is = let u = (one.faithful.turns q a is).1 in
      read_within a.actor a.end (a.end, u.0) (slice_get es a.end) refl u.1

  -- that it is faithful, one step and of few tries makes a trace the only one
  pub same_trace : (ps qs : List Published) (zs ys : List Answered) → IsRight ps zs → IsRight qs ys → (ps ≡ qs) × (zs ≡ ys)
  same_trace ps qs zs ys one two =
      let ag = agrees (length es) ps qs zs ys one two in (
        sym (upto_all at_publish (length es) ps (publishes_within ps zs one))
            ∙ (ag.publishes ∙ upto_all at_publish (length es) qs (publishes_within qs ys two)),
        sym (upto_all at_answer (length es) zs (answers_within ps zs one))
            ∙ (ag.answers ∙ upto_all at_answer (length es) ys (answers_within qs ys two)),
      )

pub one_trace : (n c h g : ℕ) (es : List Event) (ps qs : List Published) (zs ys : List Answered) → IsOutcome n c h g es ps zs
    → IsOutcome n c h g es qs ys → (ps ≡ qs) × (zs ≡ ys)
one_trace n c h g es ps qs zs ys one two = same_trace n c h g es ps qs zs ys
    (record { faithful = one.faithful; steps = one.steps; few = one.few })
    (record { faithful = two.faithful; steps = two.steps; few = two.few })
