-- One event's changes to the machine, and what is true after them.
use Rattle.std.proofs.Common.{◌≡◌, ◌≢◌, ℕ, zero, suc, ◌+◌, ◌<◌, inl, ⊎_elim, List, [], ◌∷◌, ◌++◌, length, sym, refl, ap, ◌∙◌}
use Rattle.std.proofs.Common.{subst, arith, Some, None, length-set}
use Rattle.std.specs.Prelude.{slice_get, slice_set}
use Rattle.std.proofs.Math.ListN.{set}
use Rattle.std.proofs.lemmas.Option.{none-some, same_Some}
use mathlib.Core.Option.{some}
use lib.ListN.{get_elem?}
use Rattle.ledger_core.specs.declared.op.Op.{Op}
use Rattle.ledger_core.specs.Ops.{sum_ops}
use Rattle.snapshot_core.specs.declared.event.Event.{Event}
use Rattle.snapshot_core.specs.declared.event.Event.TheVariants.{Step}
use Rattle.snapshot_core.specs.declared.actor.Phase.{Phase}
use Rattle.snapshot_core.specs.declared.actor.Phase.TheVariants.{Rest, Scan, Ready}
use Rattle.snapshot_core.specs.History.{Published}
use Rattle.snapshot_core.specs.Turns.{Answered, IsOpen, ops_of}
use Rattle.snapshot_core.specs.Machine.{Seg, Act, World, applied}
use Rattle.snapshot_core.proofs.Lending.{Rising, NoPublish, at_publish, at_answer, one_only, none_at, one_at, number_now, row_now}
use Rattle.snapshot_core.proofs.Lending.{lent_now}
use Rattle.snapshot_core.proofs.Grows.{Ordered, Extends, with_publish}
use Rattle.snapshot_core.proofs.Turns.{closed_by, same_step}
use Rattle.snapshot_core.proofs.Accepted.{taken}
use Rattle.snapshot_core.proofs.Justify.{SegOk, IsReady, ActOk, AnswerOk, PublishOk, IsReadyIn, J, Idle, seg_waits, act_waits}
use Rattle.snapshot_core.proofs.Justify.{next_j}
use Rattle.ledger_core.proofs.Placing.{at_set}

-- the element that a write puts in a list, and another one there
set_here : {A : Type 0} (l : List A) (i : ℕ) (x y : A) → slice_get l i ≡ Some y → slice_get (set l i x) i ≡ Some x
set_here [] i x y e = absurd (none-some y e)
set_here (z ∷ l) zero x y e = refl
set_here (z ∷ l) (suc i) x y e = set_here l i x y e

set_there : {A : Type 0} (l : List A) (i j : ℕ) (x y : A) → j ≢ i → slice_get l j ≡ Some y → slice_get (set l i x) j ≡ Some y
set_there [] i j x y ne e = e
set_there (z ∷ l) zero zero x y ne e = absurd (ne refl)
set_there (z ∷ l) zero (suc j) x y ne e = e
set_there (z ∷ l) (suc i) zero x y ne e = e
set_there (z ∷ l) (suc i) (suc j) x y ne e = set_there l i j x y (λ same. ne (omega arith)) e

pub rest_ready : Rest ≡ Ready → ⊥
rest_ready e = cc

pub scan_ready : Scan ≡ Ready → ⊥
scan_ready e = cc

module _ (c h g n : ℕ) (es : List Event) (ps : List Published) (zs : List Answered) where
  -- what one actor's answer at k has
  abbrev pub AnsweredBy : (k who : ℕ) → Act → Type 0
  AnsweredBy k who b = (q : ℕ) (z : Answered) → get_elem? zs q ≡ some z → z.end ≡ k → (z.actor ≡ who)
      × AnswerOk c h g n es ps zs z
      × ((r : ℕ) (x : Answered) → get_elem? zs r ≡ some x → x.end < k → z.actor ≡ x.actor → z.begin ≢ x.begin)
      × (z.actor < n → b.phase ≡ Ready)

  module _ (k : ℕ) (w : World) (j : J c h g n es ps zs k w) (low : Ordered k w) where
    -- nothing is published, or nobody is answered
    pub nobody_publishes : (y : World) → Extends (suc k) ps zs y → y.publishes ≡ w.publishes → (q : ℕ) (p : Published)
        → get_elem? ps q ≡ some p → p.at ≢ k
    nobody_publishes y ext e = none_at at_publish k w.publishes ps ext.new low.publishes ext.later
        (ext.publishes ∙ ap (λ (x : List Published). x ++ ext.new) e)

    pub nobody_answers : (y : World) → Extends (suc k) ps zs y → y.answers ≡ w.answers → (q : ℕ) (a : Answered)
        → get_elem? zs q ≡ some a → a.end ≢ k
    nobody_answers y ext e = none_at at_answer k w.answers zs ext.also low.answers ext.after
        (ext.answers ∙ ap (λ (x : List Answered). x ++ ext.also) e)

    -- nothing changes
    pub rests_all : ((i : ℕ) (a : Act) → slice_get w.actors i ≡ Some a → Idle c h g n es ps zs k i a.phase)
        → Extends (suc k) ps zs w → J c h g n es ps zs (suc k) w
    rests_all idle ext = next_j c h g n es ps zs k w w j (record {
      many = j.many;
      actors = j.actors;
      segment = λ i s at. seg_waits c h g n es ps zs k i s (λ q p e same. absurd (no_publish q p e same)) (j.segment i s at);
      actor = λ i a at. act_waits c h g n es ps zs k i a a.phase (λ q p e same. absurd (no_publish q p e same))
          (λ q z e same. absurd (no_answer q z e same)) (idle i a at) (j.actor i a at);
      answer = λ q a at e. absurd (no_answer q a at e);
      new = λ q r a b ea eb e l same. absurd (no_answer q a ea e);
      published = λ q p at e. absurd (no_publish q p at e);
      ready = λ q a at e inside. absurd (no_answer q a at e);
      stays = λ i r ne. r;
      publishes = λ i r e. absurd (subst (Idle c h g n es ps zs k i) r.2 (idle i r.0 r.1) e);
    })
      where
        no_publish : (q : ℕ) (p : Published) → get_elem? ps q ≡ some p → p.at ≢ k
        no_publish = nobody_publishes w ext refl

        no_answer : (q : ℕ) (a : Answered) → get_elem? zs q ≡ some a → a.end ≢ k
        no_answer = nobody_answers w ext refl

    -- one actor changes, and may be answered
    pub one_moves : (who : ℕ) (a b : Act) (more : List Answered) → slice_get w.actors who ≡ Some a → a.phase ≢ Ready
        → Extends (suc k) ps zs (record w { actors = slice_set w.actors who b; answers = more }) → AnsweredBy k who b
        → ((i : ℕ) (x : Phase) → i ≢ who → Idle c h g n es ps zs k i x) → ActOk c h g n es ps zs (suc k) who b b.phase
        → J c h g n es ps zs (suc k) (record w { actors = slice_set w.actors who b; answers = more })
    one_moves who a b more at unready ext answered others ok = next_j c h g n es ps zs k w
        (record w { actors = slice_set w.actors who b; answers = more }) j (record {
          many = j.many;
          actors = length-set _ _ _ ∙ j.actors;
          segment = λ i s at. seg_waits c h g n es ps zs k i s (λ q p e same. absurd (no_publish q p e same)) (j.segment i s at);
          actor = λ i x is. ⊎_elim (λ t. subst (λ (y : ℕ × Act). ActOk c h g n es ps zs (suc k) y.0 y.1 y.1.phase)
              (λ d. (sym t.0 d, t.1 d)) ok)
              (λ t. act_waits c h g n es ps zs k i x x.phase (λ q p e same. absurd (no_publish q p e same))
              (λ q z e same of. t.0 (sym of ∙ (answered q z e same).0)) (others i x.phase t.0) (j.actor i x t.1))
              (at_set w.actors who b i x is);
          answer = λ q z e same. (answered q z e same).1;
          new = λ q r z x ez ex same l. (answered q z ez same).2 r x ex l;
          published = λ q p e same. absurd (no_publish q p e same);
          ready = λ q z e same inside. let y = answered q z e same in
              (b, ap (slice_get (set w.actors who b)) y.0 ∙ set_here w.actors who b a at, y.3 inside);
          stays = λ i r ne. (r.0, set_there w.actors who i b r.0 (other i r) r.1, r.2);
          publishes = λ i r e. absurd (others i Ready (other i r) e);
        })
      where
        no_publish : (q : ℕ) (p : Published) → get_elem? ps q ≡ some p → p.at ≢ k
        no_publish = nobody_publishes (record w { actors = slice_set w.actors who b; answers = more }) ext refl

        other : (i : ℕ) → IsReadyIn c h g n es ps zs w i → i ≢ who
        other i r same = unready (ap (λ (x : Act). x.phase) (same_Some a r.0 (sym at ∙ ap (slice_get w.actors) (sym same) ∙ r.1))
            ∙ r.2)

    -- a worker publishes
    module _ (rise : Rising at_publish ps) (who : ℕ) (ops : List Op) (a : Act) (s : Seg) (row : List ℕ)
        (at : slice_get w.actors who ≡ Some a) (sat : slice_get w.segments who ≡ Some s)
        (is : a.phase ≡ Ready) (ok : IsReady c h g n es ps zs k who a) (ops_are : ops ≡ ops_of (slice_get es a.begin))
        (step : slice_get es k ≡ Some (Step who))
        (others : (i : ℕ) (x : Phase) → i ≢ who → Idle c h g n es ps zs k i x) (takes : applied c h g s.row ops ≡ Some row)
        (ext : Extends (suc k) ps zs (with_publish k w who ops a s row)) where
      abbrev one : Published
      one = record { at = k; worker = who; ops = ops }

      there : get_elem? ps (length w.publishes) ≡ some one
      there = one_at w.publishes ps ext.new one ext.publishes

      only : (q : ℕ) (p : Published) → get_elem? ps q ≡ some p → p.at ≡ k → one ≡ p
      only q p e same = one_only at_publish ps rise (length w.publishes) q one p there e (sym same)

      no_other : (i : ℕ) → i ≢ who → NoPublish ps k i
      no_other i ne q p e same of = ne (sym of ∙ sym (ap (λ (y : Published). y.worker) (only q p e same)))

      no_answer : (q : ℕ) (z : Answered) → get_elem? zs q ≡ some z → z.end ≢ k
      no_answer = nobody_answers (with_publish k w who ops a s row) ext refl

      new_segment : SegOk c h g n es ps zs (suc k) who (record { number = s.number + 1; row = row; view = a.view })
      new_segment = let old = j.segment who s sat in let t = taken c h g s.row ops row old.wide old.small takes in record {
        number = ap (λ (y : ℕ). y + 1) old.number ∙ sym (number_now ps k who (length w.publishes) one rise there refl refl);
        view = sym ok.view ∙ sym (lent_now ps zs k who (length w.publishes) one rise there refl refl);
        wide = t.wide;
        words = λ x lt. t.sums x lt ∙ ap (λ (y : ℕ). y + sum_ops c h ops x) (old.words x lt)
            ∙ sym (row_now (sum_ops c h) ps k who (length w.publishes) x one rise there refl refl);
        small = t.small;
      }

      published : PublishOk c h g n es ps zs one
      published = record {
        place = ok.place;
        answer = ok.answer;
        is_answer = ok.is_answer;
        of_worker = ok.of_actor;
        inside = ok.inside;
        ops = ops_are ∙ ap (λ (y : ℕ). ops_of (slice_get es y)) (sym ok.of_begin);
        first = record {
          after = ok.over;
          step = step ∙ ap (λ (y : ℕ). Some (Step y)) (sym ok.of_actor);
          first = λ i from before e. ok.no_step i from before (e ∙ ap (λ (y : ℕ). Some (Step y)) ok.of_actor);
        };
        is_open = subst (λ (y : ℕ). IsOpen n c h g es ps zs k who y) (sym ok.of_begin) ok.is_open;
      }

      not_who : (i : ℕ) → slice_get es k ≢ Some (Step i) → i ≢ who
      not_who i ne same = ne (step ∙ ap (λ (y : ℕ). Some (Step y)) (sym same))

      pub publishes_j : J c h g n es ps zs (suc k) (with_publish k w who ops a s row)
      publishes_j = next_j c h g n es ps zs k w (with_publish k w who ops a s row) j (record {
        many = length-set _ _ _ ∙ j.many;
        actors = length-set _ _ _ ∙ j.actors;
        segment = λ i y e. ⊎_elim (λ t. subst (λ (z : ℕ × Seg). SegOk c h g n es ps zs (suc k) z.0 z.1) (λ d. (sym t.0 d, t.1 d))
            new_segment)
            (λ t. seg_waits c h g n es ps zs k i y (no_other i t.0) (j.segment i y t.1)) (at_set w.segments who _ i y e);
        actor = λ i y e. ⊎_elim
            (λ t. subst (λ (z : ℕ × Act). ActOk c h g n es ps zs (suc k) z.0 z.1 z.1.phase) (λ d. (sym t.0 d, t.1 d))
            (closed_by n c h g es ps zs k who a.begin ok.is_open (inl (ok.inside, (length w.publishes, one, there, refl, refl)))))
            (λ t. act_waits c h g n es ps zs k i y y.phase (no_other i t.0) (λ q z ez same. absurd (no_answer q z ez same))
            (others i y.phase t.0) (j.actor i y t.1))
            (at_set w.actors who (record a { phase = Rest; view = None }) i y e);
        answer = λ q z e same. absurd (no_answer q z e same);
        new = λ q r z x ez ex same l. absurd (no_answer q z ez same);
        published = λ q p e same. subst (PublishOk c h g n es ps zs) (only q p e same) published;
        ready = λ q z e same inside. absurd (no_answer q z e same);
        stays = λ i r ne. (r.0, set_there w.actors who i (record a { phase = Rest; view = None }) r.0 (not_who i ne) r.1, r.2);
        publishes = λ i r e. (length w.publishes, one, there, same_step who i (sym step ∙ e), refl);
      })
