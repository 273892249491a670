-- Publishes and answers are only ever appended, and in the order of their events.
use Rattle.std.proofs.Common.{◌≡◌, ℕ, zero, suc, ◌+◌, ◌-◌, ◌^◌, ◌≤◌, ⊎_elim, Bool, true, false, ltb, List, [], ◌∷◌, ◌++◌, sym}
use Rattle.std.proofs.Common.{refl, ap, ◌∙◌, subst, arith, Option, Some, None, append_assoc, append-nil}
use Rattle.std.specs.Prelude.{slice_get, slice_set}
use Rattle.std.proofs.lemmas.Bool.{cond_both}
use mathlib.Core.Option.{some-ne-none}
use Rattle.ledger_core.specs.declared.op.Op.{Op}
use Rattle.snapshot_core.specs.declared.event.Event.{Event}
use Rattle.snapshot_core.specs.declared.event.Event.TheVariants.{Begin, Step, Torn}
use Rattle.snapshot_core.specs.declared.trace.ScanEnd.{ScanEnd}
use Rattle.snapshot_core.specs.declared.actor.Phase.{Phase}
use Rattle.snapshot_core.specs.declared.actor.Phase.TheVariants.{Rest, Scan, Ready}
use Rattle.snapshot_core.specs.Tries.{View}
use Rattle.snapshot_core.specs.History.{Published}
use Rattle.snapshot_core.specs.Turns.{Answered, ops_of}
use Rattle.snapshot_core.specs.Machine.{Seg, Act, World, applied, place_in, read_by, end_by, accepts, begins_if, begins, ends}
use Rattle.snapshot_core.specs.Machine.{reads_from, reads_place, publishes_row, publishes_as, steps_in, steps, happens_at}
use Rattle.snapshot_core.specs.Machine.{world_at}
use Rattle.snapshot_core.proofs.Lending.{Below, NotBelow, Rising, at_publish, at_answer, in_both, only_one, below_more}
use Rattle.snapshot_core.proofs.Lending.{below_next, rising_more}

-- nothing, or one element that stands at k
abbrev pub Sole : {A : Type 0} → (A → ℕ) → ℕ → List A → Type 0
Sole at k [] = Unit {0}
Sole at k (x ∷ []) = at x ≡ k
Sole at k (x ∷ y ∷ xs) = ⊥

module _ {A : Type 0} (at : A → ℕ) where
  sole_below : (k : ℕ) (xs new : List A) → Sole at k new → Below at k xs → Below at (suc k) (xs ++ new)
  sole_below k xs [] s h = subst (Below at (suc k)) (sym (append-nil xs)) (below_next at k xs h)
  sole_below k xs (x ∷ []) s h = below_more at k xs x h s
  sole_below k xs (x ∷ y ∷ ys) s h = absurd s

  sole_rising : (k : ℕ) (xs new : List A) → Sole at k new → Below at k xs → Rising at xs → Rising at (xs ++ new)
  sole_rising k xs [] s h r = subst (Rising at) (sym (append-nil xs)) r
  sole_rising k xs (x ∷ []) s h r = rising_more at k xs x h s r
  sole_rising k xs (x ∷ y ∷ ys) s h r = absurd s

  sole_later : (k j : ℕ) (new : List A) → k ≤ j → Sole at j new → NotBelow at k new
  sole_later k j [] le s q x e = absurd (some-ne-none x (sym e))
  sole_later k j (y ∷ []) le s q x e = let same : at y ≡ at x = ap at (only_one y q x e) in omega arith
  sole_later k j (x ∷ y ∷ ys) le s q z e = absurd s

  later_both : (k : ℕ) (xs ys : List A) → NotBelow at k xs → NotBelow at k ys → NotBelow at k (xs ++ ys)
  later_both k xs ys a b q x e = ⊎_elim (λ t. a q x t) (λ t. b t.0 x t.2) (in_both xs ys q x e)

-- one event appends a publish, an answer or nothing
pub record Grown (k : ℕ) (w y : World) : Type 0 where
  pub new : List Published
  pub publishes : y.publishes ≡ w.publishes ++ new
  pub sole : Sole at_publish k new
  pub also : List Answered
  pub answers : y.answers ≡ w.answers ++ also
  pub single : Sole at_answer k also

-- what stands in a run's lists past those of the world y
pub record Extends (k : ℕ) (ps : List Published) (zs : List Answered) (y : World) : Type 0 where
  pub new : List Published
  pub publishes : ps ≡ y.publishes ++ new
  pub later : NotBelow at_publish k new
  pub also : List Answered
  pub answers : zs ≡ y.answers ++ also
  pub after : NotBelow at_answer k also

-- the lists before the event k
pub record Ordered (k : ℕ) (w : World) : Type 0 where
  pub publishes : Below at_publish k w.publishes
  pub publishes_rise : Rising at_publish w.publishes
  pub answers : Below at_answer k w.answers
  pub answers_rise : Rising at_answer w.answers

-- the world after a publish
abbrev pub with_publish : (k : ℕ) → World → (who : ℕ) → List Op → Act → Seg → List ℕ → World
with_publish k w who ops a s row = record w {
  segments = slice_set w.segments who (record { number = s.number + 1; row = row; view = a.view });
  actors = slice_set w.actors who (record a { phase = Rest; view = None });
  publishes = w.publishes ++ record { at = k; worker = who; ops = ops } ∷ [];
}

module _ (c h g n : ℕ) (es : List Event) where
  module _ (k : ℕ) (w : World) where
    keeps : (y : World) → y.publishes ≡ w.publishes → y.answers ≡ w.answers → Grown k w y
    keeps y e f = record {
      new = [];
      publishes = e ∙ sym (append-nil w.publishes);
      sole = tt;
      also = [];
      answers = f ∙ sym (append-nil w.answers);
      single = tt;
    }

    ends_grow : (who : ℕ) (a : Act) (o : Option (ScanEnd × Option View)) → Grown k w (ends c h g n w k who a o)
    ends_grow who a None = keeps _ refl refl
    ends_grow who a (Some e) = record {
      new = [];
      publishes = sym (append-nil w.publishes);
      sole = tt;
      also = _ ∷ [];
      answers = refl;
      single = refl;
    }

    reads_grow : (who : ℕ) (a : Act) (torn : Bool) (o : Option ℕ) → Grown k w (reads_place c h g n w k who a torn o)
    reads_grow who a torn None = keeps w refl refl
    reads_grow who a torn (Some p) = go (slice_get w.segments p)
      where
        go : (o : Option Seg) → Grown k w (reads_from c h g n w k who a torn o)
        go None = keeps w refl refl
        go (Some s) = ends_grow who (read_by s torn a a.scan.next)
            (end_by s (read_by s torn a a.scan.next) (read_by s torn a a.scan.next).scan.next)

    publishes_grow : (who : ℕ) (ops : List Op) (a : Act) (o : Option Seg) → Grown k w (publishes_as c h g n w k who ops a o)
    publishes_grow who ops a None = keeps w refl refl
    publishes_grow who ops a (Some s) = go (applied c h g s.row ops)
      where
        go : (o : Option (List ℕ)) → Grown k w (publishes_row c h g n w k who ops a s o)
        go None = keeps w refl refl
        go (Some row) = cond_both (ltb s.number (2 ^ 64 - 1)) (with_publish k w who ops a s row) w (Grown k w)
            (λ _. record {
              new = _ ∷ [];
              publishes = refl;
              sole = refl;
              also = [];
              answers = sym (append-nil w.answers);
              single = tt;
            }) (λ _. keeps w refl refl)

    steps_grow : (who : ℕ) (torn : Bool) (o : Option Act) → Grown k w (steps c h g n es w k who torn o)
    steps_grow who torn None = keeps w refl refl
    steps_grow who torn (Some a) = go a.phase
      where
        go : (x : Phase) → Grown k w (steps_in c h g n es w k who torn a x)
        go Rest = keeps w refl refl
        go Scan = reads_grow who a torn (place_in a.scan.next)
        go Ready = cond_both torn w _ (Grown k w) (λ _. keeps w refl refl)
            (λ _. publishes_grow who (ops_of (slice_get es a.begin)) a (slice_get w.segments who))

    begins_grow : (who : ℕ) (ops : List Op) (o : Option Act) → Grown k w (begins c h g n w k who ops o)
    begins_grow who ops None = keeps w refl refl
    begins_grow who ops (Some a) = go a.phase
      where
        go : (x : Phase) → Grown k w (begins_if c h g n w k who ops a x)
        go Rest = cond_both (accepts c h g n ops (slice_get w.segments who)) _ w (Grown k w) (λ _. keeps _ refl refl)
            (λ _. keeps w refl refl)
        go Scan = keeps w refl refl
        go Ready = keeps w refl refl

    happens_grow : (o : Option Event) → Grown k w (happens_at c h g n es w k o)
    happens_grow None = keeps w refl refl
    happens_grow (Some (Begin who ops)) = begins_grow who ops.items (slice_get w.actors who)
    happens_grow (Some (Step who)) = steps_grow who false (slice_get w.actors who)
    happens_grow (Some (Torn who)) = steps_grow who true (slice_get w.actors who)

  pub world_grows : (k : ℕ) → Grown k (world_at c h g n es k) (world_at c h g n es (suc k))
  world_grows k = happens_grow k (world_at c h g n es k) (slice_get es k)

  pub world_ordered : (k : ℕ) → Ordered k (world_at c h g n es k)
  world_ordered zero = record {
    publishes = λ q x e. absurd (some-ne-none x (sym e));
    publishes_rise = λ q r x y e f lt. absurd (some-ne-none x (sym e));
    answers = λ q x e. absurd (some-ne-none x (sym e));
    answers_rise = λ q r x y e f lt. absurd (some-ne-none x (sym e));
  }
  world_ordered (suc k) = let r = world_ordered k in let y = world_grows k in record {
    publishes = subst (Below at_publish (suc k)) (sym y.publishes) (sole_below at_publish k _ y.new y.sole r.publishes);
    publishes_rise = subst (Rising at_publish) (sym y.publishes)
        (sole_rising at_publish k _ y.new y.sole r.publishes r.publishes_rise);
    answers = subst (Below at_answer (suc k)) (sym y.answers) (sole_below at_answer k _ y.also y.single r.answers);
    answers_rise = subst (Rising at_answer) (sym y.answers) (sole_rising at_answer k _ y.also y.single r.answers r.answers_rise);
  }

  -- the lists of m events more
  pub world_extends : (k m j : ℕ) → k + m ≡ j → Extends k (world_at c h g n es j).publishes (world_at c h g n es j).answers
      (world_at c h g n es k)
  world_extends k zero j is =
      subst (λ (i : ℕ). Extends k (world_at c h g n es i).publishes (world_at c h g n es i).answers (world_at c h g n es k))
      (let e : k ≡ j = omega arith in e)
      (record {
        new = [];
        publishes = sym (append-nil _);
        later = λ q x e. absurd (some-ne-none x (sym e));
        also = [];
        answers = sym (append-nil _);
        after = λ q x e. absurd (some-ne-none x (sym e));
      })
  world_extends k (suc m) j is = let r = world_extends k m (k + m) refl in let y = world_grows (k + m) in
      subst (λ (i : ℕ). Extends k (world_at c h g n es i).publishes (world_at c h g n es i).answers (world_at c h g n es k))
      (let e : suc (k + m) ≡ j = omega arith in e)
      (record {
        new = r.new ++ y.new;
        publishes = y.publishes ∙ ap (λ (z : List Published). z ++ y.new) r.publishes ∙ append_assoc _ r.new y.new;
        later = later_both at_publish k r.new y.new r.later (sole_later at_publish k (k + m) y.new (omega arith) y.sole);
        also = r.also ++ y.also;
        answers = y.answers ∙ ap (λ (z : List Answered). z ++ y.also) r.answers ∙ append_assoc _ r.also y.also;
        after = later_both at_answer k r.also y.also r.after (sole_later at_answer k (k + m) y.also (omega arith) y.single);
      })
