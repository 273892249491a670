-- The actor and the segment that the machine looks up, and what it writes back.
use Rattle.std.proofs.Common.{◌≡◌, ℕ, zero, suc, ◌+◌, ◌<◌, Bool, true, false, cond, List, [], ◌∷◌, ◌++◌, length, map, get_or, set}
use Rattle.std.proofs.Common.{ltb, ltb-true, ltb-false, Option, Some, None, refl, sym, ap, ◌∙◌, arith, append-nil}
use Rattle.std.specs.Prelude.{slice_get, option_map, Result, Ok, Err, OnOk}
use Rattle.std.proofs.lemmas.List.{map-set, length-map, get_or_read}
use Rattle.std.proofs.lemmas.Option.{slice_get_read, slice_get_past, slice_get-map}
use Rattle.ledger_core.specs.declared.op.Op.{Op}
use Rattle.snapshot_core.specs.declared.event.Event.{Event}
use Rattle.snapshot_core.specs.declared.trace.ScanEnd.{ScanEnd}
use Rattle.snapshot_core.specs.declared.actor.Segment.{Segment}
use Rattle.snapshot_core.specs.declared.actor.Phase.{Phase}
use Rattle.snapshot_core.specs.declared.actor.Phase.TheVariants as phase
use Rattle.snapshot_core.specs.declared.actor.Actor.{Actor}
use Rattle.snapshot_core.specs.History.{Published}
use Rattle.snapshot_core.specs.Tries.{View}
use Rattle.snapshot_core.specs.Turns.{Answered}
use Rattle.snapshot_core.specs.Machine.{Seg, Act, World, seg_of, act_of, applied, begun_of, place_in, accepts, begins_if, begins}
use Rattle.snapshot_core.specs.Machine.{over, ends, finished, told, read_of, end_of, ended_by, told_by, phase_after, reads_from}
use Rattle.snapshot_core.specs.Machine.{reads_place, reads, publishes_row, publishes_as, publishes_by, happens_at, happens}
use Rattle.snapshot_core.specs.Machine.{world_at}

-- what a list holds of an element that the code has read
pub found : {A B : Type 0} (f : A → B) (xs : List A) (k : ℕ) (x : A) → k < length xs → x ≡ get_or xs k x
    → slice_get (map f xs) k ≡ Some (f x)
found f xs k x lt is = slice_get-map f xs k ∙ ap (option_map f) (slice_get_read xs (length xs) k x refl lt is)

-- what follows of two facts of an Ok
pub on_both : {T E : Type 0} (r : Result T E) {P Q R : Type 0} → OnOk r P → OnOk r Q → (P → Q → R) → OnOk r R
on_both (Ok x) p q f = f p q
on_both (Err e) p q f = p

module _ (c h g n : ℕ) where
  pub begins_at : (ss : List Seg) (xs : List Actor) (ps : List Published) (os : List Answered) (at who : ℕ) (ops : List Op)
      (a b new : Actor)
      → who < length xs → a ≡ get_or xs who a → b ≡ get_or xs who b → a.phase ≡ phase.Rest
      → true ≡ accepts c h g n ops (slice_get ss who) → act_of new ≡ begun_of n at (act_of b)
      → record { segments = ss; actors = map act_of (set xs who new); publishes = ps; answers = os } ≡ begins c h g n
      (record { segments = ss; actors = map act_of xs; publishes = ps; answers = os }) at who ops
      (slice_get (map act_of xs) who)
  begins_at ss xs ps os at who ops a b new lt isa isb rest t e =
      let w : World = record { segments = ss; actors = map act_of xs; publishes = ps; answers = os } in
      ap (λ (z : List Act). let y : World = record { segments = ss; actors = z; publishes = ps; answers = os } in
      y) (map-set act_of xs who new ∙ ap (set (map act_of xs) who) e)
      ∙ ap (λ (z : Bool). cond z (record w { actors = set w.actors who (begun_of n at (act_of b)) }) w) t
      ∙ ap (begins_if c h g n w at who ops (act_of b))
      (sym (ap (λ (z : Actor). z.phase) (get_or_read xs who b lt isb a ∙ sym isa) ∙ rest))
      ∙ ap (begins c h g n w at who ops) (sym (found act_of xs who b lt isb))

  over_in : (ss : List Seg) (who : ℕ) → who < length ss → over c h g n (slice_get ss who) ≡ phase.Ready
  over_in [] who lt = absurd (omega arith)
  over_in (s ∷ ss) zero lt = refl
  over_in (s ∷ ss) (suc who) lt = over_in ss who (omega arith)

  over_is : (ss : List Seg) (who : ℕ) (t : Bool) → ltb who (length ss) ≡ t → over c h g n (slice_get ss who) ≡ phase_after t
  over_is ss who true e = over_in ss who (ltb-true who (length ss) e)
  over_is ss who false e = ap (over c h g n) (slice_get_past ss who (ltb-false who (length ss) e))

  ends_is : (w : World) (at who : ℕ) (a : Act) (t : Bool) → ltb who (length w.segments) ≡ t → (e : Option (ScanEnd × Option View))
      → ends c h g n w at who a e ≡ record {
        segments = w.segments;
        actors = set w.actors who (finished t a e);
        publishes = w.publishes;
        answers = w.answers ++ told at who a e;
      }
  ends_is w at who a t is None =
      ap (λ (z : List Answered). let y : World = record {
        segments = w.segments;
        actors = set w.actors who a;
        publishes = w.publishes;
        answers = z;
      } in y) (sym (append-nil w.answers))
  ends_is w at who a t is (Some e) =
      ap (λ (z : Phase). let y : World = record {
        segments = w.segments;
        actors = set w.actors who (record a { phase = z; view = e.1 });
        publishes = w.publishes;
        answers = w.answers ++ told at who a (Some e);
      } in y) (over_is w.segments who t is)

  pub reads_at : {C H G : ℕ} (ms : List (Segment C H G)) (xs : List Actor) (ps : List Published) (os later : List Answered)
      (at who place : ℕ) (torn worker : Bool) (x a new : Actor) (s : Segment C H G)
      → who < length xs → x ≡ get_or xs who x → a ≡ get_or xs who a → place_in x.scan.scan.next ≡ Some place → place < length ms
      → s ≡ get_or ms place s → worker ≡ ltb who (length ms)
      → act_of new ≡ ended_by worker (act_of a) (seg_of s) torn → later ≡ os ++ told_by at who (act_of a) (seg_of s) torn
      → record { segments = map seg_of ms; actors = map act_of (set xs who new); publishes = ps; answers = later } ≡ reads c h g n
      (record { segments = map seg_of ms; actors = map act_of xs; publishes = ps; answers = os }) at who torn
      (slice_get (map act_of xs) who)
  reads_at ms xs ps os later at who place torn worker x a new s lt isx isa next there iss work e l =
      let w : World = record { segments = map seg_of ms; actors = map act_of xs; publishes = ps; answers = os } in
      let len : ltb who (length (map seg_of ms)) ≡ worker = ap (ltb who) (length-map ms seg_of) ∙ sym work in
      let p : place_in a.scan.scan.next ≡ Some place = ap (λ (z : Actor). place_in z.scan.scan.next)
      (get_or_read xs who a lt isa x ∙ sym isx) ∙ next in
      ap (λ (z : List Act × List Answered). let y : World = record {
        segments = map seg_of ms;
        actors = z.0;
        publishes = ps;
        answers = z.1;
      } in y) (λ i. ((map-set act_of xs who new ∙ ap (set (map act_of xs) who) e) i, l i))
      ∙ sym (ends_is w at who (read_of (act_of a) (seg_of s) torn) worker len (end_of (act_of a) (seg_of s) torn))
      ∙ ap (reads_from c h g n w at who (act_of a) torn) (sym (found seg_of ms place s there iss))
      ∙ ap (reads_place c h g n w at who (act_of a) torn) (sym p)
      ∙ ap (reads c h g n w at who torn) (sym (found act_of xs who a lt isa))

  pub publishes_at : {C H G : ℕ} (ms : List (Segment C H G)) (xs : List Actor) (ps later : List Published) (os : List Answered)
      (at who : ℕ) (ops : List Op) (s new : Segment C H G) (a idle : Actor) (row : List ℕ)
      → who < length xs → a ≡ get_or xs who a → who < length ms → s ≡ get_or ms who s → applied c h g s.row ops ≡ Some row
      → ltb s.number 18446744073709551615 ≡ true
      → seg_of new ≡ record { number = s.number + 1; row = row; view = (act_of a).view }
      → act_of idle ≡ record (act_of a) { phase = phase.Rest; view = None } → later ≡ ps ++ record {
        at = at;
        worker = who;
        ops = ops;
      } ∷ []
      → record {
        segments = map seg_of (set ms who new);
        actors = map act_of (set xs who idle);
        publishes = later;
        answers = os;
      } ≡ publishes_by c h g n (record {
        segments = map seg_of ms;
        actors = map act_of xs;
        publishes = ps;
        answers = os;
      }) at who ops (slice_get (map act_of xs) who)
  publishes_at ms xs ps later os at who ops s new a idle row lt isa lts iss ap1 small es ea l =
      let w : World = record { segments = map seg_of ms; actors = map act_of xs; publishes = ps; answers = os } in
      let after : World = record {
        segments =
            set (map seg_of ms) who (record { number = s.number + 1; row = row; view = (act_of a).view });
        actors = set (map act_of xs) who (record (act_of a) { phase = phase.Rest; view = None });
        publishes = ps ++ record { at = at; worker = who; ops = ops } ∷ [];
        answers = os;
      } in
      ap (λ (z : List Seg × List Act × List Published). let y : World = record {
        segments = z.0;
        actors = z.1;
        publishes = z.2;
        answers = os;
      } in y) (λ i. (
        (map-set seg_of ms who new ∙ ap (set (map seg_of ms) who) es) i,
        (map-set act_of xs who idle ∙ ap (set (map act_of xs) who) ea) i,
        l i,
      ))
      ∙ ap (λ (z : Bool). cond z after w) (sym small)
      ∙ ap (publishes_row c h g n w at who ops (act_of a) (seg_of s)) (sym ap1)
      ∙ ap (publishes_as c h g n w at who ops (act_of a)) (sym (found seg_of ms who s lts iss))
      ∙ ap (publishes_by c h g n w at who ops) (sym (found act_of xs who a lt isa))

  pub world_next : (es : List Event) (k : ℕ) (e : Event) → k < length es → e ≡ get_or es k e
      → world_at c h g n es (k + 1) ≡ happens c h g n es (world_at c h g n es k) k e
  world_next es k e lt is = let s : k + 1 ≡ suc k = omega arith in
      ap (world_at c h g n es) s ∙ ap (happens_at c h g n es (world_at c h g n es k) k)
      (slice_get_read es (length es) k e refl lt is)
