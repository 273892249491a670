-- What the events come to is faithful to them.
use Rattle.std.proofs.Common.{◌≡◌, ◌≢◌, ℕ, zero, suc, ◌+◌, ◌-◌, ◌<◌, ◌≤◌, Bool, List, [], ◌∷◌, length, get_or, sym, refl, ap, ◌∙◌}
use Rattle.std.proofs.Common.{subst, arith, Option, None, replicate}
use Rattle.std.specs.Prelude.{slice_get}
use Rattle.std.proofs.lemmas.List.{length-replicate, get_or-replicate}
use Rattle.std.proofs.lemmas.Option.{slice_get_within}
use mathlib.Core.Option.{some}
use lib.ListN.{get_elem?}
use Rattle.ledger_core.specs.Ops.{width, sum_ops}
use Rattle.snapshot_core.specs.declared.event.Event.{Event}
use Rattle.snapshot_core.specs.declared.event.Event.TheVariants.{Step}
use Rattle.snapshot_core.specs.declared.trace.ScanEnd.{ScanEnd}
use Rattle.snapshot_core.specs.Tries.{View}
use Rattle.snapshot_core.specs.History.{Published}
use Rattle.snapshot_core.specs.Turns.{Answered, IsOpen, IsTurn, own, own_reads, ops_of}
use Rattle.snapshot_core.specs.Faithful.{lent_since, IsJustified, IsFirstStep, IsFaithful, reads_in}
use Rattle.snapshot_core.specs.Machine.{Act, blank_of, idle_of, start, world_at}
use Rattle.snapshot_core.proofs.Lending.{at_answer, same_place, publish_later}
use Rattle.snapshot_core.proofs.Grows.{world_ordered, world_extends}
use Rattle.snapshot_core.proofs.Justify.{SegOk, ActOk, J}
use Rattle.snapshot_core.proofs.Happens.{happens_j}
use Rattle.snapshot_core.proofs.Worlds.{in_several}
use Rattle.snapshot_core.proofs.Past.{number_first, row_first}

module _ (c h g n : ℕ) (es : List Event) where
  -- at the start
  start_j : (ps : List Published) (zs : List Answered) → J c h g n es ps zs 0 (start n (width c h g))
  start_j ps zs = record {
    many = length-replicate n (blank_of (width c h g));
    actors = length-replicate (n + 4) (idle_of (width c h g) n);
    segment = λ i s e. subst (SegOk c h g n es ps zs 0 i) (in_several n (blank_of (width c h g)) i s e) (record {
      number = sym (number_first ps i);
      view = ap (lent_since zs i) (sym (publish_later ps 0 i None (λ q p at. omega arith)));
      wide = length-replicate (width c h g) 0;
      words = λ x lt. get_or-replicate (width c h g) x 0 0 lt ∙ sym (row_first (sum_ops c h) ps i x);
      small = λ x lt. let z : get_or {A = ℕ} (replicate (width c h g) 0) x 0 ≡ 0 = get_or-replicate (width c h g) x 0 0 lt in
          omega arith;
    });
    actor = λ i a e. subst (λ (y : Act). ActOk c h g n es ps zs 0 i y y.phase)
        (in_several (n + 4) (idle_of (width c h g) n) i a e) (λ d o. o);
    answer = λ q a e lt. absurd (omega arith);
    once = λ q r a b ea eb lt. absurd (omega arith);
    published = λ q p e lt. absurd (omega arith);
    ready = λ q a e lt. absurd (omega arith);
    publishes = λ q e a at inside first lt. absurd (omega arith);
  }

  -- before each event, by what the events before `end` come to
  pub run_j : 1 ≤ n → n ≤ 32 → (end k m : ℕ) → k + m ≡ end → J c h g n es (world_at c h g n es end).publishes
      (world_at c h g n es end).answers k (world_at c h g n es k)
  run_j one most end zero m is = start_j _ _
  run_j one most end (suc k) m is =
      happens_j c h g n es _ _ one most (world_ordered c h g n es end).publishes_rise (world_ordered c h g n es end).answers_rise
      k (world_at c h g n es k)
      (run_j one most end k (suc m) (omega arith)) (world_ordered c h g n es k) (slice_get es k) refl
      (world_extends c h g n es (suc k) m end is)

  -- what the whole run comes to
  abbrev pub ps : List Published
  ps = (world_at c h g n es (length es)).publishes

  abbrev pub zs : List Answered
  zs = (world_at c h g n es (length es)).answers

  -- no answer is of the turn that begins at b
  abbrev pub HasNoAnswer : (actor b : ℕ) → Type 0
  HasNoAnswer actor b = (q : ℕ) (a : Answered) → get_elem? zs q ≡ some a → a.actor ≡ actor → a.begin ≢ b

  module _ (one : 1 ≤ n) (most : n ≤ 32) where
    -- before the event k of a whole run
    pub before_event : (k : ℕ) → k ≤ length es → J c h g n es ps zs k (world_at c h g n es k)
    before_event k le = run_j one most (length es) k (length es - k) (omega arith)

    whole : J c h g n es ps zs (length es) (world_at c h g n es (length es))
    whole = before_event (length es) (omega arith)

    publish_within : (q : ℕ) (p : Published) → get_elem? ps q ≡ some p → p.at < length es
    publish_within = (world_ordered c h g n es (length es)).publishes

    answer_within : (q : ℕ) (a : Answered) → get_elem? zs q ≡ some a → a.end < length es
    answer_within = (world_ordered c h g n es (length es)).answers

    pub turns : (q : ℕ) (a : Answered) → get_elem? zs q ≡ some a → IsOpen n c h g es ps zs a.end a.actor a.begin
        × ((torn : Bool) × (own a.actor a.end (slice_get es a.end) ≡ (a.end, torn) ∷ []))
    turns q a e = let ok = whole.answer q a e (answer_within q a e) in (ok.is_open, (ok.torn, ok.own_read))

    pub once : (q r : ℕ) (a b : Answered) → get_elem? zs q ≡ some a → get_elem? zs r ≡ some b → a.actor ≡ b.actor
        → a.begin ≡ b.begin → q ≡ r
    once q r a b ea eb actor begin = same_place at_answer zs (world_ordered c h g n es (length es)).answers_rise q r a b ea eb
        (whole.once q r a b ea eb (answer_within q a ea) (answer_within r b eb) actor begin)

    pub justified : (q : ℕ) (a : Answered) → get_elem? zs q ≡ some a → IsJustified n ps zs (reads_in es a) a.tries a.how a.view
    justified q a e = (whole.answer q a e (answer_within q a e)).justified

    pub published : (q : ℕ) (p : Published) → get_elem? ps q ≡ some p → (p.worker < n)
        × ((r : ℕ) × (a : Answered) × (get_elem? zs r ≡ some a) × (a.actor ≡ p.worker)
        × (p.ops ≡ ops_of (slice_get es a.begin)) × IsFirstStep es a.actor a.end p.at)
    published q p e = let ok = whole.published q p e (publish_within q p e) in
        (ok.inside, (ok.place, ok.answer, ok.is_answer, ok.of_worker, ok.ops, ok.first))

    pub publishes : (r e : ℕ) (a : Answered) → get_elem? zs r ≡ some a → a.actor < n → IsFirstStep es a.actor a.end e
        → (q : ℕ) × (p : Published) × (get_elem? ps q ≡ some p) × (p.worker ≡ a.actor) × (p.at ≡ e)
    publishes r e a at inside first = whole.publishes r e a at inside first (slice_get_within es e (Step a.actor) first.step)

    pub publishes_rise : (q r : ℕ) (p s : Published) → get_elem? ps q ≡ some p → get_elem? ps r ≡ some s → q < r → p.at < s.at
    publishes_rise = (world_ordered c h g n es (length es)).publishes_rise

    pub answers_rise : (q r : ℕ) (a b : Answered) → get_elem? zs q ≡ some a → get_elem? zs r ≡ some b → q < r → a.end < b.end
    answers_rise = (world_ordered c h g n es (length es)).answers_rise

    -- all of it, with the turns that have no answer
    pub faithful_with : ((actor b m : ℕ) → IsTurn n c h g es ps zs actor b → HasNoAnswer actor b → b + m < length es
        → (tries : ℕ) (how : ScanEnd) (view : Option View) → ¬ IsJustified n ps zs (own_reads es actor (suc b) m) tries how view)
        → IsFaithful n c h g es ps zs
    faithful_with none = record {
      turns = turns;
      once = once;
      justified = justified;
      unanswered = none;
      published = published;
      publishes = publishes;
      publishes_rise = publishes_rise;
      answers_rise = answers_rise;
    }
