-- What is true of the machine before each event, by what the whole run came to.
use Rattle.std.proofs.Common.{◌≡◌, ◌≢◌, ℕ, suc, ◌+◌, ◌-◌, ◌<◌, ◌≤◌, ◌⊎◌, inl, inr, ⊎_elim, Bool, List, [], ◌∷◌, length, map}
use Rattle.std.proofs.Common.{get_or, sym, ap, ◌∙◌, subst, arith, Some, None}
use Rattle.std.specs.Prelude.{slice_get}
use mathlib.Core.Logic.{dite}
use mathlib.Core.Option.{some}
use native.Mathlib.Decide.{ℕ_discrete}
use lib.ListN.{get_elem?}
use Rattle.ledger_core.specs.Ops.{width, sum_ops}
use Rattle.ledger_core.specs.Row.{Accepts}
use Rattle.snapshot_core.specs.declared.event.Event.{Event}
use Rattle.snapshot_core.specs.declared.event.Event.TheVariants.{Step}
use Rattle.snapshot_core.specs.declared.actor.Phase.{Phase}
use Rattle.snapshot_core.specs.declared.actor.Phase.TheVariants.{Rest, Scan, Ready}
use Rattle.snapshot_core.specs.Sized.{IsSized}
use Rattle.snapshot_core.specs.Told.{IsScanAfter}
use Rattle.snapshot_core.specs.Tries.{Read}
use Rattle.snapshot_core.specs.History.{Published, number_at, row_at}
use Rattle.snapshot_core.specs.Turns.{Answered, BeginsAt, IsOpen, own, own_reads, ops_of}
use Rattle.snapshot_core.specs.Faithful.{last_view, lent_at, Meets, where_and_torn, IsJustified, IsFirstStep, reads_in}
use Rattle.snapshot_core.specs.Machine.{Seg, Act, World, place_in}
use Rattle.snapshot_core.proofs.Lending.{NoPublish, NoAnswer, number_quiet, row_quiet, view_quiet, lent_quiet}
use Rattle.snapshot_core.proofs.Turns.{IsClosed, open_after, open_on, closed_on, no_end, own_none}
use Rattle.snapshot_core.proofs.Accepted.{accepts_same}

-- an event before k, or k itself
pub before_or : (e k : ℕ) → e < suc k → (e < k) ⊎ (e ≡ k)
before_or e k lt = dite (ℕ_discrete e k) inr (λ ne. inl (omega arith))

-- the events, and the publishes and answers of the whole run
module _ (c h g n : ℕ) (es : List Event) (ps : List Published) (zs : List Answered) where
  -- a segment before the event k
  pub record SegOk (k i : ℕ) (s : Seg) : Type 0 where
    pub number : s.number ≡ number_at ps k i
    pub view : s.view ≡ lent_at ps zs k i
    pub wide : length s.row ≡ width c h g
    pub words : (x : ℕ) → x < width c h g → get_or s.row x 0 ≡ row_at (sum_ops c h) ps k i x
    pub small : (x : ℕ) → x < width c h g → get_or s.row x 0 ≤ 281474976710655

  -- the worker's row accepts the operations of the Begin at b
  pub record RowTakes (k i b : ℕ) : Type 0 where
    pub below : number_at ps k i < 18446744073709551615
    pub accepts : Accepts c h g (row_at (sum_ops c h) ps k i) (ops_of (slice_get es b))

  -- an actor in a scan, with the reads that its scan was told
  pub record InScan (k i : ℕ) (a : Act) : Type 0 where
    pub is_open : IsOpen n c h g es ps zs k i a.begin
    pub sized : IsSized a.scan
    pub wide : a.scan.n ≡ n
    pub goes : (p : ℕ) × (place_in a.scan.next ≡ Some p) × (p < n)
    pub reads : List Read
    pub told : IsScanAfter a.scan reads
    pub meets : (q : ℕ) (r : Read) → get_elem? reads q ≡ some r → Meets ps zs r
    pub all_own : map where_and_torn reads ≡ own_reads es i (suc a.begin) (k - suc a.begin)
    pub fresh : (q : ℕ) (z : Answered) → get_elem? zs q ≡ some z → z.end < k → z.actor ≡ i → z.begin ≢ a.begin
    pub accepted : i < n → RowTakes k i a.begin

  -- a worker whose scan is over, with the answer that it was given
  pub record IsReady (k i : ℕ) (a : Act) : Type 0 where
    pub is_open : IsOpen n c h g es ps zs k i a.begin
    pub inside : i < n
    pub place : ℕ
    pub answer : Answered
    pub is_answer : get_elem? zs place ≡ some answer
    pub of_actor : answer.actor ≡ i
    pub of_begin : answer.begin ≡ a.begin
    pub over : answer.end < k
    pub view : last_view zs k i None ≡ a.view
    pub no_step : (e : ℕ) → answer.end < e → e < k → slice_get es e ≢ Some (Step i)
    pub accepted : RowTakes k i a.begin

  abbrev pub ActOk : (k i : ℕ) → Act → Phase → Type 0
  ActOk k i a Rest = IsClosed n c h g es ps zs k i
  ActOk k i a Scan = InScan k i a
  ActOk k i a Ready = IsReady k i a

  pub record AnswerOk (a : Answered) : Type 0 where
    pub is_open : IsOpen n c h g es ps zs a.end a.actor a.begin
    pub torn : Bool
    pub own_read : own a.actor a.end (slice_get es a.end) ≡ (a.end, torn) ∷ []
    pub justified : IsJustified n ps zs (reads_in es a) a.tries a.how a.view

  pub record PublishOk (p : Published) : Type 0 where
    pub place : ℕ
    pub answer : Answered
    pub is_answer : get_elem? zs place ≡ some answer
    pub of_worker : answer.actor ≡ p.worker
    pub inside : p.worker < n
    pub ops : p.ops ≡ ops_of (slice_get es answer.begin)
    pub first : IsFirstStep es answer.actor answer.end p.at
    pub is_open : IsOpen n c h g es ps zs p.at p.worker answer.begin

  abbrev pub IsReadyIn : World → ℕ → Type 0
  IsReadyIn w i = (a : Act) × (slice_get w.actors i ≡ Some a) × (a.phase ≡ Ready)

  abbrev pub PublishesAt : (i e : ℕ) → Type 0
  PublishesAt i e = (q : ℕ) × (p : Published) × (get_elem? ps q ≡ some p) × (p.worker ≡ i) × (p.at ≡ e)

  -- the world before the event k
  pub record J (k : ℕ) (w : World) : Type 0 where
    pub many : length w.segments ≡ n
    pub actors : length w.actors ≡ n + 4
    pub segment : (i : ℕ) (s : Seg) → slice_get w.segments i ≡ Some s → SegOk k i s
    pub actor : (i : ℕ) (a : Act) → slice_get w.actors i ≡ Some a → ActOk k i a a.phase
    pub answer : (q : ℕ) (a : Answered) → get_elem? zs q ≡ some a → a.end < k → AnswerOk a
    pub once : (q r : ℕ) (a b : Answered) → get_elem? zs q ≡ some a → get_elem? zs r ≡ some b → a.end < k → b.end < k
        → a.actor ≡ b.actor → a.begin ≡ b.begin → a.end ≡ b.end
    pub published : (q : ℕ) (p : Published) → get_elem? ps q ≡ some p → p.at < k → PublishOk p
    -- a worker that was answered and made no Step since is ready; its first Step is its publish
    pub ready : (q : ℕ) (a : Answered) → get_elem? zs q ≡ some a → a.end < k → a.actor < n
        → ((e : ℕ) → a.end < e → e < k → slice_get es e ≢ Some (Step a.actor)) → IsReadyIn w a.actor
    pub publishes : (q e : ℕ) (a : Answered) → get_elem? zs q ≡ some a → a.actor < n → IsFirstStep es a.actor a.end e → e < k
        → PublishesAt a.actor e

  -- An event that is none of the actor's.
  abbrev pub Idle : (k i : ℕ) → Phase → Type 0
  Idle k i Rest = ¬ BeginsAt n c h g es ps zs k i (slice_get es k)
  Idle k i Scan = own i k (slice_get es k) ≡ []
  Idle k i Ready = slice_get es k ≢ Some (Step i)

  pub takes_on : (k i b : ℕ) → NoPublish ps k i → RowTakes k i b → RowTakes (suc k) i b
  takes_on k i b none t = record {
    below = (let s = t.below in let e = number_quiet ps k i none in omega arith);
    accepts = accepts_same c h g (row_at (sum_ops c h) ps k i) (row_at (sum_ops c h) ps (suc k) i) (ops_of (slice_get es b))
        (λ x lt. sym (row_quiet (sum_ops c h) ps k i x none)) t.accepts;
  }

  pub seg_waits : (k i : ℕ) (s : Seg) → NoPublish ps k i → SegOk k i s → SegOk (suc k) i s
  seg_waits k i s none ok = record {
    number = ok.number ∙ sym (number_quiet ps k i none);
    view = ok.view ∙ sym (lent_quiet ps zs k i none);
    wide = ok.wide;
    words = λ x lt. ok.words x lt ∙ sym (row_quiet (sum_ops c h) ps k i x none);
    small = ok.small;
  }

  pub act_waits : (k i : ℕ) (a : Act) (x : Phase) → NoPublish ps k i → NoAnswer zs k i → Idle k i x → ActOk k i a x
      → ActOk (suc k) i a x
  act_waits k i a Rest nop noz idle ok = closed_on n c h g es ps zs k i ok idle
  act_waits k i a Scan nop noz idle ok = record {
    is_open = open_on n c h g es ps zs k i a.begin ok.is_open (no_end n c h g es ps zs k i (λ _. nop) (λ _. noz));
    sized = ok.sized;
    wide = ok.wide;
    goes = ok.goes;
    reads = ok.reads;
    told = ok.told;
    meets = ok.meets;
    all_own = ok.all_own ∙ sym (own_none es i a.begin k (open_after n c h g es ps zs k i a.begin ok.is_open) idle);
    fresh = λ q z at lt of. ⊎_elim (λ l. ok.fresh q z at l of) (λ e. absurd (noz q z at e of)) (before_or z.end k lt);
    accepted = λ lt. takes_on k i a.begin nop (ok.accepted lt);
  }
  act_waits k i a Ready nop noz idle ok = record {
    is_open = open_on n c h g es ps zs k i a.begin ok.is_open (no_end n c h g es ps zs k i (λ _. nop) (λ _. noz));
    inside = ok.inside;
    place = ok.place;
    answer = ok.answer;
    is_answer = ok.is_answer;
    of_actor = ok.of_actor;
    of_begin = ok.of_begin;
    over = (let l = ok.over in omega arith);
    view = view_quiet zs k i None noz ∙ ok.view;
    no_step = λ e from lt. ⊎_elim (λ l. ok.no_step e from l)
        (λ same. subst (λ (y : ℕ). slice_get es y ≢ Some (Step i)) (sym same) idle) (before_or e k lt);
    accepted = takes_on k i a.begin nop ok.accepted;
  }

  -- what one event adds to the world w, which becomes y
  pub record Adds (k : ℕ) (w y : World) : Type 0 where
    pub many : length y.segments ≡ n
    pub actors : length y.actors ≡ n + 4
    pub segment : (i : ℕ) (s : Seg) → slice_get y.segments i ≡ Some s → SegOk (suc k) i s
    pub actor : (i : ℕ) (a : Act) → slice_get y.actors i ≡ Some a → ActOk (suc k) i a a.phase
    pub answer : (q : ℕ) (a : Answered) → get_elem? zs q ≡ some a → a.end ≡ k → AnswerOk a
    pub new : (q r : ℕ) (a b : Answered) → get_elem? zs q ≡ some a → get_elem? zs r ≡ some b → a.end ≡ k → b.end < k
        → a.actor ≡ b.actor → a.begin ≢ b.begin
    pub published : (q : ℕ) (p : Published) → get_elem? ps q ≡ some p → p.at ≡ k → PublishOk p
    pub ready : (q : ℕ) (a : Answered) → get_elem? zs q ≡ some a → a.end ≡ k → a.actor < n → IsReadyIn y a.actor
    pub stays : (i : ℕ) → IsReadyIn w i → slice_get es k ≢ Some (Step i) → IsReadyIn y i
    pub publishes : (i : ℕ) → IsReadyIn w i → slice_get es k ≡ Some (Step i) → PublishesAt i k

  pub next_j : (k : ℕ) (w y : World) → J k w → Adds k w y → J (suc k) y
  next_j k w y j d = record {
    many = d.many;
    actors = d.actors;
    segment = d.segment;
    actor = d.actor;
    answer = λ q a at lt. ⊎_elim (λ l. j.answer q a at l) (λ e. d.answer q a at e) (before_or a.end k lt);
    once = λ q r a b ea eb la lb same begin. ⊎_elim
        (λ l. ⊎_elim (λ m. j.once q r a b ea eb l m same begin) (λ m. absurd (d.new r q b a eb ea m l (sym same) (sym begin)))
        (before_or b.end k lb))
        (λ l. ⊎_elim (λ m. absurd (d.new q r a b ea eb l m same begin)) (λ m. l ∙ sym m) (before_or b.end k lb))
        (before_or a.end k la);
    published = λ q p at lt. ⊎_elim (λ l. j.published q p at l) (λ e. d.published q p at e) (before_or p.at k lt);
    ready = λ q a at lt inside none. ⊎_elim
        (λ l. d.stays a.actor (j.ready q a at l inside (λ e from before. none e from (omega arith))) (none k l (omega arith)))
        (λ e. d.ready q a at e inside) (before_or a.end k lt);
    publishes = λ q e a at inside first lt. ⊎_elim (λ l. j.publishes q e a at inside first l)
        (λ same. subst (PublishesAt a.actor) (sym same) (d.publishes a.actor
        (j.ready q a at (let f = first.after in omega arith) inside (λ i from before. first.first i from (omega arith)))
        (ap (slice_get es) (sym same) ∙ first.step)))
        (before_or e k lt);
  }
