-- What the threads promised and kept is how the run ended.
use Rattle.std.proofs.Common.{◌≡◌, ℕ, zero, suc, ◌<◌, ◌≤◌, List, [], ◌∷◌, length, map, All, get_or, Result, Ok, Err, IfOk, IfErr}
use Rattle.std.proofs.Common.{refl, subst, arith, Bool, ⊎_elim, ◌≢◌}
use Rattle.std.specs.declared.vec.Vec.{Vec}
use Rattle.std.specs.declared.alloc.Global.{Global}
use mathlib.Core.Option.{some}
use Rattle.std.proofs.lemmas.List.{length-map}
use lib.ListN.{get_elem?}
use Rattle.atomic_table.proofs.Lists.{at_map}
use Rattle.register_rule.specs.declared.board.Board.{Board}
use Rattle.register_rule.proofs.Words.{at_below, there}
use Rattle.snapshot_update.specs.declared.worker.Worker.{Worker}
use Rattle.snapshot_update.specs.Workers.{IsWorkerOf}
use Rattle.worker_pool.specs.declared.fault.PoolFault.{PoolFault}
use Rattle.worker_pool.specs.declared.fault.PoolFault.TheVariants.{Refused, GateShut, NoThread, NoMemory}
use Rattle.worker_pool.specs.declared.job.Job.{Job}
use Rattle.worker_pool.specs.Faults.{IsLeast}
use Rattle.worker_pool.specs.Jobs.{jobs_at}
use Rattle.worker_pool.specs.Works.{IsWorkEnd}
use Rattle.worker_pool.specs.Ends.{DidAll, AreEnds, Occurred, IsFirstFault, IsPoolFault}
use Rattle.worker_pool.specs.Pledges.{ArePledged, HaveKept}
use Rattle.worker_pool.proofs.Joined.{End, Handle}

pub item_at : {A : Type 0} (l : List A) (i : ℕ) → i < length l → (a : A) × (get_elem? l i ≡ some a)
item_at [] i lt = absurd (omega (arith, lt))
item_at (x ∷ xs) zero lt = (x, refl)
item_at (x ∷ xs) (suc i) lt = item_at xs i (omega (arith, lt))

-- each of the workers that a pool hands back is the board's
pub all_own : {N C H G : ℕ} (b : Board N C H G) (lists : List (List Job)) (ws vs : List (Worker N C H G))
    → length lists ≡ length ws → DidAll b lists ws vs → All (IsWorkerOf b) vs
all_own b lists ws vs long did = λ k d lt.
    let whole = did.all in
    let jobs = item_at lists k (omega (arith, lt, whole, long)) in
    let w = item_at ws k (omega (arith, lt, whole)) in
    (did.each k jobs.0 w.0 (get_or vs k d) jobs.1 w.1 (there vs k d lt)).of_board

pub own_back : {N C H G : ℕ} (b : Board N C H G) (lists : List (List Job)) (ws : List (Worker N C H G))
    (r : Result (Vec (Worker N C H G) Global) PoolFault) → length lists ≡ length ws
    → IfOk r (λ v. DidAll b lists ws v.items) → IfOk r (λ v. All (IsWorkerOf b) v.items)
own_back b lists ws (Ok v) long did = all_own b lists ws v.items long did
own_back b lists ws (Err f) long did = tt

module _ {N C H G : ℕ} {Q : Type 0} (lists_of : Q → List (List Job)) (hs : List (Handle Q N C H G)) (many : ℕ) where
  -- what the results of all threads came to is what the threads' promises came to
  pub all_kept : (ends : List (End N C H G)) (r : Result (Vec (Worker N C H G) Global) PoolFault) → HaveKept lists_of hs ends
      → IfOk r (λ v. (ends ≡ map Ok v.items) × (many ≤ length ends))
      → IfOk r (λ v. HaveKept lists_of hs (map Ok v.items) × (many ≤ length hs))
  all_kept ends (Err f) kept out = tt
  all_kept ends (Ok v) kept out = let same = kept.all in let most = out.1 in
      (subst (λ (l : List (End N C H G)). HaveKept lists_of hs l) out.0 kept, omega (arith, same, most))

  pub all_told : (ends : List (End N C H G)) (r : Result (Vec (Worker N C H G) Global) PoolFault) → HaveKept lists_of hs ends
      → IfErr r (IsLeast (Occurred many ends))
      → IfErr r (λ f. (all : List (End N C H G)) × HaveKept lists_of hs all × IsLeast (Occurred many all) f)
  all_told ends (Ok v) kept least = tt
  all_told ends (Err f) kept least = (ends, kept, least)

module _ {N C H G : ℕ} (always : Bool) (b : Board N C H G) (lists : List (List Job)) (ws : List (Worker N C H G)) {Q : Type 0}
    (lists_of : Q → List (List Job)) (hs : List (Handle Q N C H G)) (pledged : ArePledged lists_of always b lists ws hs) where
  ended : (ends : List (End N C H G)) → length hs ≤ length ws → HaveKept lists_of hs ends → AreEnds always b lists ws ends
  ended ends few kept =
      let same = kept.all in record {
        few = omega (arith, few, same);
        each = λ i jobs w end at here came.
            let below = at_below ends i end came in
            let h = item_at hs i (omega (arith, below, same)) in
            let p = pledged i jobs w h.0 at here h.1 in
            let promise = h.0.promise in
            subst (λ (x : Worker N C H G). IsWorkEnd always b i jobs x end) p.worker
            (subst (λ (x : List Job). IsWorkEnd always b i x promise.was.value end) p.jobs_are
            (subst (λ (x : ℕ). IsWorkEnd always b x (jobs_at (lists_of promise.lists.now) promise.place) promise.was.value end)
            p.place_is
            (subst (λ (x : Board N C H G). IsWorkEnd always x promise.place (jobs_at (lists_of promise.lists.now) promise.place)
            promise.was.value end) p.board
            (subst (λ (x : Bool). IsWorkEnd x promise.board.now promise.place (jobs_at (lists_of promise.lists.now) promise.place)
            promise.was.value end) p.always_open_is (kept.each i h.0 end h.1 came)))));
      }

  -- this fault is told of the ends of all threads
  abbrev TellsOf : (many : ℕ) → PoolFault → Type 0
  TellsOf many f = (all : List (End N C H G)) × HaveKept lists_of hs all × IsLeast (Occurred many all) f

  did_all : (vs : List (Worker N C H G)) → length hs ≡ length ws → HaveKept lists_of hs (map Ok vs) → DidAll b lists ws vs
  did_all vs whole kept =
      let e = ended (map Ok vs) (omega (arith, whole)) kept in
      let long : length {A = End N C H G} (map Ok vs) ≡ length vs = length-map vs Ok in let same = kept.all in record {
        all = omega (arith, long, same, whole);
        each = λ i jobs w v at here came. e.each i jobs w (Ok v) at here (at_map Ok vs i v came);
      }

  -- where a pool of so many workers hands them back, all of them did their jobs
  pub handed_back : (many : ℕ) (r : Result (Vec (Worker N C H G) Global) PoolFault) → many ≡ length ws → length hs ≤ length ws
      → IfOk r (λ v. HaveKept lists_of hs (map Ok v.items) × (many ≤ length hs)) → IfOk r (λ v. DidAll b lists ws v.items)
  handed_back many (Err f) whole few out = tt
  handed_back many (Ok v) whole few out = let most = out.1 in did_all v.items (omega (arith, whole, few, most)) out.0

  fault_of : (f : PoolFault) → 0 < length ws → IsFirstFault always b lists ws f → IsPoolFault always b lists ws f
  fault_of (Refused line number) one first = first
  fault_of (GateShut worker) one first = first
  fault_of (NoThread worker) one first = first
  fault_of NoMemory one first = one

  -- where it does not, its first fault is told
  pub told : (many : ℕ) (r : Result (Vec (Worker N C H G) Global) PoolFault) → many ≡ length ws → length hs ≤ length ws
      → 0 < length ws → IfErr r (λ f. TellsOf many f) → IfErr r (IsPoolFault always b lists ws)
  told many (Ok v) whole few one tells = tt
  told many (Err f) whole few one tells =
      fault_of f one (record {
        ends = tells.0;
        truly = ended tells.0 few tells.1;
        told = subst (λ (n : ℕ). IsLeast (Occurred n tells.0) f) whole tells.2;
      })

  no_end : (i : ℕ) (jobs : List Job) (w : Worker N C H G) → IsWorkEnd always b i jobs w (Err NoMemory) → ⊥
  no_end i jobs w end = end.stopped

  is_memory : (f : PoolFault) → f ≡ NoMemory → (ends : List (End N C H G)) (i : ℕ) → get_elem? ends i ≡ some (Err f)
      → get_elem? ends i ≡ some (Err NoMemory)
  is_memory f is ends i at = subst (λ (x : PoolFault). get_elem? ends i ≡ some (Err x)) is at

  no_thread : (k : ℕ) (f : PoolFault) → f ≡ NoMemory → f ≡ NoThread k → ⊥
  no_thread k f one two = cc

  -- where there was room, no want of memory is told
  pub not_memory : (many : ℕ) (r : Result (Vec (Worker N C H G) Global) PoolFault) → length lists ≡ length ws → length hs ≤ length
      ws
      → IfErr r (λ f. TellsOf many f) → IfErr r (λ f. f ≢ NoMemory)
  not_memory many (Ok v) long few tells = tt
  not_memory many (Err f) long few tells = λ is. let ends = tells.0 in let least = tells.2 in ⊎_elim
      (λ met.
      let at = is_memory f is ends least.place met in
      let below = at_below ends least.place (Err NoMemory) at in
      let e = ended ends few tells.1 in let most = e.few in
      let jobs = item_at lists least.place (omega (arith, below, most, long)) in
      let w = item_at ws least.place (omega (arith, below, most)) in
      no_end least.place jobs.0 w.0 (e.each least.place jobs.0 w.0 (Err NoMemory) jobs.1 w.1 at))
      (λ met. no_thread least.place f is met.2)
      least.met
