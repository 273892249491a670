-- Threads that are joined, one after the other.
use Rattle.std.proofs.Common.{◌≡◌, ⊎_elim, ℕ, List, [], ◌∷◌, ◌++◌, Result, sym, refl, ◌∙◌, subst, append_assoc, arith}
use mathlib.Core.Option.{some-ne-none}
use Rattle.std.proofs.lemmas.List.{append-nil, length_push}
use Rattle.std.specs.declared.thread.PromisedHandle.{PromisedHandle}
use Rattle.register_rule.proofs.Words.{at_below, last_is}
use Rattle.snapshot_update.specs.declared.worker.Worker.{Worker}
use Rattle.worker_pool.specs.declared.fault.PoolFault.{PoolFault}
use Rattle.worker_pool.specs.declared.promise.Does.{Does}
use Rattle.worker_pool.specs.declared.job.Job.{Job}
use Rattle.worker_pool.specs.Jobs.{jobs_at}
use Rattle.worker_pool.specs.Works.{IsWorkEnd}
use Rattle.worker_pool.specs.Pledges.{HaveKept}

abbrev pub End : (N C H G : ℕ) → Type 0
End N C H G = Result (Worker N C H G) PoolFault

abbrev pub Handle : (Q : Type 0) (N C H G : ℕ) → Type 0
Handle Q N C H G = PromisedHandle (Result (Worker N C H G) PoolFault) (Does Q N C H G)

module _ {N C H G : ℕ} {Q : Type 0} (lists_of : Q → List (List Job)) where
  abbrev pub Keeps : Handle Q N C H G → End N C H G → Type 0
  Keeps h r = IsWorkEnd h.promise.always_open h.promise.board.now h.promise.place
      (jobs_at (lists_of h.promise.lists.now) h.promise.place) h.promise.was.value r

  -- of these threads those that stand before the rest are joined, and these are their results
  pub record HaveJoined (hs rest : List (Handle Q N C H G)) (ends : List (End N C H G)) : Type 0 where
    pub before : List (Handle Q N C H G)
    pub split : hs ≡ before ++ rest
    pub kept : HaveKept lists_of before ends

  kept_more : (hs : List (Handle Q N C H G)) (ends : List (End N C H G)) (h : Handle Q N C H G) (r : End N C H G)
      → HaveKept lists_of hs ends → Keeps h r → HaveKept lists_of (hs ++ h ∷ []) (ends ++ r ∷ [])
  kept_more hs ends h r kept keeps =
      let long = length_push hs h in let wide = length_push ends r in let same = kept.all in record {
        all = omega (arith, long, wide, same);
        each = λ i u end at here. ⊎_elim
            (λ old. ⊎_elim (λ was. kept.each i u end old was)
            (λ new. absurd (let p = new.1 in let q = at_below hs i u old in omega (arith, p, q, same)))
            (last_is ends r end i here))
            (λ new. ⊎_elim (λ was. absurd (let p = new.1 in let q = at_below ends i end was in omega (arith, p, q, same)))
            (λ now. subst (λ (x : Handle Q N C H G). Keeps x end) new.0 (subst (λ (x : End N C H G). Keeps h x) now.0 keeps))
            (last_is ends r end i here))
            (last_is hs h u i at);
      }

  -- one more thread is joined
  pub joined_more : (hs rest : List (Handle Q N C H G)) (h : Handle Q N C H G) (ends : List (End N C H G)) (r : End N C H G)
      → HaveJoined hs (h ∷ rest) ends → Keeps h r → HaveJoined hs rest (ends ++ r ∷ [])
  joined_more hs rest h ends r was keeps = record {
    before = was.before ++ h ∷ [];
    split = was.split ∙ sym (append_assoc was.before (h ∷ []) rest);
    kept = kept_more was.before ends h r was.kept keeps;
  }

  -- no thread is joined yet
  pub none_joined : (hs : List (Handle Q N C H G)) → HaveJoined hs hs []
  none_joined hs = record {
    before = [];
    split = refl;
    kept = record { all = refl; each = λ i h end at here. absurd (some-ne-none h (sym at)) };
  }

  -- all threads are joined
  pub all_joined : (hs : List (Handle Q N C H G)) (ends : List (End N C H G)) → HaveJoined hs [] ends → HaveKept lists_of hs ends
  all_joined hs ends was = subst (λ (l : List (Handle Q N C H G)). HaveKept lists_of l ends)
      (sym (was.split ∙ append-nil was.before)) was.kept
