-- One more thread is started.
use Rattle.std.proofs.Common.{◌≡◌, ⊎_elim, ℕ, List, [], ◌∷◌, ◌++◌, length, sym, ap, ◌∙◌, subst, Bool}
use mathlib.Core.Option.{some, some-injective}
use lib.ListN.{get_elem?}
use Rattle.register_rule.specs.declared.board.Board.{Board}
use Rattle.register_rule.proofs.Words.{last_is}
use Rattle.snapshot_update.specs.declared.worker.Worker.{Worker}
use Rattle.worker_pool.specs.declared.job.Job.{Job}
use Rattle.worker_pool.specs.Pledges.{IsPledged, ArePledged}
use Rattle.worker_pool.proofs.Joined.{Handle}

module _ {N C H G : ℕ} {Q : Type 0} (lists_of : Q → List (List Job)) (always : Bool) (b : Board N C H G) (lists : List (List Job))
    (ws : List (Worker N C H G)) (hs : List (Handle Q N C H G)) where
  pub pledged_more : (h : Handle Q N C H G) (place : ℕ) (jobs : List Job) (w : Worker N C H G) → length hs ≡ place
      → get_elem? lists place ≡ some jobs → get_elem? ws place ≡ some w
      → IsPledged lists_of always b place jobs w h.promise → ArePledged lists_of always b lists ws hs
      → ArePledged lists_of always b lists ws (hs ++ h ∷ [])
  pledged_more h place jobs w long at here new old i js v u at' here' there = ⊎_elim
      (λ was. old i js v u at' here' was)
      (λ last.
      let same : i ≡ place = last.1 ∙ long in
      let j : jobs ≡ js = some-injective jobs js (sym at ∙ (ap (get_elem? lists) (sym same) ∙ at')) in
      let k : w ≡ v = some-injective w v (sym here ∙ (ap (get_elem? ws) (sym same) ∙ here')) in
      subst (λ (x : Handle Q N C H G). IsPledged lists_of always b i js v x.promise) last.0
      (subst (λ (x : Worker N C H G). IsPledged lists_of always b i js x h.promise) k
      (subst (λ (x : List Job). IsPledged lists_of always b i x w h.promise) j
      (subst (λ (x : ℕ). IsPledged lists_of always b x jobs w h.promise) (sym same) new))))
      (last_is hs h u i there)
