-- One more job is done.
use Rattle.std.proofs.Common.{refl, Bool, true, false, ◌≡◌, ℕ, ◌+◌, List, [], ◌∷◌, ◌++◌, take, map, All, sym, ap, ◌∙◌, subst}
use Rattle.std.proofs.Common.{append_assoc}
use mathlib.Core.Option.{some}
use lib.ListN.{get_elem?}
use Rattle.std.proofs.lemmas.List.{map-append}
use Rattle.std.proofs.lemmas.List.Elements.{All-push}
use Rattle.ledger_core.specs.declared.op.Op.{Op}
use Rattle.register_rule.specs.declared.board.Board.{Board}
use Rattle.register_rule.specs.Seats.{board_id}
use Rattle.snapshot_update.specs.declared.worker.Worker.{Worker}
use Rattle.snapshot_update.specs.Workers.{index_of, lists_of, IsWorkerOf, IsCounted}
use Rattle.worker_pool.specs.declared.job.Job.{Job}
use Rattle.snapshot_update.specs.JobOps.{op_of, registry_of}
use Rattle.worker_pool.specs.Jobs.{list_of_job}
use Rattle.worker_pool.specs.Works.{Did}
use Rattle.worker_pool.proofs.Places.{take_next}

module _ {N C H G : ℕ} (b : Board N C H G) (jobs : List Job) (w u v : Worker N C H G) where
  pub did_more : (k : ℕ) (job : Job) → get_elem? jobs k ≡ some job → Did b (take k jobs) w u → IsWorkerOf b v
      → index_of v ≡ index_of u
      → IsCounted (board_id b) (registry_of job.what) (op_of job.what) u v → Did b (take (k + 1) jobs) w v
  did_more k job at did own index counted =
      let next = take_next k jobs job at in record {
        of_board = own;
        index = index ∙ did.index;
        lists = counted.lists ∙ (ap (λ (l : List (List Op)). l ++ list_of_job job ∷ []) did.lists
            ∙ (append_assoc (lists_of w) (map list_of_job (take k jobs)) (list_of_job job ∷ [])
            ∙ ap (λ (l : List (List Op)). lists_of w ++ l)
            (sym (ap (map list_of_job) next ∙ map-append list_of_job (take k jobs) (job ∷ [])))));
        handles = subst (All (λ (j : Job). registry_of j.what ≡ board_id b)) (sym next)
            (All-push (λ (j : Job). registry_of j.what ≡ board_id b) (take k jobs) job did.handles counted.of_it);
      }

-- what is never false where the gate is always open was false, so it is not
pub not_always : (always result : Bool) → (always ≡ true → result ≡ true) → result ≡ false → always ≡ false
not_always true result opens shut = absurd (let e : result ≡ true = opens refl in cc)
not_always false result opens shut = refl
