use Rattle.std.proofs.Common.{true, ◌≡◌, ℕ, refl, length, replicate, [], ap, sym, subst, ◌∙◌}
use Rattle.std.proofs.lemmas.List.{length-map, length-replicate}
use Rattle.snapshot_update.specs.Workers.{index_of}
use Rattle.worker_pool.specs.Ends.{DidAll, IsPoolFault}
use Rattle.metrics_program.specs.Waiting.{lists_in}
use Rattle.metrics_program.proofs.Crew.{same_workers}
use Rattle.metrics_program.proofs.state.State.go.Goals as goal

pub returns-in-Ok-clause-ready : goal.returns-in-Ok-clause-ready
returns-in-Ok-clause-ready g c =
    let self = c.args.self.now in
    let ready = c.requires.ready in
    let lists = lists_in self.queue in
    let few : length lists ≡ length self.workers.items = ready.lists
    ∙ sym (sym (length-map self.workers.items index_of) ∙ ap length ready.all) in
    let did : DidAll self.board.now lists self.workers.items c.in-Ok.workers.items =
    subst (λ ws. DidAll self.board.now lists ws.items c.in-Ok.workers.items) c.replace-workers.ensures.value
    c.in-Ok.ensures.did in
    record {
      workers = c.in-Ok.ensures.of_board;
      all = same_workers self.board.now lists self.workers.items c.in-Ok.workers.items few did ∙ ready.all;
      scans = ready.scans;
      scraper = ready.scraper;
      id = ready.id;
      settler = ready.settler;
      lists = ap length c.clear.ensures.none ∙ length-replicate (length lists) [] ∙ ready.lists;
    }

pub returns-in-Ok-clause-gone : goal.returns-in-Ok-clause-gone
returns-in-Ok-clause-gone g c =
    let self = c.args.self.now in
    let lists = lists_in self.queue in
    record {
      did = subst (λ ws. DidAll self.board.now lists ws.items c.in-Ok.workers.items) c.replace-workers.ensures.value
          c.in-Ok.ensures.did;
      emptied = c.clear.ensures.none ∙ ap (λ (n : ℕ). replicate n []) c.requires.ready.lists;
      board = refl;
      registry = refl;
      settler = refl;
      children = c.clear.ensures.children;
    }

pub returns-in-Err-clause-fault : goal.returns-in-Err-clause-fault
returns-in-Err-clause-fault g c =
    let self = c.args.self.now in
    let fault = c.in-Err.fault in (
      fault,
      c.told.ensures,
      subst (λ ws. IsPoolFault true self.board.now (lists_in self.queue) ws.items fault)
          c.replace-workers.ensures.value c.in-Err.ensures.fault,
    )
