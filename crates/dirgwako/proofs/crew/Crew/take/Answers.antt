use Rattle.std.proofs.Common.{rules, refl, All, IfSome, subst, sym, ap}
use Rattle.std.proofs.lemmas.List.Elements.{All-pop}
use Rattle.snapshot_scan.specs.Readers.{IsReaderOf}
use Rattle.snapshot_update.specs.Workers.{IsWorkerOf}
use Rattle.dirgwako.proofs.crew.Crew.take.Goals as goal

pub returns-clause-taken : goal.returns-clause-taken
returns-clause-taken g c =
    let crew = c.args.self.now in
    let readers = All-pop (IsReaderOf crew.board) crew.readers.items c.pop.new.self.items c.pop.result c.pop.ensures.items
    crew.readers_own in
    record {
      board = refl;
      workers = ap (λ v. v.items) c.replace.ensures.value;
      readers = search rules;
      of_board = record {
        workers_own = subst (λ v. All (IsWorkerOf crew.board) v.items) (sym c.replace.ensures.value) crew.workers_own;
        readers_own = subst (λ v. All (IsReaderOf crew.board) v.items) (sym c.replace-2.ensures.value) readers.0;
        last_own = subst (λ r. IfSome r (IsReaderOf crew.board)) c.in-Some.is readers.1;
      };
      spent = search rules;
      good = search rules;
    }
