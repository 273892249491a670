use Rattle.std.proofs.Common.{◌≡◌, ◌+◌, ◌-◌, map, All, sym, ap, ◌∙◌, subst, arith}
use mathlib.Core.List.{map-map}
use Rattle.std.proofs.lemmas.List.Elements.{All-take}
use Rattle.std.proofs.lemmas.Option.{same_Some}
use Rattle.std.specs.Vec.{vec_len}
use Rattle.std.specs.Arc.{arc_value}
use Rattle.register_rule.specs.Faults.{IsBoardFault}
use Rattle.register_rule.specs.Seats.{board_id}
use Rattle.register_rule.specs.declared.board.Board.{Board}
use Rattle.registry_state.specs.Kept.{RegistryView}
use Rattle.snapshot_scan.specs.Readers.{IsReaderOf}
use Rattle.snapshot_update.specs.Workers.{index_of, lists_of, IsWorkerOf}
use Rattle.page_crew.specs.News.{IsOver}
use Rattle.page_crew.specs.Shared.{board_in, worker_in}
use Rattle.page_crew.specs.declared.shared_recorder.SharedRecorder.{SharedRecorder}
use Rattle.page_crew.specs.declared.shared_scanner.SharedScanner.{SharedScanner}
use Rattle.page_crew.proofs.opening.new_board.Goals as goal

pub returns-in-Err-Geometry-clause-fault : goal.returns-in-Err-Geometry-clause-fault
returns-in-Err-Geometry-clause-fault g c =
    subst (IsBoardFault g.row.N g.row.C g.row.H g.row.G (1 + c.args.scrapers)) c.in-Err-Geometry.field-0-is
    c.in-Err-Geometry.ensures.fault

pub returns-in-Err-NoMemory-clause-fault : goal.returns-in-Err-NoMemory-clause-fault
returns-in-Err-NoMemory-clause-fault g c =
    subst (IsBoardFault g.row.N g.row.C g.row.H g.row.G (1 + c.args.scrapers)) c.in-Err-NoMemory.field-0-is
    c.in-Err-NoMemory.ensures.fault

pub returns-in_default-new-clause-fault : goal.returns-in_default-new-clause-fault
returns-in_default-new-clause-fault g c = c.in-Ok.ensures.board.1

pub returns-in_default-try_clone-clause-fault : goal.returns-in_default-try_clone-clause-fault
returns-in_default-try_clone-clause-fault g c = c.in-Ok.ensures.board.1

pub returns-in_default-recorders_on-clause-fault : goal.returns-in_default-recorders_on-clause-fault
returns-in_default-recorders_on-clause-fault g c = c.in-Ok.ensures.board.1

pub returns-in_default-others_on-clause-fault : goal.returns-in_default-others_on-clause-fault
returns-in_default-others_on-clause-fault g c = c.in-Ok.ensures.board.1

pub others_on-requires : goal.others_on-requires
others_on-requires g c =
    let all = c.in-Ok.ensures.of_board.1 in
    let left = subst (All (IsReaderOf c.in-Ok.crew.board)) (sym c.pop.ensures.rest)
    (All-take (IsReaderOf c.in-Ok.crew.board) (vec_len c.in-Ok.crew.readers - 1) c.in-Ok.crew.readers.items all) in
    let there = subst (λ (b : Board g.row.N g.row.C g.row.H g.row.G). All (IsReaderOf b) c.pop.new.self.items) (sym
    c.in-Ok-new.ensures.ok)
    left in
    (omega arith, (omega arith, (omega arith, (omega arith, there))))

pub returns-in-Ok-new-2-clause-others : goal.returns-in-Ok-new-2-clause-others
returns-in-Ok-new-2-clause-others g c =
    let V : Type 0 = RegistryView (SharedScanner g.row.N g.row.C g.row.H g.row.G) in
    let is = c.in-Ok-new-2.ensures.made in
    let same = ap (λ (r : V). arc_value r.source.board) is
    ∙ (c.new-scanner.ensures.board ∙ (c.in-Ok-try_clone.ensures ∙ c.in-Ok-new.ensures.ok)) in
    let count = c.in-Ok.ensures.count in
    let long = c.in-Ok.crew.readers.ok.0 in
    let left = c.in-Some.ensures.cases in
    let less = c.pop.new.self.ok.0 in
    let many = c.in-Ok-others_on.ensures.many in (
      omega (arith, count, long, left, less, many),
      subst (λ (b : Board g.row.N g.row.C g.row.H g.row.G). All (IsOver b c.args.id) c.in-Ok-others_on.others.items)
          (c.in-Ok-new.ensures.ok ∙ sym same) c.in-Ok-others_on.ensures.over,
    )

pub returns-in-Ok-new-2-clause-size : goal.returns-in-Ok-new-2-clause-size
returns-in-Ok-new-2-clause-size g c = c.in-Ok.ensures.board.1

pub returns-clause-fault : goal.returns-clause-fault
returns-clause-fault g c = c.in-Ok.ensures.board.1

pub recorders_on-requires : goal.recorders_on-requires
recorders_on-requires g c =
    let workers = c.in-Ok.crew.workers.items in
    let there = subst (λ (b : Board g.row.N g.row.C g.row.H g.row.G). All (IsWorkerOf b) workers) (sym c.in-Ok-new.ensures.ok)
    c.in-Ok.ensures.of_board.0 in
    (omega arith, (omega arith, (omega arith, there)))

pub new-scanner-requires : goal.new-scanner-requires
new-scanner-requires g c =
    let same = c.in-Ok-try_clone.ensures ∙ c.in-Ok-new.ensures.ok in
    let readers = c.in-Ok.crew.readers in
    let count = c.in-Ok.ensures.count in
    let long = readers.ok.0 in
    let last = c.in-Some.ensures.value c.in-Some.reader (omega (arith, count, long)) in
    let there = subst (IsReaderOf c.in-Ok.crew.board) (sym (same_Some _ _ last))
    (c.in-Ok.ensures.of_board.1 (vec_len readers - 1) c.in-Some.reader (omega (arith, count, long))) in
    let seat = subst (λ (b : Board g.row.N g.row.C g.row.H g.row.G). IsReaderOf b c.in-Some.reader) (sym same) there in
    (omega arith, (omega arith, (omega arith, seat)))

pub returns-in-Ok-new-2-clause-new : goal.returns-in-Ok-new-2-clause-new
returns-in-Ok-new-2-clause-new g c =
    let V : Type 0 = RegistryView (SharedScanner g.row.N g.row.C g.row.H g.row.G) in
    let R : Type 0 = SharedRecorder g.row.N g.row.C g.row.H g.row.G in
    let is = c.in-Ok-new-2.ensures.made in
    let recorders = c.in-Ok-recorders_on.recorders.items in
    let worker_of = λ (r : R). worker_in r in
    let same = ap (λ (r : V). arc_value r.source.board) is
    ∙ (c.new-scanner.ensures.board ∙ (c.in-Ok-try_clone.ensures ∙ c.in-Ok-new.ensures.ok)) in
    record {
      id_is = ap (λ (r : V). r.id) is;
      window_is = ap (λ (r : V). r.window) is;
      journal = ap (λ (r : V). r.journal) is;
      state = ap (λ (r : V). r.state) is;
      board = ap board_id same ∙ c.in-Ok.ensures.board.0;
      boards = subst (λ (b : Board g.row.N g.row.C g.row.H g.row.G). All (λ (r : R). board_in r ≡ b) recorders)
          (c.in-Ok-new.ensures.ok ∙ sym same) c.in-Ok-recorders_on.ensures.boards;
      workers = sym (map-map index_of worker_of recorders) ∙ (ap (map index_of) c.in-Ok-recorders_on.ensures.workers
          ∙ c.in-Ok.ensures.all);
      lists = sym (map-map lists_of worker_of recorders) ∙ (ap (map lists_of) c.in-Ok-recorders_on.ensures.workers
          ∙ c.in-Ok.ensures.new);
    }
