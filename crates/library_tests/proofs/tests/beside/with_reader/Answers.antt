use Rattle.std.proofs.Common.{[], ◌∷◌, IfSome, subst, ap, arith}
use Rattle.std.proofs.lemmas.List.Elements.{All-pop}
use Rattle.register_rule.specs.declared.view.Member.{Member}
use Rattle.register_rule.specs.Members.{new_worker, new_reader}
use Rattle.register_rule.specs.Seats.{worker_of, reader_of, IsWorkSeatOf, IsReadSeatOf}
use Rattle.library_tests.proofs.Popped.{popped}
use Rattle.library_tests.proofs.tests.beside.with_reader.Goals as goal

pub new_worker-requires : goal.new_worker-requires
new_worker-requires c =
    let own = IsWorkSeatOf c.in_ok-board.field-0.board in
    let two = c.in_ok-board.field-0.work.items in
    let made = c.in_ok-board.ensures in
    let last = All-pop own two c.pop.new.self.items c.pop.result c.pop.ensures.items made.work.0 in
    let fresh = popped worker_of two c.pop.new.self.items c.in-Some-Some.second (new_worker 2 1 5 0 ∷ []) (new_worker 2 1 5 1)
    c.in-Some-Some.ensures.items made.work.1 in
    (omega arith, (omega arith, (subst (λ s. IfSome s own) c.in-Some-Some.is-0 last.1, (made.geometry.0, fresh.1))))

pub returns-in_ok-worker-in-Some-Some-clause-of_board : goal.returns-in_ok-worker-in-Some-Some-clause-of_board
returns-in_ok-worker-in-Some-Some-clause-of_board c =
    let own = IsReadSeatOf c.in_ok-board.field-0.board in
    let one = c.in_ok-board.field-0.read.items in
    let last = All-pop own one c.pop-2.new.self.items c.pop-2.result c.pop-2.ensures.items c.in_ok-board.ensures.read.0 in
    (c.in_ok-worker-in-Some-Some.ensures, subst (λ s. IfSome s own) c.in-Some-Some.is-1 last.1)

pub returns-in_ok-worker-in-Some-Some-clause-fresh : goal.returns-in_ok-worker-in-Some-Some-clause-fresh
returns-in_ok-worker-in-Some-Some-clause-fresh c =
    let one = c.in_ok-board.field-0.read.items in
    let some = c.in-Some-Some in
    ap (λ (m : Member). m.scan) (popped reader_of one c.pop-2.new.self.items some.reader [] (new_reader 2 1 0) some.ensures'.items
    c.in_ok-board.ensures.read.1).1
