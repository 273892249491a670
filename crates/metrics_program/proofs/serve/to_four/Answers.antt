use Rattle.snapshot_update.specs.Workers.{index_of, lists_of, IsWorkerOf}
use Rattle.metrics_program.proofs.Four.{all_four, of_four}
use Rattle.metrics_program.proofs.serve.to_four.Goals as goal

pub returns : goal.returns
returns c =
    let t = c.in-Some-Some-Some-Some in
    let own = all_four (IsWorkerOf c.args.board.now) _ _ _ _ _ t.a t.b t.c t.d t.ensures.items t.ensures'.items t.ensures''.items
    t.ensures'''.items c.requires.of_board in
    let index = of_four index_of _ _ _ _ _ t.a t.b t.c t.d _ _ _ _ t.ensures.items t.ensures'.items t.ensures''.items
    t.ensures'''.items c.requires.all in
    let lists = of_four lists_of _ _ _ _ _ t.a t.b t.c t.d _ _ _ _ t.ensures.items t.ensures'.items t.ensures''.items
    t.ensures'''.items c.requires.new in (
      record { of_board = own.0; index_is = index.0; lists = lists.0 },
      record { of_board = own.1; index_is = index.1; lists = lists.1 },
      record { of_board = own.2; index_is = index.2; lists = lists.2 },
      record { of_board = own.3; index_is = index.3; lists = lists.3 },
    )
