use Rattle.std.proofs.Common.{refl, ap, sym, ◌∙◌}
use Rattle.register_rule.specs.Seats.{board_id}
use Rattle.metrics_program.proofs.Named.{begins_all, named_of}
use Rattle.metrics_program.proofs.Printing.{begun_whole, broken_off, printed, printed_begun}
use Rattle.metrics_program.proofs.serve.serve_by.Goals as goal

pub returns-in-Ok-tell : goal.returns-in-Ok-tell
returns-in-Ok-tell g c =
    let port = c.in-Ok.ensures.told in
    printed _ _ _ c.in-Ok._port c.in-Some-serve_counting.replies port.0 port.1 (record {
      board = c.args.board.now;
      id = c.requires.id;
      workers = c.to_four-four.result;
      new = c.to_four-four.ensures;
      first = c.in-Some.service.registry;
      metrics = c.in-Some.service.metrics;
      service = c.in-Some.ensures;
      journal = c.in-Some-serve_counting._journal;
      are_replies = c.in-Some-serve_counting.ensures;
    }) c.in-Ok-tell.ensures.told

pub returns-in-Some-serve_counting : goal.returns-in-Some-serve_counting
returns-in-Some-serve_counting g c =
    let port = c.in-Ok.ensures.told in
    printed_begun _ _ _ c.in-Ok._port c.in-Some-serve_counting.replies port.0 port.1 (record {
      board = c.args.board.now;
      id = c.requires.id;
      workers = c.to_four-four.result;
      new = c.to_four-four.ensures;
      first = c.in-Some.service.registry;
      metrics = c.in-Some.service.metrics;
      service = c.in-Some.ensures;
      journal = c.in-Some-serve_counting._journal;
      are_replies = c.in-Some-serve_counting.ensures;
    }) c.in-Err.ensures.front

pub returns : goal.returns
returns g c =
    let port = c.in-Ok.ensures.told in
    broken_off _ _ c.in-Ok._port port.0 (begun_whole _ _ _ port.1)

pub serve_counting-requires-clause-some : goal.serve_counting-requires-clause-some
serve_counting-requires-clause-some g c κs lives = refl

pub serve_counting-requires-clause-named : goal.serve_counting-requires-clause-named
serve_counting-requires-clause-named g c κs lives = named_of c.args.board.now c.args.board.now refl

pub serve_counting-requires-clause-of : goal.serve_counting-requires-clause-of
serve_counting-requires-clause-of g c κs lives =
    let service = c.in-Some.ensures in
    (named_of _ c.args.board.now service.scans, service.id ∙ ap board_id (sym service.scans))

pub serve_counting-requires-clause-begins : goal.serve_counting-requires-clause-begins
serve_counting-requires-clause-begins g c κs lives = begins_all c.in-Some.service.registry.journal
