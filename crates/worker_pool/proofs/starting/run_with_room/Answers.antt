use Rattle.std.proofs.Common.{rules, ◌≡◌, ◌<◌, length}
use Rattle.worker_pool.proofs.Ending.{handed_back, own_back, told, not_memory}
use Rattle.worker_pool.proofs.Opened.{never_shut}
use Rattle.worker_pool.proofs.starting.run_with_room.Goals as goal

pub returns-clause-did : goal.returns-clause-did
returns-clause-did g c =
    let s = c.start_all.ensures in
    let many : c.len-many.result ≡ length c.args.workers.items = search rules in
    handed_back _ c.args.board.now (g.Q.JobLists.lists c.args.lists.now) c.args.workers.items g.Q.JobLists.lists
    c.start_all.new.threads.items s.pledged c.len-many.result c.finish.result many s.few c.finish.ensures.all

pub returns-clause-of_board : goal.returns-clause-of_board
returns-clause-of_board g c =
    let long : length (g.Q.JobLists.lists c.args.lists.now) ≡ length c.args.workers.items = search rules in
    own_back c.args.board.now (g.Q.JobLists.lists c.args.lists.now) c.args.workers.items c.finish.result long
    (returns-clause-did g c)

pub returns-clause-fault : goal.returns-clause-fault
returns-clause-fault g c =
    let s = c.start_all.ensures in
    let many : c.len-many.result ≡ length c.args.workers.items = search rules in
    let some : 0 < length c.args.workers.items = search rules in
    told _ c.args.board.now (g.Q.JobLists.lists c.args.lists.now) c.args.workers.items g.Q.JobLists.lists
    c.start_all.new.threads.items s.pledged c.len-many.result c.finish.result many s.few some c.finish.ensures.told

pub returns-clause-opened : goal.returns-clause-opened
returns-clause-opened g c =
    let long : length (g.Q.JobLists.lists c.args.lists.now) ≡ length c.args.workers.items = search rules in
    never_shut c.args.board.now (g.Q.JobLists.lists c.args.lists.now) c.args.workers.items long _ c.finish.result
    (returns-clause-fault g c)

pub returns-clause-had_room : goal.returns-clause-had_room
returns-clause-had_room g c =
    let s = c.start_all.ensures in
    let long : length (g.Q.JobLists.lists c.args.lists.now) ≡ length c.args.workers.items = search rules in
    not_memory _ c.args.board.now (g.Q.JobLists.lists c.args.lists.now) c.args.workers.items g.Q.JobLists.lists
    c.start_all.new.threads.items s.pledged c.len-many.result c.finish.result long s.few c.finish.ensures.told
