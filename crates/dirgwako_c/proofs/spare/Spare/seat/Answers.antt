use Rattle.std.proofs.Common.{◌<◌, length, ap, arith}
use Rattle.page_crew.specs.Held.{recorders_of}
use Rattle.register_rule.proofs.Words.{from_all}
use Rattle.dirgwako_c.specs.Registries.{recorder_in, recorders_in}
use Rattle.dirgwako_c.specs.Settling.{Knows}
use Rattle.dirgwako_c.proofs.Places.{there_read}
use Rattle.dirgwako_c.proofs.Settled.{seat_here}
use Rattle.dirgwako_c.proofs.spare.Spare.seat.Goals as goal

pub bounds-recorders-board : goal.bounds-recorders-board
bounds-recorders-board g c =
    let knows = from_all (Knows c.args.board) (recorders_in c.args.self.now) c.requires.known c.args.place c.at.result.now
    c.at.ensures in
    let same = ap length c.recorders.ensures.recorders in omega (arith, knows, same)

pub returns : goal.returns
returns g c =
    let all = recorders_in c.args.self.now in let it = c.at.result.now in
    let knows = from_all (Knows c.args.board) all c.requires.known c.args.place it c.at.ensures in
    let same = ap length c.recorders.ensures.recorders in
    let inside : c.args.board < length c.recorders.result.now = omega (arith, knows, same) in
    seat_here c.args.board all c.requires.known c.args.place it c.index-recorders-board.result c.at.ensures
    (there_read c.recorders.result.now (recorders_of (recorder_in it)) c.args.board c.index-recorders-board.result
    c.recorders.ensures.recorders inside c.index-recorders-board.is)
