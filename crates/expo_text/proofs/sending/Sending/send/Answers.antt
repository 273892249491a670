use Rattle.std.proofs.Common.{refl}
use Rattle.expo_text.proofs.Pieces.{sends-piece}
use Rattle.expo_text.proofs.sending.Sending.send.Goals as goal

pub returns-clause-sent : goal.returns-clause-sent
returns-clause-sent g c =
    let sent = c.send_piece-done.ensures in
    sends-piece _ _ c.bytes.result.now c.send_piece-done.result c.bytes.ensures sent.within sent.taken sent.whole sent.stopped
    sent.still sent.ended c.clear.ensures refl
