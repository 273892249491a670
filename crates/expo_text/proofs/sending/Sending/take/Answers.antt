use Rattle.std.proofs.Common.{refl}
use Rattle.expo_text.specs.Sends.{sends-chain}
use Rattle.expo_text.proofs.Sent.{sends-waiting}
use Rattle.expo_text.proofs.sending.Sending.take.Goals as goal

pub returns-clause-sent : goal.returns-clause-sent
returns-clause-sent g c = sends-chain _ _ _ _ _ c.make_room.ensures.sent
    (sends-waiting _ _ _ refl refl refl refl c.take.ensures.taken)
