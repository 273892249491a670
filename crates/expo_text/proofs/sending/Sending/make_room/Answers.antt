use Rattle.expo_text.specs.Sends.{sends-nothing}
use Rattle.expo_text.proofs.sending.Sending.make_room.Goals as goal

pub returns-else-is_full-clause-sent : goal.returns-else-is_full-clause-sent
returns-else-is_full-clause-sent g c = sends-nothing _
