use Rattle.std.proofs.Common.{refl}
use Rattle.expo_text.proofs.Sent.{sends-waiting}
use Rattle.expo_text.proofs.sending.SendingSink.put.Goals as goal

pub returns-else-not-push : goal.returns-else-not-push
returns-else-not-push g c =
    (refl, sends-waiting _ _ c.args.bytes.now refl refl refl refl (c.push.ensures.taken c.if-not-push.false))
