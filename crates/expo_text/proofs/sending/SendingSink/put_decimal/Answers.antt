use Rattle.std.proofs.Common.{decimal, refl}
use Rattle.expo_text.proofs.Sent.{sends-waiting}
use Rattle.expo_text.proofs.sending.SendingSink.put_decimal.Goals as goal

pub returns-else-not-push_decimal : goal.returns-else-not-push_decimal
returns-else-not-push_decimal g c = (
  refl,
  sends-waiting _ _ (decimal c.args.number) refl refl refl refl
      (c.push_decimal.ensures.taken c.if-not-push_decimal.false),
)
