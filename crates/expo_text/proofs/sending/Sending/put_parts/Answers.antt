use Rattle.std.proofs.Common.{◌≡◌, ◌+◌, ◌≤◌, true, length, refl, sym, ◌∙◌, arith}
use Rattle.expo_text.specs.Sends.{sends-nothing}
use Rattle.expo_text.proofs.Pieces.{rest-length, sends-ended, sends-more}
use Rattle.expo_text.proofs.sending.Sending.put_parts.Goals as goal

pub loop-at-init : goal.loop-at-init
loop-at-init g c = (omega arith, refl, sends-nothing _)

pub loop-at-preserved : goal.loop-at-preserved
loop-at-preserved g c =
    let before = c.loop-at.invariant in
    let after = c.take-at.ensures in
    let bytes = c.args.bytes.now in
    let rest = rest-length bytes c.loop-at.at before.0 in
    let within : c.loop-at.at + c.take-at.result ≤ length bytes = omega (arith, after.within, rest) in
    (within, after.same ∙ before.1, sends-more _ _ _ bytes c.loop-at.at _ before.2 after.sent)

pub returns-else-not-failed : goal.returns-else-not-failed
returns-else-not-failed g c =
    let before = c.loop-at.invariant in
    let failed : c.loop-at.self.out.now.failed ≡ true = sym c.failed.ensures ∙ c.if-not-failed.false in
    record { same = before.1; sent = sends-ended _ _ c.args.bytes.now c.loop-at.at before.2 failed }
