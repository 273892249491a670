use Rattle.std.proofs.Common.{◌≡◌, ◌+◌, ◌≤◌, false, length, arith, sym, ◌∙◌}
use Rattle.expo_text.proofs.Pieces.{taken-more, rest-length, apart}
use Rattle.expo_text.proofs.sending.send_piece.Goals as goal

pub loop-done-preserved : goal.loop-done-preserved
loop-done-preserved g c =
    let before = c.loop-done.invariant in
    let after = c.write_once-done.ensures in
    let piece = c.args.piece.now in
    let done = c.loop-done.done in
    let rest = rest-length piece done before.0 in
    let appends = taken-more _ _ _ piece done _ before.1 after.taken in
    let within : done + c.write_once-done.result ≤ length piece = omega (arith, after.within, rest) in
    let test = c.loop-done-test.true in
    let going : c.loop-done.out.failed ≡ false = sym c.failed.ensures ∙ c.if-not-failed.true in (
      within,
      appends,
      λ _. before.2 going,
      λ end start. (let none = after.stopped end in omega (arith, none, test)),
      λ start. absurd (apart c.loop-done.out.failed (before.4 start).1 going),
      after.ended ∙ before.5,
    )
