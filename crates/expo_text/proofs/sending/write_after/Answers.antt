use Rattle.std.proofs.Common.{◌<◌, ◌^◌, ◌++◌, length, rules, sym, refl, ◌∙◌, arith, length-append}
use Rattle.expo_text.specs.Shown.{shown_text}
use Rattle.expo_text.specs.Sends.{sends-chain}
use Rattle.expo_text.proofs.Limits.{text-bounded}
use Rattle.expo_text.proofs.Pieces.{sends-text, sent-part}
use Rattle.expo_text.proofs.sending.write_after.Goals as goal

pub returns-then-failed-clause-part : goal.returns-then-failed-clause-part
returns-then-failed-clause-part g c =
    let front = c.args.front.now in
    let text = shown_text c.args.scrape.now in
    let bounded = text-bounded c.args.scrape.now c.put_groups.ensures.ordered c.put_groups.ensures.spelled in
    let short : length (front ++ text) < 2 ^ 64 = omega (arith, length-append front text, bounded, c.requires.short) in
    let sends = sends-text _ _ _ (front ++ text) (sends-chain _ _ _ front text c.put.ensures.1 c.put_groups.ensures.text.1)
    c.send.ensures.sent in
    let failed = sym c.failed.ensures ∙ c.if-failed.true in
    let part = sent-part _ _ (front ++ text) sends c.new.ensures refl c.requires.not_failed failed short in
    (part.0, search (rules, part))
