use Rattle.std.proofs.Common.{true, ◌∙◌, rules}
use Rattle.snapshot_update.specs.BufferImages.{version_words}
use Rattle.snapshot_update.proofs.PublishedFit.{may_store}
use Rattle.snapshot_update.proofs.publishing.publish_again.Goals as goal

pub publish-requires : goal.publish-requires
publish-requires g c =
    let f = may_store c.args.board.now c.args.seat.now c.args.row.now c.args.memory.now c.args.ended c.args.ops.now c.requires.may
    c.fill_again.new.seat c.fill_again.new.hidden true c.fill_again.ensures.fills
    (c.fill_again.ensures.hidden ∙ (c.new-version.ensures.words
    ∙ (λ z. version_words c.args.row.now 1 (c.answer.ensures.vector z) (c.answer.ensures.totals z))))
    (λ _. c.requires.lends) in
    (search rules, (c.fill_again.ensures.fills.stores.of_board, (f.0, (f.1, f.2))))
