use Rattle.std.proofs.Common.{length}
use Rattle.snapshot_scan.proofs.Moving.{moves_one}
use Rattle.snapshot_scan.proofs.rows.put_word.Goals as goal

pub returns-then-words-k-clause-moves : goal.returns-then-words-k-clause-moves
returns-then-words-k-clause-moves c = moves_one (length c.args.words.now) c.args.k c.args.word c.args.words.now
    c.change_word.new.words c.args.changed.now c.change_word.new.changed c.requires c.change_word.ensures.words
    c.change_word.ensures.notes
