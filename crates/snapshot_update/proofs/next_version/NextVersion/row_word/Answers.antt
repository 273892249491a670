use Rattle.std.proofs.Common.{◌≡◌, ◌<◌, length, sym, refl, ◌∙◌, arith}
use Rattle.ledger_core.specs.Ops.{width}
use Rattle.snapshot_update.proofs.VersionWords.{row_word}
use Rattle.snapshot_update.proofs.next_version.NextVersion.row_word.Goals as goal

pub returns-clause-word : goal.returns-clause-word
returns-clause-word g c =
    let v = c.args.self.now in let lt = c.requires in let wide : length v.row.now ≡ width g.row.C g.row.H g.row.G = v.wide in
    let inside : c.args.k < length v.row.now = omega (arith, lt, wide) in
    c.word_at.ensures.word ∙ sym (row_word (length v.row.now) (length v.vector.now) v.row.now v.flag v.vector.now v.totals.now
    refl
    refl c.args.k inside)
