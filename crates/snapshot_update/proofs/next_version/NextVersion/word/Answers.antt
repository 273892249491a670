use Rattle.std.proofs.Common.{◌≡◌, ◌+◌, ◌-◌, ◌<◌, ℕ, length, slice_index, sym, refl, ap, ◌∙◌, arith}
use Rattle.snapshot_update.specs.BufferImages.{target_of}
use Rattle.snapshot_update.proofs.VersionWords.{row_word, flag_word, vector_word, total_word}
use Rattle.snapshot_update.proofs.next_version.NextVersion.word.Goals as goal

pub returns-then-item-flag-clause-word : goal.returns-then-item-flag-clause-word
returns-then-item-flag-clause-word g c =
    let v = c.args.self.now in let is = c.len-flag.ensures.within in let t = c.if-item-flag.true in
    let lt : c.args.item < length v.row.now = omega (arith, is, t) in
    c.word_at.ensures.word ∙ sym (row_word (length v.row.now) (length v.vector.now) v.row.now v.flag v.vector.now
    v.totals.now refl
    refl c.args.item lt)

pub returns-then-item-flag-2-clause-word : goal.returns-then-item-flag-2-clause-word
returns-then-item-flag-2-clause-word g c =
    let v = c.args.self.now in let e : c.args.item ≡ length v.row.now = c.if-item-flag-2.true ∙ c.len-flag.ensures.within in
    sym (ap (slice_index (target_of v)) e
    ∙ flag_word (length v.row.now) (length v.vector.now) v.row.now v.flag v.vector.now v.totals.now refl refl)

pub returns-then-behind-self-clause-word : goal.returns-then-behind-self-clause-word
returns-then-behind-self-clause-word g c =
    let v = c.args.self.now in let is = c.len-flag.ensures.within in
    let f = c.if-item-flag.false in let other = c.if-item-flag-2.false in
    let k : ℕ = c.args.item - c.len-flag.result - 1 in
    let e : c.args.item ≡ length v.row.now + 1 + k = omega (arith, is, f, other) in
    sym (ap (slice_index (target_of v)) e
    ∙ vector_word (length v.row.now) (length v.vector.now) v.row.now v.flag v.vector.now v.totals.now refl refl k
    c.if-behind-self.true)

pub returns-else-behind-self-clause-word : goal.returns-else-behind-self-clause-word
returns-else-behind-self-clause-word g c =
    let v = c.args.self.now in let is = c.len-flag.ensures.within in
    let f = c.if-item-flag.false in let other = c.if-item-flag-2.false in let behind = c.if-behind-self.false in
    let k : ℕ = c.args.item - c.len-flag.result - 1 - length v.vector.now in
    let e : c.args.item ≡ length v.row.now + 1 + length v.vector.now + k = omega (arith, is, f, other, behind) in
    sym (ap (slice_index (target_of v)) e
    ∙ total_word (length v.row.now) (length v.vector.now) v.row.now v.flag v.vector.now v.totals.now refl refl k)
