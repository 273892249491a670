use Rattle.std.proofs.Common.{◌≡◌, ◌≢◌, ◌+◌, ℕ, List, length, get_or, ap, ◌∙◌, subst, arith}
use Rattle.std.proofs.Common.{get_or-set_same, get_or-set_other}
use Rattle.ledger_core.specs.Ops.{width}
use Rattle.snapshot_update.specs.BufferImages.{target_of}
use Rattle.snapshot_update.proofs.Filling.{kept_set}
use Rattle.snapshot_update.proofs.fills.fill_pair.Goals as goal

pub returns-clause-row : goal.returns-clause-row
returns-clause-row g c =
    let lt = c.requires.inside.0 in let at = c.requires.inside.1 in let e = c.requires.lengths.0 in
    let h = c.args.hidden.now in let word = c.args.word in let item : ℕ = c.args.totals_at + word in
    let other : word ≢ item = λ is. omega (arith, is, at) in
    ap (λ (l : List ℕ). get_or l word 0) c.fill_item-2.ensures.hidden
    ∙ (get_or-set_other c.fill_item.new.hidden item word c.total_of-total.result 0 other
    ∙ (ap (λ (l : List ℕ). get_or l word 0) c.fill_item.ensures.hidden
    ∙ (get_or-set_same h word c.row_word-value.result 0 (omega (arith, lt, e)) ∙ c.row_word-value.ensures.word)))

-- the version's total of the word
total_there : goal.returns-clause-total
total_there g c =
    let lt = c.requires.inside.0 in let at = c.requires.inside.1 in let e = c.requires.lengths.0 in
    let d = c.fill_item.auto.hidden in let n = c.requires.lengths.1 in
    let word = c.args.word in let item : ℕ = c.args.totals_at + word in
    let w : ℕ = width g.row.C g.row.H g.row.G in let target = target_of c.args.version.now in
    let same : item ≡ w + 1 + g.row.N + word = omega (arith, at) in
    let place : w + 1 + length c.args.version.now.vector.now + word ≡ w + 1 + g.row.N + word = omega (arith, n) in
    subst (λ (k : ℕ). get_or c.fill_item-2.new.hidden k 0 ≡ get_or target (w + 1 + g.row.N + word) 0) same
    (ap (λ (l : List ℕ). get_or l item 0) c.fill_item-2.ensures.hidden
    ∙ (get_or-set_same c.fill_item.new.hidden item c.total_of-total.result 0 (omega (arith, lt, at, e, d))
    ∙ (c.total_of-total.ensures ∙ ap (λ (k : ℕ). get_or target k 0) place)))

pub returns-clause-total : goal.returns-clause-total
returns-clause-total = total_there

pub returns-clause-kept : goal.returns-clause-kept
returns-clause-kept g c = λ j same.
    let lt = c.requires.inside.0 in let at = c.requires.inside.1 in let e = c.requires.lengths.0 in
    let d = c.fill_item.auto.hidden in let n = c.requires.lengths.1 in
    let word = c.args.word in let item : ℕ = c.args.totals_at + word in
    let w : ℕ = width g.row.C g.row.H g.row.G in let target = target_of c.args.version.now in
    let place : w + 1 + length c.args.version.now.vector.now + word ≡ item = omega (arith, n, at) in
    ap (λ (l : List ℕ). get_or l j 0) c.fill_item-2.ensures.hidden
    ∙ kept_set c.fill_item.new.hidden target item c.total_of-total.result j (omega (arith, lt, at, e, d))
    (c.total_of-total.ensures ∙ ap (λ (k : ℕ). get_or target k 0) place)
    (ap (λ (l : List ℕ). get_or l j 0) c.fill_item.ensures.hidden
    ∙ kept_set c.args.hidden.now target word c.row_word-value.result j (omega (arith, lt, e)) c.row_word-value.ensures.word same)
