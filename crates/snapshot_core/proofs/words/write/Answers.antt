use Rattle.std.proofs.Common.{◌<◌, ◌∙◌, sym, ap, List, ℕ, ◌++◌, ◌∷◌, [], length, take, rules, arith}
use Rattle.std.proofs.lemmas.List.{take_more, take_all}
use Rattle.snapshot_core.proofs.words.write.Goals as goal

pub loop-k-preserved : goal.loop-k-preserved
loop-k-preserved g c =
    let row = c.args.row.now in
    let lt : c.loop-k.k < length row = search rules in
    c.in_ok-push.ensures.items ∙ ap (λ (l : List ℕ). l ++ c.word_at.result ∷ []) c.loop-k.invariant
    ∙ ap (λ (x : ℕ). take c.loop-k.k row ++ x ∷ []) c.word_at.ensures.word
    ∙ sym (take_more row c.loop-k.k 0 lt)

pub returns : goal.returns
returns g c =
    let row = c.args.row.now in
    let past = c.loop-k-test.false in
    let len = c.len-k-end.ensures.within in
    c.loop-k.invariant ∙ take_all c.loop-k.k row (omega arith)
