use Rattle.std.proofs.Common.{◌≡◌, ◌≢◌, ◌<◌, ◌+◌, ◌-◌, ℕ, List, Contains, get_or, set, length, rules, arith, sym, ap, ◌∙◌, subst}
use Rattle.std.proofs.Common.{below_more, get_or-set_same, get_or-set_other}
use mathlib.Core.Logic.{dite}
use native.Mathlib.Decide.{ℕ_discrete}
use Rattle.std.proofs.lemmas.List.Elements.{Contains-get_or}
use Rattle.ledger_core.specs.Ops.{width}
use Rattle.register_rule.proofs.Words.{there, read_at}
use Rattle.snapshot_scan.proofs.remembered_row.change_words.Goals as goal

pub word_at-requires : goal.word_at-requires
word_at-requires g c = let i = c.loop-item.item-index in
    (search rules, c.requires.words (get_or c.args.items.now i 0) (Contains-get_or c.args.items.now i 0 c.loop-item-test.true))

pub change_word-requires : goal.change_word-requires
change_word-requires g c =
    let i = c.loop-item.item-index in let x = get_or c.args.items.now i 0 in
    let within : x < width g.row.C g.row.H g.row.G =
    c.requires.words x (Contains-get_or c.args.items.now i 0 c.loop-item-test.true) in
    let lens = c.requires.lengths in let a = c.loop-item.auto.totals in let b = c.loop-item.auto.old in
    let p = c.requires.part x within in let s = c.loop-item.invariant.sums x within in
    let l = c.loop-item.invariant.low x within in let w = c.word_at.ensures.bounded in
    record {
      inside = (omega (arith, lens.0, a, within), omega (arith, lens.1, b, within));
      part = omega (arith, p.0, s);
      room = omega (arith, p.0, p.1, s, l, w);
    }

pub loop-item-preserved : goal.loop-item-preserved
loop-item-preserved g c =
    let i = c.loop-item.item-index in let x = get_or c.args.items.now i 0 in let inv = c.loop-item.invariant in
    let w : ℕ = width g.row.C g.row.H g.row.G in
    let old = c.loop-item.old in let totals = c.loop-item.totals in let word = c.word_at.result in
    let within : x < w = c.requires.words x (Contains-get_or c.args.items.now i 0 c.loop-item-test.true) in
    let lens = c.requires.lengths in let a = c.loop-item.auto.totals in let b = c.loop-item.auto.old in
    let lt : x < length old = omega (arith, lens.1, b, within) in
    let lt' : x < length totals = omega (arith, lens.0, a, within) in
    let new_old : c.change_word.new.old ≡ set old x word = c.change_word.ensures.old in
    let y = get_or totals x 0 - get_or old x 0 + word in
    let new_totals : c.change_word.new.totals ≡ set totals x y = c.change_word.ensures.totals in
    let value : word ≡ get_or c.args.row.now x 0 = c.word_at.ensures.word in
    let here : (k : ℕ) → k ≡ x → get_or c.change_word.new.old k 0 ≡ word = λ k e. ap (λ (j : ℕ). get_or c.change_word.new.old j 0)
    e ∙ (ap (λ (l : List ℕ). get_or l x 0) new_old ∙ get_or-set_same old x word 0 lt) in
    let there : (k : ℕ) → k ≢ x → get_or c.change_word.new.old k 0 ≡ get_or old k 0 =
    λ k e. ap (λ (l : List ℕ). get_or l k 0) new_old ∙ get_or-set_other old x k word 0 e in
    record {
      done = below_more (λ (q : ℕ). get_or c.change_word.new.old (get_or c.args.items.now q 0) 0 ≡ get_or c.args.row.now
          (get_or c.args.items.now q 0) 0) i
          (λ q lt. let z = get_or c.args.items.now q 0 in
          dite (ℕ_discrete z x) (λ e. here z e ∙ (value ∙ ap (λ (j : ℕ). get_or c.args.row.now j 0) (sym e)))
          (λ e. there z e ∙ inv.done q lt))
          (here x (λ _. x) ∙ value);
      others = λ k none. there k
          (λ e. none (subst (Contains c.args.items.now) (sym e) (Contains-get_or c.args.items.now i 0 c.loop-item-test.true)))
          ∙ inv.others k none;
      low = λ k lt. dite (ℕ_discrete k x) (λ e. let h = here k e in let b' = c.word_at.ensures.bounded in omega (arith, h, b'))
          (λ e. let h = there k e in let l = inv.low k lt in omega (arith, h, l));
      sums = λ k lt. dite (ℕ_discrete k x)
          (λ e. let h = here k e in
          let t : get_or c.change_word.new.totals k 0 ≡ y = ap (λ (j : ℕ). get_or c.change_word.new.totals j 0) e
          ∙ (ap (λ (l : List ℕ). get_or l x 0) new_totals ∙ get_or-set_same totals x y 0 lt') in
          let s = inv.sums x within in let p = c.requires.part x within in let f = ap (λ (j : ℕ). get_or c.args.old.now j 0) e in
          let f' = ap (λ (j : ℕ). get_or c.args.totals.now j 0) e in omega (arith, h, t, s, p.0, f, f'))
          (λ e. let h = there k e in let t : get_or c.change_word.new.totals k 0 ≡ get_or totals k 0 =
          ap (λ (l : List ℕ). get_or l k 0) new_totals ∙ get_or-set_other totals x k y 0 e in let s = inv.sums k lt in
          omega (arith, h, t, s));
    }

pub returns-clause-changed : goal.returns-clause-changed
returns-clause-changed g c = λ k has. let q = has.0 in
    let f = c.loop-item-test.false in let lt = has.1 in let items = c.args.items.now in
    let e : get_or items q 0 ≡ k = read_at items q (get_or items q k) 0 (there items q k lt) ∙ has.2 in
    ap (λ (j : ℕ). get_or c.loop-item.old j 0) (sym e)
    ∙ (c.loop-item.invariant.done q (omega (arith, f, lt)) ∙ ap (λ (j : ℕ). get_or c.args.row.now j 0) e)
