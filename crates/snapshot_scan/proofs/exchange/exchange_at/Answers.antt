use Rattle.std.proofs.Common.{◌≡◌, ◌≢◌, ◌<◌, ◌+◌, ◌-◌, ℕ, List, Contains, get_or, length, arith, sym, ap, ◌∙◌, subst, below_more}
use Rattle.std.proofs.Common.{get_or-set_same, get_or-set_other, ⊎_elim}
use mathlib.Core.Logic.{dite}
use native.Mathlib.Decide.{ℕ_discrete}
use Rattle.snapshot_scan.proofs.Words.{same_words, contains_or_not}
use Rattle.snapshot_scan.proofs.Shifted.{at_place, from_place}
use Rattle.snapshot_scan.proofs.Moving.{moves_then, moves_one}
use Rattle.snapshot_scan.proofs.exchange.exchange_at.Goals as goal

pub exchange_word-requires : goal.exchange_word-requires
exchange_word-requires c =
    let i = c.loop-item.item-index in let x = get_or c.args.items.now i 0 in let inv = c.loop-item.invariant in
    let within : x < length c.args.totals.now = c.requires.words x (from_place c.args.items.now i c.loop-item-test.true) in
    let lens = c.requires.lengths in let a = c.loop-item.auto.totals in let b = c.loop-item.auto.old in
    let p = c.requires.part x within in let s = inv.sums x within in let l = inv.low x within in
    let w = c.requires.low x within in
    record {
      inside = (omega (arith, a, within), omega (arith, lens.0, b, within), omega (arith, lens.1, within));
      part = omega (arith, p.0, s);
      room = omega (arith, p.0, p.1, s, l, w.1);
    }

pub loop-item-preserved : goal.loop-item-preserved
loop-item-preserved c =
    let i = c.loop-item.item-index in let items = c.args.items.now in let x = get_or items i 0 in
    let inv = c.loop-item.invariant in
    let n = length c.args.totals.now in let old = c.loop-item.old in let totals = c.loop-item.totals in
    let new = c.args.new.now in let word = get_or new x 0 in
    let r = c.exchange_word.new in let en = c.exchange_word.ensures in
    let listed : Contains items x = from_place items i c.loop-item-test.true in
    let within : x < n = c.requires.words x listed in
    let lens = c.requires.lengths in let a = c.loop-item.auto.totals in let b = c.loop-item.auto.old in
    let lt : x < length old = omega (arith, lens.0, b, within) in let lt' : x < length totals = omega (arith, a, within) in
    let y = get_or totals x 0 - get_or old x 0 + word in
    let here : (k : ℕ) → k ≡ x → get_or r.old k 0 ≡ word = λ k e. ap (λ (j : ℕ). get_or r.old j 0) e
    ∙ (ap (λ (l : List ℕ). get_or l x 0) en.old ∙ get_or-set_same old x word 0 lt) in
    let there : (k : ℕ) → k ≢ x → get_or r.old k 0 ≡ get_or old k 0 = λ k e. ap (λ (l : List ℕ). get_or l k 0) en.old
    ∙ get_or-set_other old x k word 0 e in
    record {
      done = below_more (λ (q : ℕ). get_or r.old (get_or items q 0) 0 ≡ get_or new (get_or items q 0) 0) i
          (λ q lt. let z = get_or items q 0 in
          dite (ℕ_discrete z x) (λ e. here z e ∙ ap (λ (j : ℕ). get_or new j 0) (sym e)) (λ e. there z e ∙ inv.done q lt))
          (here x (λ _. x));
      others = λ k none. there k (λ e. none (subst (Contains items) (sym e) listed)) ∙ inv.others k none;
      low = λ k lt. dite (ℕ_discrete k x) (λ e. let h = here k e in let w = c.requires.low x within in omega (arith, h, w.1))
          (λ e. let h = there k e in let l = inv.low k lt in omega (arith, h, l));
      sums = λ k lt. dite (ℕ_discrete k x)
          (λ e. let h = here k e in let t : get_or r.totals k 0 ≡ y = ap (λ (j : ℕ). get_or r.totals j 0) e
          ∙ (ap (λ (l : List ℕ). get_or l x 0) en.totals ∙ get_or-set_same totals x y 0 lt') in
          let s = inv.sums x within in let p = c.requires.part x within in let f = ap (λ (j : ℕ). get_or c.args.old.now j 0) e in
          let f' = ap (λ (j : ℕ). get_or c.args.totals.now j 0) e in omega (arith, h, t, s, p.0, f, f'))
          (λ e. let h = there k e in let t : get_or r.totals k 0 ≡ get_or totals k 0 = ap (λ (l : List ℕ). get_or l k 0) en.totals
          ∙ get_or-set_other totals x k y 0 e in let s = inv.sums k lt in omega (arith, h, t, s));
      moves = moves_then n c.args.totals.now totals r.totals c.args.changed_totals.now c.loop-item.changed_totals
          r.changed_totals inv.moves
          (moves_one n x y totals r.totals c.loop-item.changed_totals r.changed_totals within en.totals en.notes);
    }

-- each word is the new one
words_are : (n : ℕ) (was old new items : List ℕ) → ((k : ℕ) → Contains items k → get_or old k 0 ≡ get_or new k 0)
    → ((k : ℕ) → ¬ (Contains items k) → get_or old k 0 ≡ get_or was k 0)
    → ((k : ℕ) → k < n → ¬ (Contains items k) → get_or was k 0 ≡ get_or new k 0) → (k : ℕ) → k < n
    → get_or old k 0 ≡ get_or new k 0
words_are n was old new items changed others same k lt = ⊎_elim (λ has. changed k has) (λ none. others k none ∙ same k lt none)
    (contains_or_not items k)

pub returns : goal.returns
returns c =
    let inv = c.loop-item.invariant in let items = c.args.items.now in let f = c.loop-item-test.false in
    let n = length c.args.totals.now in
    let lens = c.requires.lengths in let a = c.loop-item.auto.totals in let b = c.loop-item.auto.old in
    let done : (k : ℕ) → Contains items k → get_or c.loop-item.old k 0 ≡ get_or c.args.new.now k 0 = λ k has. let t =
    at_place items k has in let lt = t.1 in
    ap (λ (j : ℕ). get_or c.loop-item.old j 0) (sym t.2)
    ∙ (inv.done t.0 (omega (arith, f, lt)) ∙ ap (λ (j : ℕ). get_or c.args.new.now j 0) t.2) in
    let words = words_are n c.args.old.now c.loop-item.old c.args.new.now items done inv.others c.requires.others in
    record {
      same = same_words c.loop-item.old c.args.new.now (omega (arith, lens.0, lens.1, b))
          (λ k lt. words k (omega (arith, lens.0, b, lt)));
      sums = λ k lt. let s = inv.sums k lt in let e = words k lt in omega (arith, s, e);
      changed_totals = inv.moves;
    }
