use Rattle.std.proofs.Common.{◌≡◌, ◌<◌, ◌≤◌, ℕ, List, ◌++◌, Contains, length, take, drop, slice_index, sym, ap, ◌∙◌, subst, arith}
use Rattle.std.proofs.Common.{⊎_elim}
use Rattle.ledger_core.specs.Ops.{width}
use Rattle.snapshot_scan.proofs.Words.{over, same_words, contains_or_not}
use Rattle.snapshot_scan.proofs.remembered_row.RememberedRow.change.Goals as goal

-- each word of the changed row is that of the new one
words_are : (w : ℕ) (old new row items : List ℕ) → ((k : ℕ) → Contains items k → slice_index new k ≡ slice_index row k)
    → ((k : ℕ) → ¬ (Contains items k) → slice_index new k ≡ slice_index old k)
    → ((k : ℕ) → k < w → ¬ (Contains items k) → slice_index old k ≡ slice_index row k) → (k : ℕ) → k < w
    → slice_index new k ≡ slice_index row k
words_are w old new row items changed others same k lt = ⊎_elim (λ has. changed k has) (λ none. others k none ∙ same k lt none)
    (contains_or_not items k)

pub returns-clause-version : goal.returns-clause-version
returns-clause-version g c =
    let w : ℕ = width g.row.C g.row.H g.row.G in let old = c.args.self.now in let new = c.change_words.new.old in
    let row = c.args.row.now in
    let value = c.as_mut_slice.ensures.value in let a = c.change_words.auto.old in let wide = c.requires.wide.row in
    let long : length new ≡ w = a ∙ (ap (λ (l : List ℕ). length l) value ∙ wide) in
    let written : take old.row.len (new ++ drop (length new) old.row.items) ≡ new = over new old.row.items old.row.len
    (a ∙ ap (λ (l : List ℕ). length l) value) (let n = c.as_mut_slice.ensures.len in omega (arith, a)) in
    let same : new ≡ row = same_words new row (long ∙ (sym c.len.ensures.width ∙ c.len.ensures.within))
    (λ k lt. words_are w old.row.items new row c.args.items.now c.change_words.ensures.changed
    (λ j none. c.change_words.ensures.others j none ∙ ap (λ (l : List ℕ). slice_index l j) value) c.requires.others k
    (omega (arith, long, lt))) in
    λ z. record { number = c.args.number; row = (written ∙ same) z }

pub returns-clause-totals : goal.returns-clause-totals
returns-clause-totals g c = λ k lt.
    let w : ℕ = width g.row.C g.row.H g.row.G in let old = c.args.self.now in let value = c.as_mut_slice.ensures.value in
    let s = c.change_words.ensures.sums k lt in let v = ap (λ (l : List ℕ). slice_index l k) value in
    let e = words_are w old.row.items c.change_words.new.old c.args.row.now c.args.items.now c.change_words.ensures.changed
    (λ j none. c.change_words.ensures.others j none ∙ ap (λ (l : List ℕ). slice_index l j) value) c.requires.others k lt in
    omega (arith, s, v, e)

pub returns-clause-wide : goal.returns-clause-wide
returns-clause-wide g c =
    let w : ℕ = width g.row.C g.row.H g.row.G in let old = c.args.self.now in let new = c.change_words.new.old in
    let value = c.as_mut_slice.ensures.value in let a = c.change_words.auto.old in let wide = c.requires.wide in
    let long : length new ≡ w = a ∙ (ap (λ (l : List ℕ). length l) value ∙ wide.row) in
    let written : take old.row.len (new ++ drop (length new) old.row.items) ≡ new = over new old.row.items old.row.len
    (a ∙ ap (λ (l : List ℕ). length l) value) (let n = c.as_mut_slice.ensures.len in omega (arith, a)) in
    record {
      row = ap (λ (l : List ℕ). length l) written ∙ long;
      fresh = wide.fresh;
      row_low = λ k lt. subst (λ (l : List ℕ). slice_index l k ≤ 281474976710655) (sym written) (c.change_words.ensures.low k lt);
      fresh_low = wide.fresh_low;
      same = λ listed. absurd (let e = sym c.note_all.ensures.all ∙ listed in cc);
      inside = λ j has. wide.inside j (subst (λ (l : List ℕ). Contains l j) c.note_all.ensures.items has);
    }
