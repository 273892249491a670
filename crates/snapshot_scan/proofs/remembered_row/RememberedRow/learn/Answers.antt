use Rattle.std.proofs.Common.{◌≡◌, ◌≤◌, ℕ, List, ◌++◌, Contains, length, take, drop, slice_index, sym, ap, ◌∙◌, subst, arith}
use Rattle.snapshot_scan.proofs.Words.{over}
use Rattle.snapshot_scan.proofs.remembered_row.RememberedRow.learn.Goals as goal

pub replace-requires-clause-wide : goal.replace-requires-clause-wide
replace-requires-clause-wide g c =
    let old = c.args.self.now in let wide = c.requires.wide in let long = c.requires.long in let ws = c.copy_words.new.words in
    let value = c.as_mut_slice.ensures.value in let a = c.copy_words.auto.words in
    let written : take old.fresh.len (ws ++ drop (length ws) old.fresh.items) ≡ ws = over ws old.fresh.items old.fresh.len
    (a ∙ ap (λ (l : List ℕ). length l) value) (let n = c.as_mut_slice.ensures.len in omega (arith, a)) in
    record {
      row = wide.row ∙ sym long;
      fresh = ap (λ (l : List ℕ). length l) written ∙ (a ∙ (ap (λ (l : List ℕ). length l) value ∙ (wide.fresh ∙ sym long)));
      row_low = λ k lt. wide.row_low k (omega (arith, lt, long));
      fresh_low = λ k lt. subst (λ (l : List ℕ). slice_index l k ≤ 281474976710655) (sym written)
          (c.copy_words.ensures.low k (omega (arith, lt, long)));
      same = λ listed. absurd (let e = sym c.note_all.ensures.all ∙ listed in cc);
      inside = λ j has. let lt = wide.inside j (subst (λ (l : List ℕ). Contains l j) c.note_all.ensures.items has) in
          omega (arith, lt, long);
    }
