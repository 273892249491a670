-- What an update publishes, and that the worker's data fit its member again.
use Rattle.std.proofs.Common.{◌≡◌, ℕ, suc, ◌+◌, ◌<◌, ◌≤◌, Bool, true, false, cond, Some, None, List, [], ◌∷◌, ◌++◌, length, map}
use Rattle.std.proofs.Common.{take, drop, slice_index, sym, refl, ap, ◌∙◌, subst, arith, length-drop}
use mathlib.Core.Option.{some}
use lib.ListN.{get_elem?}
use Rattle.std.proofs.lemmas.Option.{none-some}
use Rattle.ledger_core.specs.declared.op.Op.{Op}
use Rattle.ledger_core.specs.Ops.{sum_ops, width}
use Rattle.ledger_core.specs.Row.{Accepts}
use Rattle.register_rule.specs.declared.view.Answer.{Answer}
use Rattle.register_rule.specs.declared.view.PublishEntry.{PublishEntry}
use Rattle.register_rule.specs.declared.view.Member.{Member}
use Rattle.register_rule.specs.Sums.{word_after, last_lent, flag_of}
use Rattle.register_rule.specs.Members.{made_of, newest}
use Rattle.register_rule.specs.Told.{HoldsNext}
use Rattle.register_rule.proofs.Publish.{lent_last}
use Rattle.register_rule.proofs.Words.{there}
use Rattle.register_rule.proofs.Publish.{total_last}
use Rattle.snapshot_scan.specs.declared.scan_end.ScanEnd.{ScanEnd}
use Rattle.snapshot_scan.specs.declared.scan_end.ScanEnd.TheVariants.{Direct, Lent, GaveUp}
use Rattle.snapshot_scan.specs.declared.remembered_row.RememberedRow.{RememberedRow}
use Rattle.snapshot_scan.specs.declared.scan_memory.ScanMemory.{ScanMemory}
use Rattle.snapshot_scan.specs.RememberedRows.{version_of}
use Rattle.snapshot_scan.specs.ScanMemories.{rows_of, answer_of}
use Rattle.snapshot_scan.proofs.Words.{length_take}
use Rattle.snapshot_update.specs.BufferImages.{version_words}
use Rattle.snapshot_update.proofs.VersionWords.{row_word, flag_word, vector_word, total_word}

last_of : (l : List Answer) (a : Answer) → newest (l ++ a ∷ []) ≡ Some a
last_of [] a = refl
last_of (x ∷ []) a = refl
last_of (x ∷ y ∷ l) a = last_of (y ∷ l) a

-- the answer of a scan has n numbers and w totals
pub answer_long : (n c h g : ℕ) (memory : ScanMemory n c h g) (ended : ScanEnd) → (length (answer_of memory ended).vector ≡ n)
    × (length (answer_of memory ended).totals ≡ width c h g)
answer_long n c h g memory (Direct quiet) = (memory.sizes.2, memory.sizes.1)
answer_long n c h g memory GaveUp = (memory.sizes.2, memory.sizes.1)
answer_long n c h g memory Lent = let long = memory.sizes.4 in let a = length-drop 1 memory.lent.items in
    let b = length-drop (1 + n) memory.lent.items in (
      length_take (drop 1 memory.lent.items) n (omega (arith, a, long)),
      length_take (drop (1 + n) memory.lent.items) (width c h g) (omega (arith, b, long)),
    )

pub rows_many : (n c h g : ℕ) (memory : ScanMemory n c h g) → length (rows_of memory) ≡ n
rows_many n c h g memory = go memory.remembered.items ∙ memory.sizes.0
  where
    go : (gs : List RememberedRow) → length (map version_of gs) ≡ length gs
    go [] = refl
    go (x ∷ gs) = ap suc (go gs)

pub accepts_same : (c h g : ℕ) (f k : ℕ → ℕ) (ops : List Op) → ((j : ℕ) → j < width c h g → f j ≡ k j) → Accepts c h g f ops
    → Accepts c h g k ops
accepts_same c h g f k ops same ok = record {
  within = ok.within;
  fits = λ j lt i below. subst (λ (z : ℕ). z + sum_ops c h (take j ops) i ≤ 281474976710655) (same i below)
      (ok.fits j lt i below);
}

-- the hidden buffer holds the version that is published: m has scanned, and its hidden buffer is filled
module _ (n w b : ℕ) (adds : List Op → ℕ → ℕ) (ops : List Op) (m : Member) (row vector totals : List ℕ) (wide : length row ≡ w)
    (all : length vector ≡ n) (long : length totals ≡ w)
    (sums : (k : ℕ) → k < w → slice_index row k ≡ word_after adds m.work.made k + adds ops k) where
  lends_view : m.work.hidden ≡ version_words row 1 vector totals → (before : List Answer)
      → m.scan.recorded ≡ before ++ record { vector = vector; totals = totals } ∷ [] → HoldsNext n w b adds ops true m
  lends_view hidden before recorded k below =
      let a : Answer = record { vector = vector; totals = totals } in
      let made : List PublishEntry = m.work.made ++ made_of ops true m ∷ [] in
      let lent : last_lent made ≡ Some a = lent_last m.work.made (made_of ops true m)
      ∙ (ap newest recorded ∙ last_of before a) in
      let same : (x : Answer) → last_lent made ≡ Some x → a ≡ x = λ x e. let h = sym lent ∙ e in cc in
      let at : (j : ℕ) → slice_index m.work.hidden j ≡ slice_index (version_words row 1 vector totals) j =
      λ j. ap (λ (l : List ℕ). slice_index l j) hidden in record {
        row = λ lt. at k ∙ (row_word w n row 1 vector totals wide all k lt
            ∙ (sums k lt ∙ sym (total_last adds m.work.made (made_of ops true m) k)));
        flag = λ e. ap (slice_index m.work.hidden) e
            ∙ (at w ∙ (flag_word w n row 1 vector totals wide all ∙ sym (ap flag_of lent)));
        vector = λ x j e lt is. subst (λ (y : Answer). get_elem? y.vector j ≡ some (slice_index m.work.hidden k)) (same x e)
            (there vector j 0 (omega (arith, lt, all))
            ∙ ap some (sym (ap (slice_index m.work.hidden) is
            ∙ (at (w + 1 + j) ∙ vector_word w n row 1 vector totals wide all j lt))));
        totals = λ x j e lt is. subst (λ (y : Answer). get_elem? y.totals j ≡ some (slice_index m.work.hidden k)) (same x e)
            (there totals j 0 (omega (arith, lt, long))
            ∙ ap some (sym (ap (slice_index m.work.hidden) is
            ∙ (at (w + 1 + n + j) ∙ total_word w n row 1 vector totals wide all j))));
      }

  lends_none : m.work.hidden ≡ version_words row 0 vector totals → HoldsNext n w b adds ops false m
  lends_none hidden k below =
      let made : List PublishEntry = m.work.made ++ made_of ops false m ∷ [] in
      let none : last_lent made ≡ None = lent_last m.work.made (made_of ops false m) in
      let at : (j : ℕ) → slice_index m.work.hidden j ≡ slice_index (version_words row 0 vector totals) j =
      λ j. ap (λ (l : List ℕ). slice_index l j) hidden in record {
        row = λ lt. at k ∙ (row_word w n row 0 vector totals wide all k lt
            ∙ (sums k lt ∙ sym (total_last adds m.work.made (made_of ops false m) k)));
        flag = λ e. ap (slice_index m.work.hidden) e
            ∙ (at w ∙ (flag_word w n row 0 vector totals wide all ∙ sym (ap flag_of none)));
        vector = λ x j e lt is. absurd (none-some x (sym none ∙ e));
        totals = λ x j e lt is. absurd (none-some x (sym none ∙ e));
      }

  pub holds : (lends : Bool) → m.work.hidden ≡ version_words row (cond lends 1 0) vector totals
      → (lends ≡ true → (before : List Answer) × (m.scan.recorded ≡ before ++ record { vector = vector; totals = totals } ∷ []))
      → HoldsNext n w b adds ops lends m
  holds true hidden recorded = let r = recorded refl in lends_view hidden r.0 r.1
  holds false hidden recorded = lends_none hidden
