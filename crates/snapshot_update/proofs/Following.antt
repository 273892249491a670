-- What a scan found anew is listed as late, and where the next version is known to differ.
use Rattle.std.proofs.Common.{◌≡◌, ◌⊎◌, ⊎_elim, inl, inr, ℕ, zero, suc, ◌+◌, ◌<◌, Bool, true, false, List, [], ◌∷◌}
use Rattle.std.proofs.Common.{length, map, take, slice_index, Contains, sym, refl, ap, ◌∙◌, subst, arith}
use mathlib.Core.Option.{some}
use lib.ListN.{get_elem?}
use Rattle.std.proofs.Math.Seq.{take-length}
use Rattle.ledger_core.specs.Ops.{width, sum_ops}
use Rattle.segment_layout.specs.Layout.{depth}
use Rattle.register_rule.specs.declared.view.PublishEntry.{PublishEntry}
use Rattle.register_rule.specs.declared.view.Member.{Member}
use Rattle.register_rule.specs.declared.view.Version.{Version}
use Rattle.register_rule.specs.declared.view.Who.TheVariants.{Worker}
use Rattle.register_rule.specs.Sums.{word_after}
use Rattle.register_rule.proofs.Words.{there}
use Rattle.snapshot_scan.specs.declared.scan_end.ScanEnd.{ScanEnd}
use Rattle.snapshot_scan.specs.declared.scan_end.ScanEnd.TheVariants.{Direct}
use Rattle.snapshot_scan.specs.declared.scan_memory.ScanMemory.{ScanMemory}
use Rattle.snapshot_scan.specs.ChangedItems.{ChangedView, Notes, NotesEach}
use Rattle.snapshot_scan.specs.RememberedRows.{AreNumbers}
use Rattle.snapshot_scan.specs.ScanMemories.{rows_of, totals_in, changed_totals_in, answer_of, IsReady}
use Rattle.snapshot_scan.proofs.Words.{same_words}
use Rattle.snapshot_update.specs.declared.buffer_images.BufferImages.{BufferImages}
use Rattle.snapshot_update.specs.Fit.{AreInside, AreImages, number_in, idle_words, IsFit}
use Rattle.snapshot_update.specs.Known.{IsStill, NotesRange, ListsChangedTotals, IsFollowed, IsNext}
use Rattle.snapshot_update.specs.Updated.{IsRuledAlone}
use Rattle.snapshot_update.proofs.VersionWords.{Which, which, in_row, at_flag, in_vector, in_totals, row_word, flag_word}
use Rattle.snapshot_update.proofs.VersionWords.{total_word, words_long, numbers_long}
use Rattle.snapshot_update.proofs.Fitting.{rows_many}

-- no items yet
pub range_none : (first : ℕ) (c : ChangedView) → NotesRange first 0 c c
range_none first c = record {
  listed = λ h. h;
  keeps = λ _ j h. h;
  notes = λ _ i lt. absurd (omega (arith, lt));
  others = λ j h. inl h;
}

-- one item more
pub range_more : (first n : ℕ) (old mid new : ChangedView) → NotesRange first n old mid → Notes (first + n) mid new
    → NotesRange first (n + 1) old new
range_more first n old mid new a b = record {
  listed = λ h. a.listed (b.listed h);
  keeps = λ h j was. b.keeps h j (a.keeps (b.listed h) j was);
  notes = λ h i lt. ⊎_elim (λ low. b.keeps h (first + i) (a.notes (b.listed h) i low))
      (λ e. subst (λ (k : ℕ). Contains new.items (first + k)) (sym e) (b.notes h)) (below_or_last i n lt);
  others = λ j h. ⊎_elim (λ was. ⊎_elim (λ o. inl o) (λ t. let lt = t.1 in inr (t.0, omega (arith, lt), t.2)) (a.others j was))
      (λ e. inr (n, omega arith, e)) (b.others j h);
}
  where
    below_or_last : (i n : ℕ) → i < n + 1 → (i < n) ⊎ (i ≡ n)
    below_or_last zero zero lt = inr refl
    below_or_last zero (suc n) lt = inl (omega arith)
    below_or_last (suc i) zero lt = absurd (omega (arith, lt))
    below_or_last (suc i) (suc n) lt = ⊎_elim (λ h. inl (omega (arith, h))) (λ e. inr (ap suc e))
        (below_or_last i n (omega (arith, lt)))

-- all numbers of the vector, and then the totals of some words
pub lists_moved : (n w : ℕ) (changed_totals old mid new : ChangedView) → AreInside w changed_totals → changed_totals.all ≡ false
    → NotesRange (w + 1) n old mid
    → NotesEach (w + 1 + n) changed_totals.items mid new → ListsChangedTotals n w changed_totals old new
lists_moved n w changed_totals old mid new words few a b = record {
  listed = λ h. a.listed (b.listed h);
  few = λ _. few;
  keeps = λ h j was. b.keeps h j (a.keeps (b.listed h) j was);
  numbers = λ h i lt. b.keeps h (w + 1 + i) (a.notes (b.listed h) i lt);
  totals = λ h k has. let e : k + (w + 1 + n) ≡ w + 1 + n + k = omega arith in subst (Contains new.items) e (b.notes h k has);
  inside = λ j h. ⊎_elim
      (λ was. ⊎_elim (λ o. inl o) (λ t. let lt = t.1 in let e = t.2 in inr (omega (arith, lt, e))) (a.others j was))
      (λ t. let lt = words t.0 t.1 in let e = t.2 in inr (omega (arith, lt, e))) (b.others j h);
}

-- where not all that moved is listed, all count as late
pub lists_all : (n w : ℕ) (changed_totals old mid late new : ChangedView) → AreInside w changed_totals → new.all ≡ true →
    new.items ≡ late.items
    → NotesRange (w + 1) n old mid → NotesEach (w + 1 + n) changed_totals.items mid late → ListsChangedTotals n w
    changed_totals old new
lists_all n w changed_totals old mid late new words all items a b = record {
  listed = λ h. absurd (let e = sym all ∙ h in cc);
  few = λ h. absurd (let e = sym all ∙ h in cc);
  keeps = λ h _ _. absurd (let e = sym all ∙ h in cc);
  numbers = λ h _ _. absurd (let e = sym all ∙ h in cc);
  totals = λ h _ _. absurd (let e = sym all ∙ h in cc);
  inside = λ j h. ⊎_elim
      (λ was. ⊎_elim (λ o. inl o) (λ t. let lt = t.1 in let e = t.2 in inr (omega (arith, lt, e))) (a.others j was))
      (λ t. let lt = words t.0 t.1 in let e = t.2 in inr (omega (arith, lt, e)))
      (b.others j (subst (λ (l : List ℕ). Contains l j) items h));
}

-- the next version has moved, and what moved is listed
pub images_moved : (n w : ℕ) (row : List ℕ) (rows rows' : List Version) (sums sums' : List ℕ) (im : BufferImages)
    (late' changed_totals : ChangedView) → length row ≡ w → length rows ≡ n → length rows' ≡ n → length sums' ≡ w
    → (changed_totals.all ≡ false → (k : ℕ) → k < w → ¬ (Contains changed_totals.items k) → slice_index sums' k ≡ slice_index
    sums k)
    → ListsChangedTotals n w changed_totals im.late late'
    → AreImages (depth n w) (idle_words row rows sums) im
    → AreImages (depth n w) (idle_words row rows' sums') (record im { late = late' })
images_moved n w row rows rows' sums sums' im late' changed_totals wide many many' long same lists are = record {
  idle_deep = (let e = words_long w n row 1 (map number_in rows') sums' wide all' w long in omega (arith, e));
  hidden_deep = are.hidden_deep;
  shown_deep = are.shown_deep;
  recent = are.recent;
  recent_inside = are.recent_inside;
  late = λ few j lt none.
      let deep = are.idle_deep in let long' = words_long w n row 1 (map number_in rows') sums' wide all' w long in
      are.late (lists.listed few) j (omega (arith, lt, deep, long')) (λ was. none (lists.keeps few j was))
      ∙ stays few j none (which w n j (omega (arith, lt, long')));
  late_inside = λ j has. ⊎_elim (λ was. are.late_inside j was) (λ lt. lt) (lists.inside j has);
}
  where
    all : length (map number_in rows) ≡ n
    all = numbers_long rows ∙ many

    all' : length (map number_in rows') ≡ n
    all' = numbers_long rows' ∙ many'

    old : ℕ → ℕ
    old j = slice_index (idle_words row rows sums) j

    there' : (j k : ℕ) → j ≡ k → slice_index (idle_words row rows sums) k ≡ slice_index (idle_words row rows' sums') k
        → slice_index (idle_words row rows sums) j ≡ slice_index (idle_words row rows' sums') j
    there' j k e h = subst (λ (z : ℕ). slice_index (idle_words row rows sums) z ≡ slice_index (idle_words row rows' sums') z)
        (sym e) h

    stays : late'.all ≡ false → (j : ℕ) → ¬ (Contains late'.items j) → Which w n j
        → slice_index (idle_words row rows sums) j ≡ slice_index (idle_words row rows' sums') j
    stays few j none (in_row h) = row_word w n row 1 (map number_in rows) sums wide all j h
        ∙ sym (row_word w n row 1 (map number_in rows') sums' wide all' j h)
    stays few j none (at_flag e) = there' j w e (flag_word w n row 1 (map number_in rows) sums wide all
        ∙ sym (flag_word w n row 1 (map number_in rows') sums' wide all'))
    stays few j none (in_vector i h e) = absurd (none (subst (Contains late'.items) (sym e) (lists.numbers few i h)))
    stays few j none (in_totals i h e) = there' j (w + 1 + n + i) e (total_word w n row 1 (map number_in rows) sums wide all i
        ∙ (sym (same (lists.few few) i h (λ has. none (subst (Contains late'.items) (sym e) (lists.totals few i has))))
        ∙ sym (total_word w n row 1 (map number_in rows') sums' wide all' i)))

-- the row that is remembered under a worker's own number is its row
pub own_known : (n c h g i : ℕ) (m : Member) (row vector : List ℕ) (rows : List Version) → m.who ≡ Worker i
    → IsRuledAlone n c h g m → m.scan.remembered ≡ rows → i < length rows → AreNumbers vector rows
    → slice_index vector i ≡ length m.work.made → length row ≡ width c h g
    → ((k : ℕ) → k < width c h g → slice_index row k ≡ word_after (sum_ops c h) m.work.made k)
    → get_elem? rows i ≡ some (record { number = length m.work.made; row = row })
own_known n c h g i m row vector rows is ruled kept lt numbers own wide sums =
    let t = some_at rows i lt in let v : Version = t.0 in
    let mine = ruled.workers 0 i m refl is in
    let version = (ruled.scans 0 m refl).remembered i v (ap (λ (l : List Version). get_elem? l i) kept ∙ t.1) in
    let number : v.number ≡ length m.work.made = numbers i v t.1 ∙ own in
    let made : take v.number (ruled.made i) ≡ m.work.made = ap (λ (k : ℕ). take k (ruled.made i)) number
    ∙ (ap (take (length m.work.made)) (sym mine.1) ∙ take-length m.work.made) in
    let same : v.row ≡ row = same_words v.row row (version.wide ∙ sym wide) (λ k low. let w = version.wide in
    let below : k < width c h g = omega (arith, low, w) in
    version.row k (slice_index v.row k) (there v.row k 0 low)
    ∙ (ap (λ (l : List PublishEntry). word_after (sum_ops c h) l k) made ∙ sym (sums k below))) in
    t.1 ∙ (λ z. some (record { number = number z; row = same z }))
  where
    some_at : (vs : List Version) (i : ℕ) → i < length vs → (v : Version) × (get_elem? vs i ≡ some v)
    some_at [] i h = absurd (omega (arith, h))
    some_at (v ∷ vs) zero h = (v, refl)
    some_at (v ∷ vs) (suc i) h = some_at vs i (omega (arith, h))

-- m has scanned, and is m' now
module _ (n c h g i : ℕ) (row : List ℕ) (memory memory' : ScanMemory n c h g) (im : BufferImages)
    (late' : ChangedView) (m m' : Member) (ended : ScanEnd) (fit : IsFit n c h g i (length m.work.made) row memory im m)
    (inside : i < n)
    (same : m' ≡ record m { scan = m'.scan }) (ruled : IsRuledAlone n c h g m') (ready : IsReady m'.scan memory')
    (quiet : ended ≡ Direct true → (rows_of memory' ≡ rows_of memory) × (totals_in memory' ≡ totals_in memory)
    × AreNumbers (answer_of memory' ended).vector (rows_of memory'))
    (numbers : (q : Bool) → ended ≡ Direct q → AreNumbers (answer_of memory' ended).vector (rows_of memory'))
    (listed : (changed_totals_in memory').all ≡ false → (k : ℕ) → k < width c h g → ¬
    (Contains (changed_totals_in memory').items k)
    → slice_index (totals_in memory') k ≡ slice_index (totals_in memory) k) where
  totals_are : (q : Bool) → ended ≡ Direct q → (answer_of memory' ended).totals ≡ totals_in memory'
  totals_are q e = ap (λ (x : ScanEnd). (answer_of memory' x).totals) e

  next_still : IsStill ended im.row_known im.late late'
      → IsNext n c h g i (length m.work.made) row memory' ended (record im { late = late' })
  next_still still = let q = quiet still.quiet in record {
    direct = (true, still.quiet);
    numbers = q.2;
    totals = totals_are true still.quiet;
    row_known = ap (λ (l : List Version). get_elem? l i) q.0 ∙ fit.row_known still.remembered;
    images = subst (λ (x : ChangedView). AreImages (depth n (width c h g)) (idle_words row (rows_of memory') (totals_in memory'))
        (record im { late = x })) (sym still.same)
        (subst (λ (l : List ℕ). AreImages (depth n (width c h g)) l im)
        (λ z. idle_words row (sym q.0 z) (sym q.1 z)) fit.images);
  }

  next_followed : IsFollowed n c h g i (length m.work.made) memory' ended im.late late'
      → IsNext n c h g i (length m.work.made) row memory' ended (record im { late = late' })
  next_followed f =
      let made : m'.work.made ≡ m.work.made = ap (λ (x : Member). x.work.made) same in
      let w : ℕ = width c h g in
      let are = numbers f.direct.0 f.direct.1 in record {
        direct = f.direct;
        numbers = are;
        totals = totals_are f.direct.0 f.direct.1;
        row_known = own_known n c h g i m' row (answer_of memory' ended).vector (rows_of memory') (ap (λ (x : Member). x.who) same
            ∙ fit.who) ruled ready.remembered (let e = rows_many n c h g memory' in omega (arith, e, inside)) are
            (f.found ∙ ap (λ (l : List PublishEntry). length l) (sym made)) fit.wide
            (λ k lt. fit.words k lt ∙ ap (λ (l : List PublishEntry). word_after (sum_ops c h) l k) (sym made))
            ∙ (λ z. some (record { number = length (made z); row = row }));
        images = images_moved n w row (rows_of memory) (rows_of memory') (totals_in memory) (totals_in memory') im
            late' (changed_totals_in memory') fit.wide (rows_many n c h g memory) (rows_many n c h g memory')
            memory'.sizes.1 listed f.lists fit.images;
      }

  pub next_is : (i' number : ℕ) → i' ≡ i → number ≡ length m.work.made → IsStill ended im.row_known im.late late'
      ⊎ IsFollowed n c h g i' number memory' ended im.late late'
      → IsNext n c h g i (length m.work.made) row memory' ended (record im { late = late' })
  next_is i' number at count either = ⊎_elim next_still
      (λ f. next_followed (subst (λ (k : ℕ). IsFollowed n c h g k (length m.work.made) memory' ended im.late late') at
      (subst (λ (k : ℕ). IsFollowed n c h g i' k memory' ended im.late late') count f)))
      either
