use Rattle.std.proofs.Common.{◌≡◌, ℕ, Bool, true, false, cond, List, ◌++◌, length, take, drop, slice_index, sym, refl, ap}
use Rattle.std.proofs.Common.{◌∙◌, subst, arith, rules}
use mir.Val.{bool_byte}
use Rattle.std.proofs.lemmas.Bool.{and_parts, not-true}
use Rattle.ledger_core.specs.Ops.{width}
use Rattle.segment_layout.specs.Layout.{depth}
use Rattle.snapshot_scan.specs.declared.scan_end.ScanEnd.{ScanEnd}
use Rattle.snapshot_scan.specs.declared.scan_end.ScanEnd.TheVariants.{Direct, GaveUp}
use Rattle.snapshot_scan.specs.ScanMemories.{answer_of}
use Rattle.snapshot_update.specs.BufferImages.{DifferAt, version_words}
use Rattle.snapshot_update.specs.BufferImages.{target_of}
use Rattle.snapshot_update.specs.Conditions.{HasFilled}
use Rattle.snapshot_scan.proofs.Words.{over}
use Rattle.snapshot_update.proofs.publishing.fill_version.Goals as goal

-- a scan that ended direct has a view
direct_views : (b : Bool) (e : ScanEnd) (quiet : Bool) → (b ≡ false → e ≡ GaveUp) → e ≡ Direct quiet → b ≡ true
direct_views true e quiet none direct = refl
direct_views false e quiet none direct = absurd (let h = sym (none refl) ∙ direct in cc)

-- a truth as a number
flag_is : (lends : Bool) → bool_byte lends ≡ cond lends 1 0
flag_is true = refl
flag_is false = refl

-- what was written over the first words of a buffer, all of them, is what it holds
written : (new slice items : List ℕ) (n : ℕ) → slice ≡ items → length slice ≡ n → length new ≡ length slice
    → take n (new ++ drop (length new) items) ≡ new
written new slice items n value len same = over new items n (same ∙ ap (λ (l : List ℕ). length l) value) (omega (
  arith,
  len,
  same,
))

pub fill_next-requires : goal.fill_next-requires
fill_next-requires g c =
    let n : ℕ = g.row.N in let w : ℕ = width g.row.C g.row.H g.row.G in let b : ℕ = depth n w in
    let im = c.args.images.now in let t = c.requires.images.1 in let q = c.requires.images.2 in
    let geo = c.requires.geometry in let slots = geo.slots in let few = geo.workers.1 in
    let deep : length im.hidden.items ≡ b = t.hidden_deep in
    let hidden = c.as_mut_slice.ensures.value in let shown = c.as_slice.ensures.value in
    let lens = c.answer.ensures.lengths in let long = c.new-version.ensures.lengths in
    let v = c.new-version.result in (
      search rules,
      (
        search rules,
        (
            record {
              stores = record {
                of_board = c.requires.stores.of_board;
                exact = c.requires.stores.exact ∙ sym hidden;
              };
              lengths = (
                ap (λ (l : List ℕ). length l) hidden ∙ deep,
                ap (λ (l : List ℕ). length l) shown ∙ t.shown_deep,
                (let e : length (target_of v) ≡ b = omega (arith, long, lens.0, lens.1) in e),
              );
              few = let c1 = slots.counters in let c2 = slots.histograms in let c3 = slots.gauges in omega (
                arith,
                few,
                c1,
                c2,
                c3,
              );
              inside = (t.recent_inside, t.late_inside, λ j has. let lt = c.requires.touched j has in omega (arith, lt));
              listed = λ known. let a = and_parts _ _ known in let a' = and_parts _ _ a.0 in (
                sym c.is_all.ensures ∙ not-true _ a'.1,
                sym c.is_all-2.ensures ∙ not-true _ a.1,
                (q (sym c.is_known.ensures ∙
                    a'.0)).0,
              );
              differ = λ listed j lt not_there. ap (λ (l : List ℕ). slice_index l j) hidden
                  ∙ (t.recent listed j (let e = ap (λ (l : List ℕ). length l) shown in omega (arith, lt, e)) not_there
                  ∙ ap (λ (l : List ℕ). slice_index l j) (sym shown));
              known = λ known j lt not_late not_touched.
                  let a = and_parts _ _ known in let a' = and_parts _ _ a.0 in let is = q (sym c.is_known.ensures ∙ a'.0) in
                  let lends : c.has_view-lends.result ≡ true = direct_views c.has_view-lends.result c.args.ended is.1.0
                  c.has_view-lends.ensures.none is.1.1 in
                  let flag : c.from.result ≡ 1 = c.from.ensures ∙ ap bool_byte lends in
                  let next = c.requires.images.0 in
                  let same : slice_index im.shown.items j ≡ slice_index next j = t.late (sym c.is_all-2.ensures ∙ not-true _ a.1)
                  j
                  (let e = t.idle_deep in omega (arith, lt, e)) not_late in
                  let words : target_of v ≡ version_words c.args.row.now 1 (answer_of c.args.memory.now c.args.ended).vector
                  (answer_of c.args.memory.now c.args.ended).totals = c.new-version.ensures.words
                  ∙ (λ z. version_words c.args.row.now (flag z) (c.answer.ensures.vector z) (c.answer.ensures.totals z)) in
                  ap (λ (l : List ℕ). slice_index l j) shown
                  ∙ (same ∙ (is.2 j lt not_touched ∙ ap (λ (l : List ℕ). slice_index l j) (sym words)));
            }
            ),
      ),
    )

pub returns-clause-joined : goal.returns-clause-joined
returns-clause-joined g c = λ yes.
    let both = and_parts _ _ yes in
    c.fill_next.ensures.joined both.0 (sym c.is_all-3.ensures ∙ not-true _ both.1)

pub returns-clause-fills : goal.returns-clause-fills
returns-clause-fills g c =
    let old = c.args.images.now.hidden in let new = c.fill_next.new.hidden in let n = c.as_mut_slice.ensures.len in
    subst (λ (l : List ℕ). HasFilled c.args.board.now l c.args.seat.now c.fill_next.new.seat)
    (sym (written new c.as_mut_slice.result.now old.items old.len c.as_mut_slice.ensures.value n c.fill_next.auto.hidden))
    c.fill_next.ensures.fills

pub returns-clause-hidden : goal.returns-clause-hidden
returns-clause-hidden g c =
    let old = c.args.images.now.hidden in let new = c.fill_next.new.hidden in let n = c.as_mut_slice.ensures.len in
    written new c.as_mut_slice.result.now old.items old.len c.as_mut_slice.ensures.value n c.fill_next.auto.hidden
    ∙ (c.fill_next.ensures.hidden ∙ (c.new-version.ensures.words
    ∙ (λ z. version_words c.args.row.now ((c.from.ensures ∙ flag_is c.has_view-lends.result) z) (c.answer.ensures.vector z)
    (c.answer.ensures.totals z))))

pub returns-clause-recent : goal.returns-clause-recent
returns-clause-recent g c =
    let old = c.args.images.now.hidden in let new = c.fill_next.new.hidden in let n = c.as_mut_slice.ensures.len in
    subst (DifferAt c.fill_next.new.recent c.args.images.now.shown.items)
    (sym (written new c.as_mut_slice.result.now old.items old.len c.as_mut_slice.ensures.value n c.fill_next.auto.hidden
    ∙ c.fill_next.ensures.hidden))
    (subst (λ (l : List ℕ). DifferAt c.fill_next.new.recent l (target_of c.new-version.result)) c.as_slice.ensures.value
    c.fill_next.ensures.recent)
