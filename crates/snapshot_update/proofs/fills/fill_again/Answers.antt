use Rattle.std.proofs.Common.{◌≡◌, ◌<◌, ◌+◌, ◌-◌, ℕ, List, length, get_or, sym, ap, ◌∙◌, subst, arith, ⊎_elim, refl}
use Rattle.std.proofs.Common.{get_or-set_same}
use mathlib.Core.Logic.{dite}
use native.Mathlib.Decide.{ℕ_discrete, dec_lt}
use Rattle.std.specs.List.{Contains}
use Rattle.ledger_core.specs.Ops.{width}
use Rattle.segment_layout.specs.Layout.{depth}
use Rattle.snapshot_update.specs.BufferImages.{target_of}
use Rattle.snapshot_update.proofs.VersionWords.{words_long}
use Rattle.snapshot_update.proofs.Filling.{kept_set, all_filled, listed_or}
use Rattle.snapshot_update.proofs.fills.fill_again.Goals as goal

pub returns-clause-hidden : goal.returns-clause-hidden
returns-clause-hidden g c =
    let n : ℕ = g.row.N in let w : ℕ = width g.row.C g.row.H g.row.G in let b : ℕ = depth n w in
    let v = c.args.version.now in let target = target_of v in let touched = c.args.words.now in
    let i : ℕ = c.worker-worker.result in
    let own = c.worker-worker.ensures.index in let place = c.item_at-number_item.ensures.place in
    let lens = c.requires.lengths in
    let d = c.fill_item.auto.hidden in let d' = c.fill_touched.auto.hidden in
    let long : length target ≡ b = (let e = words_long w (length v.vector.now) v.row.now v.flag v.vector.now v.totals.now v.wide
    refl w
    lens.2 in let e' = lens.1 in omega (arith, e, e')) in
    let number : ℕ = c.item_at-number_item.result in
    let word : c.number_of-number.result ≡ get_or target number 0 = c.number_of-number.ensures
    ∙ ap (λ (k : ℕ). get_or target k 0) (let e : w + 1 + i ≡ number = omega (arith, place) in e) in
    let room : number < length c.args.hidden.now = (let lt = c.requires.stores.of_board.1 in let e = lens.0 in omega (
      arith,
      place,
      lt,
      e,
      own,
    )) in
    let new = c.fill_touched.ensures in
    let mid : (j : ℕ) → get_or c.args.hidden.now j 0 ≡ get_or target j 0 → get_or c.fill_item.new.hidden j 0 ≡ get_or target j 0 =
    λ j same. ap (λ (l : List ℕ). get_or l j 0) c.fill_item.ensures.hidden
    ∙ kept_set c.args.hidden.now target number c.number_of-number.result j room word same in
    let here : get_or c.fill_item.new.hidden number 0 ≡ get_or target number 0 =
    ap (λ (l : List ℕ). get_or l number 0) c.fill_item.ensures.hidden
    ∙ (get_or-set_same c.args.hidden.now number c.number_of-number.result 0 room ∙ word) in
    all_filled c.fill_touched.new.hidden target b (d' ∙ (d ∙ lens.0)) long (λ j lt.
    ⊎_elim (new.rows j) (λ not_touched.
    dite (ℕ_discrete j number)
    (λ e. new.kept j (subst (λ (k : ℕ). get_or c.fill_item.new.hidden k 0 ≡ get_or target k 0) (sym e) here))
    (λ other. dite (dec_lt j (w + 1 + n))
    (λ low. new.kept j (mid j (c.requires.known j lt not_touched (
      λ e. other (omega (arith, e, own, place)),
      λ k has e. omega (arith, e, low),
    ))))
    (λ high.
    let k : ℕ = j - (w + 1 + n) in let at : j ≡ w + 1 + n + k = omega (arith, high) in
    ⊎_elim
    (λ has. subst (λ (z : ℕ). get_or c.fill_touched.new.hidden z 0 ≡ get_or target z 0) (sym at) (new.totals k has))
    (λ none. new.kept j (mid j (c.requires.known j lt not_touched (
      λ e. other (omega (arith, e, own, place)),
      λ k' has e. none (subst (λ (z : ℕ). Contains touched z) (let same : k' ≡ k = omega (arith, e, at) in same) has),
    ))))
    (listed_or touched k)))) (listed_or touched j))
