use Rattle.std.proofs.Common.{refl}
use Rattle.std.proofs.Common.{◌≡◌, ◌≢◌, ◌+◌, ℕ, false, List, Contains, sym, ◌∙◌, subst, arith, rules}
use mathlib.Core.Option.{some}
use lib.ListN.{get_elem?}
use Rattle.ledger_core.specs.Ops.{width}
use Rattle.register_rule.specs.Seats.{index_of}
use Rattle.snapshot_scan.specs.ChangedItems.{ChangedView}
use Rattle.snapshot_scan.specs.ScanMemories.{rows_of, totals_in}
use Rattle.snapshot_update.specs.BufferImages.{DifferAt}
use Rattle.snapshot_update.specs.Fit.{AreInside, AreLate, AreJoined, IsNoneOf, idle_words}
use Rattle.snapshot_update.proofs.PublishedFit.{may_store, rest_kept, idle_kept}
use Rattle.snapshot_update.proofs.publishing.publish_anew.Goals as goal

-- the item is none of these, of the words that were touched before, either
none_before : (n w i i' : ℕ) (touched touched' : ChangedView) (j : ℕ) → i ≡ i' → touched' ≡ touched
    → IsNoneOf n w i touched'.items j → IsNoneOf n w i' touched.items j
none_before n w i i' touched touched' j e t is = (
  subst (λ (k : ℕ). j ≢ w + 1 + k) e is.0,
  λ k has. is.1 k (subst (λ (x : ChangedView). Contains x.items k) (sym t) has),
)

-- the same items are late as were
joined_on : (n w index : ℕ) (recent late late' touched : ChangedView) → AreJoined recent late touched
    → AreLate n w index touched late → late'.all ≡ false
    → (late'.all ≡ false → Contains late'.items (w + 1 + index))
    → (late'.all ≡ false → (k : ℕ) → Contains touched.items k → Contains late'.items (w + 1 + n + k))
    → (late'.all ≡ false → (j : ℕ) → IsNoneOf n w index touched.items j → ¬ (Contains late'.items j))
    → AreJoined recent late' touched
joined_on n w index recent late late' touched is are few number totals only = record {
  listed = (is.listed.0, few, is.listed.2);
  late_too = λ j not. only few j (
    λ e. are.number j (is.late_too j not) e,
    λ k has e. are.totals k (λ there. is.late_too j not (subst (λ (i : ℕ). Contains late.items i) (sym e) there)) has,
  );
  touched_too = is.touched_too;
  only = λ j not_late not_touched. is.only j (are.only j (
    λ e. not_late (subst (λ (i : ℕ). Contains late'.items i) (sym e) (number few)),
    λ k has e. not_late (subst (λ (i : ℕ). Contains late'.items i) (sym e) (totals few k has)),
  )) not_touched;
}

-- what was late is late still, of the words that were touched before
late_before : (n w i : ℕ) (touched touched' late late' : ChangedView) → touched' ≡ touched → late' ≡ late
    → AreLate n w i touched late → AreLate n w i touched' late'
late_before n w i touched touched' late late' t l is = subst (λ (x : ChangedView). AreLate n w i x late') (sym t)
    (subst (λ (x : ChangedView). AreLate n w i touched x) (sym l) is)

pub fill_version-lends-requires : goal.fill_version-lends-requires
fill_version-lends-requires g c =
    let p = c.requires.planned in let may = c.requires.may in (
      search rules,
      (
        search rules,
        (
          search rules,
          record {
            stores = record { of_board = may.of_board; exact = p.hidden_is };
            geometry = may.geometry;
            touched = p.touched;
            images = (
              idle_words p.before (rows_of c.args.memory.now) (totals_in c.args.memory.now),
              p.images,
              λ yes. (
                (p.known yes).0,
                (p.known yes).1.direct,
                idle_kept c.args.board.now c.args.seat.now c.args.row.now c.args.memory.now c.args.ended c.args.ops.now may
                    c.args.images.now c.args.plan p yes,
              ),
            );
          },
        ),
      ),
    )

pub publish-requires : goal.publish-requires
publish-requires g c =
    let v = c.fill_version-lends in
    let f = may_store c.args.board.now c.args.seat.now c.args.row.now c.args.memory.now c.args.ended c.args.ops.now c.requires.may
    v.new.seat v.new.images.hidden.items v.result v.ensures.fills v.ensures.hidden v.ensures.view in
    (search rules, (v.ensures.fills.stores.of_board, (f.0, (f.1, f.2))))

pub turn-requires-clause-touched : goal.turn-requires-clause-touched
turn-requires-clause-touched g c = subst (AreInside (width g.row.C g.row.H g.row.G)) (sym c.fill_version-lends.ensures.others.1)
    c.requires.planned.touched

pub learn-requires : goal.learn-requires
learn-requires g c =
    let p = c.requires.planned in let may = c.requires.may in
    let same : c.worker-index.result ≡ index_of c.args.seat.now = c.worker-index.ensures.index
    ∙ (c.publish.ensures.index ∙ c.fill_version-lends.ensures.fills.index) in
    let touched : c.turn.new.images.touched ≡ c.args.images.now.touched = c.turn.ensures.others.1
    ∙ c.fill_version-lends.ensures.others.1 in (
      search rules,
      (
        search rules,
        record {
          geometry = may.geometry;
          inside = let lt = may.of_board.1 in omega (arith, same, lt);
          touched = subst (AreInside (width g.row.C g.row.H g.row.G)) (sym touched) p.touched;
          known = λ yes v at k lt none. rest_kept c.args.board.now c.args.seat.now c.args.row.now c.args.memory.now c.args.ended
              c.args.ops.now may c.args.images.now c.args.plan p yes v
              (subst (λ (x : ℕ). get_elem? (rows_of c.args.memory.now) x ≡ some v) same at)
              k (λ has. none (subst (λ (t : ChangedView). Contains t.items k) (sym touched) has));
        },
      ),
    )

pub returns-clause-turned : goal.returns-clause-turned
returns-clause-turned g c =
    let n : ℕ = g.row.N in let w : ℕ = width g.row.C g.row.H g.row.G in let i : ℕ = index_of c.args.seat.now in
    let p = c.requires.planned in let f = c.fill_version-lends in let t = c.turn in
    let at : c.worker-index.result ≡ i = c.worker-index.ensures.index ∙ (c.publish.ensures.index ∙ f.ensures.fills.index) in
    record {
      touched = t.ensures.others.1 ∙ f.ensures.others.1;
      recent = subst (λ (x : ChangedView). DifferAt x t.new.images.hidden.items t.new.images.shown.items) (sym t.ensures.others.0)
          (subst (λ (x : List ℕ). DifferAt f.new.images.recent x t.new.images.shown.items)
          (sym (t.ensures.buffers.0 ∙ f.ensures.others.0))
          (subst (DifferAt f.new.images.recent c.args.images.now.shown.items) (sym t.ensures.buffers.1) f.ensures.recent));
      recent_inside = subst (AreInside _) (sym t.ensures.others.0) f.ensures.inside;
      unknown = t.ensures.unknown;
      late = λ listed. record {
        number = λ j none e. none (subst (λ (k : ℕ). Contains t.new.images.late.items k) (omega (arith, e, at))
            (t.ensures.number listed));
        totals = λ k none has. none (t.ensures.totals listed k (subst (λ (x : ChangedView). Contains x.items k)
            t.ensures.others.1 has));
        only = λ j none. t.ensures.only listed j (none_before n w _ _ _ _ j (sym at) t.ensures.others.1 none);
      };
      late_inside = t.ensures.inside;
      joined = λ yes.
          let now = t.ensures.joined yes in let cov = f.ensures.joined now.0 in
          let late = c.args.images.now.late in
          let are : AreLate n w c.worker-index.result f.new.images.touched late =
          late_before n w c.worker-index.result c.args.images.now.touched f.new.images.touched late late f.ensures.others.1 refl
          (subst (λ (k : ℕ). AreLate n w k c.args.images.now.touched late) (sym at) (p.late now.1 cov.listed.1)) in
          subst (λ (x : ChangedView). AreJoined t.new.images.recent t.new.images.late x) (sym t.ensures.others.1)
          (subst (λ (x : ChangedView). AreJoined x t.new.images.late f.new.images.touched) (sym t.ensures.others.0)
          (joined_on n w c.worker-index.result f.new.images.recent late t.new.images.late f.new.images.touched cov are
          now.2 t.ensures.number t.ensures.totals t.ensures.only));
    }
