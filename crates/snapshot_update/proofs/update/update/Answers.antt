use Rattle.std.proofs.Common.{◌≡◌, ◌<◌, ◌+◌, ℕ, Bool, true, false, List, length, map, slice_index, Contains, sym, refl, ap, ◌∙◌}
use Rattle.std.proofs.Common.{Option, Some, None, IfSome, All}
use Rattle.std.proofs.Common.{subst, arith, rules}
use mathlib.Core.Option.{some}
use lib.ListN.{get_elem?}
use Rattle.ledger_core.specs.declared.op.Op.{Op}
use Rattle.ledger_core.specs.Ops.{width, sum_ops, IsWithin}
use Rattle.ledger_core.specs.Row.{Accepts}
use Rattle.segment_layout.specs.Layout.{depth}
use Rattle.register_rule.specs.declared.view.Member.{Member}
use Rattle.register_rule.specs.declared.view.ScanLog.{ScanLog}
use Rattle.register_rule.specs.Sums.{word_after}
use Rattle.register_rule.specs.Members.{published}
use Rattle.register_rule.specs.Seats.{worker_of, index_of}
use Rattle.snapshot_scan.specs.ScanMemories.{rows_of, totals_in}
use Rattle.snapshot_scan.specs.ChangedItems.{ChangedView}
use Rattle.snapshot_update.specs.declared.buffer_images.BufferImages.{BufferImages}
use Rattle.snapshot_update.specs.BufferImages.{with_hidden}
use Rattle.snapshot_update.specs.Fit.{AreImages, AreLate, AreJoined, number_in}
use Rattle.snapshot_update.specs.declared.op_words.OpWords.{OpWords}
use Rattle.snapshot_update.specs.declared.op_words.OpWords.TheVariants.{One, Three, Unknown}
use Rattle.snapshot_update.specs.OpWords.{IsOnly, AreOf, AreWordsOf}
use Rattle.snapshot_update.specs.Plans.{is_known, with_late}
use Rattle.snapshot_update.specs.Publishing.{IsPlanned}
use Rattle.snapshot_update.specs.Updated.{ScanCameTo, IsRuledAlone}
use Rattle.snapshot_update.proofs.VersionWords.{words_long, numbers_long}
use Rattle.snapshot_update.proofs.Fitting.{rows_many, accepts_same}
use Rattle.snapshot_update.proofs.Following.{next_is}
use Rattle.snapshot_update.proofs.Planning.{repeat_same}
use Rattle.snapshot_update.proofs.PublishedFit.{by_known}
use Rattle.snapshot_update.proofs.update.update.Goals as goal

-- what is touched says nothing of the images
touched_images : (b : ℕ) (next : List ℕ) (im : BufferImages) (touched spare : ChangedView) → AreImages b next im
    → AreImages b next (record im { touched = touched; spare = spare })
touched_images b next im touched spare are = record {
  idle_deep = are.idle_deep;
  hidden_deep = are.hidden_deep;
  shown_deep = are.shown_deep;
  recent = are.recent;
  recent_inside = are.recent_inside;
  late = are.late;
  late_inside = are.late_inside;
}

-- what was late is late still, of the words that were touched before
late_before : (n w i : ℕ) (touched touched' late late' : ChangedView) → touched' ≡ touched → late' ≡ late
    → AreLate n w i touched late → AreLate n w i touched' late'
late_before n w i touched touched' late late' t l is = subst (λ (x : ChangedView). AreLate n w i x late') (sym t)
    (subst (λ (x : ChangedView). AreLate n w i touched x) (sym l) is)

-- the words of the only operation are those of its list
words_only : (c h : ℕ) (ops : List Op) (only : Option Op) (words : OpWords) → IsOnly ops only
    → AreWordsOf c h only words → AreOf c h ops words
words_only c h ops (Some op) (One word) is of = (op, is, of)
words_only c h ops (Some op) (Three three) is of = (op, is, of)
words_only c h ops (Some op) Unknown is of = tt
words_only c h ops None (One word) is of = absurd of
words_only c h ops None (Three three) is of = absurd of
words_only c h ops None Unknown is of = tt

-- the only operation is within the geometry
within_only : (c h g : ℕ) (ops : List Op) (only : Option Op) → IsOnly ops only → All (IsWithin c h g) ops
    → IfSome only (IsWithin c h g)
within_only c h g ops None is all = tt
within_only c h g ops (Some op) is all = subst (All (IsWithin c h g)) is all 0 op (omega arith)

pub of-words-requires-clause-within : goal.of-words-requires-clause-within
of-words-requires-clause-within g c = within_only g.row.C g.row.H g.row.G c.args.ops.now c.only_op-only.result
    c.only_op-only.ensures c.in_ok-try_apply.ensures.accepted.within

pub publish_next-requires : goal.publish_next-requires
publish_next-requires g c =
    let n : ℕ = g.row.N in let w : ℕ = width g.row.C g.row.H g.row.G in let b : ℕ = depth n w in
    let fit = c.requires.fit in let s = c.scan_for_update-ended in let memory = s.new.memory in let im = c.args.images.now in
    let m : Member = worker_of c.args.seat.now in let m' : Member = worker_of s.new.seat in
    let row = c.args.row.now in let row' = c.try_apply.new.self in let adds = c.in_ok-try_apply.ensures.ok in
    let ops = c.args.ops.now in let touch = c.touch-again in let plan = c.know_next-plan in
    let same = s.ensures.scans.others in let at : index_of s.new.seat ≡ index_of c.args.seat.now = s.ensures.scans.index in
    let late = plan.new.images.late in
    let next = next_is n g.row.C g.row.H g.row.G (index_of c.args.seat.now) row c.args.memory.now memory im late m m' s.result
    fit c.requires.of_board.1 same s.ensures.scans.ruled s.ensures.ready s.ensures.quiet s.ensures.numbers s.ensures.listed.same
    (index_of s.new.seat) (length m'.work.made) at (ap (λ (x : Member). length x.work.made) same) in (
      search rules,
      (
        search rules,
        (
          search rules,
          (
            record {
              of_board = s.ensures.scans.of_board;
              geometry = c.requires.geometry;
              room = subst (λ (x : Member). length x.work.made + 1 < 18446744073709551616) (sym same) c.requires.room;
              wide = adds.width_stays ∙ fit.wide;
              sums = λ k lt. adds.sums k ∙ (ap (λ (z : ℕ). z + sum_ops g.row.C g.row.H ops k) (fit.words k lt)
                  ∙ ap (λ (x : Member). word_after (sum_ops g.row.C g.row.H) x.work.made k + sum_ops g.row.C g.row.H ops k)
                  (sym same));
              accepted = subst (λ (x : Member). Accepts g.row.C g.row.H g.row.G
                  (word_after (sum_ops g.row.C g.row.H) x.work.made) ops) (sym same)
                  (accepts_same g.row.C g.row.H g.row.G (slice_index row) (word_after (sum_ops g.row.C g.row.H) m.work.made) ops
                  fit.words c.in_ok-try_apply.ensures.accepted);
              ready = s.ensures.ready;
              view = λ has. (m.scan.recorded, (s.ensures.view has).recorded);
            },
            (
              subst (λ (x : BufferImages). IsPlanned n g.row.C g.row.H g.row.G (index_of s.new.seat) ops row' memory s.result x m'
                  plan.result) (sym plan.ensures.others) (record {
                    before = row;
                    wide = fit.wide;
                    sums = adds.sums;
                    hidden_is = ap (λ (x : Member). x.work.hidden) same ∙ fit.hidden_is;
                    shown_is = ap (λ (x : Member). x.work.shown) same ∙ fit.shown_is;
                    images = by_known (is_known plan.result)
                        (λ yes. touched_images b _ (with_late late im) touch.new.touched touch.new.spare
                        (next (plan.ensures.known yes)).images)
                        (λ no. touched_images b _ (with_late late im) touch.new.touched touch.new.spare (record {
                          idle_deep = words_long w n row 1 (map number_in (rows_of memory)) (totals_in memory) fit.wide
                              (numbers_long (rows_of memory) ∙ rows_many n g.row.C g.row.H g.row.G memory) w memory.sizes.1
                              ∙ omega arith;
                          hidden_deep = fit.images.hidden_deep;
                          shown_deep = fit.images.shown_deep;
                          recent = fit.images.recent;
                          recent_inside = fit.images.recent_inside;
                          late = λ few. absurd (let h = sym (plan.ensures.unknown no).0 ∙ few in cc);
                          late_inside = λ j has. fit.images.late_inside j
                              (subst (λ (l : List ℕ). Contains l j) (plan.ensures.unknown no).1 has);
                        }));
                    touched = touch.ensures.inside;
                    rises = touch.ensures.rises;
                    known = λ yes. let is = next (plan.ensures.known yes) in (
                      plan.ensures.touched yes,
                      record {
                        direct = is.direct;
                        numbers = is.numbers;
                        totals = is.totals;
                        row_known = ap (get_elem? (rows_of memory)) at ∙ (is.row_known
                            ∙ ap (λ (x : Member). some (record { number = length x.work.made; row = row })) (sym same));
                        images = touched_images b _ (with_late late im) touch.new.touched touch.new.spare is.images;
                      },
                    );
                    late = λ is few. let kept = plan.ensures.same is in let again = touch.ensures.again kept.0 in
                        let few' : im.late.all ≡ false = ap (λ (x : ChangedView). x.all) (sym kept.2) ∙ few in
                        late_before n w (index_of s.new.seat) im.touched touch.new.touched im.late late again kept.2
                        (subst (λ (i : ℕ). AreLate n w i im.touched im.late) (sym at) (fit.late few'));
                    repeats = λ yes. let is = repeat_same plan.result yes in let kept = plan.ensures.same is in
                        let again = touch.ensures.again kept.0 in
                        let joined : im.joined ≡ true = sym (plan.ensures.repeats is) ∙ yes in (
                          kept.1,
                          subst (λ (x : ChangedView). AreJoined im.recent x touch.new.touched) (sym kept.2)
                              (subst (λ (x : ChangedView). AreJoined im.recent im.late x) (sym again) (fit.joined joined)),
                        );
                    one = λ yes. touch.ensures.one (plan.ensures.same (repeat_same plan.result yes)).0;
                  }),
              words_only g.row.C g.row.H ops c.only_op-only.result c.of-words.result c.only_op-only.ensures c.of-words.ensures,
            ),
          ),
        ),
      ),
    )

met : (n w : ℕ) (a b : ScanLog) (lends : Bool) → (lends ≡ true → ScanCameTo n w a b true) → (lends ≡ false
    → ScanCameTo n w a b false)
    → ScanCameTo n w a b lends
met n w a b true lent none = lent refl
met n w a b false lent none = none refl

pub returns-clause-updated : goal.returns-clause-updated
returns-clause-updated g c =
    let n : ℕ = g.row.N in let w : ℕ = width g.row.C g.row.H g.row.G in let ops = c.args.ops.now in
    let s = c.scan_for_update-ended in let m : Member = worker_of c.args.seat.now in
    let scan : ScanLog = (worker_of s.new.seat).scan in
    let lends : Bool = c.publish_next.ensures.published.0 in let done = c.publish_next.ensures.published.1 in
    let shown = c.publish_next.new.images.shown.items in record {
      scan = scan;
      lends = lends;
      hidden = shown;
      ruled = subst (λ (x : Member). IsRuledAlone n g.row.C g.row.H g.row.G x) s.ensures.scans.others s.ensures.scans.ruled;
      came_to = met n w m.scan scan lends (λ yes. s.ensures.came_to (done.view yes)) (λ no. s.ensures.gave_up (done.none no));
      is = done.member ∙ (λ z. published w (s.ensures.scans.index z) ops lends (with_hidden shown (s.ensures.scans.others z)));
    }

pub returns-clause-accepted : goal.returns-clause-accepted
returns-clause-accepted g c = accepts_same g.row.C g.row.H g.row.G (slice_index c.args.row.now)
    (word_after (sum_ops g.row.C g.row.H) (worker_of c.args.seat.now).work.made) c.args.ops.now c.requires.fit.words
    c.in_ok-try_apply.ensures.accepted
