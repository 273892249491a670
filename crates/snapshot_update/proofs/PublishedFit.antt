-- A publish by a plan: that the version may be published, and that the worker's data fit its member then.
use Rattle.std.proofs.Common.{◌≡◌, ◌<◌, ◌+◌, ℕ, zero, suc, Bool, true, false, cond, List, [], ◌∷◌, ◌++◌, length, map, take, set}
use Rattle.std.proofs.Common.{slice_index, Contains, sym, refl, ap, ◌∙◌, subst, arith}
use mathlib.Core.Option.{some, some-injective}
use lib.ListN.{get_elem?}
use Rattle.std.proofs.lemmas.List.{length_push}
use Rattle.ledger_core.specs.declared.op.Op.{Op}
use Rattle.ledger_core.specs.Ops.{width, sum_ops}
use Rattle.ledger_core.specs.Row.{Accepts}
use Rattle.segment_layout.specs.Layout.{depth}
use Rattle.register_rule.specs.declared.board.Board.{Board}
use Rattle.register_rule.specs.declared.seats.WorkSeat.{WorkSeat}
use Rattle.register_rule.specs.declared.view.Member.{Member}
use Rattle.register_rule.specs.declared.view.PublishEntry.{PublishEntry}
use Rattle.register_rule.specs.declared.view.Version.{Version}
use Rattle.register_rule.specs.Members.{made_of}
use Rattle.register_rule.specs.Seats.{worker_of, index_of}
use Rattle.register_rule.specs.Sums.{word_after}
use Rattle.register_rule.specs.Told.{HoldsNext}
use Rattle.register_rule.proofs.Publish.{total_last}
use Rattle.snapshot_scan.specs.declared.scan_end.ScanEnd.{ScanEnd}
use Rattle.snapshot_scan.specs.declared.scan_end.ScanEnd.TheVariants.{Direct, GaveUp}
use Rattle.snapshot_scan.specs.declared.scan_memory.ScanMemory.{ScanMemory}
use Rattle.snapshot_scan.specs.ChangedItems.{ChangedView}
use Rattle.snapshot_scan.specs.ScanMemories.{rows_of, totals_in, answer_of, HasView}
use Rattle.snapshot_update.specs.declared.buffer_images.BufferImages.{BufferImages}
use Rattle.snapshot_update.specs.declared.plan.Plan.{Plan}
use Rattle.snapshot_update.specs.BufferImages.{DifferAt, version_words, with_hidden}
use Rattle.snapshot_update.specs.Conditions.{HasFilled}
use Rattle.snapshot_update.specs.Fit.{IsNoneOf, AreLate, number_in, idle_words, IsFit}
use Rattle.snapshot_update.specs.OpWords.{AreOnly}
use Rattle.snapshot_update.specs.Plans.{is_known, is_repeat}
use Rattle.snapshot_update.specs.Publishing.{MayPublish, IsPlanned, MayRepeat, HasPublished, AreTurned}
use Rattle.snapshot_update.proofs.Filling.{listed_if}
use Rattle.snapshot_update.proofs.Fitting.{answer_long, rows_many, holds}
use Rattle.snapshot_update.proofs.Planning.{repeat_same, same_known}
use Rattle.snapshot_update.proofs.VersionWords.{known_words, late_words, words_long, row_taken, numbers_long}

-- what holds whether a plan is known or not
pub by_known : {P : Type 0} (b : Bool) → (b ≡ true → P) → (b ≡ false → P) → P
by_known true p q = p refl
by_known false p q = q refl

-- a scan that ended direct lends
pub lends_direct : (b : Bool) (e : ScanEnd) (quiet : Bool) → (b ≡ false → e ≡ GaveUp) → e ≡ Direct quiet → b ≡ true
lends_direct true e quiet none direct = refl
lends_direct false e quiet none direct = absurd (let h = sym (none refl) ∙ direct in cc)

-- it has a view
direct_views : (e : ScanEnd) (quiet : Bool) → e ≡ Direct quiet → HasView e
direct_views e quiet direct = subst HasView (sym direct) tt

set_there : (l : List Version) (i : ℕ) (v : Version) → i < length l → get_elem? (set l i v) i ≡ some v
set_there [] i v h = absurd (omega (arith, h))
set_there (x ∷ l) zero v h = refl
set_there (x ∷ l) (suc i) v h = set_there l i v (omega (arith, h))

module _ {N C H G : ℕ} (b : Board N C H G) (s : WorkSeat) (row : List ℕ) (memory : ScanMemory N C H G) (ended : ScanEnd)
    (ops : List Op) (may : MayPublish b s row memory ended ops) where
  abbrev w : ℕ
  w = width C H G

  abbrev m : Member
  m = worker_of s

  abbrev vector : List ℕ
  vector = (answer_of memory ended).vector

  abbrev totals : List ℕ
  totals = (answer_of memory ended).totals

  -- where the hidden buffer holds the version, it may be published
  pub may_store : (s' : WorkSeat) (hidden : List ℕ) (lends : Bool) → HasFilled b hidden s s'
      → hidden ≡ version_words row (cond lends 1 0) vector totals → (lends ≡ true → HasView ended)
      → (length (worker_of s').work.made + 1 < 18446744073709551616)
      × HoldsNext N w (depth N w) (sum_ops C H) ops lends (worker_of s')
      × Accepts C H G (word_after (sum_ops C H) (worker_of s').work.made) ops
  may_store s' hidden lends filled is view =
      let long = answer_long N C H G memory ended in
      let full : HoldsNext N w (depth N w) (sum_ops C H) ops lends (with_hidden hidden m) =
      holds N w (depth N w) (sum_ops C H) ops (with_hidden hidden m) row vector totals may.wide long.0 long.1 may.sums lends is
      (λ yes. may.view (view yes)) in (
        subst (λ (x : Member). length x.work.made + 1 < 18446744073709551616) (sym filled.member) may.room,
        subst (HoldsNext N w (depth N w) (sum_ops C H) ops lends) (sym filled.member) full,
        subst (λ (x : Member). Accepts C H G (word_after (sum_ops C H) x.work.made) ops) (sym filled.member) may.accepted,
      )

  module _ (im : BufferImages) (plan : Plan) (planned : IsPlanned N C H G (index_of s) ops row memory ended im (worker_of s) plan)
    where
      -- the row that is remembered of the worker differs from its row at the touched words alone
      pub rest_kept : is_known plan ≡ true → (v : Version) → get_elem? (rows_of memory) (index_of s) ≡ some v → (k : ℕ)
          → ¬ (Contains im.touched.items k) → slice_index v.row k ≡ slice_index row k
      rest_kept known v at k none =
          let next = planned.known known in
          let here = sym at ∙ next.1.row_known in
          let e = ap (λ (x : Version). slice_index x.row k) (some-injective v _ here) in
          let z = planned.rises next.0 k none in let d = planned.sums k in omega (arith, e, z, d)

      -- what an update of nothing would publish is this version but for the touched words
      pub idle_kept : is_known plan ≡ true → (j : ℕ) → j < depth N w → ¬ (Contains im.touched.items j)
          → slice_index (idle_words planned.before (rows_of memory) (totals_in memory)) j
          ≡ slice_index (version_words row 1 vector totals) j
      idle_kept is_so j lt none =
          let known = planned.known is_so in let long = answer_long N C H G memory ended in
          known_words w N planned.before row (rows_of memory) (totals_in memory) vector totals planned.wide may.wide
          (rows_many N C H G memory) long.0 known.1.numbers known.1.totals im.touched.items
          (λ k lt' none'. let z = planned.rises known.0 k none' in let d = planned.sums k in omega (arith, z, d)) j
          (omega (arith, lt)) none

      -- where the update repeats the one before it, the hidden buffer is this version but for the number, the touched words and
      -- their totals
      pub hidden_kept : is_repeat plan ≡ true → (j : ℕ) → j < depth N w → ¬ (Contains im.touched.items j)
          → IsNoneOf N w (index_of s) im.touched.items j
          → slice_index im.hidden.items j ≡ slice_index (version_words row 1 vector totals) j
      hidden_kept repeats j lt not_touched none =
          let same = repeat_same plan repeats in let joined = (planned.repeats repeats).1 in let t = planned.images in
          let not_late = (planned.late same joined.listed.1).only j none in
          let not_recent = joined.only j not_late not_touched in let e = t.shown_deep in let e' = t.idle_deep in
          t.recent joined.listed.0 j (omega (arith, lt, e)) not_recent
          ∙ (t.late joined.listed.1 j (omega (arith, lt, e')) not_late
          ∙ idle_kept (same_known plan same) j lt not_touched)

      pub may_repeat : is_repeat plan ≡ true → (touched : List ℕ) → touched ≡ im.touched.items
          → MayRepeat b s row memory im.hidden.items touched ended ops
      may_repeat repeats touched same =
          let known = same_known plan (repeat_same plan repeats) in let next = planned.known known in
          subst (λ (l : List ℕ). MayRepeat b s row memory im.hidden.items l ended ops) (sym same) (record {
            may = may;
            stores = record { of_board = may.of_board; exact = planned.hidden_is };
            lends = direct_views ended next.1.direct.0 next.1.direct.1;
            deep = planned.images.hidden_deep;
            inside = planned.touched;
            kept = hidden_kept repeats;
            remembered = λ v at k _ none. rest_kept known v at k none;
          })

      -- so it may be published again, by the words of a list of one operation
      pub may_repeat_only : is_repeat plan ≡ true → (touched : List ℕ) → AreOnly C H ops touched
          → MayRepeat b s row memory im.hidden.items touched ended ops
      may_repeat_only repeats touched only = may_repeat repeats touched (sym only.2 ∙ sym (planned.one repeats only.0 only.1))

      module _ (s' : WorkSeat) (memory' : ScanMemory N C H G) (im' : BufferImages) (lends : Bool)
          (done : HasPublished b s s' row memory memory' im.shown.items im'.hidden.items im'.shown.items ended ops lends) where
        long : (length vector ≡ N) × (length totals ≡ w)
        long = answer_long N C H G memory ended

        shown_long : length im'.shown.items ≡ depth N w
        shown_long = ap (λ (l : List ℕ). length l) done.shown_is
            ∙ (words_long w N row (cond lends 1 0) vector totals may.wide long.0 w long.1 ∙ omega arith)

        -- the lists tell what they told where the update repeats the one before it
        pub turned_again : is_repeat plan ≡ true → lends ≡ true → im' ≡ record im { hidden = im'.hidden; shown = im'.shown }
            → AreTurned N w (index_of s) plan im im'
        turned_again repeats lent others =
            let same = repeat_same plan repeats in let joined = (planned.repeats repeats).1 in let t = planned.images in
            let known = same_known plan same in
            let target : im'.shown.items ≡ version_words row 1 vector totals = done.shown_is
            ∙ ap (λ (x : Bool). version_words row (cond x 1 0) vector totals) lent in
            subst (λ (x : BufferImages). AreTurned N w (index_of s) plan im x) (sym others) (record {
              touched = refl;
              recent = λ _ j lt not. let e = t.idle_deep in let d = shown_long in let lt' : j < depth N w = omega (arith, lt, d) in
                  ap (λ (l : List ℕ). slice_index l j) done.hidden_is
                  ∙ (t.late joined.listed.1 j (omega (arith, lt', e)) (joined.late_too j not)
                  ∙ (idle_kept known j lt' (joined.touched_too j not) ∙ ap (λ (l : List ℕ). slice_index l j) (sym target)));
              recent_inside = t.recent_inside;
              unknown = λ no. absurd (let h = sym known ∙ no in cc);
              late = λ few. planned.late same few;
              late_inside = t.late_inside;
              joined = λ _. joined;
            })

        module _ (turned : AreTurned N w (index_of s) plan im im') where
          abbrev i : ℕ
          i = index_of s

          abbrev v : Version
          v = record { number = length (worker_of s').work.made; row = row }

          abbrev last : PublishEntry
          last = made_of ops lends (with_hidden im'.shown.items m)

          made : (worker_of s').work.made ≡ m.work.made ++ last ∷ []
          made = ap (λ (x : Member). x.work.made) done.member

          number : length (worker_of s').work.made ≡ suc (length m.work.made)
          number = ap (λ (l : List PublishEntry). length l) made ∙ (let e = length_push m.work.made last in
              let one : length (m.work.made ++ last ∷ []) ≡ suc (length m.work.made) = omega (arith, e) in one)

          taken : take w im'.shown.items ≡ row
          taken = ap (take w) done.shown_is ∙ row_taken w N row (cond lends 1 0) vector totals may.wide long.0

          all_after : length (map number_in (rows_of memory')) ≡ N
          all_after = numbers_long (rows_of memory') ∙ rows_many N C H G memory'

          late_known : is_known plan ≡ true → DifferAt im'.late im'.shown.items (idle_words row (rows_of memory') (totals_in
              memory'))
          late_known is_so =
              let known = planned.known is_so in
              let lent : lends ≡ true = lends_direct lends ended known.1.direct.0 done.none known.1.direct.1 in
              let words : im'.shown.items ≡ version_words row 1 vector totals = done.shown_is
              ∙ ap (λ (t : Bool). version_words row (cond t 1 0) vector totals) lent in
              subst (λ (x : List Version). DifferAt im'.late im'.shown.items (idle_words row x (totals_in memory'))) (sym done.rows)
              (subst (λ (x : List ℕ). DifferAt im'.late x (idle_words row (set (rows_of memory) i v) (totals_in memory'))) (sym
              words)
              (late_words w N planned.before row (rows_of memory) (totals_in memory) vector totals planned.wide may.wide
              (rows_many N C H G memory) long.0 known.1.numbers known.1.totals im.touched.items
              (λ k lt' none. let z = planned.rises known.0 k none in let d = planned.sums k in omega (arith, z, d))
              i v (totals_in memory') im'.late (done.sums _ known.1.row_known) memory'.sizes.1
              (λ few. listed_if _ _ (λ none. (turned.late few).number _ none refl))
              (λ few k has. listed_if _ _ (λ none. (turned.late few).totals k none
              (subst (λ (x : ChangedView). Contains x.items k) (sym turned.touched) has)))))

          -- the worker's data fit its member again
          pub fits : IsFit N C H G (index_of s') (length (worker_of s').work.made) row memory' im' (worker_of s')
          fits = record {
            who = s'.is;
            counts = refl;
            words = λ k lt. may.sums k lt
                ∙ sym (ap (λ (l : List PublishEntry). word_after (sum_ops C H) l k) made ∙ total_last (sum_ops C H) m.work.made last
                k);
            wide = may.wide;
            row_known = λ _. (λ z. get_elem? (done.rows z) (index_of s'))
                ∙ (ap (get_elem? (set (rows_of memory) i v)) done.index
                ∙ set_there (rows_of memory) i v (let lt = may.of_board.1 in let e = rows_many N C H G memory in omega (
                  arith,
                  lt,
                  e,
                )));
            ready = record {
              remembered = ap (λ (x : Member). x.scan.remembered) done.member
                  ∙ ((λ z. set (may.ready.remembered z) i (record { number = sym number z; row = taken z })) ∙ sym done.rows);
              rest = ap (λ (x : Member). x.scan.trying) done.member ∙ may.ready.rest;
            };
            hidden_is = ap (λ (x : Member). x.work.hidden) done.member ∙ (planned.shown_is ∙ sym done.hidden_is);
            shown_is = ap (λ (x : Member). x.work.shown) done.member;
            images = record {
              idle_deep = (let e = words_long w N row 1 (map number_in (rows_of memory')) (totals_in memory') may.wide all_after w
                  memory'.sizes.1 in omega (arith, e));
              hidden_deep = ap (λ (l : List ℕ). length l) done.hidden_is ∙ planned.images.shown_deep;
              shown_deep = shown_long;
              recent = turned.recent;
              recent_inside = turned.recent_inside;
              late = by_known (is_known plan) late_known
                  (λ no listed. absurd (let h = sym (turned.unknown no) ∙ listed in cc));
              late_inside = turned.late_inside;
            };
            late = λ listed. subst (λ (k : ℕ). AreLate N w k im'.touched im'.late) (sym done.index) (turned.late listed);
            joined = turned.joined;
          }

      -- as `fits`, where the update repeats the one before it
      pub fits_again : is_repeat plan ≡ true → (s' : WorkSeat) (memory' : ScanMemory N C H G) (im' : BufferImages)
          → im' ≡ record im { hidden = im'.hidden; shown = im'.shown }
          → HasPublished b s s' row memory memory' im.shown.items im'.hidden.items im'.shown.items ended ops true
          → IsFit N C H G (index_of s') (length (worker_of s').work.made) row memory' im' (worker_of s')
      fits_again repeats s' memory' im' others done = fits s' memory' im' true done
          (turned_again s' memory' im' true done repeats refl others)
