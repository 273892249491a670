use Rattle.std.proofs.Common.{◌≡◌, true, [], ◌∷◌, sym, refl, ◌∙◌, subst, rules}
use Rattle.snapshot_update.specs.OpWords.{AreOf}
use Rattle.snapshot_update.specs.Plans.{is_repeat}
use Rattle.snapshot_update.proofs.PublishedFit.{may_repeat, may_repeat_only, fits, fits_again}
use Rattle.snapshot_update.proofs.publishing.publish_next.Goals as goal

pub returns-then-not-is_repeat-clause-fit : goal.returns-then-not-is_repeat-clause-fit
returns-then-not-is_repeat-clause-fit g c =
    let new = c.publish_anew.new in let done = c.publish_anew.ensures in
    fits c.args.board.now c.args.seat.now c.args.row.now c.args.memory.now c.args.ended c.args.ops.now c.requires.may
    c.args.images.now c.args.plan c.requires.planned
    new.seat new.memory new.images done.published.0 done.published.1 done.turned

pub publish_again-requires : goal.publish_again-requires
publish_again-requires g c =
    let repeats : is_repeat c.args.plan ≡ true = sym c.is_repeat.ensures ∙ c.if-not-is_repeat.false in (
      search rules,
      (
        search rules,
        (
          search rules,
          may_repeat_only c.args.board.now c.args.seat.now c.args.row.now c.args.memory.now c.args.ended c.args.ops.now
              c.requires.may
              c.args.images.now c.args.plan c.requires.planned
              repeats (c.in-One.word ∷ [])
              (subst (AreOf g.row.C g.row.H c.args.ops.now) c.in-One.is c.requires.words),
        ),
      ),
    )

pub publish_three_again-requires : goal.publish_three_again-requires
publish_three_again-requires g c =
    let repeats : is_repeat c.args.plan ≡ true = sym c.is_repeat.ensures ∙ c.if-not-is_repeat.false in (
      search rules,
      (
        search rules,
        (
          search rules,
          may_repeat_only c.args.board.now c.args.seat.now c.args.row.now c.args.memory.now c.args.ended c.args.ops.now
              c.requires.may
              c.args.images.now c.args.plan c.requires.planned
              repeats c.in-Three.words
              (subst (AreOf g.row.C g.row.H c.args.ops.now) c.in-Three.is c.requires.words),
        ),
      ),
    )

pub publish_list_again-requires : goal.publish_list_again-requires
publish_list_again-requires g c =
    let repeats : is_repeat c.args.plan ≡ true = sym c.is_repeat.ensures ∙ c.if-not-is_repeat.false in (
      search rules,
      (
        search rules,
        (
          search rules,
          may_repeat c.args.board.now c.args.seat.now c.args.row.now c.args.memory.now c.args.ended c.args.ops.now c.requires.may
              c.args.images.now c.args.plan c.requires.planned
              repeats c.as_slice-words.result.now
              c.as_slice-words.ensures.listed,
        ),
      ),
    )

pub returns-in-One-clause-fit : goal.returns-in-One-clause-fit
returns-in-One-clause-fit g c =
    let repeats : is_repeat c.args.plan ≡ true = sym c.is_repeat.ensures ∙ c.if-not-is_repeat.false in
    let new = c.publish_again.new in
    fits_again c.args.board.now c.args.seat.now c.args.row.now c.args.memory.now c.args.ended c.args.ops.now c.requires.may
    c.args.images.now c.args.plan c.requires.planned
    repeats new.seat new.memory (record c.args.images.now { hidden = new.hidden; shown = new.shown }) refl c.publish_again.ensures

pub returns-in-Three-clause-fit : goal.returns-in-Three-clause-fit
returns-in-Three-clause-fit g c =
    let repeats : is_repeat c.args.plan ≡ true = sym c.is_repeat.ensures ∙ c.if-not-is_repeat.false in
    let new = c.publish_three_again.new in
    fits_again c.args.board.now c.args.seat.now c.args.row.now c.args.memory.now c.args.ended c.args.ops.now c.requires.may
    c.args.images.now c.args.plan c.requires.planned
    repeats new.seat new.memory (record c.args.images.now { hidden = new.hidden; shown = new.shown }) refl
    c.publish_three_again.ensures

pub returns-in-Unknown-clause-fit : goal.returns-in-Unknown-clause-fit
returns-in-Unknown-clause-fit g c =
    let repeats : is_repeat c.args.plan ≡ true = sym c.is_repeat.ensures ∙ c.if-not-is_repeat.false in
    let new = c.publish_list_again.new in
    fits_again c.args.board.now c.args.seat.now c.args.row.now c.args.memory.now c.args.ended c.args.ops.now c.requires.may
    c.args.images.now c.args.plan c.requires.planned
    repeats new.seat new.memory (record c.args.images.now { hidden = new.hidden; shown = new.shown }) refl
    c.publish_list_again.ensures
