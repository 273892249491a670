use Rattle.std.proofs.Common.{◌≡◌, ◌∙◌, Option, Some, None, sym, subst, refl, arith}
use Rattle.std.proofs.lemmas.Bool.{false≢true}
use Rattle.std.specs.Option.{ForSome, IsSome}
use Rattle.atomic_table.specs.Seated.{TableId}
use Rattle.snapshot_scan.specs.Scanners.{board_in}
use Rattle.metric_registry.specs.Naming.{BeginsWith, name_of}
use Rattle.metric_registry.proofs.registry.RegistryOf.settle.Goals as goal

-- what is named alike is one
one_name : (o : Option TableId) (a b : TableId) → IsSome o → ForSome o (λ n. a ≡ n) → ForSome o (λ n. b ≡ n) → a ≡ b
one_name None a b some p q = absurd (false≢true some)
one_name (Some x) a b some p q = p x refl ∙ sym (q x refl)

pub settle_state-requires : goal.settle_state-requires
settle_state-requires g c =
    let source = c.into_state.result.source in
    let same = one_name g.B.Named.board (name_of (board_in source)) (name_of c.args.board.now) c.requires.some
    c.into_state.ensures.of.0
    c.requires.named in (
      omega arith,
      (
        omega arith,
        (
          omega arith,
          (
            omega arith,
            (
              omega arith,
              (
                omega arith,
                (
                  source.of_board ∙ same,
                  c.requires.of_board,
                ),
              ),
            ),
          ),
        ),
      ),
    )

pub unreachable-requires : goal.unreachable-requires
unreachable-requires g c = let missing = c.in_default-settle_state.ensures.missing in
    missing.none (c.in_default.ensures.none _ missing.inside)

pub returns : goal.returns
returns g c = record {
  of_board = c.settle_state.ensures.of_board;
  same = c.settle_state.ensures.same;
  replays = c.in-Ok.ensures.replays;
  moments = c.in-Ok.ensures.moments;
  all = c.in-Ok.ensures.all;
  begins = subst (BeginsWith g.B.Named.first) (sym c.in-Ok.ensures.journal) c.into_state.ensures.begins;
  settled = c.in-Ok.ensures.settled;
  missing = tt;
  unchanged = tt;
  back = tt;
}
