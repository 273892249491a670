use Rattle.std.proofs.Common.{arith, ◌≡◌, List, [], ◌∷◌, ◌++◌, ap, sym, subst, ◌∙◌, append_assoc}
use Rattle.register_rule.specs.declared.view.Answer.{Answer}
use Rattle.snapshot_scan.specs.Readers.{scan_by, IsReaderOf}
use Rattle.snapshot_scan.specs.Scanners.{reader_in}
use Rattle.snapshot_scan.specs.Snapshots.{as_answer}
use Rattle.snapshot_scan.specs.declared.reader.Reader.{Reader}
use Rattle.snapshot_scan.specs.declared.scanner.Scanner.{Scanner}
use Rattle.registry_state.specs.Journal.{Entry, scrapes}
use Rattle.registry_state.specs.Replay.{Replays}
use Rattle.chain_law.specs.Settled.{AreMomentsOf}
use Rattle.chain_law.proofs.Later.{moments_of_later}
use Rattle.metric_registry.proofs.settling.settle_state.Goals as goal

pub returns : goal.returns
returns g c =
    let state = c.args.state in
    let last = c.into_parts-source.ensures.kept.newest in
    let out = as_answer c.settle.new.out in
    let before : (scan_by c.into_reader-reader.result).recorded ≡ last.older ++ scrapes state.journal =
    ap (λ (r : Reader g.row.N g.row.C g.row.H g.row.G). (scan_by r).recorded) c.into_reader-reader.ensures.reader
    ∙ (ap (λ (s : Scanner g.row.N g.row.C g.row.H g.row.G). (scan_by s.reader).recorded) c.into_parts-source.ensures.source
    ∙ last.is) in
    let all : (scan_by c.settle.new.reader).recorded ≡ last.older ++ (scrapes state.journal ++ out ∷ []) =
    c.in-Ok.ensures.recorded
    ∙ (ap (λ (l : List Answer). l ++ out ∷ []) before ∙ append_assoc last.older (scrapes state.journal) (out ∷ [])) in
    record {
      of_board = c.settle.ensures.of_board.1;
      same = c.settle.ensures.same;
      journal = c.into_parts-source.ensures.journal;
      replays = (
        state.state,
        subst (λ (j : List Entry). Replays g.row.N g.row.C g.row.H g.row.G j state.state)
            (sym c.into_parts-source.ensures.journal) c.into_parts-source.ensures.kept.replays,
      );
      moments = subst (λ (j : List Entry). AreMomentsOf c.args.workers.now (scrapes j ++ out ∷ []))
          (sym c.into_parts-source.ensures.journal)
          (moments_of_later c.args.workers.now last.older (scrapes state.journal ++ out ∷ [])
          (subst (AreMomentsOf c.args.workers.now) all c.in-Ok.ensures.moments));
      all = c.in-Ok.ensures.all;
      settled = c.in-Ok.ensures.settled;
      missing = tt;
      unchanged = tt;
      back = tt;
    }

pub settle-requires : goal.settle-requires
settle-requires g c =
    let same = c.into_reader-reader.ensures.reader ∙ ap (λ (s : Scanner g.row.N g.row.C g.row.H g.row.G). reader_in s)
    c.into_parts-source.ensures.source in
    let own = subst (IsReaderOf c.args.board.now) (sym same) c.requires.reader in
    (omega arith, (omega arith, (omega arith, (omega arith, (own, c.requires.of_board)))))

pub unreachable-requires : goal.unreachable-requires
unreachable-requires g c = let missing = c.in_default-settle.ensures.missing in
    missing.none (c.in_default.ensures.none _ missing.inside)
