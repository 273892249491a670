use Rattle.std.proofs.Common.{◌≡◌, List, ◌∷◌, ◌++◌, [], length, ap, ◌∙◌, arith}
use Rattle.std.specs.Arc.{arc_value}
use Rattle.std.specs.Vec.Iter.{into_iter_items}
use Rattle.std.proofs.lemmas.List.{length_push}
use Rattle.registry_state.specs.Kept.{RegistryView}
use Rattle.snapshot_scan.specs.Readers.{IsReaderOf}
use Rattle.snapshot_scan.specs.declared.reader.Reader.{Reader}
use Rattle.page_crew.specs.News.{IsOver}
use Rattle.page_crew.specs.declared.shared_scanner.SharedScanner.{SharedScanner}
use Rattle.snapshot_update.proofs.Seating.{next_all, all_more}
use Rattle.page_crew.proofs.opening.others_on.Goals as goal

pub loop-reader-preserved : goal.loop-reader-preserved
loop-reader-preserved g c =
    let V = RegistryView (SharedScanner g.row.N g.row.C g.row.H g.row.G) in
    let inv = c.loop-reader.invariant in
    let before : List (Reader g.row.N g.row.C g.row.H g.row.G) = into_iter_items c.loop-reader.reader-iterator in
    let rest : List (Reader g.row.N g.row.C g.row.H g.row.G) = into_iter_items c.next.new.self in
    let step : before ≡ c.in-Some.reader ∷ rest = c.in-Some.ensures.steps.0 in
    let others : List V = c.loop-reader.others.items in
    let registry : V = c.in-Ok.registry in
    let is = c.in-Ok.ensures.made in
    let items : c.push.new.self.items ≡ others ++ registry ∷ [] = c.in_ok-push-in-Ok.ensures.items in
    record {
      of_board = (next_all (IsReaderOf (arc_value c.args.board.now)) before rest c.in-Some.reader step inv.of_board).1;
      over = all_more (IsOver (arc_value c.args.board.now) c.args.id) others c.push.new.self.items registry items inv.over (record {
        id_is = ap (λ (r : V). r.id) is;
        window_is = ap (λ (r : V). r.window) is;
        journal = ap (λ (r : V). r.journal) is;
        state = ap (λ (r : V). r.state) is;
        board_is = ap (λ (r : V). arc_value r.source.board) is ∙ (c.new-scanner.ensures.board ∙ c.in_ok-try_clone.ensures);
      });
      many = let left = ap length step in
          let longer = ap length items in
          let push = length_push others registry in
          let many = inv.many in
          omega (arith, left, longer, push, many);
    }
