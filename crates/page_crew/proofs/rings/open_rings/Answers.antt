use Rattle.std.proofs.Common.{◌≡◌, ◌+◌, List, ◌∷◌, ◌++◌, [], length, ap, subst, sym, ◌∙◌}
use Rattle.std.proofs.lemmas.List.{length_push}
use Rattle.std.specs.declared.alloc.Global.{Global}
use Rattle.rtrb.specs.Ring.{sent, known_free, IsPair}
use Rattle.rtrb.specs.declared.consumer.Consumer.{Consumer}
use Rattle.rtrb.specs.declared.AnyItems.{AnyItems}
use Rattle.page_crew.specs.Held.{HasNone, feed_of}
use Rattle.page_crew.specs.Rings.{Ring, ArePaired}
use Rattle.page_crew.specs.declared.page_recorder.PageRecorder.{PageRecorder}
use Rattle.page_crew.specs.declared.shared_recorder.SharedRecorder.{SharedRecorder}
use Rattle.page_crew.proofs.Giving.{paired_more}
use Rattle.snapshot_update.proofs.Seating.{all_more}
use Rattle.page_crew.proofs.rings.open_rings.Goals as goal

pub loop-seat-preserved : goal.loop-seat-preserved
loop-seat-preserved g c =
    let R = Ring g.row.N g.row.C g.row.H g.row.G in
    let P = PageRecorder g.row.N g.row.C g.row.H g.row.G in
    let F = Consumer (SharedRecorder g.row.N g.row.C g.row.H g.row.G) Global AnyItems in
    let inv = c.loop-seat.invariant in
    let rings : List R = c.loop-seat.rings.items in
    let recorders : List P = c.loop-seat.recorders.items in
    let ring : R = c.in_ok-ring.ring in
    let recorder : P = c.in_ok-new.field-0 in
    let rings_is : c.push.new.self.items ≡ rings ++ ring ∷ [] = c.in_ok-push.ensures.items in
    let recorders_is : c.push-in-loop-seat.new.self.items ≡ recorders ++ recorder ∷ [] = c.in_ok-push-2.ensures.items in
    let pair : IsPair ring (feed_of recorder) =
    subst (λ (m : F). IsPair ring m) (sym c.in_ok-new.ensures.feed) c.in_ok-ring.ensures.pair in
    record {
      rings_many = ap length rings_is ∙ length_push rings ring ∙ ap (λ n. n + 1) inv.rings_many;
      recorders_many = ap length recorders_is ∙ length_push recorders recorder ∙ ap (λ n. n + 1) inv.recorders_many;
      empty = all_more (λ (p : R). (sent p ≡ []) × (known_free p ≡ 96)) rings c.push.new.self.items ring rings_is inv.empty
          (c.in_ok-ring.ensures.producer.0, c.in_ok-ring.ensures.producer.1);
      none = all_more (HasNone c.args.first) recorders c.push-in-loop-seat.new.self.items recorder recorders_is inv.none
          c.in_ok-new.ensures.none;
      pairs = subst (λ (l : List R). ArePaired l c.push-in-loop-seat.new.self.items) (sym rings_is)
          (subst (λ (l : List P). ArePaired (rings ++ ring ∷ []) l) (sym recorders_is)
          (paired_more rings recorders ring recorder (inv.rings_many ∙ sym inv.recorders_many) inv.pairs pair));
    }
