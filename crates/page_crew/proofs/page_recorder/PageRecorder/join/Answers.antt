use Rattle.std.proofs.Common.{◌≡◌, ◌+◌, ◌∷◌, ◌++◌, [], length, sym, ap, ◌∙◌, subst, arith, refl, append-nil}
use Rattle.std.proofs.lemmas.List.{length_push, append_assoc}
use Rattle.rtrb.specs.Ring.{received, known_items}
use Rattle.page_crew.specs.Counting.{AreInRow, AreTaken}
use Rattle.page_crew.specs.Shared.{id_in}
use Rattle.page_crew.proofs.Taken.{taken_more, first_out}
use Rattle.page_crew.proofs.Rows.{row_more, feed_then}
use Rattle.page_crew.proofs.page_recorder.PageRecorder.join.Goals as goal

pub loop-more-init : goal.loop-more-init
loop-more-init g c = record {
  came = ([], sym (append-nil c.args.self.now.recorders.items));
  first_is = refl;
  same = ((refl, refl, refl, refl), refl);
  few = let n = c.len-more.ensures in let len = c.args.self.now.recorders.ok.0 in omega (arith, n, len);
}

pub push_reserved-requires : goal.push_reserved-requires
push_reserved-requires g c =
    let len = c.loop-more.self.recorders.ok.0 in
    let few = c.loop-more.invariant.few in
    let more = c.loop-more-test.true in
    let room = c.loop-more.self.room in
    omega (arith, len, few, more, room)

pub invariant_of-self-in-loop-more : goal.invariant_of-self-in-loop-more
invariant_of-self-in-loop-more g c =
    let x = c.pop_known.result in
    let was = c.loop-more.self.more in
    let now = c.loop-more.self.recorders.items in
    let len = c.loop-more.self.recorders.ok.0 in
    let same : c.peek_known.result.now ≡ x = first_out (known_items c.is_empty.new.self) (known_items c.pop_known.new.self)
    c.peek_known.result.now x c.peek_known.ensures c.pop_known.ensures.received.1 in
    let row : AreInRow c.loop-more.self.first (now ++ x ∷ []) =
    row_more c.loop-more.self.first now c.loop-more.self.ids x (ap id_in (sym same)
    ∙ (sym c.id.ensures ∙ c.if-id-self.false ∙ ap (λ n. c.loop-more.self.first + n) (c.len.ensures ∙ len))) in
    let out : received c.pop_known.new.self ≡ received was ++ x ∷ [] =
    c.pop_known.ensures.received.0 ∙ ap (λ l. l ++ x ∷ []) c.is_empty.ensures.looked.1 in
    let few = c.loop-more.invariant.few in
    let more = c.loop-more-test.true in
    let longer = length_push now x in
    let after = ap length c.push_reserved.ensures.items in
    let low = c.loop-more.self.low in
    let room = c.loop-more.self.room in
    let cap = c.push_reserved.ensures.capacity in
    record {
      ids = subst (AreInRow c.loop-more.self.first) (sym c.push_reserved.ensures.items) row;
      low = low;
      few = omega (arith, few, more, longer, after);
      room = omega (arith, room, cap);
      taken = subst (λ l. AreTaken l c.push_reserved.new.self.items) (sym out)
          (subst (AreTaken (received was ++ x ∷ [])) (sym c.push_reserved.ensures.items)
          (taken_more (received was) now x c.loop-more.self.taken));
    }

pub loop-more-preserved : goal.loop-more-preserved
loop-more-preserved g c =
    let old = c.args.self.now.recorders.items in
    let now = c.loop-more.self.recorders.items in
    let came = c.loop-more.invariant.came in
    let few = c.loop-more.invariant.few in
    let longer = length_push now c.pop_known.result in
    let after = ap length c.push_reserved.ensures.items in
    record {
      came = (
        came.0 ++ c.pop_known.result ∷ [],
        c.push_reserved.ensures.items ∙ ap (λ l. l ++ c.pop_known.result ∷ []) came.1
            ∙ append_assoc old came.0 (c.pop_known.result ∷ []),
      );
      first_is = c.loop-more.invariant.first_is;
      same = feed_then c.args.self.now.more c.loop-more.self.more c.pop_known.new.self c.loop-more.invariant.same
          (feed_then c.loop-more.self.more c.is_empty.new.self c.pop_known.new.self c.is_empty.ensures.looked.0
          c.pop_known.ensures.ring);
      few = omega (arith, few, longer, after);
    }

-- a look at the ring takes nothing out of it
pub invariant_of-self-then-is_empty : goal.invariant_of-self-then-is_empty
invariant_of-self-then-is_empty g c = let is = c.loop-more.self in record {
  ids = is.ids;
  low = is.low;
  few = is.few;
  room = is.room;
  taken = subst (λ l. AreTaken l is.recorders.items) (sym c.is_empty.ensures.looked.1) is.taken;
}

pub invariant_of-self-then-id-self : goal.invariant_of-self-then-id-self
invariant_of-self-then-id-self g c = let is = c.loop-more.self in record {
  ids = is.ids;
  low = is.low;
  few = is.few;
  room = is.room;
  taken = subst (λ l. AreTaken l is.recorders.items) (sym c.is_empty.ensures.looked.1) is.taken;
}
