use Rattle.std.proofs.Common.{◌≡◌, refl, length, map, ap, sym, ◌∙◌}
use Rattle.std.proofs.lemmas.List.{length-map, with_items_is}
use Rattle.snapshot_update.specs.Workers.{index_of, lists_of}
use Rattle.metrics_program.proofs.SettledFour.{has_all, count_of, settled_numbers}
use Rattle.metrics_program.proofs.state.State.settle.Goals as goal

pub unreachable-requires : goal.unreachable-requires
unreachable-requires c =
    let missing = c.in_default.ensures.missing in
    missing.none (has_all c.deref_mut.result.now (ap (map index_of) c.deref_mut.ensures.value ∙ c.requires.ready.all) _
    missing.inside)

pub returns-clause-settled : goal.returns-clause-settled
returns-clause-settled c =
    let value = c.deref_mut.ensures.value in
    let old = c.deref_mut.result.now in
    let new = c.settle.new.workers in
    let index : map index_of new ≡ map index_of old = c.settle.ensures.same.index in
    let lists : map lists_of new ≡ map lists_of old = c.settle.ensures.same.lists in
    let all = ap (map index_of) value ∙ c.requires.ready.all in
    let same : length new ≡ length old = sym (length-map new index_of) ∙ ap length index ∙ length-map old index_of in
    let items = with_items_is c.args.self.now.workers new (same ∙ c.deref_mut.ensures.len) in
    let four : length c.settle.new.out.vector ≡ 4 = sym (ap length c.vector-numbers.ensures.numbers)
    ∙ c.vector-numbers.ensures.all in
    let long : length c.settle.new.out.vector ≡ length old = four ∙ sym (sym (length-map old index_of) ∙ ap length all) in
    record {
      found = settled_numbers old c.settle.new.out all long c.in-Ok.ensures.settled ∙ ap (map count_of) value;
      index = ap (map index_of) items ∙ index ∙ ap (map index_of) value;
      lists = ap (map lists_of) items ∙ lists ∙ ap (map lists_of) value;
      board = refl;
      registry = refl;
      children = refl;
      queue = refl;
    }
