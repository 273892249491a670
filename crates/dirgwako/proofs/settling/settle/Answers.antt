use Rattle.std.proofs.Common.{length, sym, ap, ◌∙◌}
use Rattle.std.proofs.lemmas.List.{length-map}
use mathlib.Core.Option.{some}
use lib.ListN.{get_elem?}
use Rattle.snapshot_update.specs.Workers.{index_of, member_of, ops_in}
use Rattle.dirgwako.proofs.Published.{worker_at, at_its_place}
use Rattle.dirgwako.proofs.settling.settle.Goals as goal

pub returns-clause-settled : goal.returns-clause-settled
returns-clause-settled g c =
    let rs = c.args.recorders.now in
    record {
      vector = λ p w at. let (r, there, is) = worker_at rs p w at in
          ap (λ v. get_elem? v (index_of w)) c.set_totals.ensures.vector
          ∙ (ap (get_elem? c.set_numbers.new.out.vector) (ap index_of (sym is) ∙ at_its_place rs c.in_default.ensures.none p r
          there)
          ∙ (c.set_numbers.ensures p r there
          ∙ ap some (ap (λ x. length (member_of x).work.made) is ∙ sym (length-map (member_of w).work.made ops_in))));
      totals = c.set_totals.ensures.totals;
    }
