use Rattle.std.proofs.Common.{length, sym, ap, ◌∙◌}
use Rattle.std.proofs.lemmas.List.{length-map}
use mathlib.Core.Option.{some}
use lib.ListN.{get_elem?}
use Rattle.snapshot_update.specs.Workers.{index_of, member_of, ops_in}
use Rattle.page_crew.proofs.Published.{worker_at, at_its_place, with_one}
use Rattle.page_crew.proofs.settling.settle_on.Goals as goal

pub returns : goal.returns
returns g c =
    let rs = c.args.recorders.now in
    let all = c.requires.all in
    record {
      vector = λ p w at.
          let (r, s, there, counts, is) = worker_at c.args.board rs
          (λ k q here. let one = with_one c.args.board rs all k q here in (one.0, one.1)) p w at in
          ap (λ v. get_elem? v (index_of w)) c.set_totals.ensures.vector
          ∙ (ap (get_elem? c.set_numbers.new.out.vector)
          (ap index_of (sym is) ∙ at_its_place c.args.board rs all p r s there counts)
          ∙ (c.set_numbers.ensures p r s there counts
          ∙ ap some (ap (λ x. length (member_of x).work.made) is ∙ sym (length-map (member_of w).work.made ops_in))));
      totals = c.set_totals.ensures.totals;
    }
