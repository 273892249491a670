use Rattle.std.proofs.Common.{get_or, sym, ◌∙◌, subst}
use Rattle.ledger_core.specs.Ops.{width}
use Rattle.snapshot_scan.specs.ChangedItems.{ChangedView}
use Rattle.snapshot_update.specs.Fit.{AreInside}
use Rattle.snapshot_update.specs.Known.{ListsChangedTotals}
use Rattle.snapshot_update.proofs.known.follow.Goals as goal

pub list_changed_totals-requires-clause-words : goal.list_changed_totals-requires-clause-words
list_changed_totals-requires-clause-words g c = subst (AreInside (width g.row.C g.row.H g.row.G)) (sym
    c.changed_totals.ensures) c.requires.words

pub returns-clause-known : goal.returns-clause-known
returns-clause-known g c = λ _. record {
  direct = c.is_direct.ensures.0 c.if-not-is_direct.false;
  found = (λ z. get_or (sym c.answer.ensures.vector z) (sym c.worker.ensures.index z) 0)
      ∙ (c.if-vector-worker.false ∙ c.number.ensures);
  lists = subst (λ (m : ChangedView). ListsChangedTotals g.row.N (width g.row.C g.row.H g.row.G) m c.args.late.now
      c.list_changed_totals.new.late)
      c.changed_totals.ensures c.list_changed_totals.ensures;
}
