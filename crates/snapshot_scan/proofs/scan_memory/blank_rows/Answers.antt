use Rattle.std.proofs.Common.{List, [], ◌∷◌, length, subst, sym, ap, ◌∙◌, arith, length-append}
use Rattle.register_rule.proofs.Words.{each_push}
use Rattle.snapshot_scan.specs.declared.remembered_row.RememberedRow.{RememberedRow}
use Rattle.snapshot_scan.specs.RememberedRows.{IsBlank, AreBlank}
use Rattle.snapshot_scan.proofs.scan_memory.blank_rows.Goals as goal

pub loop-k-preserved : goal.loop-k-preserved
loop-k-preserved c =
    let inv = c.loop-k.invariant in let old = c.loop-k.remembered.items in let new : RememberedRow = c.in_ok-new.field-0 in
    let items = c.in_ok-push.ensures.items in record {
      count = ap (λ (l : List RememberedRow). length l) items
          ∙ (length-append old (new ∷ []) ∙ (let e = inv.count in omega (arith, e)));
      blank = subst (AreBlank c.args.row) (sym items) (each_push (IsBlank c.args.row) old new inv.blank c.in_ok-new.ensures);
    }
