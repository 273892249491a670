-- A worker's data fit its member after a scan of its own.
use Rattle.std.proofs.Common.{◌≡◌, ℕ, true, false, List, map, Contains, sym, ◌∙◌, subst, arith}
use Rattle.ledger_core.specs.Ops.{width}
use Rattle.register_rule.specs.declared.view.Member.{Member}
use Rattle.register_rule.specs.declared.view.ScanLog.{ScanLog}
use Rattle.snapshot_scan.specs.declared.scan_memory.ScanMemory.{ScanMemory}
use Rattle.snapshot_scan.specs.ScanMemories.{rows_of, totals_in, IsReady}
use Rattle.snapshot_scan.specs.ChangedItems.{ChangedView}
use Rattle.snapshot_update.specs.declared.buffer_images.BufferImages.{BufferImages}
use Rattle.snapshot_update.specs.Fit.{number_in, IsFit}
use Rattle.snapshot_update.proofs.VersionWords.{words_long, numbers_long}
use Rattle.snapshot_update.proofs.Fitting.{rows_many}

-- all that is known of the next version is that all its items may differ
pub scanned_fit : (n c h g index number : ℕ) (row : List ℕ) (memory memory' : ScanMemory n c h g) (im : BufferImages)
    (late : ChangedView) (m : Member) (s : ScanLog)
    → IsFit n c h g index number row memory im m → IsReady s memory' → late.all ≡ true → late.items ≡ im.late.items
    → IsFit n c h g index number row memory' (record im {
      late = late;
      row_known = false;
      joined = false;
    }) (record m { scan = s })
scanned_fit n c h g index number row memory memory' im late m s fit ready all items = record {
  who = fit.who;
  counts = fit.counts;
  words = fit.words;
  wide = fit.wide;
  row_known = λ known. absurd (cc);
  ready = ready;
  hidden_is = fit.hidden_is;
  shown_is = fit.shown_is;
  images = record {
    idle_deep = (let e = words_long (width c h g) n row 1 (map number_in (rows_of memory')) (totals_in memory') fit.wide
        (numbers_long (rows_of memory') ∙ rows_many n c h g memory') (width c h g) memory'.sizes.1 in omega (arith, e));
    hidden_deep = fit.images.hidden_deep;
    shown_deep = fit.images.shown_deep;
    recent = fit.images.recent;
    recent_inside = fit.images.recent_inside;
    late = λ listed. absurd (let e = sym all ∙ listed in cc);
    late_inside = λ j has. fit.images.late_inside j (subst (λ (l : List ℕ). Contains l j) items has);
  };
  late = λ listed. absurd (let e = sym all ∙ listed in cc);
  joined = λ yes. absurd (cc);
}
