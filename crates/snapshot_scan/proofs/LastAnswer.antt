-- What a scan recorded last: its totals are below 2^53 and legal. And where a scan was given up, some number rose.
use Rattle.std.proofs.Common.{◌≡◌, ℕ, ◌≤◌, List, [], ◌∷◌, ◌++◌, length, slice_index, sym, refl, ap, ◌∙◌}
use mathlib.Core.Option.{some}
use lib.ListN.{get_elem?}
use Rattle.ledger_core.specs.Ops.{width, sum_ops}
use Rattle.ledger_core.specs.Row.{Accepts}
use Rattle.ledger_core.specs.Legal.{IsLegal}
use Rattle.register_rule.specs.declared.view.Answer.{Answer}
use Rattle.register_rule.specs.declared.view.Member.{Member}
use Rattle.register_rule.specs.declared.view.ScanLog.{ScanLog}
use Rattle.register_rule.specs.Told.{AreRuled}
use Rattle.register_rule.specs.Seats.{HasMember}
use Rattle.snapshot_scan.specs.Shape.{scan_of}
use Rattle.snapshot_scan.specs.Snapshots.{AreLow}
use Rattle.snapshot_scan.specs.Scanned.{Tried, FailedTry, IsAnswered, IsGivenUp}
use Rattle.snapshot_scan.proofs.Totals.{totals_low, totals_legal}

pub at_end : {A : Type 0} (l : List A) (x : A) → get_elem? (l ++ x ∷ []) (length l) ≡ some x
at_end [] x = refl
at_end (y ∷ l) x = at_end l x

module _ (n c h g : ℕ) (few : n ≤ 32) (ms : List Member) (ruled : AreRuled n (width c h g) (sum_ops c h) (Accepts c h g) ms)
    (t : HasMember ms)
    (before : ScanLog) (a : Answer) (answered : IsAnswered n before (scan_of ms) a) where
  pub sits : get_elem? ms 0 ≡ some t.0
  sits = ap (λ (l : List Member). get_elem? l 0) t.2

  pub is_first : scan_of ms ≡ t.0.scan
  is_first = ap scan_of t.2

  pub all_recorded : t.0.scan.recorded ≡ before.recorded ++ a ∷ []
  all_recorded = ap (λ (x : ScanLog). x.recorded) (sym is_first) ∙ answered.recorded

  pub records : get_elem? t.0.scan.recorded (length before.recorded) ≡ some a
  records = ap (λ (l : List Answer). get_elem? l (length before.recorded)) all_recorded ∙ at_end before.recorded a

  pub ends_low : AreLow (width c h g) a.totals
  ends_low = totals_low n c h g few ms ruled 0 (length before.recorded) t.0 a sits records

  pub ends_legal : IsLegal c h (slice_index a.totals)
  ends_legal = totals_legal n c h g few ms ruled 0 (length before.recorded) t.0 a sits records

-- the last try of a scan that was given up
pub last_failed : (n : ℕ) (c c' : ScanLog) (first last : List ℕ) (up : IsGivenUp n c c' first last)
    → FailedTry n up.head.first up.head.second up.final
last_failed n c c' first last up = up.each (length up.ends.0) up.final
    (ap (λ (l : List Tried). get_elem? l (length up.ends.0)) up.ends.1 ∙ at_end up.ends.0 up.final)
