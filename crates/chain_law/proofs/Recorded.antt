-- What a reader's scans gave stays what it recorded.
use Rattle.std.proofs.Common.{◌≡◌, ℕ, List, ◌++◌, All, ap, ◌∙◌}
use lib.ListN.{get_elem?}
use Rattle.register_rule.specs.declared.view.Answer.{Answer}
use Rattle.snapshot_scan.proofs.Words.{front_at}
use Rattle.snapshot_scan.specs.declared.reader.Reader.{Reader}
use Rattle.snapshot_scan.specs.Order.{HasRecorded}
use Rattle.snapshot_scan.specs.Readers.{scan_by}
use Rattle.snapshot_scan.specs.Snapshots.{Taken, as_answer}

module _ {N C H G : ℕ} (r r' : Reader N C H G) where
  pub recorded_on : (more : List Answer) → (scan_by r').recorded ≡ (scan_by r).recorded ++ more → (l : List Taken)
      → All (λ s. HasRecorded r (as_answer s)) l → All (λ s. HasRecorded r' (as_answer s)) l
  recorded_on more grew l all k d lt = let t = all k d lt in
      (t.0, ap (λ (es : List Answer). get_elem? es t.0) grew ∙ front_at (scan_by r).recorded more t.0 _ t.1)

  pub recorded_still : (scan_by r').recorded ≡ (scan_by r).recorded → (l : List Taken)
      → All (λ s. HasRecorded r (as_answer s)) l → All (λ s. HasRecorded r' (as_answer s)) l
  recorded_still same l all k d lt = let t = all k d lt in (t.0, ap (λ (es : List Answer). get_elem? es t.0) same ∙ t.1)
