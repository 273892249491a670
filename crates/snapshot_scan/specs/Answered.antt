-- What a scan does to the reader that makes it.
use Rattle.std.specs.Prelude.{◌≡◌, ℕ}
use Rattle.ledger_core.specs.Ops.{width}
use Rattle.register_rule.specs.declared.view.Answer.{Answer}
use Rattle.snapshot_scan.specs.Shape.{with_scan}
use Rattle.snapshot_scan.specs.Scanned.{IsAnswered}
use Rattle.snapshot_scan.specs.Contention.{IsContended}
use Rattle.snapshot_core.specs.declared.next.Next.TheVariants.{GaveUp}
use Rattle.snapshot_scan.specs.Core.{CameTo, AnswersBy}
use Rattle.snapshot_scan.specs.Lent.{HasNumbers}
use Rattle.snapshot_scan.specs.Readers.{index_of, members_with, scan_by}
use Rattle.snapshot_scan.specs.declared.contended.Contended.{Contended}
use Rattle.snapshot_scan.specs.declared.reader.Reader.{Reader}

module _ {N C H G : ℕ} where
  -- nothing of the reader changed but what it has learned by its scans
  pub record HasScanned (r r' : Reader N C H G) : Type 0 where
    pub index : index_of r' ≡ index_of r
    pub others : members_with r' ≡ with_scan (scan_by r') (members_with r)

  -- by one scan it learned this answer, which has the number of each worker that is lent to it
  pub record HasAnswered (r r' : Reader N C H G) (a : Answer) : Type 0 where
    pub scanned : HasScanned r r'
    pub answered : IsAnswered N (scan_by r) (scan_by r') a
    pub answers : AnswersBy N (width C H G) (scan_by r) (scan_by r') a
    pub lent : HasNumbers (members_with r) a.vector

  -- it gave one scan up, and by what it loaded it had to: in its last try the number of this worker rose
  pub record HasGivenUp (r r' : Reader N C H G) (e : Contended) : Type 0 where
    pub scanned : HasScanned r r'
    pub contended : IsContended N (scan_by r) (scan_by r') e
    pub came : CameTo N (width C H G) (scan_by r) (scan_by r') (GaveUp e.worker e.first e.last)
