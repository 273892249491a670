-- What an update comes to.
use Rattle.std.specs.Prelude.{◌≡◌, ℕ, Bool, true, false, List, [], ◌∷◌}
use Rattle.ledger_core.specs.declared.op.Op.{Op}
use Rattle.ledger_core.specs.Ops.{width, sum_ops}
use Rattle.ledger_core.specs.Row.{Accepts}
use Rattle.register_rule.specs.declared.view.Answer.{Answer}
use Rattle.register_rule.specs.declared.view.Member.{Member}
use Rattle.register_rule.specs.declared.view.ScanLog.{ScanLog}
use Rattle.register_rule.specs.declared.board.Board.{Board}
use Rattle.register_rule.specs.declared.seats.WorkSeat.{WorkSeat}
use Rattle.register_rule.specs.Members.{published}
use Rattle.register_rule.specs.Seats.{worker_of, index_of, IsWorkSeatOf}
use Rattle.register_rule.specs.Told.{AreRuled}
use Rattle.snapshot_core.specs.declared.next.Next.TheVariants.{GaveUp}
use Rattle.snapshot_scan.specs.declared.contended.Contended.{Contended}
use Rattle.snapshot_scan.specs.Scanned.{IsAnswered}
use Rattle.snapshot_scan.specs.Contention.{IsContended}
use Rattle.snapshot_scan.specs.Core.{CameTo, AnswersBy}
use Rattle.snapshot_update.specs.BufferImages.{with_hidden}

-- the scan of an update: where the version lends a view, an answer was recorded, which is then the last one; where it does not,
-- the scan was given up. n workers, rows of w words
abbrev pub ScanCameTo : (n w : ℕ) (c c' : ScanLog) (lends : Bool) → Type 0
ScanCameTo n w c c' true = (a : Answer) × IsAnswered n c c' a × AnswersBy n w c c' a
ScanCameTo n w c c' false = (e : Contended) × IsContended n c c' e × CameTo n w c c' (GaveUp e.worker e.first e.last)

-- all that the rule says of one member alone, on a board of n workers, c counters, h histograms and g gauges
abbrev pub IsRuledAlone : (n c h g : ℕ) → Member → Type 0
IsRuledAlone n c h g m = AreRuled n (width c h g) (sum_ops c h) (Accepts c h g) (m ∷ [])

-- a worker's seat scanned: it is of the same worker, of which the rule said then all that it says of one member, and which has
-- learned; of its member nothing else has changed
pub record HasScanned {N C H G : ℕ} (b : Board N C H G) (s s' : WorkSeat) : Type 0 where
  pub of_board : IsWorkSeatOf b s'
  pub index : index_of s' ≡ index_of s
  pub ruled : IsRuledAlone N C H G (worker_of s')
  pub others : worker_of s' ≡ record (worker_of s) { scan = (worker_of s').scan }

-- from m to m' worker i scanned, and then published one version, which adds these operations and lends the answer of that scan,
-- or nothing where it was given up. After the scan the rule said of the worker all that it says of one member: the publishes of
-- all workers are of one history and legal, and what the worker loaded, remembers and recorded is right by them. What the fills
-- stored in the hidden buffer is not told here: the rule says what the buffer that is shown has
pub record IsUpdated (n c h g i : ℕ) (ops : List Op) (m m' : Member) : Type 0 where
  pub scan : ScanLog
  pub lends : Bool
  pub hidden : List ℕ
  pub came_to : ScanCameTo n (width c h g) m.scan scan lends
  pub ruled : IsRuledAlone n c h g (record m { scan = scan })
  pub is : m' ≡ published (width c h g) i ops lends (with_hidden hidden (record m { scan = scan }))
