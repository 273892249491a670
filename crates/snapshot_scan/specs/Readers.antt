-- What a clause reads of a reader.
use Rattle.std.specs.Prelude.{ℕ, List}
use Rattle.register_rule.specs.declared.view.Member.{Member}
use Rattle.register_rule.specs.declared.view.ScanLog.{ScanLog}
use Rattle.register_rule.specs.declared.seats.Bundle.{Bundle}
use Rattle.register_rule.specs.declared.board.Board.{Board}
use Rattle.register_rule.specs.Seats.{IsSeatOf, members_of}
use Rattle.snapshot_scan.specs.Shape.{scan_in}
use Rattle.snapshot_scan.specs.declared.reader.Reader.{Reader}

module _ {N C H G : ℕ} where
  -- its seat: the reader is its first member, and workers that are lent to it stand behind
  abbrev pub bundle_of : Reader N C H G → Bundle
  bundle_of r = r.bundle

  -- the members of its seat
  abbrev pub members_with : Reader N C H G → List Member
  members_with r = members_of r.bundle

  -- what it has learned by its scans
  abbrev pub scan_by : Reader N C H G → ScanLog
  scan_by r = scan_in r.bundle

  -- which reader it is
  abbrev pub index_of : Reader N C H G → ℕ
  index_of r = r.index

  -- it is of this board's parts
  abbrev pub IsReaderOf : Board N C H G → Reader N C H G → Type 0
  IsReaderOf b r = IsSeatOf b r.bundle
