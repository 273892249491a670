-- What a scan of a board by its reader says, where a registry scrapes by it.
use Rattle.std.specs.Prelude.{◌≡◌, ℕ}
use Rattle.register_rule.specs.declared.view.Answer.{Answer}
use Rattle.snapshot_scan.specs.Answered.{HasAnswered, HasGivenUp}
use Rattle.snapshot_scan.specs.Readers.{scan_by}
use Rattle.snapshot_scan.specs.Scanners.{board_in, reader_in}
use Rattle.snapshot_scan.specs.declared.contended.Contended.{Contended}
use Rattle.snapshot_scan.specs.declared.scanner.Scanner.{Scanner}

module _ {N C H G : ℕ} where
  -- how many scans it gave up
  abbrev pub quit_in : Scanner N C H G → ℕ
  quit_in s = (scan_by (reader_in s)).quit

  -- it scanned its board, by its reader, which got this answer
  abbrev pub gave_in : Scanner N C H G → Scanner N C H G → Answer → Type 0
  gave_in s t answer = (board_in t ≡ board_in s) × HasAnswered (reader_in s) (reader_in t) answer

  -- its reader gave a scan of its board up, for this reason
  abbrev pub gave_up_in : Scanner N C H G → Scanner N C H G → Contended → Type 0
  gave_up_in s t why = (board_in t ≡ board_in s) × HasGivenUp (reader_in s) (reader_in t) why
