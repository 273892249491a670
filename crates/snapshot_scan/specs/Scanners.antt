-- What a clause reads of a scanner.
use Rattle.std.specs.Prelude.{ℕ, List}
use Rattle.register_rule.specs.declared.board.Board.{Board}
use Rattle.register_rule.specs.declared.view.Answer.{Answer}
use Rattle.snapshot_scan.specs.Readers.{scan_by}
use Rattle.snapshot_scan.specs.declared.reader.Reader.{Reader}
use Rattle.snapshot_scan.specs.declared.scanner.Scanner.{Scanner}

module _ {N C H G : ℕ} where
  -- its board
  abbrev pub board_in : Scanner N C H G → Board N C H G
  board_in s = s.board.now

  -- its reader
  abbrev pub reader_in : Scanner N C H G → Reader N C H G
  reader_in s = s.reader

  -- what its scans recorded, in order
  abbrev pub recorded_in : Scanner N C H G → List Answer
  recorded_in s = (scan_by s.reader).recorded
