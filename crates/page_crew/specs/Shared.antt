-- What contracts see of a share in a board.
use Rattle.std.specs.Prelude.{◌≡◌, ℕ, List}
use Rattle.std.specs.Arc.{arc_value}
use Rattle.register_rule.specs.Seats.{board_id}
use Rattle.register_rule.specs.declared.board.Board.{Board}
use Rattle.register_rule.specs.declared.view.Answer.{Answer}
use Rattle.snapshot_scan.specs.Answered.{HasAnswered, HasGivenUp}
use Rattle.snapshot_scan.specs.Readers.{scan_by}
use Rattle.snapshot_scan.specs.declared.contended.Contended.{Contended}
use Rattle.snapshot_update.specs.declared.worker.Worker.{Worker}
use Rattle.page_crew.specs.declared.shared_recorder.SharedRecorder.{SharedRecorder}
use Rattle.page_crew.specs.declared.shared_scanner.SharedScanner.{SharedScanner}

module _ {N C H G : ℕ} where
  -- the board of a recorder
  abbrev pub board_in : SharedRecorder N C H G → Board N C H G
  board_in r = arc_value r.board

  -- its worker
  abbrev pub worker_in : SharedRecorder N C H G → Worker N C H G
  worker_in r = r.worker

  -- the id of its board
  abbrev pub id_in : SharedRecorder N C H G → ℕ
  id_in r = board_id (arc_value r.board)

  -- what a scanner's scans recorded, in order
  abbrev pub recorded_in : SharedScanner N C H G → List Answer
  recorded_in s = (scan_by s.reader).recorded

  -- how many of them were given up
  abbrev pub quit_in : SharedScanner N C H G → ℕ
  quit_in s = (scan_by s.reader).quit

  -- it is of the same board, and its reader has learned this answer by one scan
  abbrev pub gave_in : SharedScanner N C H G → SharedScanner N C H G → Answer → Type 0
  gave_in s t a = (arc_value t.board ≡ arc_value s.board) × HasAnswered s.reader t.reader a

  -- it is of the same board, and its reader gave one scan up
  abbrev pub gave_up_in : SharedScanner N C H G → SharedScanner N C H G → Contended → Type 0
  gave_up_in s t e = (arc_value t.board ≡ arc_value s.board) × HasGivenUp s.reader t.reader e
