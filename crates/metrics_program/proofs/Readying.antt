-- What a line leaves ready, and what a line that prints nothing comes to.
use Rattle.std.proofs.Common.{◌≡◌, ℕ, List, [], All, map, length, refl, sym, subst, ap, ◌∙◌}
use Rattle.metric_desc.specs.Desc.{Descriptor}
use Rattle.register_rule.specs.Seats.{board_id}
use Rattle.register_rule.specs.declared.board.Board.{Board}
use Rattle.registry_state.specs.Kept.{RegistryView}
use Rattle.script_lines.specs.Line.{saying_of}
use Rattle.script_lines.specs.declared.line.Line.{Line}
use Rattle.script_lines.specs.declared.line.Line.TheVariants.{Nothing, Counter, Gauge, Histogram, Child, Count, Go, Scrape}
use Rattle.script_lines.specs.declared.line.Line.TheVariants.{Settle, Window}
use Rattle.snapshot_scan.specs.Readers.{IsReaderOf}
use Rattle.snapshot_scan.specs.Scanners.{board_in, reader_in}
use Rattle.snapshot_scan.specs.declared.scanner.Scanner.{Scanner}
use Rattle.snapshot_update.specs.declared.worker.Worker.{Worker}
use Rattle.snapshot_update.specs.Workers.{index_of, IsWorkerOf}
use Rattle.metrics_program.specs.Done.{IsDone, IsStepped}
use Rattle.metrics_program.specs.Refusals.{IsActRefusal, IsRefused}
use Rattle.metrics_program.specs.State.{IsReady, IsRegistered, IsSame}
use Rattle.metrics_program.specs.declared.line_fault.LineFault.{LineFault}
use Rattle.metrics_program.specs.declared.state.State.{State}

-- a source over the program's board
abbrev pub Scans : Type 0
Scans = Scanner 4 64 8 16

-- a family more leaves all ready
pub registered_ready : (old new : State) (desc : Descriptor) → IsRegistered desc old new → IsReady old → IsReady new
registered_ready old new desc is ready =
    let beside = is.beside in
    let board : new.board.now ≡ old.board.now = beside.board in
    record {
      workers = subst (λ (b : Board 4 64 8 16). All (IsWorkerOf b) new.workers.items) (sym board)
          (subst (λ (ws : List (Worker 4 64 8 16)). All (IsWorkerOf old.board.now) ws) (sym beside.workers) ready.workers);
      all = ap (map index_of) beside.workers ∙ ready.all;
      scans = ap (λ (r : RegistryView Scans). board_in r.source) is.registry ∙ (ready.scans ∙ sym board);
      scraper = subst (λ (b : Board 4 64 8 16). IsReaderOf b (reader_in new.registry.source)) (sym board)
          (subst (λ (r : RegistryView Scans). IsReaderOf old.board.now (reader_in r.source)) (sym is.registry) ready.scraper);
      id = ap (λ (r : RegistryView Scans). r.id) is.registry ∙ (ready.id ∙ ap board_id (sym board));
      settler = subst (λ (b : Board 4 64 8 16). IsReaderOf b new.settler) (sym board)
          (subst (IsReaderOf old.board.now) (sym beside.settler) ready.settler);
      lists = ap length beside.queue ∙ ready.lists;
    }

-- a line that prints nothing and counts nothing was done
pub done_stepped : (old new : State) (number : ℕ) (line : Line) → (line ≡ Go → ⊥) → (line ≡ Scrape → ⊥) → (line ≡ Settle → ⊥)
    → ((size : ℕ) → line ≡ Window size → ⊥)
    → IsDone old number (saying_of line) new → IsStepped old number (saying_of line) [] new
done_stepped old new number Nothing go scrape settle window done = (refl, done)
done_stepped old new number (Counter name labels help) go scrape settle window done = (refl, done)
done_stepped old new number (Gauge name labels help) go scrape settle window done = (refl, done)
done_stepped old new number (Histogram name labels bounds help) go scrape settle window done = (refl, done)
done_stepped old new number (Child name values) go scrape settle window done = (refl, done)
done_stepped old new number (Count what worker child by times) go scrape settle window done = (refl, done)
done_stepped old new number Go go scrape settle window done = absurd (go refl)
done_stepped old new number Scrape go scrape settle window done = absurd (scrape refl)
done_stepped old new number Settle go scrape settle window done = absurd (settle refl)
done_stepped old new number (Window size) go scrape settle window done = absurd (window size refl)

-- or it was refused
pub act_refused : (old new : State) (number : ℕ) (line : Line) (fault : LineFault) → IsActRefusal old (saying_of line) fault
    → IsSame old new
    → IsRefused old number (saying_of line) (record { line = number; fault = fault }) new
act_refused old new number Nothing fault why same = absurd why
act_refused old new number (Counter name labels help) fault why same = ((refl, why), same)
act_refused old new number (Gauge name labels help) fault why same = ((refl, why), same)
act_refused old new number (Histogram name labels bounds help) fault why same = ((refl, why), same)
act_refused old new number (Child name values) fault why same = ((refl, why), same)
act_refused old new number (Count what worker child by times) fault why same = ((refl, why), same)
act_refused old new number Go fault why same = absurd why
act_refused old new number Scrape fault why same = absurd why
act_refused old new number Settle fault why same = absurd why
act_refused old new number (Window size) fault why same = absurd why
