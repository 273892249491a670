use Rattle.std.proofs.Common.{◌≡◌, ◌+◌, ◌-◌, ◌*◌, ◌<◌, ◌≤◌, true, false, length, take}
use Rattle.std.specs.Prelude.{if◌then◌else◌}
use Rattle.std.specs.Io.KnownBytes.{Appends}
use Rattle.expo_text.proofs.sending.send_piece.Given as goal

-- what the writer took so far
abbrev pub invariant-loop-done : goal.invariant-loop-done
invariant-loop-done g l =
    (l.done ≤ length l.piece) × Appends (g.W.Write.contents l.fn.out.inner) (g.W.Write.contents l.out.inner) (take l.done l.piece)
    × (l.out.failed ≡ false → l.fn.out.failed ≡ false)
    × (l.out.failed ≡ true → l.fn.out.failed ≡ false → l.done < length l.piece)
    × (l.fn.out.failed ≡ true → (l.done ≡ 0) × (l.out.failed ≡ true)) × (l.out.ended ≡ l.fn.out.ended)

-- each turn takes a byte or more, or the writer fails
abbrev pub decreases-loop-done : goal.decreases-loop-done
decreases-loop-done g l = 2 * (length l.piece - l.done) + (if l.out.failed then 0 else 1)
