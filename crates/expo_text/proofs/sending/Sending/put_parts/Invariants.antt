use Rattle.std.proofs.Common.{◌≡◌, ◌-◌, ◌≤◌, length, take}
use Rattle.expo_text.specs.Sends.{Sends, sender_of}
use Rattle.expo_text.proofs.sending.Sending.put_parts.Given as goal

-- the bytes so far
abbrev pub invariant-loop-at : goal.invariant-loop-at
invariant-loop-at g l =
    (l.at ≤ length l.bytes) × (l.self.out.ghost_name ≡ l.fn.self.out.ghost_name)
    × Sends (sender_of g.W.Write.contents l.fn.self.out.now l.fn.self.waiting l.fn.self.sent)
    (sender_of g.W.Write.contents l.self.out.now l.self.waiting l.self.sent) (take l.at l.bytes)

abbrev pub decreases-loop-at : goal.decreases-loop-at
decreases-loop-at g l = length l.bytes - l.at
