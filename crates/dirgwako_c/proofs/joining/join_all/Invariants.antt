use Rattle.std.proofs.Common.{map}
use Rattle.dirgwako_c.proofs.Meeting.{AreMeeting}
use Rattle.dirgwako_c.proofs.joining.join_all.Given as goal

abbrev pub invariant-loop-place : goal.invariant-loop-place
invariant-loop-place g l = AreMeeting l.board l.place (map (λ b. b.value) l.fn.recorders) (map (λ b. b.value) l.recorders)
