use Rattle.std.proofs.Common.{◌≡◌, Result, Ok, Err, OnOk, OnErr, List, ℕ, sym, subst, rules}
use Rattle.std.specs.Prelude.{Option}
use Rattle.std.specs.Io.KnownBytes.{Appends, Keeps}
use Rattle.metrics_program.specs.Printed.{Begins}
use Rattle.metrics_program.specs.declared.sending.Broken.{Broken}
use Rattle.metrics_program.proofs.Printing.{begun_kept, begun_whole}
use Rattle.metrics_program.specs.LineFault.{number_of}
use Rattle.metrics_program.specs.ScriptLines.{refused_line}
use Rattle.metrics_program.specs.ScriptEnds.{Breaks}
use Rattle.metrics_program.specs.declared.script.ScriptEnd.{ScriptEnd}
use Rattle.metrics_program.specs.declared.script.Stop.TheVariants as stop
use Rattle.metrics_program.proofs.script.ended.Goals.{in-Ok, in-Err-Refused, in-Err-Broken}
use Rattle.metrics_program.proofs.script.ended.Goals as goal

begun_at_all : (a b : Option (List ℕ)) (xs : List ℕ) (r : Result ScriptEnd Broken) → OnOk r (Appends a b xs)
    → OnErr r (Begins a b xs) → Begins a b xs
begun_at_all a b xs (Ok end) told front = begun_whole a b xs told
begun_at_all a b xs (Err broken) told front = front

pub returns-in_default : goal.returns-in_default
returns-in_default g c =
    let before = g.W.Write.contents c.args.writer.now in
    let after = g.W.Write.contents c.flush.new.self in
    elim c.match-ran.branch [
      | in-Ok w ↦
          subst (λ ran. Breaks ran before after) (sym w.in-Ok.is)
          (subst (λ it. Keeps (g.W.Write.contents it) after) w.writer-is c.flush.ensures.bytes)
      | in-Err-Refused w ↦
          let refusal = w.in-Err-Refused.refused in
          let line = refused_line refusal.line (number_of refusal.fault) in
          let middle = g.W.Write.contents w.tell_refused-end.new.writer in
          let kept = subst (λ it. Keeps (g.W.Write.contents it) after) w.writer-is c.flush.ensures.bytes in
          let is : c.args.ran ≡ Err (stop.Refused refusal) = search rules in
          subst (λ ran. Breaks ran before after) (sym is)
          (begun_kept before middle after line
          (begun_at_all before middle line w.tell_refused-end.result w.tell_refused-end.ensures.told
          w.tell_refused-end.ensures.front) kept)
      | in-Err-Broken w ↦
          let is : c.args.ran ≡ Err stop.Broken = search rules in
          subst (λ ran. Breaks ran before after) (sym is)
          (subst (λ it. Keeps (g.W.Write.contents it) after) w.writer-is c.flush.ensures.bytes)
    ]
