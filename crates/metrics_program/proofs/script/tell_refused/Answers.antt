use Rattle.std.proofs.Common.{◌≡◌, ◌++◌, ℕ, List, codes, decimal, subst, sym, ◌∙◌, append_assoc}
use Rattle.std.specs.Io.KnownBytes.{Appends}
use Rattle.std.proofs.KnownBytes.{Appends-trans}
use Rattle.metrics_program.specs.Printed.{Begins}
use Rattle.metrics_program.proofs.Printing.{begun_after, begun_before}
use Rattle.metrics_program.specs.LineFault.{number_of}
use Rattle.metrics_program.specs.ScriptLines.{refused_line}
use Rattle.metrics_program.proofs.Pushed.{on_err_end}
use Rattle.metrics_program.proofs.script.tell_refused.Goals as goal

abbrev first : ℕ → List ℕ
first line = codes "refused " ++ decimal line ++ codes " "

abbrev second : ℕ → List ℕ
second number = decimal number ++ codes "\n"

parted : (line number : ℕ) → first line ++ second number ≡ refused_line line number
parted line number = sym (append_assoc (first line) (decimal number) (codes "\n"))

pub returns-in_err-tell_number-clause-front : goal.returns-in_err-tell_number-clause-front
returns-in_err-tell_number-clause-front g c =
    let refused = c.args.refused in
    let number = number_of refused.fault in
    on_err_end _ _ (subst (Begins _ _) (parted refused.line number)
    (begun_before _ _ (first refused.line) (second number) c.in_err-tell_number.ensures.front))

pub returns-in_err-tell_number-2-clause-front : goal.returns-in_err-tell_number-2-clause-front
returns-in_err-tell_number-2-clause-front g c =
    let refused = c.args.refused in
    let number = number_of refused.fault in
    let before = g.W.Write.contents c.args.writer.now in
    let middle = g.W.Write.contents c.tell_number.new.writer in
    let after = g.W.Write.contents c.tell_number-2.new.writer in
    let begins = subst (λ (n : ℕ). Begins middle after (second n)) (c.from.ensures ∙ c.number-number.ensures)
    c.in_err-tell_number-2.ensures.front in
    on_err_end _ _ (subst (Begins before after) (parted refused.line number)
    (begun_after before middle after (first refused.line) (second number) c.in_ok-tell_number.ensures.told begins))

pub returns-clause-told : goal.returns-clause-told
returns-clause-told g c =
    let refused = c.args.refused in
    let number = number_of refused.fault in
    let before = g.W.Write.contents c.args.writer.now in
    let middle = g.W.Write.contents c.tell_number.new.writer in
    let after = g.W.Write.contents c.tell_number-2.new.writer in
    let told = subst (λ (n : ℕ). Appends middle after (second n)) (c.from.ensures ∙ c.number-number.ensures)
    c.in_ok-tell_number-2.ensures.told in
    subst (Appends before after) (parted refused.line number)
    (Appends-trans before middle after (first refused.line) (second number) c.in_ok-tell_number.ensures.told told)
