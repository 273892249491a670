use Rattle.std.proofs.Common.{cond, Some, None}
use Rattle.script_lines.specs.Reading.{word_in}
use Rattle.script_lines.specs.declared.line.Counting.TheVariants.{Inc, Obs, Up, Down}
use Rattle.script_lines.specs.declared.word.Word.TheVariants.{Counter, Gauge, Histogram, Child, Window, Count}
use Rattle.script_lines.proofs.word.read_word.Goals as goal

pub returns-else-eq-9 : goal.returns-else-eq-9
unfolding word_in
returns-else-eq-9 c = λ z.
    cond (c.if-eq.ensures z) (Some Counter)
    (cond (c.if-eq-2.ensures z) (Some Gauge)
    (cond (c.if-eq-3.ensures z) (Some Histogram) (cond (c.if-eq-4.ensures z) (Some Child)
    (cond (c.if-eq-5.ensures z) (Some (Count Inc))
    (cond (c.if-eq-6.ensures z) (Some (Count Obs))
    (cond (c.if-eq-7.ensures z) (Some (Count Up)) (cond (c.if-eq-8.ensures z) (Some (Count Down))
    (cond (c.if-eq-9.ensures z) (Some Window) None))))))))
