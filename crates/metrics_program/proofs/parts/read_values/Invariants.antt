use Rattle.std.proofs.Common.{ℕ, List, Bor, All, map, take}
use Rattle.script_lines.specs.Language.{AreValues}
use Rattle.metrics_program.specs.Parts.{AreWritten, IsGoodValue}
use Rattle.metrics_program.proofs.parts.read_values.Given as goal

-- the values so far are written by the words so far, and all are good
abbrev pub invariant-loop-word : goal.invariant-loop-word
invariant-loop-word l =
    AreValues l.values (map (λ (word : Bor (List ℕ)). word.now) l.word-items)
    × AreWritten l.read.items (map (λ (word : Bor (List ℕ)). word.now) (take l.word-index l.word-items))
    × All IsGoodValue (map (λ (word : Bor (List ℕ)). word.now) (take l.word-index l.word-items))
