use Rattle.std.proofs.Common.{◌≡◌, ℕ, List, Bor, All, map, take}
use Rattle.metric_names.specs.LabelName.{IsLabelName}
use Rattle.script_lines.specs.Language.{AreLabels}
use Rattle.metrics_program.proofs.parts.read_labels.Given as goal

-- the names so far are the words so far, and all are good
abbrev pub invariant-loop-word : goal.invariant-loop-word
invariant-loop-word l =
    AreLabels l.labels (map (λ (word : Bor (List ℕ)). word.now) l.word-items)
    × (l.names.items ≡ map (λ (word : Bor (List ℕ)). word.now) (take l.word-index l.word-items))
    × All IsLabelName l.names.items
