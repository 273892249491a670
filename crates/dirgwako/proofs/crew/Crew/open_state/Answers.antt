use Rattle.std.proofs.Common.{◌++◌, ◌∷◌, [], map, All, ap, subst, sym, ◌∙◌}
use Rattle.snapshot_scan.specs.Scanners.{reader_in}
use Rattle.dirgwako.specs.Crews.{recorders_in, scanners_in}
use Rattle.dirgwako.specs.Opening.{IsNewOn}
use Rattle.dirgwako.specs.Recorders.{IsOn}
use Rattle.dirgwako.specs.Scanning.{ScansOn}
use Rattle.dirgwako.proofs.Wrapping.{if_ok_from}
use Rattle.dirgwako.proofs.crew.Crew.open_state.Goals as goal

pub returns-in-Ok-clause-registry : goal.returns-in-Ok-clause-registry
returns-in-Ok-clause-registry g c =
    if_ok_from c.hand_out.result (λ o made. subst (λ b. IsNewOn b c.args.window o.0) c.in-Ok.ensures.taken.board made.registry)
    c.hand_out.ensures.made

pub returns-in-Ok-clause-boards : goal.returns-in-Ok-clause-boards
returns-in-Ok-clause-boards g c =
    if_ok_from c.hand_out.result (λ o made. subst (λ b. All (IsOn b) (recorders_in o)) c.in-Ok.ensures.taken.board made.boards)
    c.hand_out.ensures.made

pub returns-in-Ok-clause-scanners : goal.returns-in-Ok-clause-scanners
returns-in-Ok-clause-scanners g c =
    if_ok_from c.hand_out.result
    (λ o made. subst (λ b. All (ScansOn b) (scanners_in o)) c.in-Ok.ensures.taken.board made.scanners)
    c.hand_out.ensures.made

pub returns-in-Ok-clause-readers : goal.returns-in-Ok-clause-readers
returns-in-Ok-clause-readers g c =
    if_ok_from c.hand_out.result (λ o made.
    c.in-Ok.ensures.taken.readers ∙ (ap (λ readers. readers ++ c.in-Ok.taken.last ∷ []) (sym made.readers)
    ∙ ap (λ last. map reader_in (scanners_in o) ++ last ∷ []) (sym made.last)))
    c.hand_out.ensures.made

pub returns-in-Ok-clause-workers : goal.returns-in-Ok-clause-workers
returns-in-Ok-clause-workers g c =
    if_ok_from c.hand_out.result (λ o made. made.workers ∙ c.in-Ok.ensures.taken.workers) c.hand_out.ensures.made
