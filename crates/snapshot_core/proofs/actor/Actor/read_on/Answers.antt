use Rattle.std.proofs.Common.{◌≡◌, ◌∙◌, ◌++◌, sym, ap, append-nil, [], ◌∷◌, List, Option, map}
use Rattle.std.specs.Prelude.{option_map}
use Rattle.std.proofs.lemmas.Result.{IfOk-from_err}
use Rattle.std.proofs.lemmas.List.{map-append}
use Rattle.snapshot_core.specs.declared.actor.Phase.{Phase}
use Rattle.snapshot_core.specs.declared.trace.ScanEnd.{ScanEnd}
use Rattle.snapshot_core.specs.Tries.{View}
use Rattle.snapshot_core.specs.Turns.{Answered, answered_of}
use Rattle.snapshot_core.specs.Machine.{Seg, Act, act_of, seg_of, lent_of, ended_of, end_by, finished, told, phase_after}
use Rattle.snapshot_core.proofs.actor.Actor.read_on.Goals as goal
use Rattle.snapshot_core.proofs.actor.Actor.read_on.Goals.{then-is_worker, else-is_worker}

pub returns-in_err-read-clause-actor : goal.returns-in_err-read-clause-actor
returns-in_err-read-clause-actor g c = IfOk-from_err c.from_residual.result _ c.from_residual.ensures.0

pub returns-in_err-read-clause-answers : goal.returns-in_err-read-clause-answers
returns-in_err-read-clause-answers g c = IfOk-from_err c.from_residual.result _ c.from_residual.ensures.0

pub returns-in_err-how-clause-actor : goal.returns-in_err-how-clause-actor
returns-in_err-how-clause-actor g c = IfOk-from_err c.from_residual-in_err-how.result _ c.from_residual-in_err-how.ensures.0

pub returns-in_err-how-clause-answers : goal.returns-in_err-how-clause-answers
returns-in_err-how-clause-answers g c = IfOk-from_err c.from_residual-in_err-how.result _ c.from_residual-in_err-how.ensures.0

pub returns-in_err-answer-clause-actor : goal.returns-in_err-answer-clause-actor
returns-in_err-answer-clause-actor g c = IfOk-from_err c.from_residual-in_err-answer.result _
    c.from_residual-in_err-answer.ensures.0

pub returns-in_err-answer-clause-answers : goal.returns-in_err-answer-clause-answers
returns-in_err-answer-clause-answers g c = IfOk-from_err c.from_residual-in_err-answer.result _
    c.from_residual-in_err-answer.ensures.0

pub returns-in_err-push-clause-actor : goal.returns-in_err-push-clause-actor
returns-in_err-push-clause-actor g c = IfOk-from_err c.from_residual-in_err-push.result _ c.from_residual-in_err-push.ensures.0

pub returns-in_err-push-clause-answers : goal.returns-in_err-push-clause-answers
returns-in_err-push-clause-answers g c = IfOk-from_err c.from_residual-in_err-push.result _ c.from_residual-in_err-push.ensures.0

pub returns-in_default-clause-actor : goal.returns-in_default-clause-actor
returns-in_default-clause-actor g c =
    let s : Seg = seg_of c.args.segment.now in
    let x : Act = act_of c.read.new.self in
    ap (finished c.args.is_worker x) (sym (ap (option_map ended_of) c.in_default.is) ∙ c.in_ok-how.ensures)
    ∙ ap (λ (y : Act). finished c.args.is_worker y (end_by s y y.scan.next)) c.in_ok-read.ensures

pub returns-in_default-clause-answers : goal.returns-in_default-clause-answers
returns-in_default-clause-answers g c =
    let s : Seg = seg_of c.args.segment.now in
    let x : Act = act_of c.read.new.self in
    let old : List Answered = map answered_of c.args.answers.now.items in
    sym (append-nil old) ∙ ap (λ (e : Option (ScanEnd × Option View)). old ++ told c.args.at c.args.who x e)
    (sym (ap (option_map ended_of) c.in_default.is) ∙ c.in_ok-how.ensures)
    ∙ ap (λ (y : Act). old ++ told c.args.at c.args.who y (end_by s y y.scan.next)) c.in_ok-read.ensures

pub returns-after-is_worker-clause-actor : goal.returns-after-is_worker-clause-actor
returns-after-is_worker-clause-actor g c =
    let s : Seg = seg_of c.args.segment.now in
    let x : Act = act_of c.read.new.self in
    let now : c.if-is_worker.self ≡ phase_after c.args.is_worker = elim c.if-is_worker.branch [
      | then-is_worker w ↦ w.self-is ∙ ap phase_after (sym w.if-is_worker.true)
      | else-is_worker w ↦ w.self-is ∙ ap phase_after (sym w.if-is_worker.false)
    ] in
    ap (λ (p : Phase). let y : Act = record x { phase = p; view = option_map lent_of c.in-Some.view } in y) now
    ∙ ap (finished c.args.is_worker x) (sym (ap (option_map ended_of) c.in-Some.is) ∙ c.in_ok-how.ensures)
    ∙ ap (λ (y : Act). finished c.args.is_worker y (end_by s y y.scan.next)) c.in_ok-read.ensures

pub returns-after-is_worker-clause-answers : goal.returns-after-is_worker-clause-answers
returns-after-is_worker-clause-answers g c =
    let s : Seg = seg_of c.args.segment.now in
    let x : Act = act_of c.read.new.self in
    let old : List Answered = map answered_of c.args.answers.now.items in
    ap (map answered_of) c.in_ok-push.ensures.items ∙ map-append answered_of c.args.answers.now.items _
    ∙ ap (λ (z : Answered). old ++ z ∷ []) c.in_ok-answer.ensures
    ∙ ap (λ (e : Option (ScanEnd × Option View)). old ++ told c.args.at c.args.who x e)
    (sym (ap (option_map ended_of) c.in-Some.is) ∙ c.in_ok-how.ensures)
    ∙ ap (λ (y : Act). old ++ told c.args.at c.args.who y (end_by s y y.scan.next)) c.in_ok-read.ensures
