-- Lists of publishes and of answers are what the events come to where they are those that a run of the events made.
use Rattle.std.proofs.Common.{◌≡◌, ℕ, Bool, List, sym, subst}
use Rattle.std.specs.Bool.{Decides}
use Rattle.snapshot_core.specs.declared.event.Event.{Event}
use Rattle.snapshot_core.specs.History.{Published}
use Rattle.snapshot_core.specs.Turns.{Answered}
use Rattle.snapshot_core.specs.Faithful.{IsOutcome}
use Rattle.snapshot_core.proofs.OneTrace.{one_trace}

-- `qs` and `ys` are what the events come to, and `same` tells whether `ps` and `zs` are these
pub decided : (n c h g : ℕ) (es : List Event) (ps qs : List Published) (zs ys : List Answered) (same : Bool)
    → IsOutcome n c h g es qs ys
    → Decides same ((ps ≡ qs) × (zs ≡ ys)) → Decides same (IsOutcome n c h g es ps zs)
decided n c h g es ps qs zs ys same came d = (
  λ is. subst (λ (l : List Answered). IsOutcome n c h g es ps l) (sym (d.0 is).1)
      (subst (λ (l : List Published). IsOutcome n c h g es l ys) (sym (d.0 is).0) came),
  λ out. d.1 (one_trace n c h g es ps qs zs ys out came),
)
