use Rattle.std.proofs.Common.{rules, ◌≡◌, ◌<◌, List, length, ap, subst, ◌∙◌}
use Rattle.registry_state.specs.Replay.{Family, IsApart}
use Rattle.registry_state.specs.Faults.{IsRegisterFault}
use Rattle.registry_state.specs.Kept.{RegistryView}
use Rattle.registry_state.proofs.registry.RegistryState.register.Goals as goal

pub add-requires : goal.add-requires
add-requires g c =
    let families : c.deref.result.now ≡ c.args.self.now.state.families = c.deref.ensures.value
    ∙ ap (λ (r : RegistryView g.row.S.Denot). r.state.families) c.self.view_is in
    (search rules, subst (λ (l : List Family). (length l < 128) × IsApart l c.args.desc) families c.in_default.ensures.ok)

pub returns-in-Ok-clause-accepted : goal.returns-in-Ok-clause-accepted
returns-in-Ok-clause-accepted g c =
    let families : c.deref.result.now ≡ c.args.self.now.state.families = c.deref.ensures.value
    ∙ ap (λ (r : RegistryView g.row.S.Denot). r.state.families) c.self.view_is in
    subst (λ (l : List Family). (length l < 128) × IsApart l c.args.desc) families c.in_default.ensures.ok

pub returns-in-Err-add-clause-fault : goal.returns-in-Err-add-clause-fault
returns-in-Err-add-clause-fault g c =
    let families : c.deref.result.now ≡ c.args.self.now.state.families = c.deref.ensures.value
    ∙ ap (λ (r : RegistryView g.row.S.Denot). r.state.families) c.self.view_is in
    let here : (length c.args.self.now.state.families < 128) × IsApart c.args.self.now.state.families c.args.desc =
    subst (λ (l : List Family). (length l < 128) × IsApart l c.args.desc) families c.in_default.ensures.ok in
    (here.1, here.0)

pub returns-in-Err-clause-fault : goal.returns-in-Err-clause-fault
returns-in-Err-clause-fault g c =
    let families : c.deref.result.now ≡ c.args.self.now.state.families = c.deref.ensures.value
    ∙ ap (λ (r : RegistryView g.row.S.Denot). r.state.families) c.self.view_is in
    subst (λ (l : List Family). IsRegisterFault l c.args.desc c.in-Err.fault) families c.in-Err.ensures.fault
