use Rattle.std.proofs.Common.{◌≡◌, ◌-◌, List, ℕ, ap, subst, arith}
use Rattle.metric_desc.specs.declared.kind.Kind.{Kind}
use Rattle.registry_state.specs.Replay.{Family, slots}
use Rattle.registry_state.specs.Faults.{AreFree}
use Rattle.registry_state.specs.Held.{used_of}
use Rattle.registry_state.specs.Kept.{RegistryView}
use Rattle.registry_state.proofs.Holding.{are_free}
use Rattle.registry_state.proofs.registry.RegistryState.free_slots.Goals as goal

pub overflow_sub-result : goal.overflow_sub-result
overflow_sub-result g c =
    let room = c.self.invariant.held.room c.args.kind in
    let all = c.slots_of.ensures in
    let used = c.of.ensures in
    omega (arith, room, all, used)

pub returns : goal.returns
returns g c =
    let used : Kind → ℕ = used_of c.self.inside.used.counters c.self.inside.used.hists c.self.inside.used.gauges in
    let C = g.row.C in let H = g.row.H in let G = g.row.G in
    let kind : Kind = c.args.kind in
    let families : List Family = c.self.inside.families.items in
    let all : c.slots_of.result ≡ slots C H G kind = c.slots_of.ensures in
    let taken : c.of.result ≡ used kind = c.of.ensures in
    subst (λ (l : List Family). AreFree C H G l kind (c.slots_of.result - c.of.result))
    (ap (λ (r : RegistryView g.row.S.Denot). r.state.families) c.self.view_is)
    (are_free C H G families used kind (c.slots_of.result - c.of.result) c.self.invariant.held
    (let room = c.self.invariant.held.room kind in omega (arith, room, all, taken)))
