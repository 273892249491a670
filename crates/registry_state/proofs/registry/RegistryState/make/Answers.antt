use Rattle.std.proofs.Common.{◌≡◌, ◌++◌, ◌∷◌, [], ℕ, ◌<◌, ◌≤◌, List, slice_get, IsSomeAnd, length, ap, sym, subst, ◌∙◌}
use Rattle.metric_desc.specs.Desc.{Descriptor}
use Rattle.metric_desc.specs.declared.kind.Kind.{Kind}
use Rattle.register_rule.specs.Members.{newest}
use Rattle.registry_state.specs.Journal.{Changed, ChildMade, scrapes}
use Rattle.registry_state.specs.Replay.{Child, Family, with_child, slots}
use Rattle.registry_state.specs.Kept.{RegistryView}
use Rattle.registry_state.specs.Held.{used_of}
use Rattle.registry_state.specs.Faults.{IsChildFault, IsMissingChild}
use Rattle.registry_state.specs.Calls.{IsHandle, WasMade}
use Rattle.registry_state.specs.declared.fault.ChildFault.TheVariants.{Full, NoMemory}
use Rattle.registry_state.proofs.Inside.{is_inside}
use Rattle.registry_state.proofs.Making.{some_within, on_err, seen_still, only_memory, is_full, is_no_memory, was_made}
use Rattle.registry_state.proofs.Making.{held_still, held_more}
use Rattle.registry_state.proofs.registry.RegistryState.make.Goals as goal

pub returns-then-slot-slots-clause-fault : goal.returns-then-slot-slots-clause-fault
returns-then-slot-slots-clause-fault g c =
    let used : Kind → ℕ = used_of c.self.inside.used.counters c.self.inside.used.hists c.self.inside.used.gauges in
    let seen : c.self.inside.families.items ≡ c.args.self.now.state.families =
    ap (λ (r : RegistryView g.row.S.Denot). r.state.families) c.self.view_is in
    let some : IsSomeAnd (slice_get c.self.inside.families.items c.args.number) (λ
    (it : Family). IsMissingChild it c.args.values.now) =
    subst (λ (l : List Family). IsSomeAnd (slice_get l c.args.number) (λ (it : Family). IsMissingChild it c.args.values.now))
    (sym seen) c.requires.wanted in
    let kind : c.kind-kind.result ≡ c.index.result.now.desc.kind =
    c.kind-kind.ensures ∙ ap (λ (d : Descriptor). d.kind)
    (c.deref.ensures ∙ ap (λ (family : Family). family.desc) c.behind-self.view_is) in
    let full : slots g.row.C g.row.H g.row.G c.kind-kind.result ≤ used c.kind-kind.result =
    subst (λ n. n ≤ used c.kind-kind.result) c.slots_of-slots.ensures
    (subst (λ n. c.slots_of-slots.result ≤ n) c.of-slot.ensures c.if-slot-slots.true) in
    subst (λ (l : List Family). IsChildFault g.row.C g.row.H g.row.G l c.args.number c.args.values.now
    (Full c.kind-kind.result c.slots_of-slots.result)) seen (
      c.slots_of-slots.ensures,
      is_full g.row.C g.row.H g.row.G c.self.inside.families.items used c.self.invariant.held c.args.number c.args.values.now
          c.index.result.now c.kind-kind.result some c.index.ensures kind full,
    )

pub returns-in_err-child-clause-fault : goal.returns-in_err-child-clause-fault
returns-in_err-child-clause-fault g c =
    let used : Kind → ℕ = used_of c.self.inside.used.counters c.self.inside.used.hists c.self.inside.used.gauges in
    let seen : c.self.inside.families.items ≡ c.args.self.now.state.families =
    ap (λ (r : RegistryView g.row.S.Denot). r.state.families) c.self.view_is in
    let some : IsSomeAnd (slice_get c.self.inside.families.items c.args.number) (λ
    (it : Family). IsMissingChild it c.args.values.now) =
    subst (λ (l : List Family). IsSomeAnd (slice_get l c.args.number) (λ (it : Family). IsMissingChild it c.args.values.now))
    (sym seen) c.requires.wanted in
    let kind : c.kind-kind.result ≡ c.index.result.now.desc.kind =
    c.kind-kind.ensures ∙ ap (λ (d : Descriptor). d.kind)
    (c.deref.ensures ∙ ap (λ (family : Family). family.desc) c.behind-self.view_is) in
    let room : used c.kind-kind.result < slots g.row.C g.row.H g.row.G c.kind-kind.result =
    subst (λ n. used c.kind-kind.result < n) c.slots_of-slots.ensures
    (subst (λ n. n < c.slots_of-slots.result) c.of-slot.ensures c.if-slot-slots.false) in
    only_memory (IsChildFault g.row.C g.row.H g.row.G c.args.self.now.state.families c.args.number c.args.values.now)
    c.from_residual.result c.from_residual.ensures.1
    (subst (λ (l : List Family). IsChildFault g.row.C g.row.H g.row.G l c.args.number c.args.values.now NoMemory) seen
    (is_no_memory g.row.C g.row.H g.row.G c.self.inside.families.items used c.self.invariant.held c.args.number c.args.values.now
    c.index.result.now c.kind-kind.result some c.index.ensures kind room))

pub invariant_of-self : goal.invariant_of-self
invariant_of-self g c =
    let same = c.in_err-put_noted.ensures.unchanged in
    held_still _ _ _ _ _ _ _ _ _ _ c.self.invariant _ _ same.0 same.1

pub returns-in_err-put_noted-clause-fault : goal.returns-in_err-put_noted-clause-fault
returns-in_err-put_noted-clause-fault g c =
    let used : Kind → ℕ = used_of c.self.inside.used.counters c.self.inside.used.hists c.self.inside.used.gauges in
    let seen : c.self.inside.families.items ≡ c.args.self.now.state.families =
    ap (λ (r : RegistryView g.row.S.Denot). r.state.families) c.self.view_is in
    let some : IsSomeAnd (slice_get c.self.inside.families.items c.args.number) (λ
    (it : Family). IsMissingChild it c.args.values.now) =
    subst (λ (l : List Family). IsSomeAnd (slice_get l c.args.number) (λ (it : Family). IsMissingChild it c.args.values.now))
    (sym seen) c.requires.wanted in
    let kind : c.kind-kind.result ≡ c.index.result.now.desc.kind =
    c.kind-kind.ensures ∙ ap (λ (d : Descriptor). d.kind)
    (c.deref.ensures ∙ ap (λ (family : Family). family.desc) c.behind-self.view_is) in
    let room : used c.kind-kind.result < slots g.row.C g.row.H g.row.G c.kind-kind.result =
    subst (λ n. used c.kind-kind.result < n) c.slots_of-slots.ensures
    (subst (λ n. n < c.slots_of-slots.result) c.of-slot.ensures c.if-slot-slots.false) in
    only_memory (IsChildFault g.row.C g.row.H g.row.G c.args.self.now.state.families c.args.number c.args.values.now)
    c.from_residual-in_err-put_noted.result c.from_residual-in_err-put_noted.ensures.1
    (subst (λ (l : List Family). IsChildFault g.row.C g.row.H g.row.G l c.args.number c.args.values.now NoMemory) seen
    (is_no_memory g.row.C g.row.H g.row.G c.self.inside.families.items used c.self.invariant.held c.args.number c.args.values.now
    c.index.result.now c.kind-kind.result some c.index.ensures kind room))

pub invariant_of-self-2 : goal.invariant_of-self-2
invariant_of-self-2 g c =
    let used : Kind → ℕ = used_of c.self.inside.used.counters c.self.inside.used.hists c.self.inside.used.gauges in
    let seen : c.self.inside.families.items ≡ c.args.self.now.state.families =
    ap (λ (r : RegistryView g.row.S.Denot). r.state.families) c.self.view_is in
    let some : IsSomeAnd (slice_get c.self.inside.families.items c.args.number) (λ
    (it : Family). IsMissingChild it c.args.values.now) =
    subst (λ (l : List Family). IsSomeAnd (slice_get l c.args.number) (λ (it : Family). IsMissingChild it c.args.values.now))
    (sym seen) c.requires.wanted in
    let kind : c.kind-kind.result ≡ c.index.result.now.desc.kind =
    c.kind-kind.ensures ∙ ap (λ (d : Descriptor). d.kind)
    (c.deref.ensures ∙ ap (λ (family : Family). family.desc) c.behind-self.view_is) in
    let room : used c.kind-kind.result < slots g.row.C g.row.H g.row.G c.kind-kind.result =
    subst (λ n. used c.kind-kind.result < n) c.slots_of-slots.ensures
    (subst (λ n. n < c.slots_of-slots.result) c.of-slot.ensures c.if-slot-slots.false) in
    let child : c.in_ok-child.child ≡ record { values = c.args.values.now; slot = c.of-slot.result } = c.in_ok-child.ensures in
    let journal : c.put_noted.new.journal ≡ c.self.inside.journal ++ Changed
    (ChildMade c.args.number c.args.values.now c.of-slot.result) ∷ [] =
    c.in_ok-put_noted.ensures.noted
    ∙ ap (λ (made : Child). c.self.inside.journal ++ Changed (ChildMade c.args.number made.values made.slot) ∷ []) child in
    let families : c.put_noted.new.families.items ≡ with_child c.self.inside.families.items c.args.number
    (record { values = c.args.values.now; slot = c.of-slot.result }) =
    c.in_ok-put_noted.ensures.put ∙ ap (with_child c.self.inside.families.items c.args.number) child in
    held_more _ _ _ _ _ _ _ _ _ used c.self.invariant c.args.number c.args.values.now c.index.result.now c.kind-kind.result
    c.of-slot.result _ _ _
    some c.index.ensures kind room c.of-slot.ensures journal families c.with_one_more-self-inside.ensures

pub returns-clause-made : goal.returns-clause-made
returns-clause-made g c =
    let used : Kind → ℕ = used_of c.self.inside.used.counters c.self.inside.used.hists c.self.inside.used.gauges in
    let seen : c.self.inside.families.items ≡ c.args.self.now.state.families =
    ap (λ (r : RegistryView g.row.S.Denot). r.state.families) c.self.view_is in
    let some : IsSomeAnd (slice_get c.self.inside.families.items c.args.number) (λ
    (it : Family). IsMissingChild it c.args.values.now) =
    subst (λ (l : List Family). IsSomeAnd (slice_get l c.args.number) (λ (it : Family). IsMissingChild it c.args.values.now))
    (sym seen) c.requires.wanted in
    let kind : c.kind-kind.result ≡ c.index.result.now.desc.kind =
    c.kind-kind.ensures ∙ ap (λ (d : Descriptor). d.kind)
    (c.deref.ensures ∙ ap (λ (family : Family). family.desc) c.behind-self.view_is) in
    let room : used c.kind-kind.result < slots g.row.C g.row.H g.row.G c.kind-kind.result =
    subst (λ n. used c.kind-kind.result < n) c.slots_of-slots.ensures
    (subst (λ n. n < c.slots_of-slots.result) c.of-slot.ensures c.if-slot-slots.false) in
    let child : c.in_ok-child.child ≡ record { values = c.args.values.now; slot = c.of-slot.result } = c.in_ok-child.ensures in
    let journal : c.put_noted.new.journal ≡ c.self.inside.journal ++ Changed
    (ChildMade c.args.number c.args.values.now c.of-slot.result) ∷ [] =
    c.in_ok-put_noted.ensures.noted
    ∙ ap (λ (made : Child). c.self.inside.journal ++ Changed (ChildMade c.args.number made.values made.slot) ∷ []) child in
    let families : c.put_noted.new.families.items ≡ with_child c.self.inside.families.items c.args.number
    (record { values = c.args.values.now; slot = c.of-slot.result }) =
    c.in_ok-put_noted.ensures.put ∙ ap (with_child c.self.inside.families.items c.args.number) child in
    let desc : c.deref-2.result.now ≡ c.index.result.now.desc = c.deref-2.ensures
    ∙ ap (λ (family : Family). family.desc) c.behind-self.view_is in
    let handle : IsHandle c.self.inside.id c.index.result.now.desc c.of-slot.result c.of-handle.result =
    subst (λ (d : Descriptor). IsHandle c.self.inside.id d c.of-slot.result c.of-handle.result) desc c.of-handle.ensures in
    let now : RegistryView g.row.S.Denot = record {
      id = c.self.inside.id;
      window = c.self.inside.window;
      source = c.self.inside.source;
      journal = c.put_noted.new.journal;
      state = record { families = c.put_noted.new.families.items; last = newest (scrapes c.put_noted.new.journal) };
    } in
    subst (λ (old : RegistryView g.row.S.Denot). WasMade g.row.C g.row.H g.row.G old now c.args.number c.args.values.now
    c.of-handle.result) c.self.view_is
    (was_made g.row.C g.row.H g.row.G c.self.inside.families.items used c.self.invariant.held c.args.number c.args.values.now
    c.index.result.now c.kind-kind.result some c.index.ensures kind
    c.self.inside.id c.self.inside.window c.self.inside.source c.self.inside.journal _ _ c.of-slot.result c.of-handle.result room
    c.of-slot.ensures handle journal families)

pub returns-clause-inside : goal.returns-clause-inside
returns-clause-inside g c =
    let used : Kind → ℕ = used_of c.self.inside.used.counters c.self.inside.used.hists c.self.inside.used.gauges in
    let kind : c.kind-kind.result ≡ c.index.result.now.desc.kind =
    c.kind-kind.ensures ∙ ap (λ (d : Descriptor). d.kind)
    (c.deref.ensures ∙ ap (λ (family : Family). family.desc) c.behind-self.view_is) in
    let desc : c.deref-2.result.now ≡ c.index.result.now.desc = c.deref-2.ensures
    ∙ ap (λ (family : Family). family.desc) c.behind-self.view_is in
    let handle : IsHandle c.self.inside.id c.index.result.now.desc c.of-slot.result c.of-handle.result =
    subst (λ (d : Descriptor). IsHandle c.self.inside.id d c.of-slot.result c.of-handle.result) desc c.of-handle.ensures in
    let low : c.of-slot.result < slots g.row.C g.row.H g.row.G c.kind-kind.result =
    subst (λ n. c.of-slot.result < n) c.slots_of-slots.ensures c.if-slot-slots.false in
    is_inside g.row.C g.row.H g.row.G c.self.inside.id c.index.result.now.desc c.of-slot.result c.of-handle.result handle
    (subst (λ (k : Kind). c.of-slot.result < slots g.row.C g.row.H g.row.G k) kind low)

pub index-requires : goal.index-requires
index-requires g c =
    let seen : c.args.self.now.state.families ≡ c.self.inside.families.items =
    sym (ap (λ (r : RegistryView g.row.S.Denot). r.state.families) c.self.view_is) in
    let lt : c.args.number < length c.self.inside.families.items =
    subst (λ (l : List Family). c.args.number < length l) seen
    (some_within (λ (it : Family). IsMissingChild it c.args.values.now) c.args.self.now.state.families c.args.number
    c.requires.wanted) in
    subst (λ n. c.args.number < n) (sym c.self.inside.families.ok.0) lt

pub returns-in_err-put_noted-clause-unchanged : goal.returns-in_err-put_noted-clause-unchanged
returns-in_err-put_noted-clause-unchanged g c =
    let same = c.in_err-put_noted.ensures.unchanged in
    on_err _ _
    (seen_still c.self.inside.id c.self.inside.window c.self.inside.source _ _ _ _ same.0 same.1 ∙ c.self.view_is)
