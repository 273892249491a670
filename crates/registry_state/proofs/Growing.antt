-- What a registry keeps, where a family is added, and what contracts see of it.
use Rattle.std.proofs.Common.{◌≡◌, ℕ, List, [], ◌∷◌, ◌++◌, length, ap, sym, subst, ◌∙◌}
use Rattle.std.specs.List.{insert}
use Rattle.metric_desc.specs.Desc.{Descriptor}
use Rattle.metric_desc.specs.declared.kind.Kind.{Kind}
use Rattle.register_rule.specs.declared.view.Answer.{Answer}
use Rattle.segment_layout.specs.Layout.{IsGeometry}
use Rattle.registry_state.specs.Journal.{RegistryChange, Registered, Entry, Changed}
use Rattle.registry_state.specs.Replay.{Family, IsAcceptedChange, after, nothing}
use Rattle.registry_state.specs.Faults.{IsWindow}
use Rattle.registry_state.specs.Held.{IsPlaceOfName, used_of}
use Rattle.registry_state.specs.Kept.{RegistryView}
use Rattle.registry_state.specs.Calls.{changed}
use Rattle.registry_state.specs.Held.{IsHeld}
use Rattle.registry_state.proofs.Entries.{newest_change}
use Rattle.registry_state.proofs.Keeping.{view_of, keeps_at_change, kept_new}
use Rattle.registry_state.proofs.Holding.{held_registered, held_none}
use Rattle.registry_state.proofs.Ordered.{order_more, order_none}

-- a new registry
pub held_new : (n c h g : ℕ) (recorded : List Answer) (window : ℕ) (journal : List Entry) (families : List Family)
    (order : List ℕ)
    → IsGeometry n c h g → IsWindow window → journal ≡ [] → families ≡ [] → order ≡ []
    → IsHeld n c h g recorded journal window families order (used_of 0 0 0)
held_new n c h g recorded window journal families order geometry room none no_families no_order =
    subst (λ (j : List Entry). IsHeld n c h g recorded j window families order (used_of 0 0 0)) (sym none)
    (subst (λ (f : List Family). IsHeld n c h g recorded [] window f order (used_of 0 0 0)) (sym no_families)
    (subst (λ (o : List ℕ). IsHeld n c h g recorded [] window [] o (used_of 0 0 0)) (sym no_order)
    (record {
      geometry = geometry;
      kept = kept_new n c h g recorded window room;
      held = held_none c h g;
      ordered = order_none;
    })))

-- what contracts see of a new registry
pub seen_new : {S : Type 0} (id window : ℕ) (source : S) (journal : List Entry) (families : List Family)
    → journal ≡ [] → families ≡ []
    → ◌≡◌ {A = RegistryView S}
    (view_of id window source journal families)
    (record { id = id; window = window; source = source; journal = []; state = nothing })
seen_new {S} id window source journal families none no_families =
    let now : (j : List Entry) (f : List Family) → RegistryView S = view_of id window source in
    ap (λ j. now j families) none ∙ ap (now []) no_families

module _ (n c h g : ℕ) (recorded : List Answer) (journal : List Entry) (window : ℕ) (families : List Family) (order : List ℕ)
    (used : Kind → ℕ)
    (is : IsHeld n c h g recorded journal window families order used) where
  -- the same, in other words
  pub held_same : (journal' : List Entry) (families' : List Family) (order' : List ℕ) → journal' ≡ journal → families' ≡ families
      → order' ≡ order
      → IsHeld n c h g recorded journal' window families' order' used
  held_same journal' families' order' one two three =
      subst (λ (j : List Entry). IsHeld n c h g recorded j window families' order' used) (sym one)
      (subst (λ (f : List Family). IsHeld n c h g recorded journal window f order' used) (sym two)
      (subst (λ (o : List ℕ). IsHeld n c h g recorded journal window families o used) (sym three) is))

  -- a family more
  pub held_added : (desc : Descriptor) (place : ℕ) → IsAcceptedChange n c h g families (Registered desc)
      → IsPlaceOfName families order desc.name place
      → IsHeld n c h g recorded (journal ++ Changed (Registered desc) ∷ []) window
      (families ++ record { desc = desc; children = [] } ∷ [])
      (insert order place (length families)) used
  held_added desc place accepted at = record {
    geometry = is.geometry;
    kept = keeps_at_change n c h g recorded journal window families (Registered desc) is.kept accepted;
    held = held_registered c h g families used desc is.held accepted;
    ordered = order_more families order (record { desc = desc; children = [] }) place is.ordered at;
  }

  -- a family more, in other words
  pub held_more : (desc : Descriptor) (place : ℕ) (journal' : List Entry) (families' : List Family) (order' : List ℕ)
      → IsAcceptedChange n c h g families (Registered desc) → IsPlaceOfName families order desc.name place
      → journal' ≡ journal ++ Changed (Registered desc) ∷ [] → families' ≡ families ++ record { desc = desc; children = [] } ∷ []
      → order' ≡ insert order place (length families)
      → IsHeld n c h g recorded journal' window families' order' used
  held_more desc place journal' families' order' accepted at one two three =
      subst (λ (j : List Entry). IsHeld n c h g recorded j window families' order' used) (sym one)
      (subst (λ (f : List Family). IsHeld n c h g recorded (journal ++ Changed (Registered desc) ∷ []) window f order' used)
      (sym two)
      (subst (λ (o : List ℕ). IsHeld n c h g recorded (journal ++ Changed (Registered desc) ∷ []) window
      (families ++ record { desc = desc; children = [] } ∷ []) o used)
      (sym three) (held_added desc place accepted at)))

-- what contracts see of a registry after a change
pub seen_changed : {S : Type 0} (id window : ℕ) (source : S) (journal journal' : List Entry) (families families' : List Family)
    (change : RegistryChange)
    → journal' ≡ journal ++ Changed change ∷ [] → families' ≡ after families change
    → view_of id window source journal' families'
    ≡ changed change (view_of id window source journal families)
seen_changed {S} id window source journal journal' families families' change one two =
    let now : (j : List Entry) (f : List Family) → RegistryView S = view_of id window source in
    ap (λ j. now j families') one
    ∙ ap (now (journal ++ Changed change ∷ [])) two
    ∙ ap (λ last. record {
      id = id;
      window = window;
      source = source;
      journal = journal ++ Changed change ∷ [];
      state = record { families = after families change; last = last };
    }) (newest_change journal change)
