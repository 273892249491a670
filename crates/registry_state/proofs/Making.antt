-- What a registry keeps, where a child is made, and what contracts see of it.
use Rattle.std.proofs.Common.{◌≡◌, ℕ, zero, suc, ◌<◌, ◌≤◌, List, [], ◌∷◌, ◌++◌, Some, length, get_or, set, Contains, ap, sym}
use Rattle.std.proofs.Common.{refl, subst, ◌∙◌, arith}
use Rattle.std.specs.Prelude.{slice_get, IsSomeAnd, Option, Result, Ok, Err, IfErr, OnErr, IsErrAnd}
use Rattle.std.proofs.lemmas.List.{get_or_default}
use Rattle.std.proofs.lemmas.Option.{slice_get_read}
use Rattle.metric_desc.specs.Desc.{Descriptor}
use Rattle.metric_desc.specs.declared.kind.Kind.{Kind}
use Rattle.register_rule.specs.declared.view.Answer.{Answer}
use Rattle.registry_state.specs.Journal.{ChildMade, Entry, Changed}
use Rattle.registry_state.specs.Replay.{Child, Family, MayMake, put, with_child, slots}
use Rattle.registry_state.specs.Kept.{RegistryView}
use Rattle.registry_state.specs.Held.{AreHeld, IsOneMore}
use Rattle.registry_state.specs.Held.{IsHeld}
use Rattle.registry_state.specs.Faults.{HasSlot, IsMissingChild, IsChildFault}
use Rattle.registry_state.specs.Calls.{IsLeastFree, IsHandle, WasMade}
use Rattle.registry_state.specs.declared.handle.Handle.{Handle}
use Rattle.registry_state.specs.declared.fault.ChildFault.{ChildFault}
use Rattle.registry_state.specs.declared.fault.ChildFault.TheVariants.{NoMemory}
use Rattle.registry_state.proofs.Entries.{newest_change}
use Rattle.registry_state.proofs.Keeping.{view_of, keeps_at_change}
use Rattle.registry_state.proofs.Ordered.{order_made}
use Rattle.registry_state.proofs.Holding.{grown, held_made, least_free, none_free}

-- what holds of an element holds of what the list has at its number, and the other way round
pub some_at : {X : Type 0} (P : X → Type 0) (xs : List X) (i : ℕ) (x : X) → slice_get xs i ≡ Some x → P x
    → IsSomeAnd (slice_get xs i) P
some_at P xs i x is here = subst (λ o. IsSomeAnd o P) (sym is) here

pub at_some : {X : Type 0} (P : X → Type 0) (xs : List X) (i : ℕ) (x : X) → slice_get xs i ≡ Some x → IsSomeAnd (slice_get xs i) P
    → P x
at_some P xs i x is here = subst (λ o. IsSomeAnd o P) is here

pub some_is : {X : Type 0} (P : X → Type 0) (o : Option X) (x : X) → o ≡ Some x → P x → IsSomeAnd o P
some_is P o x is here = subst (λ q. IsSomeAnd q P) (sym is) here

-- there are more than its number
pub some_within : {X : Type 0} (P : X → Type 0) (xs : List X) (i : ℕ) → IsSomeAnd (slice_get xs i) P → i < length xs
some_within P [] i some = absurd some
some_within P (x ∷ xs) zero some = omega arith
some_within P (x ∷ xs) (suc i) some = let lt : i < length xs = some_within P xs i some in omega (arith, lt)

-- an element that was read where there is one
pub there_at : {X : Type 0} (P : X → Type 0) (xs : List X) (i : ℕ) (x : X) → IsSomeAnd (slice_get xs i) P → x ≡ get_or xs i x
    → slice_get xs i ≡ Some x
there_at P [] i x some is = absurd some
there_at P (y ∷ xs) zero x some is = ap Some (sym is)
there_at P (y ∷ xs) (suc i) x some is = there_at P xs i x some is

-- the family that grows is the one of this number
with_child_is : (families : List Family) (number : ℕ) (child : Child) (it : Family) → slice_get families number ≡ Some it
    → with_child families number child ≡ set families number (grown child it)
with_child_is [] number child it is = absurd (cc)
with_child_is (family ∷ families) zero child it is = let same : family ≡ it = cc in ap (λ f. grown child f ∷ families) same
with_child_is (family ∷ families) (suc number) child it is = ap (λ rest. family ∷ rest)
    (with_child_is families number child it is)

pub with_child_at : (families : List Family) (number : ℕ) (child : Child) (it : Family) (desc : Descriptor)
    (children : List Child)
    → slice_get families number ≡ Some it → desc ≡ it.desc → children ≡ put child it.children
    → set families number (record { desc = desc; children = children }) ≡ with_child families number child
with_child_at families number child it desc children there same new =
    ap (λ d. set families number (record { desc = d; children = children })) same
    ∙ ap (λ cs. set families number (record { desc = it.desc; children = cs })) new
    ∙ sym (with_child_is families number child it there)

-- a family that is written back as it was
set_same : (families : List Family) (number : ℕ) (it : Family) → slice_get families number ≡ Some it
    → set families number it ≡ families
set_same [] number it is = absurd (cc)
set_same (family ∷ families) zero it is = let same : it ≡ family = cc in ap (λ f. f ∷ families) same
set_same (family ∷ families) (suc number) it is = ap (λ rest. family ∷ rest) (set_same families number it is)

pub still_at : (families : List Family) (number : ℕ) (it : Family) (desc : Descriptor) (children : List Child)
    → slice_get families number ≡ Some it → desc ≡ it.desc → children ≡ it.children
    → set families number (record { desc = desc; children = children }) ≡ families
still_at families number it desc children there same still =
    ap (λ d. set families number (record { desc = d; children = children })) same
    ∙ ap (λ cs. set families number (record { desc = it.desc; children = cs })) still
    ∙ set_same families number it there

-- what was read of a list at a place is there, in the same list
pub read_at : {X : Type 0} (read xs : List X) (i : ℕ) (x : X) → read ≡ xs → i < length read → x ≡ get_or read i x
    → slice_get xs i ≡ Some x
read_at {X} read xs i x same lt is =
    subst (λ (l : List X). slice_get l i ≡ Some x) same (slice_get_read read (length read) i x refl lt is)

-- a child of these values that was found at this place
pub found_child : (children : List Child) (place : ℕ) (child : Child) (values : List (List ℕ)) (slot : ℕ)
    → place < length children
    → child ≡ get_or children place child → ((d : Child) → (get_or children place d).values ≡ values) → slot ≡ child.slot
    → Contains children (record { values = values; slot = slot })
found_child children place child values slot lt read found same =
    let wanted : Child = record { values = values; slot = slot } in
    let e : child.values ≡ values = ap (λ (c : Child). c.values) read ∙ found child in
    let is : child ≡ wanted = ap (λ v. record { values = v; slot = child.slot }) e
    ∙ ap (λ s. record { values = values; slot = s }) (sym same) in
    (place, lt, get_or_default children place wanted child lt ∙ sym read ∙ is)

-- a refusal for want of memory, whatever it is made from
pub only_memory : {T : Type 0} (P : ChildFault → Type 0) (r : Result T ChildFault) → IsErrAnd r (λ fault. fault ≡ NoMemory)
    → P NoMemory → IfErr r P
only_memory P (Ok x) is here = tt
only_memory P (Err fault) is here = subst P (sym is) here

-- what holds after each refusal
pub on_err : {T E : Type 0} (r : Result T E) (P : Type 0) → P → OnErr r P
on_err (Ok x) P here = tt
on_err (Err fault) P here = here

pub on_err_both : {T E : Type 0} (r : Result T E) (P Q : Type 0) → P → Q → OnErr r (P × Q)
on_err_both r P Q one two = on_err r (P × Q) (one, two)

-- what contracts see of a registry in which nothing has changed
pub seen_still : {S : Type 0} (id window : ℕ) (source : S) (journal journal' : List Entry) (families families' : List Family)
    → journal' ≡ journal → families' ≡ families
    → ◌≡◌ {A = RegistryView S}
    (view_of id window source journal' families')
    (view_of id window source journal families)
seen_still {S} id window source journal journal' families families' one two =
    let now : (j : List Entry) (f : List Family) → RegistryView S = view_of id window source in
    ap (λ j. now j families') one ∙ ap (now journal) two

-- a family of which a child is wanted, and the slot that would count for it
module _ (c h g : ℕ) (families : List Family) (used : Kind → ℕ) (held : AreHeld c h g families used)
    (number : ℕ) (values : List (List ℕ)) (it : Family) (kind : Kind)
    (some : IsSomeAnd (slice_get families number) (λ (family : Family). IsMissingChild family values))
    (read : it ≡ get_or families number it) (same : kind ≡ it.desc.kind) where
  there : slice_get families number ≡ Some it
  there = there_at (λ (family : Family). IsMissingChild family values) families number it some read

  wanted : IsMissingChild it values
  wanted = at_some (λ (family : Family). IsMissingChild family values) families number it there some

  -- every slot of its kind is used
  pub is_full : slots c h g kind ≤ used kind → IsSomeAnd (slice_get families number)
      (λ (family : Family). IsMissingChild family values × (kind ≡ family.desc.kind) × (¬ (HasSlot c h g families kind)))
  is_full full =
      some_at (λ (family : Family). IsMissingChild family values × (kind ≡ family.desc.kind) × (¬ (HasSlot c h g families kind)))
      families number it there
      (wanted, same, none_free c h g families used kind held full)

  -- there is one, and no memory
  pub is_no_memory : used kind < slots c h g kind → IsChildFault c h g families number values NoMemory
  is_no_memory room =
      some_at (λ (family : Family). IsMissingChild family values
      × HasSlot c h g families family.desc.kind) families number it there
      (wanted, subst (HasSlot c h g families) same (used kind, room, (least_free c h g families used kind held).free))

  pub may_make : used kind < slots c h g kind → MayMake c h g families values (used it.desc.kind) it
  may_make room = record {
    fit = wanted.0;
    apart = wanted.1;
    within = subst (λ k. used k < slots c h g k) same room;
    free = (least_free c h g families used it.desc.kind held).free;
  }

  -- what contracts see of a registry in which it is made
  pub was_made : {S : Type 0} (id window : ℕ) (source : S) (journal journal' : List Entry) (families' : List Family) (slot : ℕ)
      (handle : Handle)
      → used kind < slots c h g kind → slot ≡ used kind → IsHandle id it.desc slot handle
      → journal' ≡ journal ++ Changed (ChildMade number values slot) ∷ []
      → families' ≡ with_child families number (record { values = values; slot = slot })
      → WasMade c h g
      (view_of id window source journal families)
      (view_of id window source journal' families')
      number values handle
  was_made {S} id window source journal journal' families' slot handle room at is noted new =
      let used_at : used it.desc.kind ≡ slot = ap used (sym same) ∙ sym at in
      let now : (j : List Entry) (f : List Family) → RegistryView S = view_of id window source in
      record {
        slot = slot;
        made = some_at (λ (family : Family). MayMake c h g families values slot family
            × IsLeastFree families family.desc.kind slot × IsHandle id family.desc slot handle)
            families number it there (
              subst (λ s. MayMake c h g families values s it) used_at (may_make room),
              subst (IsLeastFree families it.desc.kind) used_at (least_free c h g families used it.desc.kind held),
              is,
            );
        after_it = ap (λ j. now j families') noted
            ∙ ap (now (journal ++ Changed (ChildMade number values slot) ∷ [])) new
            ∙ ap (λ last. record {
              id = id;
              window = window;
              source = source;
              journal = journal ++ Changed (ChildMade number values slot) ∷ [];
              state = record { families = with_child families number (record { values = values; slot = slot }); last = last };
            }) (newest_change journal (ChildMade number values slot));
      }

module _ (n c h g : ℕ) (recorded : List Answer) (journal : List Entry) (window : ℕ) (families : List Family) (order : List ℕ)
    (used : Kind → ℕ)
    (is : IsHeld n c h g recorded journal window families order used) where
  -- nothing has changed
  pub held_still : (journal' : List Entry) (families' : List Family) → journal' ≡ journal → families' ≡ families
      → IsHeld n c h g recorded journal' window families' order used
  held_still journal' families' e f =
      subst (λ j. IsHeld n c h g recorded j window families' order used) (sym e)
      (subst (λ l. IsHeld n c h g recorded journal window l order used) (sym f) is)

  -- a child is made of this family
  module _ (number : ℕ) (values : List (List ℕ)) (it : Family) (at : slice_get families number ≡ Some it)
      (may : MayMake c h g families values (used it.desc.kind) it) (used' : Kind → ℕ) (more : IsOneMore it.desc.kind used used')
    where
      abbrev child : Child
      child = record { values = values; slot = used it.desc.kind }

      pub held_grown : IsHeld n c h g recorded (journal ++ Changed (ChildMade number values (used it.desc.kind)) ∷ []) window
          (with_child families number child) order used'
      held_grown = record {
        geometry = is.geometry;
        kept = keeps_at_change n c h g recorded journal window families (ChildMade number values (used it.desc.kind)) is.kept
            (some_at (MayMake c h g families values (used it.desc.kind)) families number it at may);
        held = held_made c h g families used used' number values it is.held at may more;
        ordered = order_made families order number child is.ordered;
      }

  -- the same, in other words
  pub held_more : (number : ℕ) (values : List (List ℕ)) (it : Family) (kind : Kind) (slot : ℕ) (journal' : List Entry)
      (families' : List Family) (used' : Kind → ℕ)
      → IsSomeAnd (slice_get families number) (λ (family : Family). IsMissingChild family values) → it ≡ get_or families number it
      → kind ≡ it.desc.kind
      → used kind < slots c h g kind → slot ≡ used kind
      → journal' ≡ journal ++ Changed (ChildMade number values slot) ∷ []
      → families' ≡ with_child families number (record { values = values; slot = slot })
      → IsOneMore kind used used' → IsHeld n c h g recorded journal' window families' order used'
  held_more number values it kind slot journal' families' used' some read same room at noted new more =
      let used_at : used it.desc.kind ≡ slot = ap used (sym same) ∙ sym at in
      let made : IsHeld n c h g recorded (journal ++ Changed (ChildMade number values slot) ∷ []) window
      (with_child families number (record { values = values; slot = slot })) order used' =
      subst (λ s. IsHeld n c h g recorded (journal ++ Changed (ChildMade number values s) ∷ []) window
      (with_child families number (record { values = values; slot = s })) order used') used_at
      (held_grown number values it (there c h g families used is.held number values it kind some read same)
      (may_make c h g families used is.held number values it kind some read same room) used'
      (subst (λ k. IsOneMore k used used') same more)) in
      subst (λ j. IsHeld n c h g recorded j window families' order used') (sym noted)
      (subst (λ l. IsHeld n c h g recorded (journal ++ Changed (ChildMade number values slot) ∷ []) window l order used')
      (sym new) made)
