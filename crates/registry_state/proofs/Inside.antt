-- The slots of handles are there.
use Rattle.std.proofs.Common.{◌≡◌, ℕ, ◌<◌, List, Option, Some, None, length, slice_get, IsSomeAnd, Contains, refl, sym, subst}
use Rattle.std.proofs.Common.{AllPairs, arith}
use Rattle.std.proofs.lemmas.Option.{slice_get_within}
use Rattle.std.proofs.lemmas.List.Elements.{All-contains}
use Rattle.metric_desc.specs.Desc.{Descriptor}
use Rattle.metric_desc.specs.declared.kind.Kind.{Kind}
use Rattle.registry_state.specs.Calls.{IsHandle, IsInside}
use Rattle.registry_state.specs.Held.{AreChildren, AreHeld, IsChildBefore}
use Rattle.registry_state.specs.Replay.{Child, Family, slots}
use Rattle.registry_state.specs.declared.handle.Handle.{Handle}
use Rattle.registry_state.proofs.Holding.{all_at}

module _ (c h g : ℕ) where
  -- there are so many slots of the kind
  pub is_inside : (id : ℕ) (desc : Descriptor) (slot : ℕ) (handle : Handle) → IsHandle id desc slot handle
      → slot < slots c h g desc.kind → IsInside c h g handle
  is_inside id desc slot (Handle.Counter counter) (kind, its, at) low = subst (λ s. s < c) (sym at)
      (subst (λ (k : Kind). slot < slots c h g k) kind low)
  is_inside id desc slot (Handle.Histogram hist) (kind, its, at, bounds) low = subst (λ s. s < h) (sym at)
      (subst (λ (k : Kind). slot < slots c h g k) kind low)
  is_inside id desc slot (Handle.Gauge gauge) (kind, its, at) low = subst (λ s. s < g) (sym at)
      (subst (λ (k : Kind). slot < slots c h g k) kind low)

  -- a child that is there has one of them
  pub is_inside_there : (id : ℕ) (families : List Family) (used : Kind → ℕ) → AreHeld c h g families used
      → (number : ℕ) (it : Family) → slice_get families number ≡ Some it
      → (child : Child) → Contains it.children child → (handle : Handle) → IsHandle id it.desc child.slot handle
      → IsInside c h g handle
  is_inside_there id families used held number it there child has handle is =
      let are : AreChildren used it = all_at (AreChildren used) families number it there held.are.each in
      let low = All-contains (λ (its : Child). its.slot < used it.desc.kind) it.children child are.below has in
      let room = held.room it.desc.kind in
      is_inside id it.desc child.slot handle is (omega (arith, low, room))

  -- so has one that was found
  pub is_inside_found : (id : ℕ) (families : List Family) (used : Kind → ℕ) → AreHeld c h g families used
      → (number : ℕ) (it : Family) → slice_get families number ≡ Some it → (values : List (List ℕ)) (handle : Handle)
      → (slot : ℕ) × Contains it.children (record { values = values; slot = slot }) × IsHandle id it.desc slot handle
      → IsInside c h g handle
  is_inside_found id families used held number it there values handle found =
      is_inside_there id families used held number it there (record { values = values; slot = found.0 }) found.1 handle found.2

  -- the children of a family that is there stand in their order
  pub ordered_there : (families : List Family) (used : Kind → ℕ) → AreHeld c h g families used
      → (number : ℕ) (it : Family) → slice_get families number ≡ Some it → AllPairs IsChildBefore it.children
  ordered_there families used held number it there =
      let are : AreChildren used it = all_at (AreChildren used) families number it there held.are.each in are.ordered

-- a family that is there has a number below how many there are
pub within_some : (P : Family → Type 0) (families : List Family) (number : ℕ) → IsSomeAnd (slice_get families number) P
    → number < length families
within_some P families number is = go (slice_get families number) refl is
  where
    go : (o : Option Family) → slice_get families number ≡ o → IsSomeAnd o P → number < length families
    go (Some it) at is = slice_get_within families number it at
    go None at is = elim is [ ]
