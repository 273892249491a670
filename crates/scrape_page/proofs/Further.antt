-- A child that is made on a further board.
use Rattle.std.proofs.Common.{◌≡◌, ℕ, zero, suc, ◌<◌, List, [], ◌∷◌, ◌++◌, Some, set, refl, sym, ap, subst, ◌∙◌, All}
use Rattle.std.specs.Prelude.{slice_get, IsSomeAnd}
use Rattle.std.specs.List.{Any}
use Rattle.std.proofs.lemmas.List.Elements.{All-nil, All-push, Contains-push}
use Rattle.std.proofs.lemmas.Option.{get_or_from_slice_get, slice_get_within}
use Rattle.metric_desc.specs.Desc.{Descriptor}
use Rattle.metric_desc.specs.declared.kind.Kind.{Kind}
use Rattle.registry_state.specs.Journal.{Registered}
use Rattle.registry_state.specs.Replay.{Child, Family}
use Rattle.registry_state.specs.Faults.{HasSlot}
use Rattle.registry_state.specs.Calls.{changed}
use Rattle.registry_state.specs.Kept.{RegistryView}
use Rattle.registry_state.specs.declared.handle.Handle.{Handle}
use Rattle.registry_state.proofs.Making.{at_some, some_at}
use Rattle.scrape_page.specs.declared.family.Part.{Part}
use Rattle.scrape_page.specs.Families.{PageFamily, PageView}
use Rattle.scrape_page.specs.Faults.{IsMissing}
use Rattle.scrape_page.specs.Rooms.{HasRoom, AreFull, IsFullPart, IsRoomiest}
use Rattle.scrape_page.specs.Calls.{AddsPart, AddsChild, TakesPart, WasMadeFurther}
use Rattle.scrape_page.proofs.Roomy.{room_there}
use Rattle.scrape_page.proofs.Registered.{same_values}
use Rattle.scrape_page.proofs.Born.{some_there, Growable, MayGrow}
use Rattle.scrape_page.proofs.Parted.{Takable, MayTake}

-- what was written is there
set_there : {X : Type 0} (xs : List X) (i : ℕ) (x y : X) → slice_get xs i ≡ Some x → slice_get (set xs i y) i ≡ Some y
set_there [] i x y is = absurd (cc)
set_there (z ∷ xs) zero x y is = refl
set_there (z ∷ xs) (suc i) x y is = set_there xs i x y is

-- what holds of an element holds of some element
any_there : {X : Type 0} (P : X → Type 0) (xs : List X) (i : ℕ) (x : X) → slice_get xs i ≡ Some x → P x → Any P xs
any_there P xs i x is here = (i, x, slice_get_within xs i x is, get_or_from_slice_get xs i x x is, here)

-- the slots that were free still are, where a family without children comes
slot_still : (c h g : ℕ) (families : List Family) (desc : Descriptor) (kind : Kind) → HasSlot c h g families kind
    → HasSlot c h g (families ++ record { desc = desc; children = [] } ∷ []) kind
slot_still c h g families desc kind has = (
  has.0,
  has.1,
  All-push (λ (family : Family). family.desc.kind ≡ kind → All (λ (child : Child). child.slot ≡ has.0 → ⊥) family.children)
      families
      (record { desc = desc; children = [] }) has.2 (λ _. All-nil (λ (child : Child). child.slot ≡ has.0 → ⊥)),
)

-- a family has 255 children or fewer, none of these values, and its parts are on full boards
abbrev pub Growing : {S : Type 0} (c h g : ℕ) → List (RegistryView S) → Kind → List (List ℕ) → PageFamily → Type 0
Growing c h g boards kind values it = IsMissing boards it values × (it.children < 256) × (kind ≡ it.desc.kind)
    × All (IsFullPart c h g it.desc.kind boards) it.parts

module _ {S : Type 0} (c h g : ℕ) (old : PageView S) (number : ℕ) (kind : Kind) (values : List (List ℕ))
    (may : IsSomeAnd (slice_get old.families number) (Growing c h g old.boards kind values)) where
  abbrev the : (it : PageFamily) × (slice_get old.families number ≡ Some it) × Growing c h g old.boards kind values it
  the = some_there (Growing c h g old.boards kind values) (slice_get old.families number) may

  -- no board has a free slot
  pub is_full : AreFull c h g kind old.boards
      → IsSomeAnd (slice_get old.families number) (λ (it : PageFamily). IsMissing old.boards it values × (it.children < 256)
      × (kind ≡ it.desc.kind) × AreFull c h g it.desc.kind old.boards)
  is_full full = some_at (λ (it : PageFamily). IsMissing old.boards it values × (it.children < 256)
      × (kind ≡ it.desc.kind) × AreFull c h g it.desc.kind old.boards) old.families number the.0 the.1
      (the.2.0, the.2.1, the.2.2, subst (λ k. AreFull c h g k old.boards) the.2.2 full)

  module _ (place room : ℕ) (roomiest : IsRoomiest c h g kind old.boards place room) (some : 0 < room) where
    has_room : IsSomeAnd (slice_get old.boards place) (HasRoom c h g (the.0).desc.kind)
    has_room = subst (λ k. IsSomeAnd (slice_get old.boards place) (HasRoom c h g k)) the.2.2
        (room_there c h g kind old.boards place room roomiest some)

    -- the family may take a part there
    pub may_take : MayTake c h g old number place
    may_take = some_at (Takable c h g old.boards place) old.families number the.0 the.1 (the.2.3, has_room)

    -- there is room, and no memory
    pub is_no_memory : IsSomeAnd (slice_get old.families number) (λ (it : PageFamily). IsMissing old.boards it values ×
        (it.children < 256)
        × Any (HasRoom c h g it.desc.kind) old.boards)
    is_no_memory =
        let found = some_there (HasRoom c h g (the.0).desc.kind) (slice_get old.boards place) has_room in
        some_at (λ (it : PageFamily). IsMissing old.boards it values × (it.children < 256)
        × Any (HasRoom c h g it.desc.kind) old.boards) old.families number the.0 the.1
        (the.2.0, the.2.1, any_there (HasRoom c h g (the.0).desc.kind) old.boards place found.0 found.1 found.2)

    -- where it took the part, a child may be made there
    pub may_grow : (mid : PageView S) (part : Part) → AddsPart old mid number part → part.board ≡ place
        → MayGrow c h g mid number part values
    may_grow mid part adds at =
        let p : PageFamily = adds.family in
        let p' : PageFamily = record p { parts = p.parts ++ part ∷ [] } in
        let board : RegistryView S = adds.registered.board in
        let board' : RegistryView S = changed (Registered p.desc) board in
        let can : Growing c h g old.boards kind values p = at_some (Growing c h g old.boards kind values) old.families number p
        adds.it may in
        let there : slice_get mid.families number ≡ Some p' =
        ap (λ fs. slice_get fs number) adds.families ∙ set_there old.families number p p' adds.it in
        let there_board : slice_get mid.boards part.board ≡ Some board' =
        ap (λ bs. slice_get bs part.board) adds.registered.boards ∙ set_there old.boards part.board board board'
        adds.registered.at in
        let room_old : HasRoom c h g p.desc.kind board =
        subst (λ k. HasRoom c h g k board) can.2
        (at_some (HasRoom c h g kind) old.boards part.board board adds.registered.at
        (subst (λ k. IsSomeAnd (slice_get old.boards k) (HasRoom c h g kind)) (sym at)
        (room_there c h g kind old.boards place room roomiest some))) in
        some_at (Growable c h g mid part values) mid.families number p' there (
          (
            can.0.0,
            subst (All (λ other. other ≡ values → ⊥))
                (sym (same_values old.boards mid.boards part.board part.family.number p.desc adds.registered p.desc.name))
                can.0.1,
          ),
          can.1,
          Contains-push p.parts part,
          some_at (HasRoom c h g p.desc.kind) mid.boards part.board board' there_board
              (slot_still c h g board.state.families p.desc p.desc.kind room_old),
        )

    -- so it took a part
    pub takes_part : (mid : PageView S) (part : Part) → AddsPart old mid number part → part.board ≡ place
        → TakesPart c h g old mid number part
    takes_part mid part taken at = record {
      room = room;
      some = some;
      full = some_at (λ (it : PageFamily). All (IsFullPart c h g it.desc.kind old.boards) it.parts
          × IsRoomiest c h g it.desc.kind old.boards part.board room) old.families number the.0 the.1 (
            the.2.3,
            subst (λ k. IsRoomiest c h g k old.boards part.board room) the.2.2
                (subst (λ i. IsRoomiest c h g kind old.boards i room) (sym at) roomiest),
          );
      taken = taken;
    }

    -- and then it was made further
    pub made_further : (mid new : PageView S) (part : Part) (handle : Handle) → AddsPart old mid number part → part.board ≡ place
        → AddsChild c h g mid new number part values handle → WasMadeFurther c h g old new number values handle
    made_further mid new part handle taken at made = record {
      part = part;
      mid = mid;
      missing = some_at (λ (it : PageFamily). IsMissing old.boards it values × (it.children < 256)) old.families number the.0
          the.1
          (the.2.0, the.2.1);
      taken = takes_part mid part taken at;
      made = made;
    }
