-- Whose child a handle is: known where the child is made, and known still, whatever is registered and made later.
use Rattle.std.proofs.Common.{◌≡◌, ℕ, zero, suc, List, [], ◌∷◌, ◌++◌, length, Contains, Option, Some, None, refl, sym, subst, ap}
use Rattle.std.proofs.Common.{◌∙◌, ⊎_elim}
use Rattle.std.specs.Prelude.{slice_get, IsSomeAnd}
use Rattle.std.specs.Ordering.{is_lt}
use Rattle.std.proofs.Math.Logic.{∥∥₁_map}
use Rattle.std.proofs.lemmas.List.Elements.{Contains-append_cases, Contains-append_left, Contains-append_right, Contains-push}
use Rattle.metric_desc.specs.Desc.{Descriptor}
use Rattle.registry_state.specs.Calls.{IsGiven, IsHandle, IsLeastFree, WasMade, WasThere}
use Rattle.registry_state.specs.Journal.{RegistryChange, Registered, ChildMade, Entry, changes}
use Rattle.registry_state.specs.Kept.{RegistryView}
use Rattle.registry_state.specs.Parts.{families_after}
use Rattle.registry_state.specs.Replay.{Child, Family, MayMake, State, Replays, after, put, with_child}
use Rattle.registry_state.specs.declared.handle.Handle.{Handle}
use Rattle.registry_state.proofs.Lists.{either}
use Rattle.registry_state.proofs.Placing.{stands}
use Rattle.registry_state.proofs.Replayed.{parts_of_replay}
use Rattle.metric_registry.specs.Naming.{BeginsWith}
use Rattle.metrics_program.specs.Families.{AreRegistered, IsChildOf}
use Rattle.metrics_program.specs.Services.{IsSameBoard}
use Rattle.metrics_program.specs.declared.metrics.Metrics.{Metrics}

-- a child that is put among others is there
put_there : (child : Child) (kids : List Child) → Contains (put child kids) child
put_there child [] = Contains-push [] child
put_there child (other ∷ others) =
    either (λ (l : List Child). Contains l child) (is_lt (stands other child)) (other ∷ put child others)
    (child ∷ other ∷ others)
    (λ _. Contains-append_right (other ∷ []) (put child others) child (put_there child others))
    (λ _. Contains-append_left (child ∷ []) (other ∷ others) child (Contains-push [] child))

-- and so are the others, still
put_stays : (child old : Child) (kids : List Child) → Contains kids old → Contains (put child kids) old
put_stays child old [] there = Contains-append_right (child ∷ []) [] old there
put_stays child old (other ∷ others) there =
    either (λ (l : List Child). Contains l old) (is_lt (stands other child)) (other ∷ put child others)
    (child ∷ other ∷ others)
    (λ _. ⊎_elim (λ (one : Contains (other ∷ []) old). Contains-append_left (other ∷ []) (put child others) old one)
    (λ (rest : Contains others old). Contains-append_right (other ∷ []) (put child others) old
    (put_stays child old others rest)) (Contains-append_cases (other ∷ []) others old there))
    (λ _. Contains-append_right (child ∷ []) (other ∷ others) old there)

-- a family with one child more
abbrev with_one : Child → Family → Family
with_one child it = record { desc = it.desc; children = put child it.children }

-- what is so of the family of this number, and stays so where it gets a child, is so after each change
module _ (P : Family → Type 0) (stays : (child : Child) (it : Family) → P it → P (with_one child it)) where
  pushed_at : (families more : List Family) (number : ℕ) → IsSomeAnd (slice_get families number) P
      → IsSomeAnd (slice_get (families ++ more) number) P
  pushed_at [] more number some = absurd some
  pushed_at (it ∷ families) more zero some = some
  pushed_at (it ∷ families) more (suc number) some = pushed_at families more number some

  grown_at : (families : List Family) (of : ℕ) (child : Child) (number : ℕ) → IsSomeAnd (slice_get families number) P
      → IsSomeAnd (slice_get (with_child families of child) number) P
  grown_at [] of child number some = absurd some
  grown_at (it ∷ families) zero child zero some = stays child it some
  grown_at (it ∷ families) zero child (suc number) some = some
  grown_at (it ∷ families) (suc of) child zero some = some
  grown_at (it ∷ families) (suc of) child (suc number) some = grown_at families of child number some

  after_at : (families : List Family) (change : RegistryChange) (number : ℕ) → IsSomeAnd (slice_get families number) P
      → IsSomeAnd (slice_get (after families change) number) P
  after_at families (Registered desc) number some = pushed_at families (record { desc = desc; children = [] } ∷ []) number some
  after_at families (ChildMade of values slot) number some =
      grown_at families of (record { values = values; slot = slot }) number some

-- what is so of the family that gets the child
got_at : (P Q : Family → Type 0) (child : Child) → ((it : Family) → P it → Q (with_one child it)) → (families : List Family)
    (number : ℕ) → IsSomeAnd (slice_get families number) P → IsSomeAnd (slice_get (with_child families number child) number) Q
got_at P Q child gives [] number some = absurd some
got_at P Q child gives (it ∷ families) zero some = gives it some
got_at P Q child gives (it ∷ families) (suc number) some = got_at P Q child gives families number some

-- two facts of one family, together
both_at : (P Q R : Family → Type 0) → ((it : Family) → P it → Q it → R it) → (o : Option Family) → IsSomeAnd o P → IsSomeAnd o Q
    → IsSomeAnd o R
both_at P Q R gives None here there = absurd here
both_at P Q R gives (Some it) here there = gives it here there

from_both : (P Q : Family → Type 0) (R : Type 0) → ((it : Family) → P it → Q it → R) → (o : Option Family) → IsSomeAnd o P
    → IsSomeAnd o Q → R
from_both P Q R gives None here there = absurd here
from_both P Q R gives (Some it) here there = gives it here there

-- the last of some families
pub last_at : (P : Family → Type 0) (families : List Family) (it : Family) → P it
    → IsSomeAnd (slice_get (families ++ it ∷ []) (length families)) P
last_at P [] it here = here
last_at P (other ∷ families) it here = last_at P families it here

-- the family of this number is so described
abbrev pub IsSo : Descriptor → Family → Type 0
IsSo desc it = it.desc ≡ desc

-- and has this child
abbrev Has : Descriptor → Child → Family → Type 0
Has desc child it = (it.desc ≡ desc) × Contains it.children child

-- a handle's child is there after a change
pub child_stays : {id : ℕ} {families : List Family} {desc : Descriptor} {values : List (List ℕ)} {it : Handle}
    (change : RegistryChange) → IsChildOf id families desc values it → IsChildOf id (after families change) desc values it
child_stays {id} {families} {desc} {values} {it} change is =
    let child : Child = record { values = values; slot = is.slot } in
    record {
      number = is.number;
      slot = is.slot;
      there = after_at (Has desc child) (λ more family has. (has.0, put_stays more child family.children has.1)) families change
          is.number is.there;
      handle_is = is.handle_is;
    }

module _ {S : Type 0} (c h g : ℕ) (old new : RegistryView S) (number : ℕ) (values : List (List ℕ)) (it : Handle) where
  -- the registry is of the same board
  pub given_board : IsGiven c h g old new number values it → IsSameBoard old new
  given_board given =
      ⊎_elim (λ (was : WasThere c h g old new number values it). record {
        source = ap (λ (r : RegistryView S). r.source) was.same;
        id = ap (λ (r : RegistryView S). r.id) was.same;
      })
      (λ (made : WasMade c h g old new number values it). record {
        source = ap (λ (r : RegistryView S). r.source) made.after_it;
        id = ap (λ (r : RegistryView S). r.id) made.after_it;
      })
      given

  -- another child was made, or was there
  module _ (desc : Descriptor) (others : List (List ℕ)) (other : Handle) (is : IsChildOf old.id old.state.families desc others
      other)
    where
      abbrev Still : RegistryView S → Type 0
      Still r = IsChildOf r.id r.state.families desc others other

      pub stays_made : WasMade c h g old new number values it → Still new
      stays_made made = subst Still (sym made.after_it) (child_stays (ChildMade number values made.slot) is)

      pub stays_given : IsGiven c h g old new number values it → Still new
      stays_given given =
          ⊎_elim (λ (was : WasThere c h g old new number values it). subst Still (sym was.same) is)
          (λ (made : WasMade c h g old new number values it). stays_made made) given

  -- this child, of a family that is so described
  module _ (desc : Descriptor) (described : IsSomeAnd (slice_get old.state.families number) (IsSo desc)) where
    abbrev There : RegistryView S → Type 0
    There r = IsChildOf r.id r.state.families desc values it

    pub made_child : WasMade c h g old new number values it → There new
    made_child made =
        let child : Child = record { values = values; slot = made.slot } in
        subst There (sym made.after_it) (record {
          number = number;
          slot = made.slot;
          there = got_at (IsSo desc) (Has desc child) child (λ family is. (is, put_there child family.children))
              old.state.families number described;
          handle_is = from_both
              (λ (family : Family). MayMake c h g old.state.families values made.slot family
              × IsLeastFree old.state.families family.desc.kind made.slot × IsHandle old.id family.desc made.slot it)
              (IsSo desc) (IsHandle old.id desc made.slot it)
              (λ family was is. subst (λ (d : Descriptor). IsHandle old.id d made.slot it) is was.2)
              (slice_get old.state.families number) made.made described;
        })

    there_child : WasThere c h g old new number values it → There new
    there_child was =
        let child : Child = record { values = values; slot = was.slot } in
        let P : Family → Type 0 = λ family. Contains family.children child × IsHandle old.id family.desc was.slot it in
        subst There (sym was.same) (record {
          number = number;
          slot = was.slot;
          there = both_at P (IsSo desc) (Has desc child) (λ family has is. (is, has.0)) (slice_get old.state.families number)
              was.there described;
          handle_is = from_both P (IsSo desc) (IsHandle old.id desc was.slot it)
              (λ family has is. subst (λ (d : Descriptor). IsHandle old.id d was.slot it) is has.1)
              (slice_get old.state.families number) was.there described;
        })

    pub given_child : IsGiven c h g old new number values it → There new
    given_child given =
        ⊎_elim (λ (was : WasThere c h g old new number values it). there_child was)
        (λ (made : WasMade c h g old new number values it). made_child made) given

-- the server's metrics are there after some changes
later : (id : ℕ) (m : Metrics) (more : List RegistryChange) (families : List Family) → AreRegistered id families m
    → AreRegistered id (families_after families more) m
later id m [] families are = are
later id m (change ∷ more) families are =
    later id m more (after families change)
    (record { replies = λ status. child_stays change (are.replies status); bytes = child_stays change are.bytes })

after_both : (families : List Family) (xs ys : List RegistryChange)
    → families_after families (xs ++ ys) ≡ families_after (families_after families xs) ys
after_both families [] ys = refl
after_both families (x ∷ xs) ys = after_both (after families x) xs ys

-- and so in the end, where a journal begins with the changes by which they were registered
pub still_registered : (first journal : List Entry) (was now : State) (id : ℕ) (m : Metrics) → Replays 4 64 8 16 first was
    → Replays 4 64 8 16 journal now → BeginsWith (changes first) journal → AreRegistered id was.families m
    → ∥ AreRegistered id now.families m ∥₁
still_registered first journal was now id m replays_first replays begins are = ∥∥₁_map begins (λ (more, is).
    let early = parts_of_replay 4 64 8 16 first was replays_first in
    let late = parts_of_replay 4 64 8 16 journal now replays in
    let grown : now.families ≡ families_after was.families more = late.families
    ∙ (ap (families_after []) (sym is)
    ∙ (after_both [] (changes first) more ∙ ap (λ (l : List Family). families_after l more) (sym early.families))) in
    subst (λ (l : List Family). AreRegistered id l m) (sym grown) (later id m more was.families are))
