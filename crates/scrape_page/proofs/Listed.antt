-- Lists of boards, of families and of parts.
use Rattle.std.proofs.Common.{◌≡◌, ◌≢◌, ℕ, zero, suc, ◌<◌, List, [], ◌∷◌, ◌++◌, Some, length, get_or, slice_get, slice_set}
use Rattle.std.proofs.Common.{IsSomeAnd, MatchOption, All, Contains, arith, refl, sym, ap, subst, ◌∙◌, inl, inr}
use Rattle.std.specs.Prelude.{⊤, Bool, true, false, if◌then◌else◌, Option, None}
use Rattle.std.specs.List.{insert}
use Rattle.std.proofs.lemmas.List.{set-get_or}
use Rattle.std.proofs.lemmas.List.Elements.{All-head, All-tail}
use Rattle.std.proofs.lemmas.Option.{get_or_from_slice_get}
use Rattle.metric_desc.specs.Desc.{Descriptor, Clash}
use Rattle.registry_state.specs.Replay.{Child, Family, IsApart, IsNew}
use Rattle.registry_state.specs.Faults.{HasSlot, IsMissingChild, IsChildFault, IsRegisterFault}
use Rattle.registry_state.specs.Kept.{RegistryView}
use Rattle.registry_state.specs.Journal.{Registered}
use Rattle.registry_state.specs.Calls.{IsGiven, IsHandle, WasMade, changed}
use Rattle.registry_state.specs.declared.handle.Handle.{Handle}
use Rattle.registry_state.specs.declared.fault.ChildFault.{ChildFault}
use Rattle.registry_state.specs.declared.fault.ChildFault.TheVariants as Child
use Rattle.registry_state.specs.declared.fault.RegisterFault.{RegisterFault}
use Rattle.registry_state.specs.declared.fault.RegisterFault.TheVariants as Register
use Rattle.registry_state.proofs.Making.{some_at, at_some, some_within, there_at}
use Rattle.scrape_page.specs.declared.family.Part.{Part}
use Rattle.scrape_page.specs.Families.{PageFamily}
use Rattle.scrape_page.specs.Places.{HasPart}
use Rattle.scrape_page.specs.Calls.{IsRegisteredOn, IsMadeOn}

-- what holds of the element of this number, and cannot hold beside what holds of all
pub not_both : {X : Type 0} (P Q : X → Type 0) (xs : List X) (i : ℕ) → All P xs → IsSomeAnd (slice_get xs i) Q
    → ((x : X) → P x → Q x → ⊥) → ⊥
not_both P Q [] i all some never = some
not_both P Q (x ∷ xs) zero all some never = never x (All-head P x xs all) some
not_both P Q (x ∷ xs) (suc i) all some never = not_both P Q xs i (All-tail P x xs all) some never

-- a family that may be registered is refused for want of memory, and for nothing else
pub refused_only : (families : List Family) (desc : Descriptor) (fault : RegisterFault) → length families < 128
    → IsApart families desc → IsRegisterFault families desc fault → fault ≡ Register.NoMemory
refused_only families desc (Register.Clash with) few apart is =
    absurd (not_both (λ (family : Family). ¬ (Clash family.desc desc)) (λ (family : Family). Clash family.desc desc) families with
    apart is.clash (λ family not clash. not clash))
refused_only families desc Register.TooManyFamilies few apart is = let many = is.1 in absurd (omega (arith, few, many))
refused_only families desc Register.NoMemory few apart is = refl

-- what holds of a value, if there is one, and there is one
pub there_is : {X : Type 0} (P : X → Type 0) (o : Option X) → IsSomeAnd o (λ _. ⊤) → MatchOption o ⊤ P → IsSomeAnd o P
there_is P None some all = absurd some
there_is P (Some x) some all = all

module _ {S : Type 0} (boards : List (RegistryView S)) (part : Part) (board : RegistryView S)
    (has : HasPart boards part (λ _ _. ⊤)) (read : board ≡ get_or boards part.board board) where
  -- the board of a part
  pub part_board : slice_get boards part.board ≡ Some board
  part_board = there_at (λ (b : RegistryView S). IsSomeAnd (slice_get b.state.families part.family.number)
      (λ (_ : Family). ⊤)) boards part.board board has read

  -- the family there has no child of these values
  pub part_new : (values : List (List ℕ))
      → MatchOption (slice_get board.state.families part.family.number) ⊤ (λ (it : Family). IsNew it values)
      → HasPart boards part (λ _ (family : Family). IsNew family values)
  part_new values new =
      some_at (λ (b : RegistryView S). IsSomeAnd (slice_get b.state.families part.family.number)
      (λ (family : Family). IsNew family values)) boards part.board board part_board
      (there_is (λ (family : Family). IsNew family values) (slice_get board.state.families part.family.number)
      (at_some (λ (b : RegistryView S). IsSomeAnd (slice_get b.state.families part.family.number)
      (λ (_ : Family). ⊤)) boards part.board board part_board has) new)

-- not both of one value
some_never : {X : Type 0} (P Q : X → Type 0) (o : Option X) → IsSomeAnd o P → IsSomeAnd o Q → ((x : X) → P x → Q x → ⊥) → ⊥
some_never P Q None one two never = absurd one
some_never P Q (Some x) one two never = never x one two

-- a child that is missing, and has a slot, is refused for want of memory, and for nothing else
pub missing_only : (c h g : ℕ) (families : List Family) (number : ℕ) (values : List (List ℕ)) (fault : ChildFault)
    → IsSomeAnd (slice_get families number) (λ (it : Family). IsMissingChild it values × HasSlot c h g families it.desc.kind)
    → IsChildFault c h g families number values fault → fault ≡ Child.NoMemory
missing_only c h g families number values Child.NoSuchFamily missing is =
    let within : number < length families = some_within (λ (it : Family). IsMissingChild it values
    × HasSlot c h g families it.desc.kind) families number missing in absurd (omega (arith, within, is))
missing_only c h g families number values (Child.LabelCount want got) missing is =
    absurd (some_never (λ (it : Family). IsMissingChild it values × HasSlot c h g families it.desc.kind)
    (λ (it : Family). (want ≡ length it.desc.labels) × (got ≡ length values) × (want ≢ got)) (slice_get families number) missing
    is
    (λ it may not. not.2 (not.0 ∙ sym may.0.0 ∙ sym not.1)))
missing_only c h g families number values (Child.Full kind many) missing is =
    absurd (some_never (λ (it : Family). IsMissingChild it values × HasSlot c h g families it.desc.kind)
    (λ (it : Family). IsMissingChild it values × (kind ≡ it.desc.kind) × (¬ (HasSlot c h g families kind)))
    (slice_get families number) missing is.1 (λ it may not. not.2 (subst (HasSlot c h g families) (sym not.1) may.1)))
missing_only c h g families number values Child.NoMemory missing is = refl

-- a child that was missing was made
pub made_missing : {S : Type 0} (c h g : ℕ) (old new : RegistryView S) (number : ℕ) (values : List (List ℕ)) (handle : Handle)
    → IsSomeAnd (slice_get old.state.families number) (λ (it : Family). IsMissingChild it values
    × HasSlot c h g old.state.families it.desc.kind) → IsGiven c h g old new number values handle
    → WasMade c h g old new number values handle
made_missing c h g old new number values handle missing (inl was) =
    absurd (some_never (λ (it : Family). IsMissingChild it values × HasSlot c h g old.state.families it.desc.kind)
    (λ (it : Family). Contains it.children (record { values = values; slot = was.slot })
    × IsHandle old.id it.desc was.slot handle) (slice_get old.state.families number) missing was.there
    (λ it none some. let at = some.0 in
    none.0.1 at.0 (record { values = values; slot = was.slot }) at.1 (ap (λ (child : Child). child.values) at.2)))
made_missing c h g old new number values handle missing (inr made) = made

-- the family of this number with one part more, in other words
pub part_more : (families : List PageFamily) (number : ℕ) (seen family : PageFamily) (held parts : List Part) (part : Part)
    → seen ≡ family → held ≡ seen.parts → parts ≡ held ++ part ∷ []
    → slice_set families number (record seen { parts = parts })
    ≡ slice_set families number (record family { parts = family.parts ++ part ∷ [] })
part_more families number seen family held parts part same still more =
    ap (λ (ps : List Part). slice_set families number (record seen { parts = ps }))
    (more ∙ ap (λ (ps : List Part). ps ++ part ∷ []) still)
    ∙ ap (λ (f : PageFamily). slice_set families number (record f { parts = f.parts ++ part ∷ [] })) same

-- one family more, in other words
pub family_more : (families before after : List PageFamily) (desc copy kept : Descriptor) (group home : ℕ) (none parts : List
    Part)
    (part : Part) → before ≡ families
    → after ≡ before ++ record { desc = kept; group = group; home = home; parts = parts; children = 0 } ∷ []
    → kept ≡ copy → copy ≡ desc → none ≡ [] → parts ≡ none ++ part ∷ []
    → after ≡ families ++ record { desc = desc; group = group; home = home; parts = part ∷ []; children = 0 } ∷ []
family_more families before after desc copy kept group home none parts part still more is_kept is_copy empty one =
    let family : Descriptor → List Part → PageFamily =
    λ d ps. record { desc = d; group = group; home = home; parts = ps; children = 0 } in
    more ∙ ap (λ (fs : List PageFamily). fs ++ family kept parts ∷ []) still
    ∙ ap (λ (d : Descriptor). families ++ family d parts ∷ []) (is_kept ∙ is_copy)
    ∙ ap (λ (ps : List Part). families ++ family desc ps ∷ []) (one ∙ ap (λ (ps : List Part). ps ++ part ∷ []) empty)

-- a number that was put at this place of the order, in other words
pub put_at : (ok : Bool) (order before after : List ℕ) (place number count : ℕ) → ok ≡ true → before ≡ order → number ≡ count
    → after ≡ (if ok then insert before place number else before) → after ≡ insert order place count
put_at true order before after place number count is still same put =
    put ∙ ap (λ (l : List ℕ). insert l place number) still ∙ ap (insert order place) same
put_at false order before after place number count is still same put = absurd cc

-- what is at this number, written back
pub written_back : {X : Type 0} (xs : List X) (i : ℕ) (x : X) → slice_get xs i ≡ Some x → slice_set xs i x ≡ xs
written_back xs i x there = ap (slice_set xs i) (sym (get_or_from_slice_get xs i x x there)) ∙ set-get_or xs i x

-- the family of this number with the parts that it had
pub part_still : (families : List PageFamily) (number : ℕ) (seen family : PageFamily) (parts : List Part)
    → slice_get families number ≡ Some family → seen ≡ family → parts ≡ seen.parts
    → slice_set families number (record seen { parts = parts }) ≡ families
part_still families number seen family parts there same still =
    ap (λ (ps : List Part). slice_set families number (record seen { parts = ps })) still
    ∙ ap (slice_set families number) same ∙ written_back families number family there

-- a copy of the descriptor of a family
pub copied : (copy read : Descriptor) (seen family : PageFamily) → copy ≡ read → read ≡ seen.desc → seen ≡ family
    → copy ≡ family.desc
copied copy read seen family is_copy is_read same = is_copy ∙ is_read ∙ ap (λ (f : PageFamily). f.desc) same

-- a family of this descriptor was registered on a board that was read
pub registered_on : {S : Type 0} (boards : List (RegistryView S)) (place : ℕ) (desc : Descriptor) (board new : RegistryView S)
    (number : ℕ) → slice_get boards place ≡ Some board → number ≡ length board.state.families
    → new ≡ changed (Registered desc) board → IsRegisteredOn boards (slice_set boards place new) place desc number
registered_on boards place desc board new number there number_is new_is =
    record { board = board; at = there; number_is = number_is; boards = ap (slice_set boards place) new_is }

-- a child was made on a board that was read
pub made_on : {S : Type 0} (c h g : ℕ) (boards : List (RegistryView S)) (part : Part) (values : List (List ℕ)) (handle : Handle)
    (board new : RegistryView S) → slice_get boards part.board ≡ Some board
    → WasMade c h g board new part.family.number values handle
    → IsMadeOn c h g boards (slice_set boards part.board new) part values handle
made_on c h g boards part values handle board new there made =
    record { board = board; board' = new; at = there; made = made; boards = refl }
