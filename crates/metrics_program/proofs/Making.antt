-- The counters that a registry gives, one by one: each is the least that is free.
use Rattle.std.proofs.Common.{◌≡◌, ◌≢◌, ℕ, ◌+◌, ◌<◌, List, [], ◌∷◌, ◌++◌, All, refl, sym, subst, ap, ◌∙◌, arith}
use Rattle.std.specs.Prelude.{⊤, slice_get, slice_index, slice_index_or, IsSomeAnd}
use Rattle.std.proofs.lemmas.List.Elements.{All-nil, All-cons, All-head, All-tail}
use Rattle.ledger_core.specs.declared.handles.Counter.{Counter as Counting}
use Rattle.metric_desc.specs.Desc.{Descriptor}
use Rattle.metric_desc.specs.declared.kind.Kind.{Kind}
use Rattle.metric_desc.specs.declared.kind.Kind.TheVariants.{Counter}
use Rattle.registry_state.specs.Calls.{changed, IsHandle, IsLeastFree, WasMade}
use Rattle.registry_state.specs.Journal.{Registered, ChildMade}
use Rattle.registry_state.specs.Kept.{RegistryView}
use Rattle.registry_state.specs.Replay.{Child, Family, State, IsFree, IsNew, MayMake, nothing, after, put}
use Rattle.registry_state.specs.declared.handle.Handle.TheVariants as handle
use Rattle.registry_state.proofs.Slots.{all_put, put_has, put_keeps}
use Rattle.metrics_program.specs.Families.{IsChildOf}
use Rattle.metrics_program.proofs.ChildOf.{IsSo, made_child as child_made}

abbrev HasNot : ℕ → Child → Type 0
HasNot slot child = child.slot ≢ slot

-- the family of these children
abbrev of_kids : Descriptor → List Child → Family
of_kids desc kids = record { desc = desc; children = kids }

-- no child of a family of counters has the slot: so it is free
free_in : (desc : Descriptor) (kids : List Child) (slot : ℕ) → All (HasNot slot) kids
    → IsFree (of_kids desc kids ∷ []) Counter slot
free_in desc kids slot none =
    let P : Family → Type 0 = λ family. family.desc.kind ≡ Counter → All (HasNot slot) family.children in
    All-cons P (of_kids desc kids) [] (λ _. none) (All-nil P)

free_of : (desc : Descriptor) (kids : List Child) (slot : ℕ) → desc.kind ≡ Counter → IsFree (of_kids desc kids ∷ []) Counter slot
    → All (HasNot slot) kids
free_of desc kids slot counters free =
    let P : Family → Type 0 = λ family. family.desc.kind ≡ Counter → All (HasNot slot) family.children in
    All-head P (of_kids desc kids) [] free counters

-- children that have the first n slots of all
pub record AreFirst (n : ℕ) (kids : List Child) : Type 0 where
  pub below : All (λ (child : Child). child.slot < n) kids
  pub taken : (k : ℕ) → k < n → ¬ (All (HasNot k) kids)

none_yet : AreFirst 0 []
none_yet = record { below = All-nil (λ (child : Child). child.slot < 0); taken = λ k low _. absurd (omega (arith, low)) }

above : (n : ℕ) (kids : List Child) → All (λ (child : Child). child.slot < n) kids → All (HasNot n) kids
above n [] below = All-nil (HasNot n)
above n (child ∷ kids) below =
    let low = All-head (λ (it : Child). it.slot < n) child kids below in
    All-cons (HasNot n) child kids (λ same. absurd (omega (arith, low, same)))
    (above n kids (All-tail (λ (it : Child). it.slot < n) child kids below))

wider : (n : ℕ) (kids : List Child) → All (λ (child : Child). child.slot < n) kids
    → All (λ (child : Child). child.slot < n + 1) kids
wider n [] below = All-nil (λ (child : Child). child.slot < n + 1)
wider n (child ∷ kids) below =
    let low = All-head (λ (it : Child). it.slot < n) child kids below in
    All-cons (λ (it : Child). it.slot < n + 1) child kids (omega (arith, low))
    (wider n kids (All-tail (λ (it : Child). it.slot < n) child kids below))

-- the least free slot is the next
least_is : (desc : Descriptor) (kids : List Child) (n slot : ℕ) → desc.kind ≡ Counter → AreFirst n kids
    → IsLeastFree (of_kids desc kids ∷ []) Counter slot → slot ≡ n
least_is desc kids n slot counters first least =
    let not_less : ¬ (slot < n) = λ low. first.taken slot low (free_of desc kids slot counters least.free) in
    let not_more : ¬ (n < slot) = λ high. least.least n high (free_in desc kids n (above n kids first.below)) in
    grind (arith, not_less, not_more)

-- one more has it
one_more : (kids : List Child) (n : ℕ) (child : Child) → child.slot ≡ n → AreFirst n kids → AreFirst (n + 1) (put child kids)
one_more kids n child is first = record {
  below = all_put (λ (it : Child). it.slot < n + 1) child kids (omega (arith, is)) (wider n kids first.below);
  taken = λ k low none.
      let kept = put_keeps (HasNot k) child kids none in
      let other : child.slot ≢ k = put_has (HasNot k) child kids none in
      let not_less : ¬ (k < n) = λ less. first.taken k less kept in
      absurd (grind (arith, is, low, other, not_less));
}

-- a registry of one family, of counters and so described, whose children have the first n slots, and these codes
pub record HasCodes {S : Type 0} (desc : Descriptor) (n : ℕ) (codes : List (List ℕ)) (r : RegistryView S) : Type 0 where
  pub kids : List Child
  pub counters : desc.kind ≡ Counter
  pub only : r.state.families ≡ of_kids desc kids ∷ []
  pub first : AreFirst n kids
  pub fresh : (code : List ℕ) → All (λ (old : List ℕ). old ≢ code) codes → All (λ (child : Child). child.values ≢ code ∷ []) kids

module _ {S : Type 0} where
  -- at first there is none
  pub no_codes : (r r' : RegistryView S) (desc : Descriptor) → r.state ≡ nothing → r' ≡ changed (Registered desc) r
      → desc.kind ≡ Counter → HasCodes desc 0 [] r'
  no_codes r r' desc none is counters = record {
    kids = [];
    counters = counters;
    only = ap (λ (it : RegistryView S). it.state.families) is ∙ ap (λ (s : State). s.families ++ of_kids desc [] ∷ []) none;
    first = none_yet;
    fresh = λ code _. All-nil (λ (child : Child). child.values ≢ code ∷ []);
  }

  -- a code that is none of them is new
  pub new_code : (desc : Descriptor) (n : ℕ) (codes : List (List ℕ)) (r : RegistryView S) (code : List ℕ)
      → HasCodes desc n codes r → All (λ (old : List ℕ). old ≢ code) codes
      → All (λ (it : Family). IsNew it (code ∷ [])) r.state.families
  new_code desc n codes r code has none =
      let P : Family → Type 0 = λ it. IsNew it (code ∷ []) in
      subst (All P) (sym has.only) (All-cons P (of_kids desc has.kids) [] (has.fresh code none) (All-nil P))

  module _ (desc : Descriptor) (n : ℕ) (codes : List (List ℕ)) (r r' : RegistryView S) (number : ℕ) (code : List ℕ)
      (counter : Counting) (first_one : number ≡ 0) (has : HasCodes desc n codes r)
      (made : WasMade 64 8 16 r r' number (code ∷ []) (handle.Counter counter)) where
    abbrev Says : List Family → ℕ → Type 0
    Says families of = IsSomeAnd (slice_get families of) (λ (it : Family).
        MayMake 64 8 16 families (code ∷ []) made.slot it × IsLeastFree families it.desc.kind made.slot
        × IsHandle r.id it.desc made.slot (handle.Counter counter))

    said : Says (of_kids desc has.kids ∷ []) 0
    said = subst (λ (families : List Family). Says families 0) has.only (subst (Says r.state.families) first_one made.made)

    slot_is : made.slot ≡ n
    slot_is = least_is desc has.kids n made.slot has.counters has.first
        (subst (λ (kind : Kind). IsLeastFree (of_kids desc has.kids ∷ []) kind made.slot) has.counters said.1)

    -- the code's counter has the next slot
    pub next_slot : counter.slot ≡ n
    next_slot = said.2.2 ∙ slot_is

    -- it is that of the code's child
    pub child_of : IsChildOf r'.id r'.state.families desc (code ∷ []) (handle.Counter counter)
    child_of =
        let P : List Family → ℕ → Type 0 = λ families of. IsSomeAnd (slice_get families of) (IsSo desc) in
        child_made 64 8 16 r r' number (code ∷ []) (handle.Counter counter) desc
        (subst (P r.state.families) (sym first_one) (subst (λ (families : List Family). P families 0) (sym has.only) refl)) made

    made_child : Child
    made_child = record { values = code ∷ []; slot = made.slot }

    -- and the code is there
    pub more_codes : HasCodes desc (n + 1) (code ∷ codes) r'
    unfolding made_child
    more_codes = record {
      kids = put made_child has.kids;
      counters = has.counters;
      only = ap (λ (it : RegistryView S). it.state.families) made.after_it
          ∙ ap (λ (of : ℕ). after r.state.families (ChildMade of (code ∷ []) made.slot)) first_one
          ∙ ap (λ (families : List Family). after families (ChildMade 0 (code ∷ []) made.slot)) has.only;
      first = one_more has.kids n made_child slot_is has.first;
      fresh = λ other none.
          let P : List ℕ → Type 0 = λ old. old ≢ other in
          all_put (λ (child : Child). child.values ≢ other ∷ []) made_child has.kids
          (λ same. All-head P code codes none (ap (λ (values : List (List ℕ)). slice_index_or values 0 []) same))
          (has.fresh other (All-tail P code codes none));
    }

-- the code differs from each of these at this place
abbrev pub Apart : (place : ℕ) (code : List ℕ) → List (List ℕ) → Type 0
Apart place code [] = ⊤
Apart place code (old ∷ olds) = (slice_index old place ≢ slice_index code place) × Apart place code olds

pub all_apart : (place : ℕ) (code : List ℕ) (olds : List (List ℕ)) → Apart place code olds
    → All (λ (old : List ℕ). old ≢ code) olds
all_apart place code [] apart = All-nil (λ (old : List ℕ). old ≢ code)
all_apart place code (old ∷ olds) apart =
    All-cons (λ (it : List ℕ). it ≢ code) old olds (λ same. apart.0 (ap (λ (l : List ℕ). slice_index l place) same))
    (all_apart place code olds apart.1)
