-- A page of which a family has one part more, on a board that has room.
use Rattle.std.proofs.Common.{◌≡◌, ◌≢◌, ℕ, zero, suc, ◌<◌, ◌≤◌, List, [], ◌∷◌, ◌++◌, Some, length, map, refl, sym, ap, subst, ◌∙◌}
use Rattle.std.proofs.Common.{arith, All, AllPairs, Contains, Bool, true, false}
use Rattle.std.specs.Prelude.{Result, Ok, Err, IfOk, OnErr, slice_get, if◌then◌else◌, IsSomeAnd}
use Rattle.std.specs.Bool.{Decides}
use Rattle.std.specs.Str.{bytes_eq}
use Rattle.std.specs.List.Sorted.{IsPermutation}
use Rattle.std.proofs.lemmas.List.Elements.{All-nil, All-cons, recursion_from_All}
use Rattle.std.proofs.lemmas.List.Sorted.{All-permutation, IsPermutation-sym, IsPermutation-trans, IsPermutation-append_left}
use Rattle.std.proofs.lemmas.Slice.Eq.{bytes_eq-Decides}
use Rattle.expo_text.proofs.Pairs.{Each}
use Rattle.registry_state.specs.Replay.{Family, IsApart}
use Rattle.registry_state.specs.Kept.{RegistryView}
use Rattle.registry_state.proofs.Making.{at_some, some_at}
use Rattle.scrape_page.specs.declared.family.Part.{Part}
use Rattle.scrape_page.specs.Families.{PageFamily, PageView, descs_of}
use Rattle.scrape_page.specs.Places.{part_at, numbers_of, next_board, places_of}
use Rattle.scrape_page.specs.Rooms.{HasRoom, IsFullPart}
use Rattle.scrape_page.specs.Calls.{AddsPart}
use Rattle.scrape_page.specs.Kept.{IsPage, IsSpread, IsHeldPage}
use Rattle.scrape_page.proofs.Valued.{each_unmap, each_front, each_back}
use Rattle.scrape_page.proofs.Facts.{all_there, HasNone}
use Rattle.scrape_page.proofs.Registered.{as_many, same_ids, same_values, other_places, own_places, all_registered}
use Rattle.scrape_page.proofs.Registered.{once_registered}
use Rattle.scrape_page.proofs.Counted.{fewer_on, apart_part}
use Rattle.scrape_page.proofs.Replaced.{held_replaced}
use Rattle.scrape_page.proofs.Born.{some_there}

-- where nothing can have a number among the families of a name, none has the name
no_number : (X : Type 0) → ¬ X → (name : List ℕ) (families : List Family) → Each (λ (number : ℕ). X) (numbers_of name families)
    → All (λ (family : Family). family.desc.name ≢ name) families
no_number X never name [] all = All-nil (λ (family : Family). family.desc.name ≢ name)
no_number X never name (family ∷ families) all =
    All-cons (λ (it : Family). it.desc.name ≢ name) family families
    (first (bytes_eq family.desc.name name) (bytes_eq-Decides family.desc.name name)
    (each_front (λ (number : ℕ). X) (if bytes_eq family.desc.name name then 0 ∷ [] else [])
    (map (λ n. suc n) (numbers_of name families)) all))
    (no_number X never name families (each_unmap (λ (number : ℕ). X) (λ n. suc n) (numbers_of name families)
    (each_back (λ (number : ℕ). X) (if bytes_eq family.desc.name name then 0 ∷ [] else [])
    (map (λ n. suc n) (numbers_of name families)) all)))
  where
    first : (b : Bool) → Decides b (family.desc.name ≡ name) → Each (λ (number : ℕ). X) (if b then 0 ∷ [] else [])
        → family.desc.name ≢ name
    first true is here = absurd (never here.0)
    first false is here = λ same. let no : false ≡ true = is.1 same in absurd (cc)

-- where all places of a name are on boards of which this is not one, no family of it has the name
pub none_on : {S : Type 0} (Q : ℕ → Type 0) (name : List ℕ) (boards : List (RegistryView S)) (i : ℕ) (board : RegistryView S) → ¬
    (Q i)
    → slice_get boards i ≡ Some board → Each (λ (part : Part). Q part.board) (places_of name boards) → HasNone name board
none_on Q name [] i board never there all = absurd (cc)
none_on {S} Q name (first ∷ boards) zero board never there all =
    let here : first ≡ board = cc in
    subst (HasNone name) here
    (no_number (Q 0) never name first.state.families
    (each_unmap (λ (part : Part). Q part.board) (part_at 0) (numbers_of name first.state.families)
    (each_front (λ (part : Part). Q part.board) (map (part_at 0) (numbers_of name first.state.families))
    (map next_board (places_of name boards)) all)))
none_on Q name (first ∷ boards) (suc i) board never there all =
    none_on (λ k. Q (suc k)) name boards i board never there
    (each_unmap (λ (part : Part). Q part.board) next_board (places_of name boards)
    (each_back (λ (part : Part). Q part.board) (map (part_at 0) (numbers_of name first.state.families))
    (map next_board (places_of name boards)) all))

-- what a family is, is known
pub desc_there : (families : List PageFamily) (number : ℕ) (p : PageFamily) → slice_get families number ≡ Some p
    → Contains (descs_of families) p.desc
desc_there [] number p at = absurd (cc)
desc_there (q ∷ families) zero p at =
    let same : q ≡ p = cc in (0, omega arith, ap (λ (f : PageFamily). f.desc) same)
desc_there (q ∷ families) (suc number) p at =
    let rest = desc_there families number p at in (suc rest.0, omega (arith, rest.1), rest.2)

-- all parts of the family are on full boards, and the board of this number has room
abbrev pub Takable : {S : Type 0} (c h g : ℕ) → List (RegistryView S) → (place : ℕ) → PageFamily → Type 0
Takable c h g boards place it = All (IsFullPart c h g it.desc.kind boards) it.parts
    × IsSomeAnd (slice_get boards place) (HasRoom c h g it.desc.kind)

-- and so it is with the family of this number
abbrev pub MayTake : {S : Type 0} (c h g : ℕ) → PageView S → (number place : ℕ) → Type 0
MayTake c h g page number place = IsSomeAnd (slice_get page.families number) (Takable c h g page.boards place)

-- then no family of that board has its name
pub lacks : {S : Type 0} (c h g : ℕ) (page : PageView S) (number place : ℕ) (p : PageFamily) (board : RegistryView S) → IsPage
    page
    → slice_get page.families number ≡ Some p → Takable c h g page.boards place p → slice_get page.boards place ≡ Some board
    → HasNone p.desc.name board
lacks {S} c h g page number place p board is at may there =
    let Q : ℕ → Type 0 = λ k. IsSomeAnd (slice_get page.boards k) (λ (b : RegistryView S). ¬ (HasRoom c h g p.desc.kind b)) in
    let full : All (λ (part : Part). Q part.board) (places_of p.desc.name page.boards) =
    All-permutation (λ (part : Part). Q part.board) p.parts (places_of p.desc.name page.boards)
    (IsPermutation-sym (places_of p.desc.name page.boards) p.parts
    (all_there (IsSpread page.boards) page.families number p at is.spread).parts) may.0 in
    none_on Q p.desc.name page.boards place board
    (λ not. at_some (λ (b : RegistryView S). ¬ (HasRoom c h g p.desc.kind b)) page.boards place board there not
    (at_some (HasRoom c h g p.desc.kind) page.boards place board there may.1))
    there (recursion_from_All (λ (part : Part). Q part.board) (places_of p.desc.name page.boards) full)

-- the family fits onto that board
pub can_take : {S : Type 0} (c h g : ℕ) (page : PageView S) (order : List ℕ) (number place : ℕ) → IsHeldPage page order
    → MayTake c h g page number place
    → IsSomeAnd (slice_get page.families number) (λ (it : PageFamily). IsSomeAnd (slice_get page.boards place)
    (λ (board : RegistryView S). (length board.state.families < 128) × IsApart board.state.families it.desc))
can_take {S} c h g page order number place held may =
    let chosen = some_there (Takable c h g page.boards place) (slice_get page.families number) may in
    let p : PageFamily = chosen.0 in
    let roomy = some_there (HasRoom c h g p.desc.kind) (slice_get page.boards place) chosen.2.1 in
    let board : RegistryView S = roomy.0 in
    let none : HasNone p.desc.name board = lacks c h g page number place p board held.page_is chosen.1 chosen.2 roomy.1 in
    let few : length page.families ≤ 128 = held.page_is.few in
    let fewer : length board.state.families < length page.families = fewer_on page order held place board roomy.1 number p
    chosen.1 none in
    some_at (λ (it : PageFamily). IsSomeAnd (slice_get page.boards place)
    (λ (b : RegistryView S). (length b.state.families < 128) × IsApart b.state.families it.desc)) page.families number p chosen.1
    (some_at (λ (b : RegistryView S). (length b.state.families < 128) × IsApart b.state.families p.desc) page.boards place board
    roomy.1
    (omega (arith, few, fewer), apart_part page order held place board roomy.1 number p chosen.1 none))

-- what holds of the first, with more behind it
first_push : {A : Type 0} (P : A → Type 0) (xs ys : List A) → IsSomeAnd (slice_get xs 0) P → IsSomeAnd (slice_get (xs ++ ys) 0) P
first_push P [] ys some = absurd some
first_push P (x ∷ xs) ys some = some

module _ {S : Type 0} (old new : PageView S) (number : ℕ) (part : Part) (adds : AddsPart old new number part) where
  -- the families of other names
  spread_other : (q : PageFamily) → q.desc.name ≢ adds.family.desc.name → IsSpread old.boards q → IsSpread new.boards q
  spread_other q other spread = record {
    parts = subst (λ l. IsPermutation l q.parts)
        (sym (other_places old.boards new.boards part.board part.family.number adds.family.desc adds.registered q.desc.name
        (λ e. other (sym e)))) spread.parts;
    first = spread.first;
    distinct = subst (AllPairs (λ a b. a ≢ b))
        (sym (same_values old.boards new.boards part.board part.family.number adds.family.desc adds.registered q.desc.name))
        spread.distinct;
    count = ap length (same_values old.boards new.boards part.board part.family.number adds.family.desc adds.registered
        q.desc.name)
        ∙ spread.count;
    limit = spread.limit;
    home = subst (λ n. q.home < n) (sym (as_many old.boards new.boards part.board part.family.number adds.family.desc
        adds.registered))
        spread.home;
  }

  -- and the family itself
  spread_own : IsSpread old.boards adds.family
      → IsSpread new.boards (record adds.family { parts = adds.family.parts ++ part ∷ [] })
  spread_own spread = record {
    parts = IsPermutation-trans (places_of adds.family.desc.name new.boards)
        (places_of adds.family.desc.name old.boards ++ part ∷ []) (adds.family.parts ++ part ∷ [])
        (IsPermutation-sym (places_of adds.family.desc.name old.boards ++ part ∷ []) (places_of adds.family.desc.name new.boards)
        (own_places old.boards new.boards part.board part.family.number adds.family.desc adds.registered))
        (IsPermutation-append_left (part ∷ []) (places_of adds.family.desc.name old.boards) adds.family.parts spread.parts);
    first = first_push (λ (q : Part). q.board ≡ adds.family.home) adds.family.parts (part ∷ []) spread.first;
    distinct = subst (AllPairs (λ a b. a ≢ b))
        (sym (same_values old.boards new.boards part.board part.family.number adds.family.desc adds.registered
        adds.family.desc.name))
        spread.distinct;
    count = ap length (same_values old.boards new.boards part.board part.family.number adds.family.desc adds.registered
        adds.family.desc.name) ∙ spread.count;
    limit = spread.limit;
    home = subst (λ n. adds.family.home < n)
        (sym (as_many old.boards new.boards part.board part.family.number adds.family.desc adds.registered)) spread.home;
  }

  -- a page of which a family took a part
  pub held_parted : (order : List ℕ) → IsHeldPage old order → HasNone adds.family.desc.name adds.registered.board → IsHeldPage new
      order
  held_parted order held none =
      held_replaced old new order held number adds.family (record adds.family { parts = adds.family.parts ++ part ∷ [] }) adds.it
      refl refl
      adds.families
      (as_many old.boards new.boards part.board part.family.number adds.family.desc adds.registered)
      (same_ids old.boards new.boards part.board part.family.number adds.family.desc adds.registered)
      (all_registered old.boards new.boards part.board part.family.number adds.family.desc adds.registered
      (λ (f : Family). Contains (descs_of old.families) f.desc) (desc_there old.families number adds.family adds.it)
      held.page_is.known)
      (once_registered old.boards new.boards part.board part.family.number adds.family.desc adds.registered held.page_is.once
      none)
      spread_other
      (spread_own (all_there (IsSpread old.boards) old.families number adds.family adds.it held.page_is.spread))

-- or took none
pub held_either : {S E : Type 0} (c h g : ℕ) (old new : PageView S) (order : List ℕ) (number place : ℕ) → IsHeldPage old order
    → MayTake c h g old number place → (result : Result Part E) → IfOk result (AddsPart old new number)
    → IfOk result (λ (part : Part). part.board ≡ place)
    → OnErr result ((new.boards ≡ old.boards) × (new.families ≡ old.families)) → IsHeldPage new order
held_either {S} c h g old new order number place held may (Ok part) adds at same =
    held_parted old new number part adds order held
    (lacks c h g old number part.board adds.family adds.registered.board held.page_is adds.it
    (subst (λ k. Takable c h g old.boards k adds.family) (sym at)
    (at_some (Takable c h g old.boards place) old.families number adds.family adds.it may)) adds.registered.at)
held_either {S} c h g old new order number place held may (Err why) adds at same =
    subst (λ (bs : List (RegistryView S)). IsHeldPage (record { boards = bs; families = new.families }) order) (sym same.0)
    (subst (λ (fs : List PageFamily). IsHeldPage (record { boards = old.boards; families = fs }) order) (sym same.1) held)
