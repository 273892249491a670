-- A page with one child more, on the board of a part of its family.
use Rattle.std.proofs.Common.{◌≡◌, ◌≢◌, ℕ, ◌+◌, ◌<◌, List, [], ◌∷◌, ◌++◌, Some, None, Option, length, map, set, get_or, refl}
use Rattle.std.proofs.Common.{sym, ap, subst, ◌∙◌, arith, All, AllPairs, Contains, Bool, true, false, append-nil}
use Rattle.std.specs.Prelude.{slice_get, if◌then◌else◌, IsSomeAnd}
use Rattle.std.specs.Str.{bytes_eq}
use Rattle.std.specs.List.Sorted.{IsPermutation}
use Rattle.std.proofs.Math.ListN.{length-set}
use Rattle.std.proofs.lemmas.List.{length_push}
use Rattle.std.proofs.lemmas.List.Elements.{All-set, All-contains}
use Rattle.std.proofs.lemmas.List.Quantifiers.{all_pairs_push}
use Rattle.std.proofs.lemmas.List.Sorted.{length_permutation, All-permutation}
use Rattle.metric_desc.specs.Desc.{Descriptor}
use Rattle.registry_state.specs.Replay.{Child, Family, IsNew, with_child}
use Rattle.registry_state.specs.Faults.{HasSlot, IsMissingChild}
use Rattle.registry_state.specs.Kept.{RegistryView}
use Rattle.registry_state.specs.declared.handle.Handle.{Handle}
use Rattle.registry_state.proofs.Ordered.{length-with_child, desc_at}
use Rattle.registry_state.proofs.Holding.{all_at, all_made}
use Rattle.registry_state.proofs.Making.{at_some, some_at, there_at}
use Rattle.scrape_page.specs.declared.family.Part.{Part}
use Rattle.scrape_page.specs.Families.{PageFamily, PageView, descs_of}
use Rattle.scrape_page.specs.Places.{values_of, numbers_of, places_of, HasPart}
use Rattle.scrape_page.specs.Faults.{IsMissing}
use Rattle.scrape_page.specs.Rooms.{HasRoom}
use Rattle.scrape_page.specs.Calls.{AddsChild, IsMadeOn}
use Rattle.scrape_page.specs.Kept.{IsPage, IsSpread, IsHeldPage}
use Rattle.scrape_page.proofs.Lists.{map_set_same, distinct_moved}
use Rattle.scrape_page.proofs.Located.{name_yes, name_no, numbers_made, places_set_same}
use Rattle.scrape_page.proofs.Valued.{values_made, everywhere_new}
use Rattle.scrape_page.proofs.Facts.{all_there, part_there, same_desc}
use Rattle.scrape_page.proofs.Replaced.{held_replaced}

-- what is there
pub some_there : {X : Type 0} (P : X → Type 0) (o : Option X) → IsSomeAnd o P → (x : X) × (o ≡ Some x) × P x
some_there P None some = absurd some
some_there P (Some x) some = (x, refl, some)

-- a child of these values may be made of the family, on the board of this part
abbrev pub Growable : {S : Type 0} (c h g : ℕ) → PageView S → Part → List (List ℕ) → PageFamily → Type 0
Growable c h g page part values it = IsMissing page.boards it values × (it.children < 256) × Contains it.parts part
    × IsSomeAnd (slice_get page.boards part.board) (HasRoom c h g it.desc.kind)

-- and of the family of this number
abbrev pub MayGrow : {S : Type 0} (c h g : ℕ) → PageView S → (number : ℕ) → Part → List (List ℕ) → Type 0
MayGrow c h g page number part values = IsSomeAnd (slice_get page.families number) (Growable c h g page part values)

-- a board has one child more, in a family
pub record IsGrown {S : Type 0} (boards boards' : List (RegistryView S)) (it : Family) (child : Child) : Type 0 where
  pub at : ℕ
  pub number : ℕ
  pub board : RegistryView S
  pub board' : RegistryView S
  pub there : slice_get boards at ≡ Some board
  pub its : slice_get board.state.families number ≡ Some it
  pub after : board'.state.families ≡ with_child board.state.families number child
  pub id : board'.id ≡ board.id
  pub boards_are : boards' ≡ set boards at board'

-- a board on which a child was made
pub grown_of : {S : Type 0} (c h g : ℕ) (boards boards' : List (RegistryView S)) (part : Part) (values : List (List ℕ)) (handle :
    Handle)
    (it : Family) (made : IsMadeOn c h g boards boards' part values handle)
    → slice_get made.board.state.families part.family.number ≡ Some it
    → IsGrown boards boards' it (record { values = values; slot = made.made.slot })
grown_of {S} c h g boards boards' part values handle it made its = record {
  at = part.board;
  number = part.family.number;
  board = made.board;
  board' = made.board';
  there = made.at;
  its = its;
  after = ap (λ (r : RegistryView S). r.state.families) made.made.after_it;
  id = ap (λ (r : RegistryView S). r.id) made.made.after_it;
  boards_are = made.boards;
}

module _ {S : Type 0} (boards boards' : List (RegistryView S)) (it : Family) (child : Child) (is : IsGrown boards boards' it
    child)
  where
    -- as many boards
    pub many_grown : length boards' ≡ length boards
    many_grown = ap length is.boards_are ∙ length-set boards is.at is.board'

    -- with the same ids
    pub ids_grown : map (λ (board : RegistryView S). board.id) boards' ≡ map (λ (board : RegistryView S). board.id) boards
    ids_grown = ap (map (λ (board : RegistryView S). board.id)) is.boards_are
        ∙ map_set_same (λ (board : RegistryView S). board.id) boards is.at is.board is.board' is.there is.id

    -- with the same places
    pub places_grown : (name : List ℕ) → places_of name boards' ≡ places_of name boards
    places_grown name = ap (places_of name) is.boards_are
        ∙ places_set_same name boards is.at is.board is.board' is.there
        (ap (numbers_of name) is.after ∙ numbers_made name is.board.state.families is.number child)

    values_grown : (name : List ℕ) (b : Bool) → bytes_eq it.desc.name name ≡ b
        → IsPermutation (values_of name boards ++ (if b then child.values ∷ [] else [])) (values_of name boards')
    values_grown name b is_b =
        subst (λ t. IsPermutation (values_of name boards ++ (if t then child.values ∷ [] else [])) (values_of name boards')) is_b
        (subst (λ bs. IsPermutation (values_of name boards
        ++ (if bytes_eq it.desc.name name then child.values ∷ [] else [])) (values_of name bs)) (sym is.boards_are)
        (values_made name boards is.at is.board is.board' is.number it child is.there is.its is.after))

    -- the values of its name are one more
    pub own_grown : (name : List ℕ) → it.desc.name ≡ name
        → IsPermutation (values_of name boards ++ child.values ∷ []) (values_of name boards')
    own_grown name same = values_grown name true (name_yes it.desc.name name same)

    -- those of other names are the same
    pub others_grown : (name : List ℕ) → it.desc.name ≢ name → IsPermutation (values_of name boards) (values_of name boards')
    others_grown name other = subst (λ l. IsPermutation l (values_of name boards')) (append-nil (values_of name boards))
        (values_grown name false (name_no it.desc.name name other))

    -- and so are the descriptors
    pub all_grown : (P : Descriptor → Type 0) → All (λ (board : RegistryView S). All (λ (f : Family). P f.desc)
        board.state.families) boards
        → All (λ (board : RegistryView S). All (λ (f : Family). P f.desc) board.state.families) boards'
    all_grown P all =
        let D : Family → Type 0 = λ (f : Family). P f.desc in
        let Q : RegistryView S → Type 0 = λ (board : RegistryView S). All D board.state.families in
        let old : All D is.board.state.families = all_there Q boards is.at is.board is.there all in
        subst (All Q) (sym is.boards_are)
        (All-set Q boards is.at is.board'
        (subst (All D) (sym is.after)
        (all_made D D is.board.state.families is.number child it is.its (λ f here. here)
        (all_at D is.board.state.families is.number it is.its old) old)) all)

    pub once_grown : All (λ (board : RegistryView S). AllPairs (λ (a b : Family). a.desc.name ≢ b.desc.name) board.state.families)
        boards
        → All (λ (board : RegistryView S). AllPairs (λ (a b : Family). a.desc.name ≢ b.desc.name) board.state.families) boards'
    once_grown once =
        let R : Family → Family → Type 0 = λ (a b : Family). a.desc.name ≢ b.desc.name in
        let Q : RegistryView S → Type 0 = λ (board : RegistryView S). AllPairs R board.state.families in
        subst (All Q) (sym is.boards_are)
        (All-set Q boards is.at is.board'
        (subst (AllPairs R) (sym is.after) (still (all_there Q boards is.at is.board is.there once))) once)
      where
        still : AllPairs (λ (a b : Family). a.desc.name ≢ b.desc.name) is.board.state.families
            → AllPairs (λ (a b : Family). a.desc.name ≢ b.desc.name) (with_child is.board.state.families is.number child)
        still pairs i j d lt within =
            let n : length (with_child is.board.state.families is.number child) ≡ length is.board.state.families =
            length-with_child is.board.state.families is.number child in
            subst (λ (a : Descriptor). a.name ≢ (get_or (with_child is.board.state.families is.number child) j d).desc.name)
            (sym (desc_at is.board.state.families is.number child i d))
            (subst (λ (b : Descriptor). (get_or is.board.state.families i d).desc.name ≢ b.name)
            (sym (desc_at is.board.state.families is.number child j d)) (pairs i j d lt (omega (arith, n, within))))

    -- the families of other names
    pub spread_other : (q : PageFamily) → it.desc.name ≢ q.desc.name → IsSpread boards q → IsSpread boards' q
    spread_other q other spread = record {
      parts = subst (λ l. IsPermutation l q.parts) (sym (places_grown q.desc.name)) spread.parts;
      first = spread.first;
      distinct = distinct_moved (values_of q.desc.name boards) (values_of q.desc.name boards') (others_grown q.desc.name other)
          spread.distinct;
      count = length_permutation (values_of q.desc.name boards) (values_of q.desc.name boards') (others_grown q.desc.name other)
          ∙ spread.count;
      limit = spread.limit;
      home = subst (λ n. q.home < n) (sym many_grown) spread.home;
    }

    -- and the family of the child
    pub spread_own : (p : PageFamily) → it.desc.name ≡ p.desc.name → All (λ other. other ≢ child.values) (values_of p.desc.name
        boards)
        → p.children < 256 → IsSpread boards p → IsSpread boards' (record p { children = p.children + 1 })
    spread_own p same none few spread =
        let moved : IsPermutation (values_of p.desc.name boards ++ child.values ∷ []) (values_of p.desc.name boards') =
        own_grown p.desc.name same in
        let count = spread.count in
        let one : length (values_of p.desc.name boards ++ child.values ∷ []) ≡ length (values_of p.desc.name boards) + 1 =
        length_push (values_of p.desc.name boards) child.values in
        let more : length (values_of p.desc.name boards') ≡ length (values_of p.desc.name boards ++ child.values ∷ []) =
        length_permutation (values_of p.desc.name boards ++ child.values ∷ []) (values_of p.desc.name boards') moved in
        record {
          parts = subst (λ l. IsPermutation l p.parts) (sym (places_grown p.desc.name)) spread.parts;
          first = spread.first;
          distinct = distinct_moved (values_of p.desc.name boards ++ child.values ∷ []) (values_of p.desc.name boards') moved
              (all_pairs_push (λ a b. a ≢ b) (values_of p.desc.name boards) child.values spread.distinct none);
          count = omega (arith, one, more, count);
          limit = omega (arith, few);
          home = subst (λ n. p.home < n) (sym many_grown) spread.home;
        }

-- the family of a part, on its board
pub part_family : {S : Type 0} (page : PageView S) (number : ℕ) (p : PageFamily) (part : Part) (board : RegistryView S) → IsPage
    page
    → slice_get page.families number ≡ Some p → Contains p.parts part → slice_get page.boards part.board ≡ Some board
    → (it : Family) × (slice_get board.state.families part.family.number ≡ Some it) × (it.desc.name ≡ p.desc.name)
part_family {S} page number p part board is at has there =
    some_there (λ (family : Family). family.desc.name ≡ p.desc.name) (slice_get board.state.families part.family.number)
    (at_some (λ (b : RegistryView S). IsSomeAnd (slice_get b.state.families part.family.number)
    (λ (family : Family). family.desc.name ≡ p.desc.name)) page.boards part.board board there
    (All-contains (λ (q : Part). HasPart page.boards q (λ _ (family : Family). family.desc.name ≡ p.desc.name)) p.parts part
    (part_there page is number p at) has))

-- a page of whose family a child was made
pub held_born : {S : Type 0} (c h g : ℕ) (old new : PageView S) (order : List ℕ) (number : ℕ) (part : Part) (values : List (List
    ℕ))
    (handle : Handle) → IsHeldPage old order
    → MayGrow c h g old number part values
    → AddsChild c h g old new number part values handle → IsHeldPage new order
held_born c h g old new order number part values handle held may adds =
    let p : PageFamily = adds.family in
    let can = at_some (Growable c h g old part values) old.families number p adds.it may in
    let found = part_family old number p part adds.made.board held.page_is adds.it can.2 adds.made.at in
    let it : Family = found.0 in
    let child : Child = record { values = values; slot = adds.made.made.slot } in
    let grown : IsGrown old.boards new.boards it child = grown_of c h g old.boards new.boards part values handle it adds.made
    found.1 in
    held_replaced old new order held number p (record p { children = p.children + 1 }) adds.it refl refl adds.families
    (many_grown old.boards new.boards it child grown)
    (ids_grown old.boards new.boards it child grown)
    (all_grown old.boards new.boards it child grown (Contains (descs_of old.families)) held.page_is.known)
    (once_grown old.boards new.boards it child grown held.page_is.once)
    (λ q other. spread_other old.boards new.boards it child grown q (λ same. other (sym same ∙ found.2)))
    (spread_own old.boards new.boards it child grown p found.2 can.0.1 can.1
    (all_there (IsSpread old.boards) old.families number p adds.it held.page_is.spread))

-- a child may be made on the board of a part that has room
pub can_make : {S : Type 0} (c h g : ℕ) (page : PageView S) (number : ℕ) (part : Part) (values : List (List ℕ)) → IsPage page
    → MayGrow c h g page number part values
    → HasPart page.boards part (λ (board : RegistryView S) (it : Family). IsMissingChild it values
    × HasSlot c h g board.state.families it.desc.kind)
can_make {S} c h g page number part values is may =
    let chosen = some_there (Growable c h g page part values) (slice_get page.families number) may in
    let p : PageFamily = chosen.0 in
    let at : slice_get page.families number ≡ Some p = chosen.1 in
    let roomy = some_there (HasRoom c h g p.desc.kind) (slice_get page.boards part.board) chosen.2.3 in
    let board : RegistryView S = roomy.0 in
    let found = part_family page number p part board is at chosen.2.2 roomy.1 in
    let it : Family = found.0 in
    let desc : it.desc ≡ p.desc = same_desc page is number p it.desc at
    (all_there (λ (f : Family). Contains (descs_of page.families) f.desc) board.state.families part.family.number it found.1
    (all_there (λ (b : RegistryView S). All (λ (f : Family). Contains (descs_of page.families) f.desc) b.state.families)
    page.boards
    part.board board roomy.1 is.known)) found.2 in
    let New : Part → Type 0 = λ (q : Part). HasPart page.boards q (λ _ (f : Family). IsNew f values) in
    let new : New part = All-contains New p.parts part
    (All-permutation New (places_of p.desc.name page.boards) p.parts
    (all_there (IsSpread page.boards) page.families number p at is.spread).parts
    (everywhere_new p.desc.name values page.boards chosen.2.0.1)) chosen.2.2 in
    let here : IsNew it values = at_some (λ (f : Family). IsNew f values) board.state.families part.family.number it found.1
    (at_some (λ (b : RegistryView S). IsSomeAnd (slice_get b.state.families part.family.number) (λ (f : Family). IsNew f values))
    page.boards part.board board roomy.1 new) in
    some_at (λ (b : RegistryView S). IsSomeAnd (slice_get b.state.families part.family.number) (λ (f : Family). IsMissingChild f
    values
    × HasSlot c h g b.state.families f.desc.kind)) page.boards part.board board roomy.1
    (some_at (λ (f : Family). IsMissingChild f values × HasSlot c h g board.state.families f.desc.kind) board.state.families
    part.family.number it found.1 (
      (chosen.2.0.0 ∙ ap (λ (d : Descriptor). length d.labels) (sym desc), here),
      subst (λ (d : Descriptor). HasSlot c h g board.state.families d.kind) (sym desc) roomy.2,
    ))

-- the family that counts one more was read
pub adds_child : {S : Type 0} (c h g : ℕ) (old new : PageView S) (number : ℕ) (part : Part) (values : List (List ℕ)) (handle :
    Handle)
    (family seen : PageFamily) → MayGrow c h g old number part values → family ≡ get_or old.families number family → seen ≡ family
    → IsMadeOn c h g old.boards new.boards part values handle
    → new.families ≡ set old.families number (record seen { children = seen.children + 1 })
    → AddsChild c h g old new number part values handle
adds_child c h g old new number part values handle family seen may read same made families = record {
  family = family;
  it = there_at (Growable c h g old part values) old.families number family may read;
  made = made;
  families = families ∙ ap (λ (f : PageFamily). set old.families number (record f { children = f.children + 1 })) same;
}
