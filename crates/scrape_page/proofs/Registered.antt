-- A page with one family more.
use Rattle.std.proofs.Common.{◌≡◌, ◌≢◌, ℕ, ◌<◌, List, [], ◌∷◌, ◌++◌, Some, length, map, set, get_or, refl, sym, ap}
use Rattle.std.proofs.Common.{subst, ◌∙◌, arith, All, AllPairs, Contains, inl, inr, append-nil}
use Rattle.std.specs.Prelude.{Result, Ok, Err, OnOk, OnErr, slice_get, if◌then◌else◌}
use Rattle.std.specs.List.{insert}
use Rattle.std.specs.List.Sorted.{IsPermutation}
use Rattle.std.proofs.Math.ListN.{length-set}
use Rattle.std.proofs.lemmas.List.{length_push, map-append, length-map}
use Rattle.std.proofs.lemmas.List.Elements.{All-weaker, All-push, All-set, Contains-append_left, Contains-push}
use Rattle.std.proofs.lemmas.List.Quantifiers.{all_pairs_push}
use Rattle.std.proofs.lemmas.List.Sorted.{IsPermutation-sym}
use Rattle.std.proofs.lemmas.Option.{get_or_from_slice_get, slice_get_within}
use Rattle.metric_desc.specs.Desc.{Descriptor, Clash}
use Rattle.metric_desc.specs.declared.kind.Kind.{Kind}
use Rattle.registry_state.specs.Journal.{Registered}
use Rattle.registry_state.specs.Replay.{Family}
use Rattle.registry_state.specs.Held.{IsOrder, IsPlaceOfName}
use Rattle.registry_state.specs.Calls.{changed}
use Rattle.registry_state.specs.Kept.{RegistryView}
use Rattle.registry_state.proofs.Ordered.{order_more}
use Rattle.scrape_page.specs.Families.{PageFamily, PageView, descs_of, as_family}
use Rattle.scrape_page.specs.Faults.{AreApart}
use Rattle.scrape_page.specs.Calls.{AddsFamily, IsRegisteredOn}
use Rattle.scrape_page.specs.Rooms.{IsHome}
use Rattle.scrape_page.specs.Kept.{IsPage, IsSpread, IsHeldPage}
use Rattle.scrape_page.specs.Places.{values_of, part_at, numbers_of, places_of}
use Rattle.scrape_page.proofs.Lists.{map_set_same, pairs_along}
use Rattle.scrape_page.proofs.Located.{name_yes, name_no, numbers_push, places_set_same, places_set_more}
use Rattle.scrape_page.proofs.Valued.{values_registered}
use Rattle.scrape_page.proofs.Facts.{all_there, names_apart, HasNone, places_none, values_none, none_of}

-- the board of a group is there
pub home_within : {S : Type 0} (c h g : ℕ) (page : PageView S) (kind : Kind) (group home : ℕ) → IsPage page
    → IsHome c h g page kind group home → home < length page.boards
home_within c h g page kind group home is (inl any) =
    let p : PageFamily = any.1 in
    let there : slice_get page.families any.0 ≡ Some p = Rattle.std.proofs.lemmas.Option.slice_get-get_or page.families any.0 p
    any.2
    ∙ ap Some any.3 in
    let within : p.home < length page.boards = (all_there (IsSpread page.boards) page.families any.0 p there is.spread).home in
    subst (λ n. n < length page.boards) any.4.1 within
home_within c h g page kind group home is (inr new) = slice_get_within page.boards home new.2.board new.2.there

module _ {S : Type 0} (boards boards' : List (RegistryView S)) (at number : ℕ) (desc : Descriptor)
    (registered : IsRegisteredOn boards boards' at desc number) where
  the_new : RegistryView S
  the_new = changed (Registered desc) registered.board

  the_family : Family
  the_family = record { desc = desc; children = [] }

  -- as many boards
  pub as_many : length boards' ≡ length boards
  as_many = ap length registered.boards ∙ length-set boards at (changed (Registered desc) registered.board)

  -- with the same ids
  pub same_ids : map (λ (board : RegistryView S). board.id) boards' ≡ map (λ (board : RegistryView S). board.id) boards
  same_ids = ap (map (λ (board : RegistryView S). board.id)) registered.boards
      ∙ map_set_same (λ (board : RegistryView S). board.id) boards at registered.board (changed (Registered desc)
      registered.board)
      registered.at refl

  -- with the same values
  pub same_values : (name : List ℕ) → values_of name boards' ≡ values_of name boards
  same_values name = ap (values_of name) registered.boards
      ∙ values_registered name boards at registered.board (changed (Registered desc) registered.board)
      (record { desc = desc; children = [] }) registered.at refl refl

  -- the places of other names are the same
  pub other_places : (name : List ℕ) → desc.name ≢ name → places_of name boards' ≡ places_of name boards
  other_places name other = ap (places_of name) registered.boards
      ∙ places_set_same name boards at registered.board (changed (Registered desc) registered.board) registered.at
      (numbers_push name registered.board.state.families (record { desc = desc; children = [] })
      ∙ ap (λ b. numbers_of name registered.board.state.families
      ++ (if b then length registered.board.state.families ∷ [] else [])) (name_no desc.name name other)
      ∙ append-nil (numbers_of name registered.board.state.families))

  -- of its own there is one more
  pub own_places : IsPermutation (places_of desc.name boards ++ part_at at number ∷ []) (places_of desc.name boards')
  own_places = subst (λ bs. IsPermutation (places_of desc.name boards ++ part_at at number ∷ []) (places_of desc.name bs))
      (sym registered.boards)
      (subst (λ n. IsPermutation (places_of desc.name boards ++ part_at at n ∷ [])
      (places_of desc.name (set boards at (changed (Registered desc) registered.board)))) (sym registered.number_is)
      (places_set_more desc.name boards at registered.board (changed (Registered desc) registered.board)
      (length registered.board.state.families) registered.at
      (numbers_push desc.name registered.board.state.families (record { desc = desc; children = [] })
      ∙ ap (λ b. numbers_of desc.name registered.board.state.families
      ++ (if b then length registered.board.state.families ∷ [] else [])) (name_yes desc.name desc.name refl))))

  -- what holds of each family, and of the new one
  pub all_registered : (P : Family → Type 0) → P (record { desc = desc; children = [] })
      → All (λ (board : RegistryView S). All P board.state.families) boards
      → All (λ (board : RegistryView S). All P board.state.families) boards'
  all_registered P new all =
      let Q : RegistryView S → Type 0 = λ (board : RegistryView S). All P board.state.families in
      subst (All Q) (sym registered.boards)
      (All-set Q boards at (changed (Registered desc) registered.board)
      (All-push P registered.board.state.families (record { desc = desc; children = [] })
      (all_there Q boards at registered.board registered.at all) new) all)

  -- names of a board's families, of which the new one is another
  pub once_registered : All (λ (board : RegistryView S). AllPairs (λ (a b : Family). a.desc.name ≢ b.desc.name)
      board.state.families) boards
      → All (λ (family : Family). family.desc.name ≢ desc.name) registered.board.state.families
      → All (λ (board : RegistryView S). AllPairs (λ (a b : Family). a.desc.name ≢ b.desc.name) board.state.families) boards'
  once_registered once none =
      let R : Family → Family → Type 0 = λ (a b : Family). a.desc.name ≢ b.desc.name in
      let Q : RegistryView S → Type 0 = λ (board : RegistryView S). AllPairs R board.state.families in
      subst (All Q) (sym registered.boards)
      (All-set Q boards at (changed (Registered desc) registered.board)
      (all_pairs_push R registered.board.state.families (record { desc = desc; children = [] })
      (all_there Q boards at registered.board registered.at once) none) once)

module _ {S : Type 0} (c h g : ℕ) (old new : PageView S) (desc : Descriptor) (group home : ℕ) (order : List ℕ)
    (held : IsHeldPage old order) (apart : AreApart old.families desc) (few : length old.families < 128)
    (is_home : IsHome c h g old desc.kind group home) (adds : AddsFamily old new desc group home) where
  is : IsPage old
  is = held.page_is

  family : PageFamily
  family = record { desc = desc; group = group; home = home; parts = part_at home adds.number ∷ []; children = 0 }

  -- families of one group have one home
  same_group : (k : ℕ) (d : PageFamily) → k < length old.families → (get_or old.families k d).group ≡ group
      → (get_or old.families k d).home ≡ home
  same_group k d within same = by_home is_home
    where
      by_home : IsHome c h g old desc.kind group home → (get_or old.families k d).home ≡ home
      by_home (inr fresh) = absurd (fresh.0 k d within same)
      by_home (inl any) =
          let p : PageFamily = any.1 in
          let j : ℕ = any.0 in
          let there : get_or old.families j d ≡ p = get_or_from_slice_get old.families j p d
          (Rattle.std.proofs.lemmas.Option.slice_get-get_or old.families j p any.2 ∙ ap Some any.3) in
          elim (Rattle.registry_state.proofs.Lists.cases_order k j) [
            | inl lt ↦ is.groups k j d lt any.2
                (same ∙ sym (ap (λ (q : PageFamily). q.group) there ∙ any.4.0)) ∙ ap (λ (q : PageFamily). q.home) there ∙ any.4.1
            | inr rest ↦ elim rest [
              | inl e ↦ ap (λ n. (get_or old.families n d).home) e ∙ ap (λ (q : PageFamily). q.home) there ∙ any.4.1
              | inr gt ↦ sym (is.groups j k d gt within
                  (ap (λ (q : PageFamily). q.group) there ∙ any.4.0 ∙ sym same)) ∙ ap (λ (q : PageFamily). q.home) there ∙ any.4.1
            ]
          ]

  none : All (HasNone desc.name) old.boards
  none = none_of old is desc apart

  spread_old : (q : PageFamily) → ¬ (Clash q.desc desc) → IsSpread old.boards q → IsSpread new.boards q
  spread_old q other spread = record {
    parts = subst (λ l. IsPermutation l q.parts) (sym (other_places old.boards new.boards home adds.number desc adds.registered
        q.desc.name
        (λ e. names_apart q.desc desc other (sym e)))) spread.parts;
    first = spread.first;
    distinct = subst (AllPairs (λ a b. a ≢ b)) (sym (same_values old.boards new.boards home adds.number desc adds.registered
        q.desc.name))
        spread.distinct;
    count = ap length (same_values old.boards new.boards home adds.number desc adds.registered q.desc.name) ∙ spread.count;
    limit = spread.limit;
    home = subst (λ n. q.home < n) (sym (as_many old.boards new.boards home adds.number desc adds.registered)) spread.home;
  }

  no_value : values_of desc.name new.boards ≡ []
  no_value = same_values old.boards new.boards home adds.number desc adds.registered desc.name ∙ values_none desc.name old.boards
      none

  spread_new : IsSpread new.boards (record {
    desc = desc;
    group = group;
    home = home;
    parts = part_at home adds.number ∷ [];
    children = 0;
  })
  spread_new = record {
    parts = IsPermutation-sym (part_at home adds.number ∷ []) (places_of desc.name new.boards)
        (subst (λ l. IsPermutation (l ++ part_at home adds.number ∷ []) (places_of desc.name new.boards))
        (places_none desc.name old.boards none) (own_places old.boards new.boards home adds.number desc adds.registered));
    first = refl;
    distinct = subst (AllPairs (λ a b. a ≢ b)) (sym no_value) (λ i j d lt within. absurd (omega (arith, within)));
    count = ap length no_value;
    limit = omega arith;
    home = subst (λ n. home < n) (sym (as_many old.boards new.boards home adds.number desc adds.registered))
        (home_within c h g old desc.kind group home is is_home);
  }

  descs : descs_of new.families ≡ descs_of old.families ++ desc ∷ []
  descs = ap descs_of adds.families ∙ map-append (λ (p : PageFamily). p.desc) old.families
      (record { desc = desc; group = group; home = home; parts = part_at home adds.number ∷ []; children = 0 } ∷ [])

  pub page_registered : IsPage new
  page_registered =
      let the : PageFamily = record {
        desc = desc;
        group = group;
        home = home;
        parts = part_at home adds.number ∷ [];
        children = 0;
      } in
      let n = as_many old.boards new.boards home adds.number desc adds.registered in
      let some = is.some in
      let most = is.most in
      record {
        some = omega (arith, n, some);
        most = omega (arith, n, most);
        ids = pairs_along (λ a b. a ≢ b) (λ (board : RegistryView S). board.id) old.boards new.boards
            (same_ids old.boards new.boards home adds.number desc adds.registered) is.ids;
        few = let more = ap length adds.families ∙ length_push old.families the in omega (arith, more, few);
        apart = subst (AllPairs (λ (a b : PageFamily). ¬ (Clash a.desc b.desc))) (sym adds.families)
            (all_pairs_push (λ (a b : PageFamily). ¬ (Clash a.desc b.desc)) old.families the is.apart apart);
        known = subst (λ l. All (λ (board : RegistryView S). All (λ (f : Family). Contains l f.desc) board.state.families)
            new.boards)
            (sym descs)
            (all_registered old.boards new.boards home adds.number desc adds.registered
            (λ (f : Family). Contains (descs_of old.families ++ desc ∷ []) f.desc) (Contains-push (descs_of old.families) desc)
            (All-weaker (λ (board : RegistryView S). All (λ (f : Family). Contains (descs_of old.families) f.desc)
            board.state.families)
            (λ (board : RegistryView S). All (λ (f : Family). Contains (descs_of old.families ++ desc ∷ []) f.desc)
            board.state.families)
            (λ board all. All-weaker (λ (f : Family). Contains (descs_of old.families) f.desc)
            (λ (f : Family). Contains (descs_of old.families ++ desc ∷ []) f.desc)
            (λ f there. Contains-append_left (descs_of old.families) (desc ∷ []) f.desc there) board.state.families all)
            old.boards is.known));
        once = once_registered old.boards new.boards home adds.number desc adds.registered is.once
            (all_there (HasNone desc.name) old.boards home adds.registered.board adds.registered.at none);
        spread = subst (All (IsSpread new.boards)) (sym adds.families)
            (All-push (IsSpread new.boards) old.families the
            (λ k d within. spread_old (get_or old.families k d) (apart k d within) (is.spread k d within)) spread_new);
        groups = subst (AllPairs (λ (a b : PageFamily). a.group ≡ b.group → a.home ≡ b.home)) (sym adds.families)
            (all_pairs_push (λ (a b : PageFamily). a.group ≡ b.group → a.home ≡ b.home) old.families the is.groups same_group);
      }

  pub held_registered : (order' : List ℕ) (place : ℕ) → IsPlaceOfName (map as_family old.families) order desc.name place
      → order' ≡ insert order place (length old.families) → IsHeldPage new order'
  held_registered order' place at after = record {
    page_is = page_registered;
    ordered =
        let the : PageFamily = record {
          desc = desc;
          group = group;
          home = home;
          parts = part_at home adds.number ∷ [];
          children =
              0;
        } in
        subst (λ l. IsOrder l order') (sym (ap (map as_family) adds.families ∙ map-append as_family old.families (the ∷ [])))
        (subst (IsOrder (map as_family old.families ++ as_family the ∷ []))
        (ap (λ n. insert order place n) (length-map old.families as_family) ∙ sym after)
        (order_more (map as_family old.families) order (as_family the) place held.ordered at));
  }

-- a page after a family was registered, or was not
pub held_either : {S E : Type 0} (c h g : ℕ) (old new : PageView S) (desc : Descriptor) (group home : ℕ) (order order' : List ℕ)
    (place : ℕ)
    → IsHeldPage old order → AreApart old.families desc × (length old.families < 128) → IsHome c h g old desc.kind group home
    → IsPlaceOfName (map as_family old.families) order desc.name place
    → (result : Result (Unit {0}) E) → OnOk result (AddsFamily old new desc group home)
    → OnOk result (order' ≡ insert order place (length old.families))
    → OnErr result ((new.boards ≡ old.boards) × (new.families ≡ old.families) × (order' ≡ order))
    → IsHeldPage new order'
held_either c h g old new desc group home order order' place held accepted is_home at (Ok done) adds placed same =
    held_registered c h g old new desc group home order held accepted.0 accepted.1 is_home adds order' place at placed
held_either {S} c h g old new desc group home order order' place held accepted is_home at (Err why) adds placed same =
    subst (IsHeldPage new) (sym same.2)
    (subst (λ (bs : List (RegistryView S)). IsHeldPage (record { boards = bs; families = new.families }) order) (sym same.0)
    (subst (λ (fs : List PageFamily). IsHeldPage (record { boards = old.boards; families = fs }) order) (sym same.1) held))
