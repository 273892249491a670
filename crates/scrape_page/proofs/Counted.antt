-- A board has no more families than its page, and none that clashes with a new one.
use Rattle.std.proofs.Common.{◌≡◌, ◌≢◌, ℕ, zero, suc, ◌<◌, ◌≤◌, List, [], ◌∷◌, Some, length, map, get_or, refl, sym, ap}
use Rattle.std.proofs.Common.{subst, ◌∙◌}
use Rattle.std.proofs.Common.{arith, All, AllPairs, Contains}
use Rattle.std.specs.Prelude.{slice_get, IsSomeAnd}
use Rattle.std.proofs.lemmas.Cmp.{nat_list_eq_equiv}
use Rattle.std.proofs.lemmas.List.{length-map}
use Rattle.std.proofs.lemmas.List.Elements.{All-map, All-weaker, All-contains, All-cons}
use Rattle.std.proofs.lemmas.List.Kept.{AllPairs-cons}
use Rattle.std.proofs.lemmas.Map.Made.{IsDistinct-from_AllPairs, length-le_from_is_member, is_member-Decides}
use Rattle.std.proofs.lemmas.Option.{get_or_from_slice_get, slice_get_within}
use Rattle.std.proofs.lemmas.Slice.Eq.{bytes_eq-Decides}
use Rattle.metric_desc.specs.Desc.{Descriptor, Clash}
use Rattle.registry_state.specs.Replay.{Family, IsApart}
use Rattle.registry_state.specs.Kept.{RegistryView}
use Rattle.registry_state.proofs.Lists.{pairs_map}
use Rattle.scrape_page.specs.Families.{PageFamily, PageView, descs_of}
use Rattle.scrape_page.specs.Faults.{AreApart}
use Rattle.scrape_page.specs.Kept.{IsHeldPage}
use Rattle.scrape_page.specs.Rooms.{IsHome}
use Rattle.registry_state.proofs.Making.{some_at}
use Rattle.scrape_page.proofs.Registered.{home_within}
use Rattle.scrape_page.proofs.Facts.{all_there, pair_there, turned, known_at, HasNone}

-- names that differ, each of which stands among others, are no more than these
few_names : (xs ys : List (List ℕ)) → AllPairs (λ a b. a ≢ b) xs → All (Contains ys) xs → length xs ≤ length ys
few_names xs ys distinct known =
    length-le_from_is_member nat_list_eq_equiv xs ys (IsDistinct-from_AllPairs bytes_eq-Decides xs distinct)
    (λ q is. (is_member-Decides bytes_eq-Decides ys q).1
    (All-contains (Contains ys) xs q known ((is_member-Decides bytes_eq-Decides xs q).0 is)))

contains_map : {X Y : Type 0} (f : X → Y) (xs : List X) (x : X) → Contains xs x → Contains (map f xs) (f x)
contains_map f [] x (k, lt, is) = absurd (omega (arith, lt))
contains_map f (y ∷ xs) x (zero, lt, is) = (0, omega arith, ap f is)
contains_map f (y ∷ xs) x (suc k, lt, is) =
    let rest = contains_map f xs x (k, omega (arith, lt), is) in (suc rest.0, omega (arith, rest.1), rest.2)

-- what is there
pub board_at : {X : Type 0} (xs : List X) (i : ℕ) → i < length xs → (x : X) × (slice_get xs i ≡ Some x)
board_at [] i within = absurd (omega (arith, within))
board_at (x ∷ xs) zero within = (x, refl)
board_at (x ∷ xs) (suc i) within = board_at xs i (omega (arith, within))

module _ {S : Type 0} (page : PageView S) (order : List ℕ) (held : IsHeldPage page order) (at : ℕ) (board : RegistryView S)
    (there : slice_get page.boards at ≡ Some board) where
  abbrev name_of : Family → List ℕ
  name_of family = family.desc.name

  abbrev names : List (List ℕ)
  names = map (λ (desc : Descriptor). desc.name) (descs_of page.families)

  as_many : length names ≡ length page.families
  as_many = length-map (descs_of page.families) (λ (desc : Descriptor). desc.name)
      ∙ length-map page.families (λ (p : PageFamily). p.desc)

  known : All (λ (family : Family). Contains (descs_of page.families) family.desc) board.state.families
  known = all_there (λ (b : RegistryView S). All (λ (family : Family). Contains (descs_of page.families) family.desc)
      b.state.families)
      page.boards at board there held.page_is.known

  known_names : All (Contains names) (map name_of board.state.families)
  known_names = All-map (Contains names) name_of board.state.families
      (All-weaker (λ (family : Family). Contains (descs_of page.families) family.desc) (λ (family : Family). Contains names
      family.desc.name)
      (λ family is. contains_map (λ (desc : Descriptor). desc.name) (descs_of page.families) family.desc is) board.state.families
      known)

  distinct : AllPairs (λ a b. a ≢ b) (map name_of board.state.families)
  distinct = pairs_map (λ a b. a ≢ b) name_of board.state.families
      (all_there (λ (b : RegistryView S). AllPairs (λ (f g : Family). f.desc.name ≢ g.desc.name) b.state.families) page.boards at
      board there
      held.page_is.once)

  -- as many families as the page, at most
  pub few_on : length board.state.families ≤ length page.families
  few_on =
      let few = few_names (map name_of board.state.families) names distinct known_names in
      let n = length-map board.state.families name_of in
      let m = as_many in
      omega (arith, few, n, m)

  -- one less, where it lacks one of the page's
  pub fewer_on : (number : ℕ) (p : PageFamily) → slice_get page.families number ≡ Some p → HasNone p.desc.name board
      → length board.state.families < length page.families
  fewer_on number p is none =
      let within : number < length page.families = slice_get_within page.families number p is in
      let read : get_or page.families number p ≡ p = get_or_from_slice_get page.families number p p is in
      let its : Contains (descs_of page.families) p.desc =
      subst (λ (q : PageFamily). Contains (descs_of page.families) q.desc) read
      (contains_map (λ (q : PageFamily). q.desc) page.families (get_or page.families number p)
      (number, within, same_read page.families number p within)) in
      let few = few_names (p.desc.name ∷ map name_of board.state.families) names
      (AllPairs-cons (λ a b. a ≢ b) p.desc.name (map name_of board.state.families)
      (All-map (λ name. p.desc.name ≢ name) name_of board.state.families
      (All-weaker (λ (family : Family). family.desc.name ≢ p.desc.name) (λ (family : Family). p.desc.name ≢ family.desc.name)
      (λ family other same. other (sym same)) board.state.families none)) distinct)
      (All-cons (Contains names) p.desc.name (map name_of board.state.families)
      (contains_map (λ (desc : Descriptor). desc.name) (descs_of page.families) p.desc its) known_names) in
      let n = length-map board.state.families name_of in
      let m = as_many in
      omega (arith, few, n, m)
    where
      same_read : (families : List PageFamily) (k : ℕ) (d : PageFamily) → k < length families
          → get_or families k (get_or families k d) ≡ get_or families k d
      same_read families k d lt = Rattle.std.proofs.lemmas.List.get_or_default families k (get_or families k d) d lt

  -- no family of it clashes with what clashes with none of the page's
  pub apart_on : (desc : Descriptor) → AreApart page.families desc → IsApart board.state.families desc
  apart_on desc apart = All-weaker (λ (family : Family). Contains (descs_of page.families) family.desc)
      (λ (family : Family). ¬ (Clash family.desc desc))
      (λ family is. let found = known_at page.families family.desc is in
      subst (λ (d : Descriptor). ¬ (Clash d desc)) found.3
      (all_there (λ (p : PageFamily). ¬ (Clash p.desc desc)) page.families found.0 found.1 found.2 apart)) board.state.families
      known

  -- nor with one of the page's that it lacks
  pub apart_part : (number : ℕ) (p : PageFamily) → slice_get page.families number ≡ Some p → HasNone p.desc.name board
      → IsApart board.state.families p.desc
  apart_part number p is none k d within =
      let family : Family = get_or board.state.families k d in
      let found = known_at page.families family.desc (known k d within) in
      let q : PageFamily = found.1 in
      let read : get_or page.families found.0 p ≡ q = get_or_from_slice_get page.families found.0 q p found.2 in
      let here : get_or page.families number p ≡ p = get_or_from_slice_get page.families number p p is in
      let in_q = slice_get_within page.families found.0 q found.2 in
      let in_p = slice_get_within page.families number p is in
      let other : found.0 ≢ number = λ e. none k d within (ap (λ (desc : Descriptor). desc.name) (sym found.3)
      ∙ ap (λ (x : PageFamily). x.desc.name) (sym read ∙ ap (λ j. get_or page.families j p) e ∙ here)) in
      subst (λ (desc : Descriptor). ¬ (Clash desc p.desc)) found.3
      (subst (λ (x : PageFamily). ¬ (Clash x.desc p.desc)) read
      (subst (λ (y : PageFamily). ¬ (Clash (get_or page.families found.0 p).desc y.desc)) here
      (pair_there (λ (a b : PageFamily). ¬ (Clash a.desc b.desc)) turned page.families found.0 number p held.page_is.apart in_q
      in_p other)))

-- a family that is accepted fits onto the board of its group
pub fits_at : {S : Type 0} (c h g : ℕ) (page : PageView S) (order : List ℕ) → IsHeldPage page order → (desc : Descriptor) (group
    home : ℕ)
    → AreApart page.families desc × (length page.families < 128) → IsHome c h g page desc.kind group home
    → IsSomeAnd (slice_get page.boards home) (λ (board : RegistryView S). (length board.state.families < 128)
    × IsApart board.state.families desc)
fits_at {S} c h g page order held desc group home accepted is_home =
    let within = home_within c h g page desc.kind group home held.page_is is_home in
    let found = board_at page.boards home within in
    some_at (λ (board : RegistryView S). (length board.state.families < 128) × IsApart board.state.families desc) page.boards home
    found.0
    found.1
    (let few = few_on page order held home found.0 found.1 in
    let less = accepted.1 in
    (omega (arith, few, less), apart_on page order held home found.0 found.1 desc accepted.0))
