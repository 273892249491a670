-- The scrapes of a page's boards can be merged.
use Rattle.std.proofs.Common.{◌≡◌, ◌≢◌, ℕ, zero, suc, ◌+◌, ◌*◌, ◌<◌, ◌≤◌, List, [], ◌∷◌, length, map, get_or, All, AllPairs}
use Rattle.std.proofs.Common.{Contains, Option, Some, None, slice_get, IsSomeAnd, refl, sym, ap, subst, ◌∙◌, arith, inl, inr}
use Rattle.std.proofs.Common.{add-one}
use Rattle.std.specs.Prelude.{flat_map, zip}
use Rattle.std.specs.List.{AllZip, range_with_len}
use Rattle.std.specs.List.Sorted.{IsPermutation}
use Rattle.std.specs.Option.{option_map}
use Rattle.std.proofs.lemmas.List.{length-map}
use Rattle.std.proofs.lemmas.List.Elements.{All-weaker}
use Rattle.std.proofs.lemmas.List.Sorted.{length_permutation, IsPermutation-map, Contains-permutation}
use Rattle.std.proofs.lemmas.Option.{slice_get-map, slice_get_within, get_or_from_slice_get}
use Rattle.std.proofs.lemmas.Slice.Zip.{AllZip-long}
use Rattle.metric_desc.specs.Desc.{Descriptor, Clash}
use Rattle.expo_text.specs.Scraped.{Child as ChildShown, Scraped}
use Rattle.expo_text.specs.Order.{IsBefore}
use Rattle.expo_text.proofs.Families.{before_differs}
use Rattle.registry_state.specs.Replay.{Family}
use Rattle.registry_state.specs.Kept.{RegistryView}
use Rattle.registry_state.specs.Held.{no_family, family_at, IsOrder}
use Rattle.registry_state.proofs.Lists.{cases_order, pairs_map, pairs_weaker}
use Rattle.registry_state.proofs.Ordered.{order_below}
use Rattle.registry_state.proofs.Showing.{length-order}
use Rattle.scrape_merge.specs.Frames.{Frame, FramesView, descs_of as descs_in}
use Rattle.scrape_merge.specs.Merged.{families_of, children_of, named, HasRoom, IsMergeable}
use Rattle.scrape_merge.proofs.Children.{still_distinct}
use Rattle.scrape_merge.proofs.Zipped.{zip_map, zip_all, pairs_same, pairs_unmap}
use Rattle.scrape_page.specs.Families.{PageFamily, descs_of, as_family}
use Rattle.scrape_page.specs.Places.{places_of}
use Rattle.scrape_page.specs.Shown.{shown_on}
use Rattle.scrape_page.specs.Kept.{IsSpread, IsHeldPage}
use Rattle.scrape_page.specs.Framed.{IsFrameOf, AreFrames}
use Rattle.scrape_page.proofs.Again.{IsPartOf}
use Rattle.scrape_page.proofs.Named.{answers_of, children_are, values_are, named_are, known_are, vectors_long}

some_of : {X : Type 0} (P : X → Type 0) (o : Option X) → IsSomeAnd o P → (x : X) × (o ≡ Some x) × P x
some_of P None some = absurd some
some_of P (Some x) some = (x, refl, some)

turned : (a b : Descriptor) → ¬ (Clash a b) → ¬ (Clash b a)
turned a b not clash = not (clash.0, clash.2, clash.1)

-- the elements by their numbers are the elements
shifted : {X Y : Type 0} (f : X → Y) (x : X) (xs : List X) (d : X) (a n : ℕ)
    → map (λ i. f (get_or (x ∷ xs) i d)) (range_with_len (a + 1) n) ≡ map (λ i. f (get_or xs i d)) (range_with_len a n)
shifted f x xs d a zero = refl
shifted f x xs d a (suc n) =
    let e : get_or (x ∷ xs) (a + 1) d ≡ get_or xs a d = rw add-one refl in
    ap (λ y. f y ∷ map (λ i. f (get_or (x ∷ xs) i d)) (range_with_len (a + 1 + 1) n)) e
    ∙ ap (λ rest. f (get_or xs a d) ∷ rest) (shifted f x xs d (a + 1) n)

by_number : {X Y : Type 0} (f : X → Y) (xs : List X) (d : X) → map (λ i. f (get_or xs i d)) (range_with_len 0 (length xs)) ≡ map f
    xs
by_number f [] d = refl
by_number f (x ∷ xs) d = ap (λ rest. f x ∷ rest) (shifted f x xs d 0 (length xs) ∙ by_number f xs d)

descs_as : (families : List PageFamily) → map (λ (family : Family). family.desc) (map as_family families) ≡ descs_of families
descs_as [] = refl
descs_as (family ∷ families) = ap (λ rest. family.desc ∷ rest) (descs_as families)

-- the descriptor of the family of this number
abbrev desc_at : List PageFamily → ℕ → Descriptor
desc_at families number = (family_at (map as_family families) number).desc

desc_is : (families : List PageFamily) (number : ℕ) (family : PageFamily) → slice_get families number ≡ Some family
    → desc_at families number ≡ family.desc
desc_is families number family is =
    ap (λ (it : Family). it.desc) (get_or_from_slice_get (map as_family families) number (as_family family) no_family
    (slice_get-map as_family families number ∙ ap (option_map as_family) is))

-- the numbers of an order are numbers of families
pub numbers_below : (families : List PageFamily) (order : List ℕ) → IsOrder (map as_family families) order
    → All (λ number. number < length families) order
numbers_below families order ordered k d within =
    let n : length (map as_family families) ≡ length families = length-map families as_family in
    let lt = order_below (map as_family families) order ordered k d within in
    omega (arith, n, lt)

module _ {S : Type 0} (boards : List (RegistryView S)) (families : List PageFamily) (order : List ℕ)
    (held : IsHeldPage (record { boards = boards; families = families }) order) (frames : FramesView)
    (framed : AreFrames families order frames.families) where
  below : All (λ number. number < length (map as_family families)) order
  below = order_below (map as_family families) order held.ordered

  descs_are : descs_in frames.families ≡ map (desc_at families) order
  descs_are =
      zip_map (λ (number : ℕ) (frame : Frame). IsSomeAnd (slice_get families number) (IsFrameOf frame)) (desc_at families)
      (λ (frame : Frame). frame.desc)
      (λ number frame some.
      let it = some_of (IsFrameOf frame) (slice_get families number) some in it.2.desc ∙ sym (desc_is families number it.0 it.1))
      order frames.families framed

  -- they are the families of the page, in another order
  pub descs_moved : IsPermutation (descs_of families) (descs_in frames.families)
  descs_moved =
      subst (λ (l : List Descriptor). IsPermutation l (descs_in frames.families))
      (by_number (λ (family : Family). family.desc) (map as_family families) no_family ∙ descs_as families)
      (subst (IsPermutation (map (desc_at families) (range_with_len 0 (length (map as_family families))))) (sym descs_are)
      (IsPermutation-map (desc_at families) (range_with_len 0 (length (map as_family families))) order held.ordered.each))

  apart_pairs : AllPairs (λ (a b : Family). ¬ (Clash a.desc b.desc)) (map as_family families)
  apart_pairs = pairs_map (λ (a b : Family). ¬ (Clash a.desc b.desc)) as_family families held.page_is.apart

  apart_at : (i j : ℕ) → i < length (map as_family families) → j < length (map as_family families)
      → IsBefore (desc_at families i).name (desc_at families j).name → ¬ (Clash (desc_at families i) (desc_at families j))
  apart_at i j i_lt j_lt before = elim (cases_order i j) [
    | inl lt ↦ apart_pairs i j no_family lt j_lt
    | inr rest ↦ elim rest [
      | inl e ↦ absurd (before_differs (desc_at families i).name (desc_at families j).name before
          (ap (λ (k : ℕ). (desc_at families k).name) e))
      | inr gt ↦ turned (desc_at families j) (desc_at families i) (apart_pairs j i no_family gt i_lt)
    ]
  ]

  module _ (n c h : ℕ) (parts : List Scraped) (all : AllZip (IsPartOf n c h) boards parts) where
    distinct_of : (family : PageFamily) → IsSpread boards family
        → AllPairs (λ (a b : ChildShown). a.values ≢ b.values) (children_of family.desc.name (families_of parts))
    distinct_of family spread =
        still_distinct (flat_map (shown_on c h family.desc.name) (zip boards (answers_of n c h boards parts all)))
        (children_of family.desc.name (families_of parts)) (children_are n c h family.desc.name boards parts all)
        (pairs_unmap (λ (a b : List (List ℕ)). a ≢ b) (λ (child : ChildShown). child.values)
        (flat_map (shown_on c h family.desc.name) (zip boards (answers_of n c h boards parts all)))
        (subst (AllPairs (λ (a b : List (List ℕ)). a ≢ b)) (sym (values_are n c h family.desc.name boards parts all))
        spread.distinct))

    count_of : (family : PageFamily) → IsSpread boards family
        → length (children_of family.desc.name (families_of parts)) ≡ family.children
    count_of family spread =
        length_permutation (flat_map (shown_on c h family.desc.name) (zip boards (answers_of n c h boards parts all)))
        (children_of family.desc.name (families_of parts)) (children_are n c h family.desc.name boards parts all)
        ∙ sym (length-map (flat_map (shown_on c h family.desc.name) (zip boards (answers_of n c h boards parts all)))
        (λ (child : ChildShown). child.values))
        ∙ ap length (values_are n c h family.desc.name boards parts all) ∙ spread.count

    named_of : (family : PageFamily) → IsSpread boards family
        → length (named family.desc.name (families_of parts)) ≡ length family.parts
    named_of family spread =
        named_are n c h family.desc.name boards parts all ∙ sym (length_permutation (places_of family.desc.name boards)
        family.parts spread.parts)

    -- what holds of a frame where it holds of the frames of each family
    each_frame : (Q : Frame → Type 0) → ((frame : Frame) (family : PageFamily) → IsFrameOf frame family → IsSpread boards family →
        Q frame)
        → All Q frames.families
    each_frame Q by =
        zip_all (λ number. number < length (map as_family families))
        (λ (number : ℕ) (frame : Frame). IsSomeAnd (slice_get families number) (IsFrameOf frame)) Q
        (λ number frame within some.
        let it = some_of (IsFrameOf frame) (slice_get families number) some in
        by frame it.0 it.2 (subst (IsSpread boards) (get_or_from_slice_get families number it.0 it.0 it.1)
        (held.page_is.spread number it.0 (slice_get_within families number it.0 it.1))))
        order frames.families below framed

    pub mergeable : n * length boards ≤ frames.numbers → IsMergeable frames parts
    mergeable numbers = record {
      few = let few = held.page_is.few in
          let a = length-map families as_family in
          let b = length-order (map as_family families) order held.ordered in
          let d = AllZip-long (λ (number : ℕ) (frame : Frame). IsSomeAnd (slice_get families number) (IsFrameOf frame)) order
          frames.families framed in
          omega (arith, few, a, b, d);
      ordered = pairs_same (λ (a b : Descriptor). IsBefore a.name b.name) (desc_at families) (λ (frame : Frame). frame.desc) order
          frames.families descs_are held.ordered.rising;
      apart = pairs_same (λ (a b : Descriptor). ¬ (Clash a b)) (desc_at families) (λ (frame : Frame). frame.desc) order
          frames.families descs_are
          (pairs_weaker (λ number. number < length (map as_family families))
          (λ i j. IsBefore (desc_at families i).name (desc_at families j).name)
          (λ i j. ¬ (Clash (desc_at families i) (desc_at families j))) order apart_at below held.ordered.rising);
      known = known_are n c h (Contains (descs_in frames.families)) boards parts all
          (All-weaker (λ (board : RegistryView S). All (λ (family : Family). Contains (descs_of families) family.desc)
          board.state.families)
          (λ (board : RegistryView S). All (λ (family : Family). Contains (descs_in frames.families) family.desc)
          board.state.families)
          (λ board known. All-weaker (λ (family : Family). Contains (descs_of families) family.desc)
          (λ (family : Family). Contains (descs_in frames.families) family.desc)
          (λ family there. Contains-permutation (descs_of families) (descs_in frames.families) family.desc descs_moved there)
          board.state.families known)
          boards held.page_is.known);
      distinct = each_frame
          (λ (frame : Frame). AllPairs (λ (a b : ChildShown). a.values ≢ b.values) (children_of frame.desc.name (families_of
          parts)))
          (λ frame family is spread.
          subst (λ (desc : Descriptor). AllPairs (λ (a b : ChildShown). a.values ≢ b.values) (children_of desc.name (families_of
          parts)))
          (sym is.desc) (distinct_of family spread));
      limit = each_frame (λ (frame : Frame). length (children_of frame.desc.name (families_of parts)) ≤ 256)
          (λ frame family is spread.
          subst (λ (desc : Descriptor). length (children_of desc.name (families_of parts)) ≤ 256) (sym is.desc)
          (let count = count_of family spread in let limit = spread.limit in omega (arith, count, limit)));
      room = each_frame (HasRoom (families_of parts))
          (λ frame family is spread. (
            λ single. subst (λ (desc : Descriptor). length (named desc.name (families_of parts)) ≤ 1) (sym is.desc)
                (let count = named_of family spread in let few = is.single single in omega (arith, count, few)),
            λ many. subst (λ (desc : Descriptor). length (children_of desc.name (families_of parts)) ≤ frame.room) (sym is.desc)
                (let count = count_of family spread in let room = is.room many in omega (arith, count, room)),
          ));
      numbers = let long = vectors_long n c h boards parts all in omega (arith, long, numbers);
    }
