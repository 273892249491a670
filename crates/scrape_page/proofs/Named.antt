-- What the families of a name come to, on boards and in their scrapes.
use Rattle.std.proofs.Common.{◌≡◌, ℕ, zero, suc, ◌+◌, ◌*◌, ◌<◌, true, false, Bool, List, [], ◌∷◌, ◌++◌, length, map, get_or}
use Rattle.std.proofs.Common.{set, All}
use Rattle.std.proofs.Common.{refl, sym, ap, ap₂, subst, ◌∙◌, arith, append_assoc, length-append}
use Rattle.std.specs.Prelude.{flat_map, zip, if◌then◌else◌, Some}
use Rattle.std.specs.List.{AllZip, swap}
use Rattle.std.specs.List.Sorted.{IsPermutation}
use Rattle.std.specs.Str.{bytes_eq}
use Rattle.std.proofs.lemmas.List.{get_or_default, length-map, map-append}
use Rattle.std.proofs.lemmas.List.Concat.{flat_map-append}
use Rattle.std.proofs.lemmas.List.Elements.{All-append, All-map, All-head, All-nil, All-tail}
use Rattle.std.proofs.lemmas.List.Folds.{flat_map-map}
use Rattle.std.proofs.lemmas.List.Sorted.{IsPermutation-refl, IsPermutation-trans, IsPermutation-append}
use Rattle.std.proofs.lemmas.List.Sorted.{IsPermutation-append_left}
use Rattle.std.proofs.lemmas.List.Sorted.{IsPermutation-append_right, IsPermutation-append_comm, IsPermutation-keeps}
use Rattle.std.proofs.lemmas.List.Sorted.{length_permutation, All-permutation}
use Rattle.metric_desc.specs.Desc.{Descriptor}
use Rattle.expo_text.specs.Scraped.{Child as ChildShown, Family as FamilyShown, Scraped}
use Rattle.register_rule.specs.declared.view.Answer.{Answer}
use Rattle.registry_state.specs.Replay.{Child, Family}
use Rattle.registry_state.specs.Kept.{RegistryView}
use Rattle.registry_state.specs.Shown.{child_shown, family_shown, IsShown}
use Rattle.scrape_merge.specs.Merged.{families_of, children_of, named}
use Rattle.scrape_page.specs.Places.{of_name, values_in, part_at, numbers_of, next_board, values_of, places_of}
use Rattle.scrape_page.specs.Shown.{shown_on}
use Rattle.scrape_page.proofs.Again.{IsPartOf}

-- two lists at the front, the one before the other or behind it
crossed : {Y : Type 0} (xs ys zs : List Y) → IsPermutation (xs ++ (ys ++ zs)) (ys ++ (xs ++ zs))
crossed xs ys zs =
    subst (λ l. IsPermutation l (ys ++ (xs ++ zs))) (append_assoc xs ys zs)
    (subst (IsPermutation ((xs ++ ys) ++ zs)) (append_assoc ys xs zs)
    (IsPermutation-append_left zs (xs ++ ys) (ys ++ xs) (IsPermutation-append_comm xs ys)))

-- the pieces that a function makes of each element
module _ {X Y : Type 0} (f : X → List Y) where
  -- where y takes the place of x
  replaced : (xs : List X) (i : ℕ) (x y : X) → i < length xs → get_or xs i x ≡ x
      → IsPermutation (f y ++ flat_map f xs) (f x ++ flat_map f (set xs i y))
  replaced [] i x y within is = absurd (omega (arith, within))
  replaced (z ∷ xs) zero x y within is =
      subst (λ w. IsPermutation (f y ++ (f z ++ flat_map f xs)) (f w ++ (f y ++ flat_map f xs))) is (crossed (f y) (f z) (flat_map
      f xs))
  replaced (z ∷ xs) (suc i) x y within is =
      IsPermutation-trans (f y ++ (f z ++ flat_map f xs)) (f z ++ (f y ++ flat_map f xs)) (f x ++ (f z ++ flat_map f (set xs i
      y)))
      (crossed (f y) (f z) (flat_map f xs))
      (IsPermutation-trans (f z ++ (f y ++ flat_map f xs)) (f z ++ (f x ++ flat_map f (set xs i y)))
      (f x ++ (f z ++ flat_map f (set xs i y)))
      (IsPermutation-append_right (f z) (f y ++ flat_map f xs) (f x ++ flat_map f (set xs i y))
      (replaced xs i x y (omega (arith, within)) is))
      (crossed (f z) (f x) (flat_map f (set xs i y))))

  exchanged : (xs : List X) (i j : ℕ) (x y : X) → i < length xs → j < length xs → get_or xs i x ≡ x → get_or xs j y ≡ y
      → IsPermutation (flat_map f xs) (flat_map f (set (set xs i y) j x))
  exchanged [] i j x y in_i in_j is_x is_y = absurd (omega (arith, in_i))
  exchanged (z ∷ xs) zero zero x y in_i in_j is_x is_y =
      subst (λ w. IsPermutation (f z ++ flat_map f xs) (f w ++ flat_map f xs)) is_x (IsPermutation-refl (f z ++ flat_map f xs))
  exchanged (z ∷ xs) zero (suc j) x y in_i in_j is_x is_y =
      subst (λ w. IsPermutation (f w ++ flat_map f xs) (f y ++ flat_map f (set xs j x))) (sym is_x)
      (replaced xs j y x (omega (arith, in_j)) is_y)
  exchanged (z ∷ xs) (suc i) zero x y in_i in_j is_x is_y =
      subst (λ w. IsPermutation (f w ++ flat_map f xs) (f x ++ flat_map f (set xs i y))) (sym is_y)
      (replaced xs i x y (omega (arith, in_i)) is_x)
  exchanged (z ∷ xs) (suc i) (suc j) x y in_i in_j is_x is_y =
      IsPermutation-append_right (f z) (flat_map f xs) (flat_map f (set (set xs i y) j x))
      (exchanged xs i j x y (omega (arith, in_i)) (omega (arith, in_j)) is_x is_y)

  swapped : (xs : List X) (i j : ℕ) → i < length xs → j < length xs → IsPermutation (flat_map f xs) (flat_map f (swap xs i j))
  swapped [] i j in_i in_j = absurd (omega (arith, in_i))
  swapped (d ∷ xs) i j in_i in_j =
      exchanged (d ∷ xs) i j (get_or (d ∷ xs) i d) (get_or (d ∷ xs) j d) in_i in_j
      (get_or_default (d ∷ xs) i (get_or (d ∷ xs) i d) d in_i) (get_or_default (d ∷ xs) j (get_or (d ∷ xs) j d) d in_j)

  -- elements in another order make the same pieces in another order
  pub pieces_permutation : (xs ys : List X) → IsPermutation xs ys → IsPermutation (flat_map f xs) (flat_map f ys)
  pieces_permutation xs ys moved =
      IsPermutation-keeps xs (λ l. IsPermutation (flat_map f xs) (flat_map f l)) (IsPermutation-refl (flat_map f xs))
      (λ l i j in_i in_j before.
      IsPermutation-trans (flat_map f xs) (flat_map f l) (flat_map f (swap l i j)) before (swapped l i j in_i in_j))
      ys moved

-- One board.
module _ (c h : ℕ) (name : List ℕ) (families : List Family) (answer : Answer) (part : Scraped) (is : IsShown c h families answer
    part) where
  children_part : IsPermutation
      (of_name (λ (family : Family). map (child_shown c h answer.totals family.desc.kind) family.children) name families)
      (children_of name part.families)
  children_part =
      subst (λ (l : List ChildShown). IsPermutation l (children_of name part.families))
      (flat_map-map (λ (family : FamilyShown). if bytes_eq family.desc.name name then family.children else [])
      (family_shown c h answer.totals) families)
      (pieces_permutation (λ (family : FamilyShown). if bytes_eq family.desc.name name then family.children else [])
      (map (family_shown c h answer.totals) families) part.families is.families_are)

  named_part : length (named name part.families) ≡ length (numbers_of name families)
  named_part =
      length_permutation (named name (map (family_shown c h answer.totals) families)) (named name part.families)
      (pieces_permutation (λ (family : FamilyShown). if bytes_eq family.desc.name name then family.desc ∷ [] else [])
      (map (family_shown c h answer.totals) families) part.families is.families_are)
      ∙ counted families
    where
      by : (b : Bool) (desc : Descriptor) (descs : List Descriptor) (numbers : List ℕ) → length descs ≡ length numbers
          → length ((if b then desc ∷ [] else []) ++ descs) ≡ length ((if b then 0 ∷ [] else []) ++ numbers)
      by true desc descs numbers same = ap suc same
      by false desc descs numbers same = same

      counted : (families : List Family)
          → length (named name (map (family_shown c h answer.totals) families)) ≡ length (numbers_of name families)
      counted [] = refl
      counted (family ∷ families) =
          by (bytes_eq family.desc.name name) family.desc (named name (map (family_shown c h answer.totals) families))
          (map (λ (number : ℕ). suc number) (numbers_of name families))
          (counted families ∙ sym (length-map (numbers_of name families) (λ (number : ℕ). suc number)))

  known_part : (P : Descriptor → Type 0) → All (λ (family : Family). P family.desc) families
      → All (λ (family : FamilyShown). P family.desc) part.families
  known_part P all =
      All-permutation (λ (family : FamilyShown). P family.desc) (map (family_shown c h answer.totals) families) part.families
      is.families_are (All-map (λ (family : FamilyShown). P family.desc) (family_shown c h answer.totals) families all)

-- the values of the children that a board shows
values_shown : (c h : ℕ) (name totals : List ℕ) (families : List Family)
    → map (λ (child : ChildShown). child.values)
    (of_name (λ (family : Family). map (child_shown c h totals family.desc.kind) family.children) name families)
    ≡ of_name values_in name families
values_shown c h name totals [] = refl
values_shown c h name totals (family ∷ families) =
    map-append values (if bytes_eq family.desc.name name then map (child_shown c h totals family.desc.kind) family.children else
    [])
    (of_name (λ (family : Family). map (child_shown c h totals family.desc.kind) family.children) name families)
    ∙ ap₂ (λ (first rest : List (List (List ℕ))). first ++ rest) (by (bytes_eq family.desc.name name))
    (values_shown c h name totals families)
  where
    values : ChildShown → List (List ℕ)
    values child = child.values

    each : (children : List Child)
        → map values (map (child_shown c h totals family.desc.kind) children) ≡ map (λ (child : Child). child.values) children
    each [] = refl
    each (child ∷ children) = ap (λ rest. child.values ∷ rest) (each children)

    by : (b : Bool) → map values (if b then map (child_shown c h totals family.desc.kind) family.children else [])
        ≡ (if b then values_in family else [])
    by true = each family.children
    by false = refl

-- All boards, each with its scrape.
module _ {S : Type 0} (n c h : ℕ) where
  -- the answers that they show
  abbrev pub answers_of : (boards : List (RegistryView S)) (parts : List Scraped) → AllZip (IsPartOf n c h) boards parts → List
      Answer
  answers_of [] [] all = []
  answers_of [] (part ∷ parts) all = []
  answers_of (board ∷ boards) [] all = []
  answers_of (board ∷ boards) (part ∷ parts) all = all.0.answer ∷ answers_of boards parts all.1

  pub newest_are : (boards : List (RegistryView S)) (parts : List Scraped) (all : AllZip (IsPartOf n c h) boards parts)
      → map (λ (board : RegistryView S). board.state.last) boards
      ≡ map (λ (answer : Answer). Some answer) (answers_of boards parts all)
  newest_are [] [] all = refl
  newest_are [] (part ∷ parts) all = absurd all
  newest_are (board ∷ boards) [] all = absurd all
  newest_are (board ∷ boards) (part ∷ parts) all = ap₂ (λ first rest. first ∷ rest) all.0.last (newest_are boards parts all.1)

  pub vectors_are : (boards : List (RegistryView S)) (parts : List Scraped) (all : AllZip (IsPartOf n c h) boards parts)
      → flat_map (λ (part : Scraped). part.vector) parts ≡ flat_map (λ (answer : Answer). answer.vector) (answers_of boards parts
      all)
  vectors_are [] [] all = refl
  vectors_are [] (part ∷ parts) all = absurd all
  vectors_are (board ∷ boards) [] all = absurd all
  vectors_are (board ∷ boards) (part ∷ parts) all =
      ap₂ (λ (first rest : List ℕ). first ++ rest) all.0.shown.vector (vectors_are boards parts all.1)

  -- there are n numbers of each board
  pub vectors_long : (boards : List (RegistryView S)) (parts : List Scraped) → AllZip (IsPartOf n c h) boards parts
      → length (flat_map (λ (part : Scraped). part.vector) parts) ≡ n * length boards
  vectors_long [] [] all = omega arith
  vectors_long [] (part ∷ parts) all = absurd all
  vectors_long (board ∷ boards) [] all = absurd all
  vectors_long (board ∷ boards) (part ∷ parts) all =
      let here : length part.vector ≡ n = ap length all.0.shown.vector ∙ all.0.numbers in
      let rest = vectors_long boards parts all.1 in
      length-append part.vector (flat_map (λ (part : Scraped). part.vector) parts) ∙ ap₂ (λ a b. a + b) here rest ∙ more (length
      boards)
    where
      more : (m : ℕ) → n + n * m ≡ n * suc m
      more m = omega arith

  -- the children of a name that all boards show are those of their scrapes, in another order
  pub children_are : (name : List ℕ) (boards : List (RegistryView S)) (parts : List Scraped) (all : AllZip (IsPartOf n c h) boards
      parts)
      → IsPermutation (flat_map (shown_on c h name) (zip boards (answers_of boards parts all))) (children_of name (families_of
      parts))
  children_are name [] [] all = IsPermutation-refl []
  children_are name [] (part ∷ parts) all = absurd all
  children_are name (board ∷ boards) [] all = absurd all
  children_are name (board ∷ boards) (part ∷ parts) all =
      subst (IsPermutation (flat_map (shown_on c h name) (zip (board ∷ boards) (answers_of (board ∷ boards) (part ∷ parts) all))))
      (sym (flat_map-append (λ (family : FamilyShown). if bytes_eq family.desc.name name then family.children else [])
      part.families (families_of parts)))
      (IsPermutation-append (shown_on c h name (board, all.0.answer)) (children_of name part.families)
      (flat_map (shown_on c h name) (zip boards (answers_of boards parts all.1))) (children_of name (families_of parts))
      (children_part c h name board.state.families all.0.answer part all.0.shown)
      (children_are name boards parts all.1))

  -- and their values are those of the children of the name
  pub values_are : (name : List ℕ) (boards : List (RegistryView S)) (parts : List Scraped) (all : AllZip (IsPartOf n c h) boards
      parts)
      → map (λ (child : ChildShown). child.values) (flat_map (shown_on c h name) (zip boards (answers_of boards parts all)))
      ≡ values_of name boards
  values_are name [] [] all = refl
  values_are name [] (part ∷ parts) all = absurd all
  values_are name (board ∷ boards) [] all = absurd all
  values_are name (board ∷ boards) (part ∷ parts) all =
      map-append (λ (child : ChildShown). child.values) (shown_on c h name (board, all.0.answer))
      (flat_map (shown_on c h name) (zip boards (answers_of boards parts all.1)))
      ∙ ap₂ (λ (first rest : List (List (List ℕ))). first ++ rest)
      (values_shown c h name all.0.answer.totals board.state.families) (values_are name boards parts all.1)

  -- as many families of a name are shown as there are
  pub named_are : (name : List ℕ) (boards : List (RegistryView S)) (parts : List Scraped) → AllZip (IsPartOf n c h) boards parts
      → length (named name (families_of parts)) ≡ length (places_of name boards)
  named_are name [] [] all = refl
  named_are name [] (part ∷ parts) all = absurd all
  named_are name (board ∷ boards) [] all = absurd all
  named_are name (board ∷ boards) (part ∷ parts) all =
      ap length (flat_map-append (λ (family : FamilyShown). if bytes_eq family.desc.name name then family.desc ∷ [] else [])
      part.families (families_of parts))
      ∙ length-append (named name part.families) (named name (families_of parts))
      ∙ ap₂ (λ a b. a + b)
      (named_part c h name board.state.families all.0.answer part all.0.shown
      ∙ sym (length-map (numbers_of name board.state.families) (part_at 0)))
      (named_are name boards parts all.1 ∙ sym (length-map (places_of name boards) next_board))
      ∙ sym (length-append (map (part_at 0) (numbers_of name board.state.families)) (map next_board (places_of name boards)))

  -- what holds of the descriptors on all boards holds of those that are shown
  pub known_are : (P : Descriptor → Type 0) (boards : List (RegistryView S)) (parts : List Scraped)
      → AllZip (IsPartOf n c h) boards parts
      → All (λ (board : RegistryView S). All (λ (family : Family). P family.desc) board.state.families) boards
      → All (λ (family : FamilyShown). P family.desc) (families_of parts)
  known_are P [] [] all known = All-nil (λ (family : FamilyShown). P family.desc)
  known_are P [] (part ∷ parts) all known = absurd all
  known_are P (board ∷ boards) [] all known = absurd all
  known_are P (board ∷ boards) (part ∷ parts) all known =
      All-append (λ (family : FamilyShown). P family.desc) part.families (families_of parts)
      (known_part c h [] board.state.families all.0.answer part all.0.shown P
      (All-head (λ (board : RegistryView S). All (λ (family : Family). P family.desc) board.state.families) board boards known))
      (known_are P boards parts all.1
      (All-tail (λ (board : RegistryView S). All (λ (family : Family). P family.desc) board.state.families) board boards known))
