-- The label values of a name's children, as families, children and boards come.
use Rattle.std.proofs.Common.{◌≡◌, ◌≢◌, ℕ, zero, suc, List, [], ◌∷◌, ◌++◌, Some, map, set, refl, sym, ap, subst, ◌∙◌, All}
use Rattle.std.proofs.Common.{append-nil, Bool, true, false}
use Rattle.std.specs.Prelude.{slice_get, if◌then◌else◌, IsSomeAnd}
use Rattle.std.specs.Str.{bytes_eq}
use Rattle.std.specs.Ordering.{is_lt}
use Rattle.std.specs.List.Sorted.{IsPermutation}
use Rattle.std.proofs.lemmas.List.{map-append}
use Rattle.std.proofs.lemmas.List.Concat.{flat_map-append}
use Rattle.std.proofs.lemmas.List.Elements.{All-from_recursion, recursion_from_All}
use Rattle.std.proofs.lemmas.List.Sorted.{IsPermutation-refl, IsPermutation-cons, IsPermutation-map, IsPermutation-to_front}
use Rattle.expo_text.proofs.Pairs.{Each, each_append, each_map}
use Rattle.registry_state.specs.Replay.{Child, Family, IsNew, put, with_child}
use Rattle.registry_state.specs.Kept.{RegistryView}
use Rattle.registry_state.proofs.Lists.{either}
use Rattle.registry_state.proofs.Placing.{stands}
use Rattle.scrape_page.specs.declared.family.Part.{Part}
use Rattle.scrape_page.specs.Places.{of_name, values_in, values_of, part_at, numbers_of, next_board, places_of, HasPart}
use Rattle.scrape_page.proofs.Lists.{moved_front, moved_back, flat_set, flat_set_same}

-- a child that is put among others
put_moves : (child : Child) (xs : List Child) → IsPermutation (xs ++ child ∷ []) (put child xs)
put_moves child [] = IsPermutation-refl (child ∷ [])
put_moves child (x ∷ xs) =
    either (IsPermutation ((x ∷ xs) ++ child ∷ [])) (is_lt (stands x child)) (x ∷ put child xs) (child ∷ x ∷ xs)
    (λ _. IsPermutation-cons x (xs ++ child ∷ []) (put child xs) (put_moves child xs))
    (λ _. IsPermutation-to_front (x ∷ xs) child)

-- what a child adds to a family of this name
abbrev added : Family → List ℕ → Child → List (List (List ℕ))
added family name child = if bytes_eq family.desc.name name then child.values ∷ [] else []

here_more : (b : Bool) (child : Child) (xs : List Child)
    → IsPermutation ((if b then map (λ (c : Child). c.values) xs else []) ++ (if b then child.values ∷ [] else []))
    (if b then map (λ (c : Child). c.values) (put child xs) else [])
here_more true child xs =
    subst (λ l. IsPermutation l (map (λ (c : Child). c.values) (put child xs))) (map-append (λ (c : Child). c.values) xs (child ∷
    []))
    (IsPermutation-map (λ (c : Child). c.values) (xs ++ child ∷ []) (put child xs) (put_moves child xs))
here_more false child xs = IsPermutation-refl []

-- one child more of the family of this number
pub made_among : (name : List ℕ) (families : List Family) (number : ℕ) (it : Family) (child : Child) → slice_get families number ≡
    Some it
    → IsPermutation (of_name values_in name families ++ added it name child) (of_name values_in name (with_child families number
    child))
made_among name [] number it child is = absurd (cc)
made_among name (family ∷ families) zero it child is =
    let same : it ≡ family = cc in
    moved_front (if bytes_eq family.desc.name name then values_in family else [])
    (if bytes_eq family.desc.name name then map (λ (c : Child). c.values) (put child family.children) else [])
    (of_name values_in name families) (added it name child)
    (subst (λ (f : Family). IsPermutation ((if bytes_eq family.desc.name name then values_in family else []) ++ added f name
    child)
    (if bytes_eq family.desc.name name then map (λ (c : Child). c.values) (put child family.children) else [])) (sym same)
    (here_more (bytes_eq family.desc.name name) child family.children))
made_among name (family ∷ families) (suc number) it child is =
    moved_back (of_name values_in name families) (of_name values_in name (with_child families number child))
    (if bytes_eq family.desc.name name then values_in family else []) (added it name child)
    (made_among name families number it child is)

nothing : (b : Bool) → (if b then [] else []) ++ [] ≡ (let none : List (List (List ℕ)) = [] in none)
nothing true = refl
nothing false = refl

module _ {S : Type 0} (name : List ℕ) where
  -- a board with one child more
  pub values_made : (boards : List (RegistryView S)) (i : ℕ) (a b : RegistryView S) (number : ℕ) (it : Family) (child : Child)
      → slice_get boards i ≡ Some a → slice_get a.state.families number ≡ Some it
      → b.state.families ≡ with_child a.state.families number child
      → IsPermutation (values_of name boards ++ added it name child) (values_of name (set boards i b))
  values_made boards i a b number it child at is after =
      flat_set (λ (board : RegistryView S). of_name values_in name board.state.families) boards i a b (added it name child) at
      (subst (λ l. IsPermutation (of_name values_in name a.state.families ++ added it name child) (of_name values_in name l)) (sym
      after)
      (made_among name a.state.families number it child is))

  -- a board with one family more, without children
  pub values_registered : (boards : List (RegistryView S)) (i : ℕ) (a b : RegistryView S) (family : Family) → slice_get boards i ≡
      Some a
      → family.children ≡ [] → b.state.families ≡ a.state.families ++ family ∷ []
      → values_of name (set boards i b) ≡ values_of name boards
  values_registered boards i a b family at none after =
      flat_set_same (λ (board : RegistryView S). of_name values_in name board.state.families) boards i a b at
      (ap (of_name values_in name) after
      ∙ flat_map-append (λ (f : Family). if bytes_eq f.desc.name name then values_in f else []) a.state.families (family ∷ [])
      ∙ ap (λ l. of_name values_in name a.state.families ++ ((if bytes_eq family.desc.name name then map (λ (c : Child). c.values)
      l else []) ++ [])) none
      ∙ ap (λ l. of_name values_in name a.state.families ++ l) (nothing (bytes_eq family.desc.name name))
      ∙ append-nil (of_name values_in name a.state.families))

  -- one board more, without families
  pub values_push : (boards : List (RegistryView S)) (board : RegistryView S) → board.state.families ≡ []
      → values_of name (boards ++ board ∷ []) ≡ values_of name boards
  values_push boards board none =
      flat_map-append (λ (b : RegistryView S). of_name values_in name b.state.families) boards (board ∷ [])
      ∙ ap (λ l. values_of name boards ++ (of_name values_in name l ++ [])) none
      ∙ append-nil (values_of name boards)

-- what a function makes of each, and the two parts of a list
pub each_unmap : {X Y : Type 0} (P : Y → Type 0) (f : X → Y) (xs : List X) → Each P (map f xs) → Each (λ x. P (f x)) xs
each_unmap P f [] all = tt
each_unmap P f (x ∷ xs) all = (all.0, each_unmap P f xs all.1)

pub each_front : {X : Type 0} (P : X → Type 0) (xs ys : List X) → Each P (xs ++ ys) → Each P xs
each_front P [] ys all = tt
each_front P (x ∷ xs) ys all = (all.0, each_front P xs ys all.1)

pub each_back : {X : Type 0} (P : X → Type 0) (xs ys : List X) → Each P (xs ++ ys) → Each P ys
each_back P [] ys all = all
each_back P (x ∷ xs) ys all = each_back P xs ys all.1

module _ (name : List ℕ) (values : List (List ℕ)) where
  abbrev Other : List (List ℕ) → Type 0
  Other other = other ≢ values

  new_among : (families : List Family)
      → Each (λ number. IsSomeAnd (slice_get families number) (λ (family : Family). IsNew family values)) (numbers_of name
      families)
      → Each Other (of_name values_in name families)
  new_among [] all = tt
  new_among (family ∷ families) all =
      let P : ℕ → Type 0 = λ number. IsSomeAnd (slice_get (family ∷ families) number) (λ (it : Family). IsNew it values) in
      each_append Other (if bytes_eq family.desc.name name then values_in family else []) (of_name values_in name families)
      (first (bytes_eq family.desc.name name) (each_front P (if bytes_eq family.desc.name name then 0 ∷ [] else [])
      (map (λ n. suc n) (numbers_of name families)) all))
      (new_among families (each_unmap P (λ n. suc n) (numbers_of name families)
      (each_back P (if bytes_eq family.desc.name name then 0 ∷ [] else []) (map (λ n. suc n) (numbers_of name families)) all)))
    where
      first : (b : Bool) → Each (λ number. IsSomeAnd (slice_get (family ∷ families) number) (λ (it : Family). IsNew it values))
          (if b then 0 ∷ [] else [])
          → Each Other (if b then values_in family else [])
      first true all = each_map Other (λ (c : Child). c.values) family.children
          (recursion_from_All (λ (c : Child). c.values ≢ values) family.children all.0)
      first false all = tt

  each_new : {S : Type 0} (boards : List (RegistryView S))
      → Each (λ part. HasPart boards part (λ _ (family : Family). IsNew family values)) (places_of name boards)
      → Each Other (values_of name boards)
  each_new [] all = tt
  each_new (board ∷ boards) all =
      let P : Part → Type 0 = λ part. HasPart (board ∷ boards) part (λ _ (family : Family). IsNew family values) in
      let front = map (part_at 0) (numbers_of name board.state.families) in
      let back = map next_board (places_of name boards) in
      each_append Other (of_name values_in name board.state.families) (values_of name boards)
      (new_among board.state.families (each_unmap P (part_at 0) (numbers_of name board.state.families) (each_front P front back
      all)))
      (each_new boards (each_unmap P next_board (places_of name boards) (each_back P front back all)))

  -- values that no family of the name has are on no board
  pub nowhere : {S : Type 0} (boards : List (RegistryView S))
      → All (λ part. HasPart boards part (λ _ (family : Family). IsNew family values)) (places_of name boards)
      → All Other (values_of name boards)
  nowhere boards all = All-from_recursion Other (values_of name boards) (each_new boards
      (recursion_from_All (λ part. HasPart boards part (λ _ (family : Family). IsNew family values)) (places_of name boards) all))

  among_new : (families : List Family) → Each Other (of_name values_in name families)
      → Each (λ number. IsSomeAnd (slice_get families number) (λ (family : Family). IsNew family values)) (numbers_of name
      families)
  among_new [] all = tt
  among_new (family ∷ families) all =
      let P : ℕ → Type 0 = λ number. IsSomeAnd (slice_get (family ∷ families) number) (λ (it : Family). IsNew it values) in
      each_append P (if bytes_eq family.desc.name name then 0 ∷ [] else []) (map (λ n. suc n) (numbers_of name families))
      (first (bytes_eq family.desc.name name) (each_front Other (if bytes_eq family.desc.name name then values_in family else [])
      (of_name values_in name families) all))
      (each_map P (λ n. suc n) (numbers_of name families)
      (among_new families (each_back Other (if bytes_eq family.desc.name name then values_in family else [])
      (of_name values_in name families) all)))
    where
      first : (b : Bool) → Each Other (if b then values_in family else [])
          → Each (λ number. IsSomeAnd (slice_get (family ∷ families) number) (λ (it : Family). IsNew it values)) (if b then 0 ∷ []
          else [])
      first true all = (
        All-from_recursion (λ (c : Child). c.values ≢ values) family.children
            (each_unmap Other (λ (c : Child). c.values) family.children all),
        tt,
      )
      first false all = tt

  new_each : {S : Type 0} (boards : List (RegistryView S)) → Each Other (values_of name boards)
      → Each (λ part. HasPart boards part (λ _ (family : Family). IsNew family values)) (places_of name boards)
  new_each [] all = tt
  new_each (board ∷ boards) all =
      let P : Part → Type 0 = λ part. HasPart (board ∷ boards) part (λ _ (family : Family). IsNew family values) in
      let front = of_name values_in name board.state.families in
      each_append P (map (part_at 0) (numbers_of name board.state.families)) (map next_board (places_of name boards))
      (each_map P (part_at 0) (numbers_of name board.state.families)
      (among_new board.state.families (each_front Other front (values_of name boards) all)))
      (each_map P next_board (places_of name boards) (new_each boards (each_back Other front (values_of name boards) all)))

  -- values that are on no board are new to each family of the name
  pub everywhere_new : {S : Type 0} (boards : List (RegistryView S)) → All Other (values_of name boards)
      → All (λ part. HasPart boards part (λ _ (family : Family). IsNew family values)) (places_of name boards)
  everywhere_new boards all = All-from_recursion (λ part. HasPart boards part (λ _ (family : Family). IsNew family values))
      (places_of name boards) (new_each boards (recursion_from_All Other (values_of name boards) all))
