-- Where the families of a name are, as families, children and boards come.
use Rattle.std.proofs.Common.{◌≡◌, ◌≢◌, ℕ, zero, suc, List, [], ◌∷◌, ◌++◌, Some, length, map, set, refl, sym, ap}
use Rattle.std.proofs.Common.{subst, ◌∙◌, append_assoc, Bool, true, false}
use Rattle.std.specs.Prelude.{slice_get, if◌then◌else◌, IsSomeAnd}
use Rattle.std.specs.Str.{bytes_eq}
use Rattle.std.specs.Bool.{Decides}
use Rattle.std.specs.List.Sorted.{IsPermutation}
use Rattle.std.proofs.lemmas.List.{map-append}
use Rattle.std.proofs.lemmas.List.Sorted.{IsPermutation-map}
use Rattle.std.proofs.lemmas.Slice.Eq.{bytes_eq-Decides}
use Rattle.expo_text.proofs.Pairs.{Each, each_append, each_map}
use Rattle.registry_state.specs.Replay.{Child, Family, with_child}
use Rattle.registry_state.specs.Kept.{RegistryView}
use Rattle.scrape_page.specs.declared.family.Part.{Part}
use Rattle.scrape_page.specs.Places.{part_at, numbers_of, next_board, places_of, HasPart}
use Rattle.scrape_page.proofs.Lists.{same_elements, moved_front, moved_back}

-- whether a family has this name, decides
pub name_yes : (a b : List ℕ) → a ≡ b → bytes_eq a b ≡ true
name_yes a b same = (bytes_eq-Decides a b).1 same

pub name_no : (a b : List ℕ) → a ≢ b → bytes_eq a b ≡ false
name_no a b other = no (bytes_eq a b) (bytes_eq-Decides a b)
  where
    no : (t : Bool) → Decides t (a ≡ b) → t ≡ false
    no true is = absurd (other (is.0 refl))
    no false is = refl

-- one family more
pub numbers_push : (name : List ℕ) (families : List Family) (family : Family)
    → numbers_of name (families ++ family ∷ [])
    ≡ numbers_of name families ++ (if bytes_eq family.desc.name name then length families ∷ [] else [])
numbers_push name [] family = last (bytes_eq family.desc.name name)
  where
    last : (b : Bool) → (if b then zero ∷ [] else []) ++ [] ≡ (if b then zero ∷ [] else [])
    last true = refl
    last false = refl
numbers_push name (first ∷ families) family =
    ap (λ l. (if bytes_eq first.desc.name name then 0 ∷ [] else []) ++ map (λ number. suc number) l) (numbers_push name families
    family)
    ∙ ap (λ l. (if bytes_eq first.desc.name name then 0 ∷ [] else []) ++ l)
    (map-append (λ number. suc number) (numbers_of name families)
    (if bytes_eq family.desc.name name then length families ∷ [] else [])
    ∙ ap (λ l. map (λ number. suc number) (numbers_of name families) ++ l) (one (bytes_eq family.desc.name name)))
    ∙ sym (append_assoc (if bytes_eq first.desc.name name then 0 ∷ [] else []) (map (λ number. suc number) (numbers_of name
    families))
    (if bytes_eq family.desc.name name then suc (length families) ∷ [] else []))
  where
    one : (b : Bool) → map (λ number. suc number) (if b then length families ∷ [] else []) ≡ (if b then suc (length families) ∷ []
        else [])
    one true = refl
    one false = refl

-- one child more
pub numbers_made : (name : List ℕ) (families : List Family) (number : ℕ) (child : Child)
    → numbers_of name (with_child families number child) ≡ numbers_of name families
numbers_made name [] number child = refl
numbers_made name (family ∷ families) zero child = refl
numbers_made name (family ∷ families) (suc number) child =
    ap (λ l. (if bytes_eq family.desc.name name then 0 ∷ [] else []) ++ map (λ n. suc n) l) (numbers_made name families number
    child)

module _ {S : Type 0} (name : List ℕ) where
  -- another board with the same numbers of this name
  pub places_set_same : (boards : List (RegistryView S)) (i : ℕ) (a b : RegistryView S) → slice_get boards i ≡ Some a
      → numbers_of name b.state.families ≡ numbers_of name a.state.families → places_of name (set boards i b) ≡ places_of name
      boards
  places_set_same [] i a b is same = absurd (cc)
  places_set_same (board ∷ boards) zero a b is same =
      let here : a ≡ board = cc in
      ap (λ l. map (part_at 0) l ++ map next_board (places_of name boards))
      (same ∙ ap (λ (r : RegistryView S). numbers_of name r.state.families) here)
  places_set_same (board ∷ boards) (suc i) a b is same =
      ap (λ l. map (part_at 0) (numbers_of name board.state.families) ++ map next_board l) (places_set_same boards i a b is same)

  -- another board with one number more of this name
  pub places_set_more : (boards : List (RegistryView S)) (i : ℕ) (a b : RegistryView S) (number : ℕ) → slice_get boards i ≡ Some a
      → numbers_of name b.state.families ≡ numbers_of name a.state.families ++ number ∷ []
      → IsPermutation (places_of name boards ++ part_at i number ∷ []) (places_of name (set boards i b))
  places_set_more [] i a b number is more = absurd (cc)
  places_set_more (board ∷ boards) zero a b number is more =
      let here : a ≡ board = cc in
      let front : map (part_at 0) (numbers_of name board.state.families) ++ part_at 0 number ∷ [] ≡ map (part_at 0) (numbers_of
      name b.state.families) =
      sym (ap (map (part_at 0)) (more ∙ ap (λ (r : RegistryView S). numbers_of name r.state.families ++ number ∷ []) here)
      ∙ map-append (part_at 0) (numbers_of name board.state.families) (number ∷ [])) in
      moved_front (map (part_at 0) (numbers_of name board.state.families)) (map (part_at 0) (numbers_of name b.state.families))
      (map next_board (places_of name boards)) (part_at 0 number ∷ []) (same_elements _ _ front)
  places_set_more (board ∷ boards) (suc i) a b number is more =
      moved_back (map next_board (places_of name boards)) (map next_board (places_of name (set boards i b)))
      (map (part_at 0) (numbers_of name board.state.families)) (part_at (suc i) number ∷ [])
      (subst (λ l. IsPermutation l (map next_board (places_of name (set boards i b))))
      (map-append next_board (places_of name boards) (part_at i number ∷ []))
      (IsPermutation-map next_board (places_of name boards ++ part_at i number ∷ []) (places_of name (set boards i b))
      (places_set_more boards i a b number is more)))

  -- one board more, without families
  pub places_push : (boards : List (RegistryView S)) (board : RegistryView S) → board.state.families ≡ []
      → places_of name (boards ++ board ∷ []) ≡ places_of name boards
  places_push [] board none = ap (λ l. map (part_at 0) (numbers_of name l) ++ []) none
  places_push (first ∷ boards) board none =
      ap (λ l. map (part_at 0) (numbers_of name first.state.families) ++ map next_board l) (places_push boards board none)

-- what has this number among families of this name has the name
pub numbers_named : (name : List ℕ) (families : List Family)
    → Each (λ number. IsSomeAnd (slice_get families number) (λ (family : Family). family.desc.name ≡ name)) (numbers_of name
    families)
numbers_named name [] = tt
numbers_named name (family ∷ families) =
    each_append (λ number. IsSomeAnd (slice_get (family ∷ families) number) (λ (it : Family). it.desc.name ≡ name))
    (if bytes_eq family.desc.name name then 0 ∷ [] else []) (map (λ n. suc n) (numbers_of name families))
    (first (bytes_eq family.desc.name name) (bytes_eq-Decides family.desc.name name))
    (each_map (λ number. IsSomeAnd (slice_get (family ∷ families) number) (λ (it : Family). it.desc.name ≡ name)) (λ n. suc n)
    (numbers_of name families) (numbers_named name families))
  where
    first : (b : Bool) → Decides b (family.desc.name ≡ name)
        → Each (λ number. IsSomeAnd (slice_get (family ∷ families) number) (λ (it : Family). it.desc.name ≡ name))
        (if b then 0 ∷ [] else [])
    first true is = (is.0 refl, tt)
    first false is = tt

-- what is at a place of a name has the name
pub places_named : {S : Type 0} (name : List ℕ) (boards : List (RegistryView S))
    → Each (λ part. HasPart boards part (λ _ (family : Family). family.desc.name ≡ name)) (places_of name boards)
places_named name [] = tt
places_named {S} name (board ∷ boards) =
    let P : Part → Type 0 = λ part. HasPart (board ∷ boards) part (λ _ (family : Family). family.desc.name ≡ name) in
    each_append P (map (part_at 0) (numbers_of name board.state.families)) (map next_board (places_of name boards))
    (each_map P (part_at 0) (numbers_of name board.state.families) (numbers_named name board.state.families))
    (each_map P next_board (places_of name boards) (places_named name boards))
