-- Where the families of a name are, over all boards.
use Rattle.std.specs.Prelude.{ℕ, suc, List, [], ◌∷◌, ◌++◌, map, flat_map, slice_get, IsSomeAnd, if◌then◌else◌}
use Rattle.std.specs.Str.{bytes_eq}
use Rattle.registry_state.specs.Replay.{Child, Family}
use Rattle.registry_state.specs.Kept.{RegistryView}
use Rattle.scrape_page.specs.declared.family.Part.{Part}

-- what the families of this name come to, one behind the other
abbrev pub of_name : {Y : Type 0} → (Family → List Y) → List ℕ → List Family → List Y
of_name each name families = flat_map (λ (family : Family). if bytes_eq family.desc.name name then each family else []) families

-- the label values of a family's children
abbrev pub values_in : Family → List (List (List ℕ))
values_in family = map (λ (child : Child). child.values) family.children

-- this is the part of this number on this board
abbrev pub part_at : (board number : ℕ) → Part
part_at board number = record { board = board; family = record { number = number } }

-- the numbers of the families of this name among these
abbrev pub numbers_of : (name : List ℕ) → List Family → List ℕ
numbers_of name [] = []
numbers_of name (family ∷ families) =
    (if bytes_eq family.desc.name name then 0 ∷ [] else []) ++ map (λ (number : ℕ). suc number) (numbers_of name families)

-- the same, one board further
abbrev pub next_board : Part → Part
next_board part = record { board = suc part.board; family = part.family }

module _ {S : Type 0} where
  -- the label values of all children of the families of this name, board by board
  abbrev pub values_of : List ℕ → List (RegistryView S) → List (List (List ℕ))
  values_of name boards = flat_map (λ (board : RegistryView S). of_name values_in name board.state.families) boards

  -- the places of the families of this name: those on the first board, and those on the others
  abbrev pub places_of : List ℕ → List (RegistryView S) → List Part
  places_of name [] = []
  places_of name (board ∷ boards) = map (part_at 0) (numbers_of name board.state.families) ++ map next_board (places_of name
      boards)

  -- the board of a part, and its family there, have this property
  abbrev pub HasPart : List (RegistryView S) → Part → (RegistryView S → Family → Type 0) → Type 0
  HasPart boards part P = IsSomeAnd (slice_get boards part.board) (λ (board : RegistryView S).
      IsSomeAnd (slice_get board.state.families part.family.number) (P board))
