-- How the lines of a text are parted into groups (Prometheus documentation, "Exposition formats", "Grouping and sorting").
use Rattle.std.specs.Prelude.{◌≡◌, ◌≢◌, ℕ, Bool, true, false, All, Contains, filter, map, List, [], ◌∷◌, ◌++◌, codes}
use Rattle.expo_text.specs.Lines.{Written, LineEntry, Nothing, Help, Typed, Sampled, Malformed}

-- the lines of one group: the name that they are about, the helps and the types that were found, and the samples
pub record Part : Type 0 where
  pub name : List ℕ
  pub helps : List (List ℕ)
  pub types : List (List ℕ)
  pub samples : List Written

-- what the name of a sample has after its group's name, of a group of this type: of a histogram one of three, else nothing
pub data IsEnd : (word end : List ℕ) → Type 0 where
  BucketEnd : IsEnd (codes "histogram") (codes "_bucket")
  SumEnd : IsEnd (codes "histogram") (codes "_sum")
  CountEnd : IsEnd (codes "histogram") (codes "_count")
  NoEnd : (word : List ℕ) → word ≢ codes "histogram" → IsEnd word []

-- a sample is named after the group, as a type of the group wants it
pub record IsNamedAfter (part : Part) (sample : Written) : Type 0 where
  pub word : List ℕ
  pub end : List ℕ
  pub typed : Contains part.types word
  pub ends : IsEnd word end
  pub is : sample.name ≡ part.name ++ end

-- helps and types of this name, in any order
pub data AreHeads (name : List ℕ) : (entries : List LineEntry) → (helps types : List (List ℕ)) → Type 0 where
  NoHead : AreHeads name [] [] []
  HelpHead : (help : List ℕ) (entries : List LineEntry) (helps types : List (List ℕ))
      → AreHeads name entries helps types → AreHeads name (Help name help ∷ entries) (help ∷ helps) types
  TypeHead : (word : List ℕ) (entries : List LineEntry) (helps types : List (List ℕ))
      → AreHeads name entries helps types → AreHeads name (Typed name word ∷ entries) helps (word ∷ types)

-- the lines of a group: its helps and types, and then its samples
pub record IsBlock (entries : List LineEntry) (part : Part) : Type 0 where
  pub heads : List LineEntry
  pub is : entries ≡ heads ++ map Sampled part.samples
  pub headed : AreHeads part.name heads part.helps part.types
  pub named : All (IsNamedAfter part) part.samples

-- the lines of one group after those of another
pub data AreBlocks : List LineEntry → List Part → Type 0 where
  NoBlock : AreBlocks [] []
  NextBlock : (block entries : List LineEntry) (part : Part) (parts : List Part)
      → IsBlock block part → AreBlocks entries parts → AreBlocks (block ++ entries) (part ∷ parts)

-- comments and empty lines are of no group
abbrev pub is_of_group : LineEntry → Bool
is_of_group Nothing = false
is_of_group (Help name help) = true
is_of_group (Typed name word) = true
is_of_group (Sampled sample) = true
is_of_group Malformed = true

-- the lines but comments and empty ones are those of the groups, one group after the other
abbrev pub AreParts : List LineEntry → List Part → Type 0
AreParts entries parts = AreBlocks (filter is_of_group entries) parts
