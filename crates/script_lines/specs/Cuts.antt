-- What one line takes of the bytes that are left.
use Rattle.std.specs.Prelude.{◌≡◌, ◌≢◌, ℕ, ◌==◌, if◌then◌else◌, ◌⊎◌, ⊤, List, [], ◌∷◌, ◌++◌, length, Option, Some, None}
use Rattle.std.specs.List.{slice_split}
use Rattle.std.specs.Io.KnownBytes.{Keeps, Consumes, IsAtEnd}
use Rattle.script_lines.specs.Language.{feed}
use Rattle.script_lines.specs.declared.lines.Next.{Next}
use Rattle.script_lines.specs.declared.lines.Next.TheVariants.{Line, TooLong, End}

-- the bytes that are left begin with the line and its line feed, or are the last line; or with more than a line may have; or are
-- none
abbrev pub Cuts : (old new : Option (List ℕ)) (line : List ℕ) → Next → Type 0
Cuts old new line Line = Consumes old new (line ++ feed ∷ []) ⊎ ((line ≢ []) × Consumes old new line × IsAtEnd new)
Cuts old new line TooLong = (length line ≡ 4096) × ((byte : ℕ) × (byte ≢ feed) × Consumes old new (line ++ byte ∷ []))
Cuts old new line End = (line ≡ []) × Keeps old new × IsAtEnd new

-- these parts, but for a last one that is empty
abbrev pub without_empty_end : List (List ℕ) → List (List ℕ)
without_empty_end [] = []
without_empty_end (part ∷ []) = if length part == 0 then [] else part ∷ []
without_empty_end (part ∷ next ∷ parts) = part ∷ without_empty_end (next ∷ parts)

-- the lines of bytes: the parts between line feeds, but for a last one that is empty
abbrev pub lines_in : List ℕ → List (List ℕ)
lines_in bytes = without_empty_end (slice_split (λ b. b == feed) bytes)

-- the line is the first of those in the bytes that were left, and the others are those in the bytes that are left; at the end
-- there are none
abbrev pub TakesLine : (old new : Option (List ℕ)) (line : List ℕ) → Next → Type 0
TakesLine None new line next = ⊤
TakesLine (Some before) None line next = ⊤
TakesLine (Some before) (Some after) line Line = lines_in before ≡ line ∷ lines_in after
TakesLine (Some before) (Some after) line TooLong = ⊤
TakesLine (Some before) (Some after) line End = lines_in before ≡ []
