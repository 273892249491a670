-- The language of scripts: which texts are which line.
use Rattle.std.specs.Prelude.{◌≡◌, ◌≢◌, ℕ, ◌<◌, ◌≤◌, ◌^◌, ◌⊎◌, List, [], ◌∷◌, ◌++◌, map, codes, decimal, flat_map, slice_get, All}
use Rattle.std.specs.Prelude.{Some, ⊤}
use Rattle.std.specs.List.{join_with_byte}
use Rattle.script_lines.specs.declared.line.Counting.{Counting}
use Rattle.script_lines.specs.declared.line.Counting.TheVariants.{Inc, Obs, Up, Down}

-- a blank parts words
abbrev pub blank : ℕ
blank = 32

-- a comma parts labels and bounds
abbrev pub comma : ℕ
comma = 44

-- a hash begins a comment
abbrev pub hash : ℕ
hash = 35

-- a backslash begins an escape
abbrev pub backslash : ℕ
backslash = 92

-- a line feed ends a line
abbrev pub feed : ℕ
feed = 10

-- no byte of the text is this one
abbrev pub Lacks : ℕ → List ℕ → Type 0
Lacks byte text = All (λ b. b ≢ byte) text

-- a token: at least one byte, and no blank
abbrev pub IsToken : List ℕ → Type 0
IsToken word = (word ≢ []) × Lacks blank word

-- a piece of a text as it is written: a byte that is no backslash, or a backslash and one of four letters
pub data Piece : Type 0 where
  Plain : (byte : ℕ) → Piece
  Backslash : Piece
  Feed : Piece
  Blank : Piece
  Nought : Piece

-- how a piece is written
abbrev pub written_as : Piece → List ℕ
written_as (Plain byte) = byte ∷ []
written_as Backslash = codes "\\\\"
written_as Feed = codes "\\n"
written_as Blank = codes "\\s"
written_as Nought = codes "\\e"

-- what a piece stands for
abbrev pub stands_for : Piece → List ℕ
stands_for (Plain byte) = byte ∷ []
stands_for Backslash = codes "\\"
stands_for Feed = codes "\n"
stands_for Blank = codes " "
stands_for Nought = []

-- a byte that stands for itself is no backslash
abbrev pub IsPiece : Piece → Type 0
IsPiece (Plain byte) = byte ≢ backslash
IsPiece Backslash = ⊤
IsPiece Feed = ⊤
IsPiece Blank = ⊤
IsPiece Nought = ⊤

-- the text is written so
pub record Writes (text written : List ℕ) : Type 0 where
  pub pieces : List Piece
  pub proper : All IsPiece pieces
  pub is : written ≡ flat_map written_as pieces
  pub says : text ≡ flat_map stands_for pieces

-- a writing of some text
abbrev pub IsWriting : List ℕ → Type 0
IsWriting written = (text : List ℕ) × Writes text written

-- names joined by commas, or `-` for none
abbrev pub AreLabels : (word : List ℕ) (names : List (List ℕ)) → Type 0
AreLabels word names =
    ((word ≡ codes "-") × (names ≡ []))
    ⊎ ((word ≢ codes "-") × (names ≢ []) × All (Lacks comma) names × (word ≡ join_with_byte comma names))

-- numbers of 64 bits joined by commas, or `-` for none
abbrev pub AreBounds : (word : List ℕ) (bounds : List ℕ) → Type 0
AreBounds word bounds =
    ((word ≡ codes "-") × (bounds ≡ []))
    ⊎ ((bounds ≢ []) × All (λ bound. bound < 2 ^ 64) bounds × (word ≡ join_with_byte comma (map decimal bounds)))

-- writings of label values, one blank between two, or nothing for none
abbrev pub AreValues : (text : List ℕ) (values : List (List ℕ)) → Type 0
AreValues text values = All (λ value. IsToken value × IsWriting value) values × (text ≡ join_with_byte blank values)

-- words with one blank between two, and after them nothing, or a blank and the last part
abbrev pub IsWordsAnd : (text : List ℕ) (words : List (List ℕ)) (last : List ℕ) → Type 0
IsWordsAnd text words last =
    ((text ≡ join_with_byte blank words) × (last ≡ [])) ⊎ (text ≡ join_with_byte blank (words ++ last ∷ []))

-- what a worker does to a child, as a word
abbrev pub word_of : Counting → List ℕ
word_of Inc = codes "inc"
word_of Obs = codes "obs"
word_of Up = codes "up"
word_of Down = codes "down"

-- what a line says
pub data Saying : Type 0 where
  Nothing : Saying
  Counter : (name labels help : List ℕ) → Saying
  Gauge : (name labels help : List ℕ) → Saying
  Histogram : (name labels bounds help : List ℕ) → Saying
  Child : (name values : List ℕ) → Saying
  Count : (what : Counting) (worker child by times : ℕ) → Saying
  Go : Saying
  Scrape : Saying
  Settle : Saying
  Window : (size : ℕ) → Saying

-- a text is a line that says this
abbrev pub IsLine : (text : List ℕ) → Saying → Type 0
IsLine text Nothing = (text ≡ []) ⊎ (slice_get text 0 ≡ Some hash)
IsLine text (Counter name labels help) =
    IsToken name × IsToken labels × IsWriting help × IsWordsAnd text (codes "counter" ∷ name ∷ labels ∷ []) help
IsLine text (Gauge name labels help) =
    IsToken name × IsToken labels × IsWriting help × IsWordsAnd text (codes "gauge" ∷ name ∷ labels ∷ []) help
IsLine text (Histogram name labels bounds help) =
    IsToken name × IsToken labels × ((numbers : List ℕ) × AreBounds bounds numbers) × IsWriting help
    × IsWordsAnd text (codes "histogram" ∷ name ∷ labels ∷ bounds ∷ []) help
IsLine text (Child name values) =
    IsToken name × ((words : List (List ℕ)) × AreValues values words
    × (text ≡ join_with_byte blank (codes "child" ∷ name ∷ words)))
IsLine text (Count what worker child by times) =
    (worker < 4) × (child < 2 ^ 64) × (by < 2 ^ 64) × (1 ≤ times) × (times ≤ 100000)
    × (((text ≡ join_with_byte blank (word_of what ∷ decimal worker ∷ decimal child ∷ decimal by ∷ [])) × (times ≡ 1))
    ⊎ (text ≡ join_with_byte blank (word_of what ∷ decimal worker ∷ decimal child ∷ decimal by ∷ decimal times ∷ [])))
IsLine text Go = text ≡ codes "go"
IsLine text Scrape = text ≡ codes "scrape"
IsLine text Settle = text ≡ codes "settle"
IsLine text (Window size) = (size < 2 ^ 64) × (text ≡ join_with_byte blank (codes "window" ∷ decimal size ∷ []))
