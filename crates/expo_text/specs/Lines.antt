-- The lines of a text, and what stands in each (Prometheus documentation, "Exposition formats", "Text format details").
-- Nothing here knows how a scrape is written, or how a reader walks.
use Rattle.std.specs.Prelude.{◌≡◌, ◌≢◌, ◌⊎◌, ⊤, ℕ, Bool, true, false, ◌==◌, nat_eq, All, List, [], ◌∷◌, ◌++◌, codes}
use Rattle.std.specs.List.{slice_split}
use Rattle.std.specs.Cmp.Lexicographic.{pointwise}
use Rattle.metric_names.specs.HelpText.{is_blank}

-- the lines of a text: the parts between line feeds, the last of which has to be empty
abbrev pub AreLines : List ℕ → List (List ℕ) → Type 0
AreLines bytes lines = slice_split (λ b. b == 10) bytes ≡ lines ++ ([] ∷ [])

-- two texts are the same
abbrev pub is_same_text : List ℕ → List ℕ → Bool
is_same_text a b = pointwise nat_eq a b

-- a sample as it is written: its name, its labels with their values still escaped, and the token of its value
pub record Written : Type 0 where
  pub name : List ℕ
  pub labels : List (List ℕ × List ℕ)
  pub value : List ℕ

-- what a line is: nothing, as a comment or an empty line; a help, still escaped; a type; a sample; or no line of the format
pub data LineEntry : Type 0 where
  Nothing : LineEntry
  Help : (name help : List ℕ) → LineEntry
  Typed : (name word : List ℕ) → LineEntry
  Sampled : Written → LineEntry
  Malformed : LineEntry

-- blanks and tabs alone, or nothing
abbrev pub AreBlanks : List ℕ → Type 0
AreBlanks gap = All (λ b. is_blank b ≡ true) gap

-- no blank and no tab
abbrev pub HasNoBlank : List ℕ → Type 0
HasNoBlank text = All (λ b. is_blank b ≡ false) text

-- a token: a byte or more, none of which is a blank or a tab
abbrev pub IsToken : List ℕ → Type 0
IsToken token = (token ≢ []) × HasNoBlank token

-- a token before this text is over: a blank or a tab follows, or nothing
abbrev pub EndsToken : List ℕ → Type 0
EndsToken [] = ⊤
EndsToken (b ∷ _) = is_blank b ≡ true

-- no blank and no tab stands in front
abbrev pub HasNoBlankInFront : List ℕ → Type 0
HasNoBlankInFront [] = ⊤
HasNoBlankInFront (b ∷ _) = is_blank b ≡ false

-- the first token of a text, and what follows it. A text of blanks alone has none: an empty one stands for it
pub data IsFirst : (text token rest : List ℕ) → Type 0 where
  NoToken : (gap : List ℕ) → AreBlanks gap → IsFirst gap [] []
  OneToken : (gap token rest : List ℕ) → AreBlanks gap → IsToken token → EndsToken rest
      → IsFirst (gap ++ token ++ rest) token rest

-- the only token of a text, with blanks around it. A text of blanks alone has none: an empty one stands for it
pub record IsOnly (text token : List ℕ) : Type 0 where
  pub rest : List ℕ
  pub first : IsFirst text token rest
  pub blank : AreBlanks rest

-- a label's value between its quotes: bytes that are neither a quote, which is 34, nor a backslash, which is 92, and pairs
-- of a backslash and any byte
pub data IsQuoted : List ℕ → Type 0 where
  NoByte : IsQuoted []
  Plain : (b : ℕ) (value : List ℕ) → b ≢ 34 → b ≢ 92 → IsQuoted value → IsQuoted (b ∷ value)
  Escaped : (b : ℕ) (value : List ℕ) → IsQuoted value → IsQuoted (92 ∷ b ∷ value)

-- a label's name: a byte that is neither a blank nor a closing brace, which is 125, and then bytes that are neither blanks
-- nor `=`, which is 61. So its first byte may be `=`; no name of the grammar has one
abbrev pub IsLabelWord : List ℕ → Type 0
IsLabelWord [] = ⊥
IsLabelWord (b ∷ bytes) = (b ≢ 125) × (is_blank b ≡ false) × All (λ c. (c ≢ 61) × (is_blank c ≡ false)) bytes

-- a label: NAME = "VALUE", with blanks around each
pub record IsLabelText (text : List ℕ) (label : List ℕ × List ℕ) : Type 0 where
  pub before : List ℕ
  pub after_name : List ℕ
  pub before_value : List ℕ
  pub after : List ℕ
  pub is : text ≡ before ++ label.0 ++ after_name ++ codes "=" ++ before_value ++ codes "\"" ++ label.1 ++ codes "\"" ++ after
  pub blanks : AreBlanks before × AreBlanks after_name × AreBlanks before_value × AreBlanks after
  pub name : IsLabelWord label.0
  pub value : IsQuoted label.1

-- labels and the brace that closes them: none, a last one, or one with a comma after it, and then others or none
pub data AreLabels : (text : List ℕ) → List (List ℕ × List ℕ) → Type 0 where
  NoLabel : (gap : List ℕ) → AreBlanks gap → AreLabels (gap ++ codes "}") []
  LastLabel : (text : List ℕ) (label : List ℕ × List ℕ) → IsLabelText text label → AreLabels (text ++ codes "}") (label ∷ [])
  NextLabel : (text rest : List ℕ) (label : List ℕ × List ℕ) (labels : List (List ℕ × List ℕ))
      → IsLabelText text label → AreLabels rest labels → AreLabels (text ++ codes "," ++ rest) (label ∷ labels)

-- a sample's name: no blank and no opening brace, which is 123, and no hash in front. It may be empty before a brace; no
-- name of the grammar is empty
pub record IsSampleWord (name : List ℕ) : Type 0 where
  pub solid : All (λ b. (is_blank b ≡ false) × (b ≢ 123)) name
  pub no_hash : (rest : List ℕ) → name ≢ codes "#" ++ rest

-- a sample with braces: NAME { LABELS } VALUE. Where no value stands there, an empty one stands for it; it writes no number
pub record IsBraced (line : List ℕ) (sample : Written) : Type 0 where
  pub before : List ℕ
  pub after_name : List ℕ
  pub inside : List ℕ
  pub rest : List ℕ
  pub is : line ≡ before ++ sample.name ++ after_name ++ codes "{" ++ inside ++ rest
  pub blanks : AreBlanks before × AreBlanks after_name
  pub name : IsSampleWord sample.name
  pub labels : AreLabels inside sample.labels
  pub value : IsOnly rest sample.value

-- a sample without braces: NAME VALUE, and the value does not begin with an opening brace
pub record IsBare (line : List ℕ) (sample : Written) : Type 0 where
  pub rest : List ℕ
  pub first : IsFirst line sample.name rest
  pub name : IsSampleWord sample.name
  pub none : sample.labels ≡ []
  pub value : IsOnly rest sample.value
  pub some : sample.value ≢ []
  pub no_brace : (more : List ℕ) → sample.value ≢ codes "{" ++ more

-- a line whose first byte but blanks is a hash, with this text after it
pub record IsHash (line text : List ℕ) : Type 0 where
  pub before : List ℕ
  pub is : line ≡ before ++ codes "#" ++ text
  pub blanks : AreBlanks before

-- a help: # HELP NAME and all the rest. Where no name stands there, an empty one stands for it; no name of the grammar is
-- empty
pub record IsHelp (line name help : List ℕ) : Type 0 where
  pub text : List ℕ
  pub words : List ℕ
  pub rest : List ℕ
  pub gap : List ℕ
  pub hash : IsHash line text
  pub first : IsFirst text (codes "HELP") words
  pub second : IsFirst words name rest
  pub is : rest ≡ gap ++ help
  pub blanks : AreBlanks gap
  pub front : HasNoBlankInFront help

-- a type: # TYPE NAME WORD. Where one of the two is missing, an empty one stands for it; no kind's word is empty
pub record IsType (line name word : List ℕ) : Type 0 where
  pub text : List ℕ
  pub words : List ℕ
  pub rest : List ℕ
  pub hash : IsHash line text
  pub first : IsFirst text (codes "TYPE") words
  pub second : IsFirst words name rest
  pub third : IsOnly rest word

-- a comment: a hash, and neither HELP nor TYPE as the first token after it
pub record IsComment (line : List ℕ) : Type 0 where
  pub text : List ℕ
  pub word : List ℕ
  pub rest : List ℕ
  pub hash : IsHash line text
  pub first : IsFirst text word rest
  pub no_help : word ≢ codes "HELP"
  pub no_type : word ≢ codes "TYPE"

-- a line is this entry
abbrev pub IsLine : (line : List ℕ) → LineEntry → Type 0
IsLine line Nothing = AreBlanks line ⊎ IsComment line
IsLine line (Help name help) = IsHelp line name help
IsLine line (Typed name word) = IsType line name word
IsLine line (Sampled sample) = IsBraced line sample ⊎ IsBare line sample
IsLine line Malformed = ⊥
