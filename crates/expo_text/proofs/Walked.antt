-- How a reader walks over the bytes of a line and over the lines of a text. What it finds is said without it, by the lines
-- and the parts of an exposition.
use Rattle.std.specs.Prelude.{ℕ, Bool, true, false, not, ◌&&◌, ◌==◌, if◌then◌else◌, List, [], ◌∷◌, ◌++◌, drop, take_while, codes}
use Rattle.std.specs.Prelude.{◌≡◌, ◌≢◌, map, All, AllPairs, flat_map}
use Rattle.std.specs.List.{prefix_len}
use Rattle.metric_names.specs.HelpText.{is_blank}
use Rattle.metric_desc.specs.declared.kind.Kind.TheVariants.{Histogram}
use Rattle.expo_text.specs.Groups.{Group}
use Rattle.expo_text.specs.Lines.{AreLines, is_same_text, Written, LineEntry, Nothing, Help, Typed, Sampled, Malformed}
use Rattle.expo_text.specs.Parts.{Part}
use Rattle.expo_text.specs.Reads.{Match, IsSameSeries, HasDistinctLabels}
use Rattle.expo_text.specs.ReadsTo.{IsGroupTo, IsHistogramGroupTo}

-- what stands from the first byte on that fails the test
abbrev pub drop_while : (ℕ → Bool) → List ℕ → List ℕ
drop_while test bytes = drop (prefix_len test bytes) bytes

-- without the blanks and tabs in front
abbrev pub skip : List ℕ → List ℕ
skip bytes = drop_while is_blank bytes

-- a byte that a token may have: no blank, and no tab
abbrev pub in_token : ℕ → Bool
in_token b = not (is_blank b)

-- the token in front, which ends at a blank or a tab
abbrev pub first : List ℕ → List ℕ
first bytes = take_while in_token bytes

-- what follows the token in front and the blanks after it
abbrev pub after : List ℕ → List ℕ
after bytes = skip (drop_while in_token bytes)

-- where in a list of labels the reading is
pub data Place : Type 0 where
  BeforeName : Place
  InName : (name : List ℕ) → Place
  AfterName : (name : List ℕ) → Place
  BeforeValue : (name : List ℕ) → Place
  InValue : (name value : List ℕ) → Place
  InEscape : (name value : List ℕ) → Place
  AfterValue : Place
  Ended : Place
  Failed : Place

-- where one byte of a list of labels leads: `=` is 61, a quote 34, a backslash 92, a comma 44, a closing brace 125
abbrev pub move : Place → ℕ → Place
move BeforeName b = if b == 125 then Ended else (if is_blank b then BeforeName else InName (b ∷ []))
move (InName name) b = if b == 61 then BeforeValue name else (if is_blank b then AfterName name else InName (name ++ (b ∷ [])))
move (AfterName name) b = if b == 61 then BeforeValue name else (if is_blank b then AfterName name else Failed)
move (BeforeValue name) b = if b == 34 then InValue name [] else (if is_blank b then BeforeValue name else Failed)
move (InValue name value) b =
    if b == 34 then AfterValue else (if b == 92 then InEscape name (value ++ (b ∷ [])) else InValue name (value ++ (b ∷ [])))
move (InEscape name value) b = InValue name (value ++ (b ∷ []))
move AfterValue b = if b == 44 then BeforeName else (if b == 125 then Ended else (if is_blank b then AfterValue else Failed))
move Ended b = Ended
move Failed b = Failed

-- the label that a byte completes: the quote after its value
abbrev pub completed : Place → ℕ → List (List ℕ × List ℕ)
completed BeforeName b = []
completed (InName name) b = []
completed (AfterName name) b = []
completed (BeforeValue name) b = []
completed (InValue name value) b = if b == 34 then (name, value) ∷ [] else []
completed (InEscape name value) b = []
completed AfterValue b = []
completed Ended b = []
completed Failed b = []

-- the list of labels has ended here
abbrev pub has_ended : Place → Bool
has_ended BeforeName = false
has_ended (InName name) = false
has_ended (AfterName name) = false
has_ended (BeforeValue name) = false
has_ended (InValue name value) = false
has_ended (InEscape name value) = false
has_ended AfterValue = false
has_ended Ended = true
has_ended Failed = false

-- the value of a sample: one token, and nothing after it
abbrev pub value_entry : (name : List ℕ) → List (List ℕ × List ℕ) → List ℕ → LineEntry
value_entry name labels rest =
    if is_same_text (after rest) [] then Sampled (record { name = name; labels = labels; value = first rest }) else Malformed

-- the labels of a sample from a place on, after those that are read, then its value
abbrev pub labels_entry : (name : List ℕ) → Place → List (List ℕ × List ℕ) → List ℕ → LineEntry
labels_entry name place labels [] = Malformed
labels_entry name place labels (b ∷ bytes) =
    if has_ended (move place b) then value_entry name labels (skip bytes)
    else labels_entry name (move place b) (labels ++ completed place b) bytes

-- the name of a sample ends at a blank, a tab or an opening brace, which is 123
abbrev pub in_name : ℕ → Bool
in_name b = in_token b && not (b == 123)

-- what follows a sample's name: labels in braces and a value, or a value alone
abbrev pub after_name : (name : List ℕ) → List ℕ → LineEntry
after_name name [] = Malformed
after_name name (b ∷ bytes) = if b == 123 then labels_entry name BeforeName [] bytes else value_entry name [] (b ∷ bytes)

-- a line that begins with the name of a sample
abbrev pub sample_entry : List ℕ → LineEntry
sample_entry line = after_name (take_while in_name line) (skip (drop_while in_name line))

-- a type has two tokens, its family's name and its kind
abbrev pub type_entry : List ℕ → LineEntry
type_entry rest = if is_same_text (after (after rest)) [] then Typed (first rest) (first (after rest)) else Malformed

-- after a hash: the token HELP with a family's name and all the rest, or the token TYPE, or a comment
abbrev pub hash_entry : List ℕ → LineEntry
hash_entry rest =
    if is_same_text (first rest) (codes "HELP") then Help (first (after rest)) (after (after rest))
    else (if is_same_text (first rest) (codes "TYPE") then type_entry (after rest) else Nothing)

-- a line without its blanks in front: empty, or with a hash in front, which is 35, or a sample
abbrev pub entry_from : List ℕ → LineEntry
entry_from [] = Nothing
entry_from (b ∷ bytes) = if b == 35 then hash_entry (skip bytes) else sample_entry (b ∷ bytes)

-- what a line is
abbrev pub entry_of : List ℕ → LineEntry
entry_of line = entry_from (skip line)

-- what the names of a group's samples have after its name: of a histogram one of three, else nothing
abbrev pub ends_of : (types : List (List ℕ)) → List (List ℕ)
ends_of [] = [] ∷ []
ends_of (word ∷ _) = if is_same_text word (codes "histogram") then (codes "_bucket" ∷ codes "_sum" ∷ codes "_count" ∷ []) else
    ([] ∷ [])

-- the name is the group's with one of these after it
abbrev pub has_end : (name group : List ℕ) → List (List ℕ) → Bool
has_end name group [] = false
has_end name group (end ∷ ends) = if is_same_text name (group ++ end) then true else has_end name group ends

-- no sample is there
abbrev pub is_empty : List Written → Bool
is_empty [] = true
is_empty (_ ∷ _) = false

-- a line belongs to the group before it: a help or a type of its name before the first sample, a sample of it,
-- and what is no line of a group
abbrev pub joins : Part → LineEntry → Bool
joins part Nothing = true
joins part (Help name help) = is_same_text name part.name && is_empty part.samples
joins part (Typed name word) = is_same_text name part.name && is_empty part.samples
joins part (Sampled sample) = has_end sample.name part.name (ends_of part.types)
joins part Malformed = true

-- the group with this line
abbrev pub joined : Part → LineEntry → Part
joined part Nothing = part
joined part (Help name help) = record part { helps = part.helps ++ (help ∷ []) }
joined part (Typed name word) = record part { types = part.types ++ (word ∷ []) }
joined part (Sampled sample) = record part { samples = part.samples ++ (sample ∷ []) }
joined part Malformed = part

-- a group that begins with this line
abbrev pub begun : LineEntry → Part
begun Nothing = record { name = []; helps = []; types = []; samples = [] }
begun (Help name help) = record { name = name; helps = help ∷ []; types = []; samples = [] }
begun (Typed name word) = record { name = name; helps = []; types = word ∷ []; samples = [] }
begun (Sampled sample) = record { name = sample.name; helps = []; types = []; samples = sample ∷ [] }
begun Malformed = record { name = []; helps = []; types = []; samples = [] }

-- the groups of the lines after those of an open group, and that group
abbrev pub gathered : Part → List LineEntry → List Part
gathered part [] = part ∷ []
gathered part (entry ∷ entries) =
    if joins part entry then gathered (joined part entry) entries else part ∷ gathered (begun entry) entries

-- the groups of the lines
abbrev pub parts_of : List LineEntry → List Part
parts_of [] = []
parts_of (Nothing ∷ entries) = parts_of entries
parts_of (Help name help ∷ entries) = gathered (begun (Help name help)) entries
parts_of (Typed name word ∷ entries) = gathered (begun (Typed name word)) entries
parts_of (Sampled sample ∷ entries) = gathered (begun (Sampled sample)) entries
parts_of (Malformed ∷ entries) = parts_of entries

-- a walk over the bytes finds these groups, with at most so many digits after the point of each number, and they keep what an
-- exposition demands
pub record ReadsWalked (places : ℕ) (bytes : List ℕ) (groups : List Group) : Type 0 where
  pub lines : List (List ℕ)
  pub cut : AreLines bytes lines
  pub formed : All (λ line. entry_of line ≢ Malformed) lines
  pub parts : Match (IsGroupTo places) (parts_of (map entry_of lines)) groups
  pub unbroken : AllPairs (λ (a b : Group). a.name ≢ b.name) groups
  pub once : AllPairs (λ a b. ¬ (IsSameSeries a b)) (flat_map (λ (group : Group). group.samples) groups)
  pub labels : All HasDistinctLabels (flat_map (λ (group : Group). group.samples) groups)
  pub histograms : All (λ (group : Group). group.kind ≡ Histogram → IsHistogramGroupTo places group) groups
