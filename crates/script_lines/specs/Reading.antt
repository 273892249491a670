-- How a line is read, from its front to its end. What a line is stands in Language; of the public functions read_number alone
-- cites this.
use Rattle.std.specs.Prelude.{ℕ, ◌^◌, Bool, true, false, not, ◌&&◌, ◌||◌, ◌==◌, nat_lt, nat_le, is_some, bytes_eq, if◌then◌else◌}
use Rattle.std.specs.Prelude.{List, [], ◌∷◌, length, slice_index, codes, decimal, Option, Some, None, option_map, option_and_then}
use Rattle.std.specs.Option.{option_map_or}
use Rattle.std.specs.List.{slice_split, list_all}
use Rattle.std.specs.Str.Parse.{digits_value}
use Rattle.script_lines.specs.Language.{Saying, Nothing, Counter, Gauge, Histogram, Child, Count, Go, Scrape, Settle, Window}
use Rattle.script_lines.specs.Language.{blank, comma, hash, backslash}
use Rattle.script_lines.specs.declared.line.Counting.{Counting}
use Rattle.script_lines.specs.declared.line.Counting.TheVariants.{Inc, Obs, Up, Down}
use Rattle.script_lines.specs.declared.word.Word.{Word}
use Rattle.script_lines.specs.declared.word.Word.TheVariants as word

infixl 10 ◌>>=◌
-- where the first gives a value, what the second makes of it
abbrev pub ◌>>=◌ : {A B : Type 0} → Option A → (A → Option B) → Option B
o >>= f = option_and_then f o

-- what stands before the first blank, and what stands after it
unfoldable pub cut_of : List ℕ → Option (List ℕ × List ℕ)
cut_of [] = None
cut_of (b ∷ bs) = if b == blank then Some ([], bs) else option_map (λ c. (b ∷ c.0, c.1)) (cut_of bs)

-- the text has no byte
abbrev pub is_empty : List ℕ → Bool
is_empty text = length text == 0

-- the number that a text writes
unfoldable pub number_written : List ℕ → Option ℕ
number_written text = if nat_lt (digits_value 10 text) (2 ^ 64) && bytes_eq (decimal (digits_value 10 text)) text then Some
    (digits_value 10 text) else None

-- a byte that may stand after a backslash
abbrev pub is_letter : ℕ → Bool
is_letter b = b == 92 || b == 110 || b == 115 || b == 101

-- each backslash begins an escape; where `escaped`, one stands in front of the text
unfoldable pub ends_well : (escaped : Bool) → List ℕ → Bool
ends_well escaped [] = not escaped
ends_well escaped (b ∷ bs) = if escaped && not (is_letter b) then false else ends_well (not escaped && b == backslash) bs

-- the text is a writing of some text
abbrev pub is_writing : List ℕ → Bool
is_writing text = ends_well false text

-- the word is `-`, or numbers joined by commas
unfoldable pub are_bounds : List ℕ → Bool
are_bounds word = bytes_eq word (codes "-") || list_all (λ w. is_some (number_written w)) (slice_split (λ b. b == comma) word)

-- the word is a writing, and not empty
abbrev pub is_value : List ℕ → Bool
is_value word = not (is_empty word) && is_writing word

-- the text is such words, one blank between two
unfoldable pub are_values : List ℕ → Bool
are_values text = list_all is_value (slice_split (λ b. b == blank) text)

-- a token, and what follows the blank after it
unfoldable pub token_of : List ℕ → Option (List ℕ × List ℕ)
token_of text = do
  c ← cut_of text
  if is_empty c.0 then None else Some c

-- a token and a help, where they are such
abbrev pub helped : (token help : List ℕ) → Option (List ℕ × List ℕ)
helped token help = if is_empty token || not (is_writing help) then None else Some (token, help)

-- a token, and the help after it
unfoldable pub helped_of : List ℕ → Option (List ℕ × List ℕ)
helped_of text = option_map_or (λ c. helped c.0 c.1) (cut_of text) (helped text [])

-- a name, labels and a help
unfoldable pub family_of : List ℕ → Option (List ℕ × List ℕ × List ℕ)
family_of text = do
  name ← token_of text
  labels ← helped_of name.1
  Some (name.0, labels.0, labels.1)

-- a histogram: a name, labels, bounds and a help
unfoldable pub histogram_of : List ℕ → Option Saying
histogram_of text = do
  name ← token_of text
  labels ← token_of name.1
  bounds ← helped_of labels.1
  if are_bounds bounds.0 then Some (Histogram name.0 labels.0 bounds.0 bounds.1) else None

-- a child of this name and of these values, where these are proper ones
abbrev pub named : (name values : List ℕ) → Bool → Option Saying
named name values proper = if not (is_empty name) && proper then Some (Child name values) else None

-- a child: a name, and values behind it
unfoldable pub child_of : List ℕ → Option Saying
child_of text = option_map_or (λ c. named c.0 c.1 (are_values c.1)) (cut_of text) (named text [] true)

-- a number with a blank after it, and what follows that
unfoldable pub numbered_of : List ℕ → Option (ℕ × List ℕ)
numbered_of text = do
  c ← cut_of text
  n ← number_written c.0
  Some (n, c.1)

-- so many times a line may count
abbrev pub is_times : ℕ → Bool
is_times times = nat_le 1 times && nat_le times 100000

-- how much, and how many times, where both are said
abbrev pub repeated : (by times : List ℕ) → Option (ℕ × ℕ)
repeated by times = do
  n ← number_written by
  m ← number_written times
  if is_times m then Some (n, m) else None

-- how much, and how many times: once where it is not said
unfoldable pub amount_of : List ℕ → Option (ℕ × ℕ)
amount_of text = option_map_or (λ c. repeated c.0 c.1) (cut_of text) (option_map (λ n. (n, 1)) (number_written text))

-- what a worker counts: worker, child, how much, and how many times
unfoldable pub count_of : Counting → List ℕ → Option Saying
count_of what text = do
  worker ← numbered_of text
  child ← numbered_of worker.1
  amount ← amount_of child.1
  if nat_lt worker.0 4 then Some (Count what worker.0 child.0 amount.0 amount.1) else None

-- the word that begins a line of several words
unfoldable pub word_in : List ℕ → Option Word
word_in text =
    if bytes_eq text (codes "counter") then Some word.Counter else if bytes_eq text (codes "gauge") then Some word.Gauge
    else if bytes_eq text (codes "histogram") then Some word.Histogram else if bytes_eq text (codes "child") then Some word.Child
    else if bytes_eq text (codes "inc") then Some (word.Count Inc) else if bytes_eq text (codes "obs") then Some (word.Count Obs)
    else if bytes_eq text (codes "up") then Some (word.Count Up) else if bytes_eq text (codes "down") then Some (word.Count Down)
    else if bytes_eq text (codes "window") then Some word.Window else None

-- what follows a line's first word
unfoldable pub after_word : Word → List ℕ → Option Saying
after_word word.Counter text = option_map (λ f. Counter f.0 f.1 f.2) (family_of text)
after_word word.Gauge text = option_map (λ f. Gauge f.0 f.1 f.2) (family_of text)
after_word word.Histogram text = histogram_of text
after_word word.Child text = child_of text
after_word (word.Count what) text = count_of what text
after_word word.Window text = option_map Window (number_written text)

-- a line of one word
unfoldable pub alone_in : List ℕ → Option Saying
alone_in text =
    if bytes_eq text (codes "go") then Some Go else if bytes_eq text (codes "scrape") then Some Scrape
    else if bytes_eq text (codes "settle") then Some Settle else None

-- what a line of several words says, by its first one and what follows that
abbrev pub worded_of : (first text : List ℕ) → Option Saying
worded_of first text = do
  w ← word_in first
  after_word w text

-- what a line says
unfoldable pub line_of : List ℕ → Option Saying
line_of text = if is_empty text || slice_index text 0 == hash then Some Nothing else option_map_or (λ c. worded_of c.0 c.1)
    (cut_of text) (alone_in text)
