-- The parts of a text in the order in which they are written.
use Rattle.std.specs.Prelude.{ℕ, ◌==◌, if◌then◌else◌, List, [], ◌∷◌, ◌++◌, codes, length, map, slice_index}
use Rattle.std.specs.Prelude.{decimal}
use Rattle.std.specs.List.{flat_map, join_by, range_with_len}
use Rattle.expo_text.specs.Text.{label_text, labels_text}
use Rattle.expo_text.specs.Shifted.{shifted}

-- the brace or the comma before the label at a place
abbrev pub mark : ℕ → List ℕ
mark place = if place == 0 then codes "{" else codes ","

-- labels without the brace that ends them
abbrev pub opened : List (List ℕ × List ℕ) → List ℕ
opened [] = []
opened (label ∷ labels) = codes "{" ++ join_by label_text (codes ",") (label ∷ labels)

-- what ends the labels, of which there are `count`
abbrev pub closing : (count : ℕ) → List ℕ
closing count = if count == 0 then [] else codes "}"

-- a line up to its value: a name and labels
abbrev pub series : (name : List ℕ) → List (List ℕ × List ℕ) → List ℕ
series name labels = name ++ labels_text labels

-- the rest of a line: a blank, behind which a minus may stand, and the value
abbrev pub value_text : (blank digits : List ℕ) → List ℕ
value_text blank digits = blank ++ digits ++ codes "\n"

-- what the lines of a child's buckets begin with, up to the bound
abbrev pub bucket_front : (name : List ℕ) → List (List ℕ × List ℕ) → List ℕ
bucket_front name labels = name ++ codes "_bucket" ++ opened labels ++ mark (length labels) ++ codes "le=\""

-- the line of a bucket after this front: its bound, and its value
abbrev pub bucket_line : (front bound digits : List ℕ) → List ℕ
bucket_line front bound digits = front ++ bound ++ codes "\"} " ++ digits ++ codes "\n"

-- the lines of the first `n` buckets, of these bounds, which are shifted, and these cumulated values
abbrev pub bucket_lines : (front : List ℕ) → (digits : ℕ) → (bounds cumulated : List ℕ) → (n : ℕ) → List ℕ
bucket_lines front digits bounds cumulated n =
    flat_map (λ line. line) (map (λ k. bucket_line front (shifted digits (slice_index bounds k)) (decimal (slice_index cumulated
    k)))
    (range_with_len 0 n))
