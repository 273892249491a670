-- Texts that are expositions, and texts that are none (Prometheus documentation, "Exposition formats", "Text-based format").
use Rattle.std.proofs.Common.{◌≡◌, ◌≢◌, ◌==◌, ℕ, List, [], ◌∷◌, ◌++◌, All, map, codes, refl, sym, subst, ◌∙◌}
use Rattle.std.proofs.lemmas.List.{same_from_push}
use Rattle.std.proofs.lemmas.List.Elements.{All-head, All-tail}
use Rattle.std.specs.List.{slice_split}
use Rattle.expo_text.specs.Groups.{Group}
use Rattle.expo_text.specs.Lines.{Malformed}
use Rattle.expo_text.proofs.Walked.{entry_of, parts_of}
use Rattle.expo_text.specs.Reads.{Match, word_of, Reads}
use Rattle.expo_text.specs.ReadsTo.{IsGroupTo}
use Rattle.expo_text.proofs.PlainLaw.{reads_plain}
use Rattle.expo_text.proofs.Walks.{walked}

-- no line of an exposition is none of the format
abbrev IsGood : List ℕ → Type 0
IsGood line = entry_of line ≢ Malformed

filled : {X : Type 0} (x : X) (xs : List X) → ¬ ([] ≡ x ∷ xs)
filled x xs e = cc

-- a text of two lines, the second of which is none of the format
bad_second : (bytes first second : List ℕ) (groups : List Group) → slice_split (λ b. b == 10) bytes ≡ first ∷ second ∷ [] ∷ []
    → entry_of second ≡ Malformed → ¬ (Reads bytes groups)
bad_second bytes first second groups cut bad reads =
    let found = walked 0 bytes groups ((reads_plain bytes groups).1 reads) in
    let same = same_from_push found.lines (first ∷ second ∷ []) [] [] (sym found.cut ∙ cut) in
    let formed : All IsGood (first ∷ second ∷ []) = subst (λ (l : List (List ℕ)). All IsGood l) same.0 found.formed in
    All-head IsGood second [] (All-tail IsGood first (second ∷ []) formed) bad

-- a sample has a value
no_value : (groups : List Group) → ¬ (Reads (codes "# TYPE a counter\na\n") groups)
no_value groups = bad_second (codes "# TYPE a counter\na\n") (codes "# TYPE a counter") (codes "a") groups refl refl

-- and one value, after which no time may stand
two_values : (groups : List Group) → ¬ (Reads (codes "# TYPE a counter\na 1 1395066363000\n") groups)
two_values groups = bad_second (codes "# TYPE a counter\na 1 1395066363000\n") (codes "# TYPE a counter")
    (codes "a 1 1395066363000") groups refl refl

-- labels stand in braces
open_brace : (groups : List Group) → ¬ (Reads (codes "# TYPE a counter\na{l=\"x\" 1\n") groups)
open_brace groups = bad_second (codes "# TYPE a counter\na{l=\"x\" 1\n") (codes "# TYPE a counter") (codes "a{l=\"x\" 1") groups
    refl refl

-- their values in quotes
no_quotes : (groups : List Group) → ¬ (Reads (codes "# TYPE a counter\na{l=x} 1\n") groups)
no_quotes groups = bad_second (codes "# TYPE a counter\na{l=x} 1\n") (codes "# TYPE a counter") (codes "a{l=x} 1") groups refl
    refl

-- which an escaped quote does not end
open_quote : (groups : List Group) → ¬ (Reads (codes "# TYPE a counter\na{l=\"x\\\"} 1\n") groups)
open_quote groups = bad_second (codes "# TYPE a counter\na{l=\"x\\\"} 1\n") (codes "# TYPE a counter") (codes "a{l=\"x\\\"} 1")
    groups refl refl

-- with a comma between two of them
no_comma : (groups : List Group) → ¬ (Reads (codes "# TYPE a counter\na{b=\"1\" c=\"2\"} 1\n") groups)
no_comma groups = bad_second (codes "# TYPE a counter\na{b=\"1\" c=\"2\"} 1\n") (codes "# TYPE a counter")
    (codes "a{b=\"1\" c=\"2\"} 1") groups refl refl

-- a type has a name and a word
long_type : (groups : List Group) → ¬ (Reads (codes "\n# TYPE a counter x\n") groups)
long_type groups = bad_second (codes "\n# TYPE a counter x\n") [] (codes "# TYPE a counter x") groups refl refl

-- an exposition ends with a line feed
no_end : (groups : List Group) → ¬ (Reads (codes "a") groups)
no_end groups reads =
    let cut : slice_split (λ b. b == 10) (codes "a") ≡ [] ++ (codes "a") ∷ [] = refl in
    let same = same_from_push reads.lines [] [] (codes "a") (sym reads.cut ∙ cut) in
    filled 97 [] same.1

-- a text of these lines, each of which is one of the format
parts_are : (bytes : List ℕ) (lines : List (List ℕ)) (groups : List Group) → slice_split (λ b. b == 10) bytes ≡ lines ++ [] ∷ []
    → Reads bytes groups → Match (IsGroupTo 0) (parts_of (map entry_of lines)) groups
parts_are bytes lines groups cut reads =
    let found = walked 0 bytes groups ((reads_plain bytes groups).1 reads) in
    let same = same_from_push found.lines lines [] [] (sym found.cut ∙ cut) in
    subst (λ (l : List (List ℕ)). Match (IsGroupTo 0) (parts_of (map entry_of l)) groups) same.0 found.parts

-- a group has a type
no_type : (groups : List Group) → ¬ (Reads (codes "a 1\n") groups)
no_type [] reads = parts_are (codes "a 1\n") (codes "a 1" ∷ []) [] refl reads
no_type (g ∷ gs) reads = filled (word_of g.kind) [] (parts_are (codes "a 1\n") (codes "a 1" ∷ []) (g ∷ gs) refl reads).0.kind
