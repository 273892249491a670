-- A text is an exposition of groups exactly where a walk over it finds those groups.
use Rattle.std.proofs.Common.{◌≡◌, ◌≢◌, ◌↔◌, ℕ, List, [], ◌∷◌, map, refl, sym, ap, ap₂, ◌∙◌, subst}
use Rattle.std.specs.Prelude.{All}
use Rattle.std.proofs.lemmas.List.Elements.{All-head, All-tail, All-cons, All-nil}
use Rattle.expo_text.specs.Groups.{Group}
use Rattle.expo_text.specs.Lines.{LineEntry, Malformed, IsLine}
use Rattle.expo_text.specs.Parts.{Part}
use Rattle.expo_text.specs.Reads.{Match, word_of}
use Rattle.expo_text.specs.ReadsTo.{IsGroupTo, ReadsTo}
use Rattle.expo_text.proofs.Walked.{entry_of, parts_of, ReadsWalked}
use Rattle.expo_text.proofs.LinesWalked.{line_walked}
use Rattle.expo_text.proofs.LinesFound.{line_found}
use Rattle.expo_text.proofs.Pairs.{Each, Pairs, pairs_recursion}
use Rattle.expo_text.proofs.PartsWalked.{IsTyped, AreApart, parts_walked}
use Rattle.expo_text.proofs.PartsFound.{IsFormed, parts_found}

-- no bytes are a line that is none of the format
line_formed : (line : List ℕ) (entry : LineEntry) → IsLine line entry → entry ≢ Malformed
line_formed line entry is malformed = subst (IsLine line) malformed is

-- the entries of lines are those that the walk finds
entries_walked : (lines : List (List ℕ)) (entries : List LineEntry) → Match IsLine lines entries → map entry_of lines ≡ entries
entries_walked [] [] are = refl
entries_walked [] (_ ∷ _) are = absurd are
entries_walked (_ ∷ _) [] are = absurd are
entries_walked (line ∷ lines) (entry ∷ entries) are = ap₂ (λ e es. e ∷ es) (line_walked line entry are.0)
    (entries_walked lines entries are.1)

-- and each of them is one of the format
all_formed : (lines : List (List ℕ)) (entries : List LineEntry) → Match IsLine lines entries
    → All (λ line. entry_of line ≢ Malformed) lines
all_formed [] [] are = All-nil (λ (line : List ℕ). entry_of line ≢ Malformed)
all_formed [] (_ ∷ _) are = absurd are
all_formed (_ ∷ _) [] are = absurd are
all_formed (line ∷ lines) (entry ∷ entries) are =
    All-cons (λ (line : List ℕ). entry_of line ≢ Malformed) line lines
    (λ malformed. line_formed line entry are.0 (sym (line_walked line entry are.0) ∙ malformed)) (all_formed lines entries are.1)

-- what the walk finds in lines of the format are their entries
entries_found : (lines : List (List ℕ)) → All (λ line. entry_of line ≢ Malformed) lines → Match IsLine lines (map entry_of lines)
entries_found [] formed = tt
entries_found (line ∷ lines) formed = (
  line_found line (All-head (λ (l : List ℕ). entry_of l ≢ Malformed) line lines formed),
  entries_found lines (All-tail (λ (l : List ℕ). entry_of l ≢ Malformed) line lines formed),
)

-- the same, entry by entry
each_formed : (lines : List (List ℕ)) → All (λ line. entry_of line ≢ Malformed) lines → Each IsFormed (map entry_of lines)
each_formed [] formed = tt
each_formed (line ∷ lines) formed = (
  All-head (λ (l : List ℕ). entry_of l ≢ Malformed) line lines formed,
  each_formed lines (All-tail (λ (l : List ℕ). entry_of l ≢ Malformed) line lines formed),
)

-- a part of a group has one type
each_typed : (places : ℕ) (parts : List Part) (groups : List Group) → Match (IsGroupTo places) parts groups → Each IsTyped parts
each_typed places [] [] are = tt
each_typed places [] (_ ∷ _) are = absurd are
each_typed places (_ ∷ _) [] are = absurd are
each_typed places (part ∷ parts) (group ∷ groups) are = (
  record { word = word_of group.kind; is = are.0.kind },
  each_typed places parts groups are.1,
)

-- a part's name is none of others
each_apart : (places : ℕ) (part : Part) (group : Group) → group.name ≡ part.name → (parts : List Part) (groups : List Group)
    → Match (IsGroupTo places) parts groups
    → Each (λ (other : Group). group.name ≢ other.name) groups → Each (AreApart part) parts
each_apart places part group same_name [] [] are apart = tt
each_apart places part group same_name [] (_ ∷ _) are apart = absurd are
each_apart places part group same_name (_ ∷ _) [] are apart = absurd are
each_apart places part group same_name (next ∷ parts) (other ∷ groups) are apart =
    ((λ e. apart.0 (same_name ∙ e ∙ sym are.0.name)), each_apart places part group same_name parts groups are.1 apart.1)

-- where no two groups have one name, no two parts have
pairs_apart : (places : ℕ) (parts : List Part) (groups : List Group) → Match (IsGroupTo places) parts groups
    → Pairs (λ (a b : Group). a.name ≢ b.name) groups → Pairs AreApart parts
pairs_apart places [] [] are apart = tt
pairs_apart places [] (_ ∷ _) are apart = absurd are
pairs_apart places (_ ∷ _) [] are apart = absurd are
pairs_apart places (part ∷ parts) (group ∷ groups) are apart = (
  each_apart places part group are.0.name parts groups are.1 apart.0,
  pairs_apart places parts groups are.1 apart.1,
)

-- an exposition is what the walk finds
pub walked : (places : ℕ) (bytes : List ℕ) (groups : List Group) → ReadsTo places bytes groups → ReadsWalked places bytes groups
walked places bytes groups reads =
    let apart = pairs_apart places reads.parts groups reads.matched
    (pairs_recursion (λ (a b : Group). a.name ≢ b.name) groups reads.unbroken) in
    let found : parts_of (map entry_of reads.lines) ≡ reads.parts =
    ap parts_of (entries_walked reads.lines reads.entries reads.formed) ∙ parts_walked reads.entries reads.parts reads.blocks
    (each_typed places reads.parts groups reads.matched) apart in
    record {
      lines = reads.lines;
      cut = reads.cut;
      formed = all_formed reads.lines reads.entries reads.formed;
      parts = subst (λ parts. Match (IsGroupTo places) parts groups) (sym found) reads.matched;
      unbroken = reads.unbroken;
      once = reads.once;
      labels = reads.labels;
      histograms = reads.histograms;
    }

-- what the walk finds is an exposition
pub found : (places : ℕ) (bytes : List ℕ) (groups : List Group) → ReadsWalked places bytes groups → ReadsTo places bytes groups
found places bytes groups reads = record {
  lines = reads.lines;
  cut = reads.cut;
  entries = map entry_of reads.lines;
  formed = entries_found reads.lines reads.formed;
  parts = parts_of (map entry_of reads.lines);
  blocks = parts_found (map entry_of reads.lines) (each_formed reads.lines reads.formed)
      (each_typed places (parts_of (map entry_of reads.lines)) groups reads.parts);
  matched = reads.parts;
  unbroken = reads.unbroken;
  once = reads.once;
  labels = reads.labels;
  histograms = reads.histograms;
}

-- the two are the same
pub reads_walked : (places : ℕ) (bytes : List ℕ) (groups : List Group) → ReadsTo places bytes groups ↔ ReadsWalked places bytes
    groups
reads_walked places bytes groups = (walked places bytes groups, found places bytes groups)
