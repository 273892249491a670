-- What a scan remembers, and what its looks are by it.
use Rattle.std.specs.Prelude.{◌≡◌, ◌≢◌, ℕ, suc, ◌+◌, ◌<◌, ◌≤◌, ◌==◌, true, false, cond, List, [], ◌∷◌, ◌++◌, length, map}
use Rattle.std.specs.Prelude.{replicate, slice_index, Contains}
use Rattle.bucket_math.specs.Words.{greatest_word}
use mathlib.Core.Option.{some}
use lib.ListN.{get_elem?}
use Rattle.register_rule.specs.declared.view.Version.{Version}
use Rattle.register_rule.specs.declared.view.Look.{Look}
use Rattle.register_rule.specs.declared.view.ScanLog.{ScanLog}
use Rattle.register_rule.specs.ScanSteps.{begun, confirmed_look, with_base, failed_once_more}
use Rattle.snapshot_scan.specs.declared.remembered_row.RememberedRow.{RememberedRow}

-- a remembered row as a version
abbrev pub version_of : RememberedRow → Version
version_of g = record { number = g.number; row = g.row.items }

-- rows of w words, each at most 2^48 - 1, which differ at no words but the ones that are listed
pub record IsWide (w : ℕ) (g : RememberedRow) : Type 0 where
  pub row : length g.row.items ≡ w
  pub fresh : length g.fresh.items ≡ w
  pub row_low : (k : ℕ) → k < w → slice_index g.row.items k ≤ greatest_word
  pub fresh_low : (k : ℕ) → k < w → slice_index g.fresh.items k ≤ greatest_word
  pub same : g.changed.all ≡ false → (k : ℕ) → k < w → ¬ (Contains g.changed.items k)
      → slice_index g.row.items k ≡ slice_index g.fresh.items k
  pub inside : (j : ℕ) → Contains g.changed.items j → j < w

-- each of them has rows of w such words
abbrev pub AreWide : (w : ℕ) → List RememberedRow → Type 0
AreWide w gs = (q : ℕ) (g : RememberedRow) → get_elem? gs q ≡ some g → IsWide w g

-- the row of version 0: zeros
pub record IsBlank (w : ℕ) (g : RememberedRow) : Type 0 where
  pub number : g.number ≡ 0
  pub row : g.row.items ≡ replicate w 0
  pub fresh : g.fresh.items ≡ replicate w 0
  pub changed : (g.changed.all ≡ true) × (g.changed.items ≡ [])

-- each of them is the row of version 0
abbrev pub AreBlank : (w : ℕ) → List RememberedRow → Type 0
AreBlank w gs = (q : ℕ) (g : RememberedRow) → get_elem? gs q ≡ some g → IsBlank w g

-- the row under the number s: the one that is remembered, or the one that the try read
abbrev pub words_of : ℕ → RememberedRow → List ℕ
words_of s g = cond (g.number == s) g.row.items g.fresh.items

-- the looks of the places from q on, which were opened at these numbers, and of which the first ones were confirmed at those
abbrev pub looks_of : (q : ℕ) → (opened found : List ℕ) → List RememberedRow → List Look
looks_of q [] found gs = []
looks_of q (s ∷ opened) found [] = []
looks_of q (s ∷ opened) [] (g ∷ gs) = begun q s (words_of s g) ∷ looks_of (suc q) opened [] gs
looks_of q (s ∷ opened) (f ∷ found) (g ∷ gs) = confirmed_look q f (begun q s (words_of s g)) ∷ looks_of (suc q) opened found gs

-- each number that was opened is the one that is remembered
abbrev pub AreKnown : (opened : List ℕ) → List RememberedRow → Type 0
AreKnown opened gs = (q : ℕ) (g : RememberedRow) → get_elem? gs q ≡ some g → g.number ≡ slice_index opened q

-- the numbers are those of these versions
abbrev pub AreNumbers : (numbers : List ℕ) → List Version → Type 0
AreNumbers numbers vs = (q : ℕ) (v : Version) → get_elem? vs q ≡ some v → v.number ≡ slice_index numbers q

-- some number is not that of its version
abbrev pub HasOther : (numbers : List ℕ) → List Version → Type 0
HasOther numbers vs = (q : ℕ) × (v : Version) × (get_elem? vs q ≡ some v) × (v.number ≢ slice_index numbers q)

-- loads of numbers of the places from q on
abbrev pub pairs : (q : ℕ) → List ℕ → List (ℕ × ℕ)
pairs q [] = []
pairs q (x ∷ xs) = (q, x) ∷ pairs (suc q) xs

-- a try of c that has opened these
abbrev pub opening : (opened : List ℕ) → List RememberedRow → ScanLog → ScanLog
opening opened gs c = record c {
  opened = c.opened ++ pairs 0 opened;
  trying = record c.trying { looks = looks_of 0 opened [] gs };
}

-- and confirmed those
abbrev pub settling : (opened found : List ℕ) → List RememberedRow → ScanLog → ScanLog
settling opened found gs c = record c {
  confirmed = c.confirmed ++ pairs 0 found;
  before = c.before ++ map (λ _. length c.opened) found;
  remembered = map version_of gs;
  trying = record c.trying { looks = looks_of 0 opened found gs };
}

-- the word k of all rows together
abbrev pub sum_rows : (k : ℕ) → List RememberedRow → ℕ
sum_rows k [] = 0
sum_rows k (g ∷ gs) = slice_index g.row.items k + sum_rows k gs

-- of w words the totals are the sums of these rows
abbrev pub AreTotals : (w : ℕ) → List RememberedRow → List ℕ → Type 0
AreTotals w gs totals = (k : ℕ) → k < w → slice_index totals k ≡ sum_rows k gs

-- x is at least what opening loads found at this place before, and what was seen of it
pub record IsLoaded (i : ℕ) (c : ScanLog) (x : ℕ) : Type 0 where
  pub opened : (q y : ℕ) → get_elem? c.opened q ≡ some (i, y) → y ≤ x
  pub seen : (y : ℕ) → get_elem? c.seen i ≡ some y → y ≤ x

-- the try has failed
abbrev pub failing : ScanLog → ScanLog
failing c = record c { trying = failed_once_more (with_base c.trying) }
