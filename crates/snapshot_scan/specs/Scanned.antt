-- What a scan comes to.
use Rattle.std.specs.Prelude.{◌≡◌, ◌≢◌, ◌⊎◌, ℕ, ◌+◌, ◌<◌, ◌≤◌, List, [], ◌∷◌, ◌++◌, length, map, slice_index}
use mathlib.Core.Option.{some}
use lib.ListN.{get_elem?}
use Rattle.register_rule.specs.declared.view.Answer.{Answer}
use Rattle.register_rule.specs.declared.view.Asked.{Asked}
use Rattle.register_rule.specs.declared.view.ScanLog.{ScanLog}
use Rattle.register_rule.specs.declared.view.Version.{Version}
use Rattle.register_rule.specs.History.{Below}
use Rattle.register_rule.specs.ScanSteps.{at_rest, upper}
use Rattle.snapshot_scan.specs.declared.remembered_row.RememberedRow.{RememberedRow}
use Rattle.snapshot_scan.specs.RememberedRows.{version_of, AreKnown, HasOther, pairs}
use Rattle.snapshot_scan.specs.Asking.{DoesNotLend, due_from, asked_worker}

-- a try as its loads: the numbers of both collects, and the workers asked
pub record Tried : Type 0 where
  pub first : List ℕ
  pub second : List ℕ
  pub asks : List Asked

-- the opening loads of these tries, in order
abbrev pub all_opened : List Tried → List (ℕ × ℕ)
all_opened [] = []
all_opened (t ∷ ts) = pairs 0 t.first ++ all_opened ts

-- the confirming loads of these tries, in order
abbrev pub all_confirmed : List Tried → List (ℕ × ℕ)
all_confirmed [] = []
all_confirmed (t ∷ ts) = pairs 0 t.second ++ all_confirmed ts

-- how many opening loads were made before each of their confirming loads, where these were made before the tries
abbrev pub all_before : List (ℕ × ℕ) → List Tried → List ℕ
all_before opened [] = []
all_before opened (t ∷ ts) = map (λ _. length (opened ++ pairs 0 t.first)) t.second ++ all_before (opened ++ pairs 0 t.first) ts

-- the workers that were asked in these tries, in order
abbrev pub all_asked : List Tried → List Asked
all_asked [] = []
all_asked (t ∷ ts) = t.asks ++ all_asked ts

-- a try that failed: some number rose between its two loads, all workers whose number is 2 or more above the base were
-- asked, and none lent
pub record FailedTry (n : ℕ) (floor base : List ℕ) (t : Tried) : Type 0 where
  pub opened : length t.first ≡ n
  pub found : length t.second ≡ n
  pub risen : (q : ℕ) → q < n → slice_index t.first q ≤ slice_index t.second q
  pub rose : (q : ℕ) × (q < n) × (slice_index t.first q < slice_index t.second q)
  pub asked : map asked_worker t.asks ≡ due_from 0 base t.second
  pub none : (q : ℕ) (e : Asked) → get_elem? t.asks q ≡ some e → DoesNotLend n floor e

-- a scan that is over: what is remembered is what the view has
pub record IsIdle (c : ScanLog) (gs : List RememberedRow) : Type 0 where
  pub remembered : c.remembered ≡ map version_of gs
  pub rest : c.trying ≡ at_rest

-- nothing was read anew: what is remembered stands as it stood, and the numbers that were opened are the remembered ones
pub record IsQuiet (gs gs' : List RememberedRow) (before after opened : List ℕ) : Type 0 where
  pub remembered : map version_of gs' ≡ map version_of gs
  pub totals : after ≡ before
  pub known : AreKnown opened gs'

-- from c to c' a scan found something other than these rows: one of the n numbers that it opened first is another, or it made
-- more than one try
pub record HasMoved (n : ℕ) (rows : List Version) (c c' : ScanLog) : Type 0 where
  pub first : List ℕ
  pub later : List (ℕ × ℕ)
  pub opened : c'.opened ≡ c.opened ++ (pairs 0 first ++ later)
  pub all : length first ≡ n
  pub why : HasOther first rows ⊎ (later ≢ [])

-- from c to c' a scan recorded this answer
pub record IsAnswered (n : ℕ) (c c' : ScanLog) (a : Answer) : Type 0 where
  pub recorded : c'.recorded ≡ c.recorded ++ a ∷ []
  pub quit : c'.quit ≡ c.quit
  pub seen : c'.seen ≡ upper c.seen a.vector
  -- the first n opening loads, which the answer is not below, and the later ones
  pub floor : List ℕ
  pub later : List (ℕ × ℕ)
  pub opened : c'.opened ≡ c.opened ++ (pairs 0 floor ++ later)
  pub all : length floor ≡ n
  pub above : Below floor a.vector
  pub seen_before : Below c.seen a.vector

-- from c to c' a scan of n + 2 tries was given up, none of which opened at less than had been seen before; `first` and `last`
-- are the numbers of its last try
pub record IsGivenUp (n : ℕ) (c c' : ScanLog) (first last : List ℕ) : Type 0 where
  pub recorded : c'.recorded ≡ c.recorded
  pub seen : c'.seen ≡ c.seen
  pub quit : c'.quit ≡ c.quit + 1
  pub head : Tried
  pub others : List Tried
  pub final : Tried
  pub tries : List Tried
  pub all : tries ≡ head ∷ others
  pub ends : (before : List Tried) × (tries ≡ before ++ final ∷ [])
  pub count : length tries ≡ n + 2
  pub opened : c'.opened ≡ c.opened ++ all_opened tries
  pub confirmed : c'.confirmed ≡ c.confirmed ++ all_confirmed tries
  pub before : c'.before ≡ c.before ++ all_before c.opened tries
  pub asked : c'.asked ≡ c.asked ++ all_asked tries
  pub each : (q : ℕ) (t : Tried) → get_elem? tries q ≡ some t → FailedTry n head.first head.second t
  pub above : (q : ℕ) (t : Tried) → get_elem? tries q ≡ some t → Below c.seen t.first
  pub final_first : final.first ≡ first
  pub final_last : final.second ≡ last
