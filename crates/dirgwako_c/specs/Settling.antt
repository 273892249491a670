-- Exact totals of the recorders that nobody has.
use Rattle.std.specs.Prelude.{◌≡◌, ◌⊎◌, ℕ, ◌<◌, ◌≤◌, List, [], ◌∷◌, ◌++◌, map, flat_map, length, slice_get, Option, Some}
use Rattle.std.specs.Prelude.{None, IsSomeAnd, All}
use mathlib.Core.Option.{some}
use lib.ListN.{get_elem?}
use Rattle.chain_law.specs.Settled.{HasIndex, IsMissing, IsSettled, made_all}
use Rattle.ledger_core.specs.Ops.{width, sum_ops}
use Rattle.page_crew.specs.Held.{recorders_of}
use Rattle.page_crew.specs.Shared.{worker_in}
use Rattle.page_crew.specs.declared.shared_recorder.SharedRecorder.{SharedRecorder}
use Rattle.snapshot_scan.specs.Snapshots.{Taken, as_answer}
use Rattle.snapshot_update.specs.Workers.{index_of, lists_of}
use Rattle.snapshot_update.specs.declared.worker.Worker.{Worker}
use Rattle.dirgwako_c.specs.Numbers.{Board, HasNoBoard, numbers_of}
use Rattle.dirgwako_c.specs.Recorders.{IsSamePage}
use Rattle.dirgwako_c.specs.Registries.{IsHandedOver, recorder_in, grouped_in, page_in, scrapers_in, spare_in, SparesStay}
use Rattle.dirgwako_c.specs.declared.held.HeldRecorder.{HeldRecorder}
use Rattle.dirgwako_c.specs.declared.held.HeldRegistry.{HeldRegistry}
use Rattle.dirgwako_c.specs.declared.settling.Apart.{Apart}
use Rattle.dirgwako_c.specs.declared.settling.Apart.TheVariants.{Missing, Twice}

-- a worker of a board of this geometry
abbrev pub OneWorker : (N C H G : ℕ) → Type 0
OneWorker N C H G = Worker N C H G

-- what a recorder counts with on one board
abbrev pub OneSeat : (N C H G : ℕ) → Type 0
OneSeat N C H G = SharedRecorder N C H G

module _ {N C H G : ℕ} where
  -- it, where it is there
  abbrev pub alone : Option (OneSeat N C H G) → List (OneSeat N C H G)
  alone None = []
  alone (Some seat) = seat ∷ []

  -- what these recorders count with on the board of this number, in order, where they know it
  abbrev pub seats_on : (board : ℕ) → List (HeldRecorder N C H G) → List (OneSeat N C H G)
  seats_on board recorders = flat_map (λ (r : HeldRecorder N C H G). alone (slice_get (recorders_of (recorder_in r)) board))
      recorders

  -- a recorder knows the board of this number
  abbrev pub Knows : (board : ℕ) → HeldRecorder N C H G → Type 0
  Knows board r = board < length (recorders_of (recorder_in r))

  -- one of these does not
  abbrev pub HasStranger : (board : ℕ) → List (HeldRecorder N C H G) → Type 0
  HasStranger board recorders = (place : ℕ) × (r : HeldRecorder N C H G) × (slice_get recorders place ≡ Some r)
      × (length (recorders_of (recorder_in r)) ≤ board)

  -- the recorder is of the same page, and has met boards that came, or none
  abbrev pub HasMet : (before after : HeldRecorder N C H G) → Type 0
  HasMet before after = IsSamePage (recorder_in before) (recorder_in after)
      × ((came : List (OneSeat N C H G)) × (recorders_of (recorder_in after) ≡ recorders_of (recorder_in before) ++ came))

  -- each of these has, and nothing else has changed
  pub record HaveMet (before after : List (HeldRecorder N C H G)) : Type 0 where
    pub many : length after ≡ length before
    pub each : (k : ℕ) (a b : HeldRecorder N C H G) → slice_get before k ≡ Some a → slice_get after k ≡ Some b → HasMet a b

  -- their workers, in order
  abbrev pub workers_of : List (OneSeat N C H G) → List (OneWorker N C H G)
  workers_of seats = map worker_in seats

  -- what all that these have published adds to the word k of a row
  abbrev pub published_in : List (OneSeat N C H G) → (k : ℕ) → ℕ
  published_in seats k = sum_ops C H (made_all (workers_of seats)) k

  -- no two of them are one worker of a board
  abbrev pub AreOnce : List (OneWorker N C H G) → Type 0
  AreOnce workers = (p q : ℕ) (v w : OneWorker N C H G) → p < q → get_elem? workers p ≡ some v → get_elem? workers q ≡ some w
      → ¬ (index_of v ≡ index_of w)

  -- two of them are one worker, so they are of two boards
  pub record IsTwice (workers : List (OneWorker N C H G)) : Type 0 where
    pub first : ℕ
    pub second : ℕ
    pub one : OneWorker N C H G
    pub other : OneWorker N C H G
    pub apart : first < second
    pub here : get_elem? workers first ≡ some one
    pub there : get_elem? workers second ≡ some other
    pub same : index_of one ≡ index_of other

  -- they are not all workers, each once
  abbrev pub IsApart : List (OneWorker N C H G) → Apart → Type 0
  IsApart workers (Missing worker) = AreOnce workers × IsMissing workers worker
  IsApart workers Twice = IsTwice workers

  -- a vector has how often each of them has published, at its place
  abbrev pub AreSettled : List (OneWorker N C H G) → (vector : List ℕ) → Type 0
  AreSettled workers vector = (p : ℕ) (w : OneWorker N C H G) → get_elem? workers p ≡ some w
      → get_elem? vector (index_of w) ≡ some (length (lists_of w))

  -- all workers are among these, and these numbers are exactly what they have published
  pub record AreExact (workers : List (OneWorker N C H G)) (taken : Taken) : Type 0 where
    pub all : (i : ℕ) → i < N → HasIndex workers i
    pub long : length taken.vector ≡ N
    pub wide : length taken.totals ≡ width C H G
    pub settled : IsSettled workers taken

  -- The numbers of all that these recorders have published on the board of this number were handed over, as those of a moment of
  -- it, and they are the recorders of all workers. Or each is there once at most, and worker `missing` is the least whose
  -- recorder is not (18); or two are of one worker, or one knows no board of this number (16): then the rest is as it was
  abbrev pub SettlesBoard : (number : ℕ) → Board N C H G → List (HeldRecorder N C H G) → (answer : ℕ) → (had has : List ℕ)
      → (had_len has_len had_missing has_missing : ℕ) → Type 0
  SettlesBoard number board spare answer had has had_len has_len had_missing has_missing =
      (All (Knows number) spare × ((taken : Taken) × AreExact (workers_of (seats_on number spare)) taken
      × IsHandedOver (numbers_of board.id (as_answer taken)) answer had has has_len × (has_missing ≡ had_missing)))
      ⊎ ((All (Knows number) spare × (answer ≡ 18) × AreOnce (workers_of (seats_on number spare))
      × IsMissing (workers_of (seats_on number spare)) has_missing × (has ≡ had) × (has_len ≡ had_len))
      ⊎ ((answer ≡ 16) × (IsTwice (workers_of (seats_on number spare)) ⊎ HasStranger number spare) × (has ≡ had) × (has_len ≡
      had_len)
      × (has_missing ≡ had_missing)))

  -- the page is as it was, each spare recorder has met boards that came, and the board of this number was settled; or no board
  -- has it, and nothing has changed
  abbrev pub Settles : (number answer : ℕ) → (before after : HeldRegistry N C H G) → (had has : List ℕ)
      → (had_len has_len had_missing has_missing : ℕ) → Type 0
  Settles number answer before after had has had_len has_len had_missing has_missing =
      ((grouped_in after ≡ grouped_in before) × (scrapers_in after ≡ scrapers_in before) × HaveMet (spare_in before) (spare_in
      after)
      × IsSomeAnd (slice_get (page_in before).boards number) (λ (board : Board N C H G).
      SettlesBoard number board (spare_in after) answer had has had_len has_len had_missing has_missing))
      ⊎ (HasNoBoard number answer before after × SparesStay before after × (has ≡ had) × (has_len ≡ had_len)
      × (has_missing ≡ had_missing))
