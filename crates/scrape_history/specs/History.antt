-- The scrapes that are kept: the oldest whole, each later one as its increases over the one before.
use Rattle.std.specs.Prelude.{◌≡◌, ℕ, ◌+◌, List, [], ◌∷◌, Option, Some, None, length, map, take, drop}
use Rattle.segment_layout.specs.Layout.{IsGeometry}
use Rattle.ledger_core.specs.Ops.{width}
use Rattle.register_rule.specs.declared.view.Answer.{Answer}
use Rattle.snapshot_scan.specs.Snapshots.{Taken, as_answer}
use Rattle.scrape_history.specs.declared.increase.Increase.{Increase}
use Rattle.scrape_history.specs.declared.later.Later.{Later}
use Rattle.scrape_history.specs.Increases.{raised_by, Lead}

-- how many increases lead to these scrapes
abbrev pub changed_in : List Later → ℕ
changed_in [] = 0
changed_in (scrape ∷ later) = scrape.changed + changed_in later

-- the later scrapes, each with how many changes were made before it
abbrev pub later_of : Taken → List Later → List Increase → List (Taken × ℕ)
later_of t [] increases = []
later_of t (scrape ∷ later) increases =
    (raised_by t (take scrape.changed increases), scrape.before)
    ∷ later_of (raised_by t (take scrape.changed increases)) later (drop scrape.changed increases)

-- all scrapes: there is a first one where it is said how many changes were made before it
abbrev pub held_of : (first : Option ℕ) → (oldest : Taken) → List Later → List Increase → List (Taken × ℕ)
held_of None oldest later increases = []
held_of (Some before) oldest later increases = (oldest, before) ∷ later_of oldest later increases

-- the answers of kept scrapes
abbrev pub answers_of : List (Taken × ℕ) → List Answer
answers_of kept = map (λ (scrape : Taken × ℕ). as_answer scrape.0) kept

-- what contracts see of a history: its scrapes, each with how many changes were made before it; for how many scrapes
-- there is room in all, and for how many increases more
pub record Stored : Type 0 where
  pub scrapes : List (Taken × ℕ)
  pub places : ℕ
  pub room : ℕ

-- the increases lead from the oldest scrape to the newest, and no others are kept
pub record IsHistory (n c h g : ℕ) (first : Option ℕ) (oldest newest : Taken) (later : List Later)
    (increases : List Increase) : Type 0 where
  pub geometry : IsGeometry n c h g
  pub none : first ≡ None → later ≡ []
  pub all : length increases ≡ changed_in later
  pub lead : Lead n (width c h g) oldest newest increases
