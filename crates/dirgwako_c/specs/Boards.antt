-- What the calls of C about the boards of a page come to.
use Rattle.std.specs.Prelude.{◌≡◌, ◌≢◌, ◌⊎◌, ℕ, length, slice_get, IsSomeAnd, All}
use Rattle.page_crew.specs.Opened.{IsNoBoard, no_board_number}
use Rattle.page_crew.specs.Owned.{IsGrown, IsUnchanged}
use Rattle.page_crew.specs.Told.{news_of, HasToldBoard}
use Rattle.page_crew.specs.declared.fault.NoBoard.{NoBoard}
use Rattle.dirgwako_c.specs.Numbers.{Board}
use Rattle.dirgwako_c.specs.Registries.{owner_in, page_in, SparesStay, TellsNobody}
use Rattle.dirgwako_c.specs.declared.held.HeldRegistry.{HeldRegistry}

module _ {N C H G : ℕ} where
  -- a board came, behind the others, each scraper was told of it, and its number was told; or none came, for this reason, and
  -- nothing has changed
  abbrev pub AddsBoard : (answer : ℕ) → (before after : HeldRegistry N C H G) → (had has : ℕ) → Type 0
  AddsBoard answer before after had has = SparesStay before after
      × (((answer ≡ 0) × IsGrown (owner_in before) (owner_in after) × HasToldBoard (owner_in before) (owner_in after) × (has ≡
      length (page_in before).boards))
      ⊎ ((why : NoBoard) × (answer ≡ no_board_number why)
      × IsNoBoard N C H G (length (page_in before).boards) why
      × IsUnchanged (owner_in before) (owner_in after) × TellsNobody (owner_in before) (owner_in after) × (has ≡ had)))

  -- what is held is as it was, and so many boards were told
  abbrev pub TellsBoards : (answer : ℕ) → (before after : HeldRegistry N C H G) → (has : ℕ) → Type 0
  TellsBoards answer before after has = (after ≡ before) × (answer ≡ 0) × (has ≡ length (page_in before).boards)

  -- what is held is as it was, and it was told how many scrapers are told what comes
  abbrev pub TellsScrapers : (answer : ℕ) → (before after : HeldRegistry N C H G) → (has : ℕ) → Type 0
  TellsScrapers answer before after has = (after ≡ before) × (answer ≡ 0) × (has ≡ length (news_of (owner_in before)))

  -- what is held is as it was, and the number of the board of this id was told; or no board of the page has it (16)
  abbrev pub TellsBoard : (id answer : ℕ) → (before after : HeldRegistry N C H G) → (had has : ℕ) → Type 0
  TellsBoard id answer before after had has = (after ≡ before)
      × (((answer ≡ 0) × IsSomeAnd (slice_get (page_in before).boards has) (λ (board : Board N C H G). board.id ≡ id))
      ⊎ ((answer ≡ 16) × All (λ (board : Board N C H G). board.id ≢ id) (page_in before).boards × (has ≡ had)))
