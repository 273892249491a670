-- How many scrapes the boards of a page keep.
use Rattle.std.specs.Prelude.{ℕ, map}
use Rattle.registry_state.specs.Journal.{within}
use Rattle.registry_state.specs.Kept.{RegistryView}
use Rattle.scrape_page.specs.Families.{PageView}

module _ {S : Type 0} (window : ℕ) where
  -- the board, as it keeps so many scrapes from now on: where it kept more, the oldest are dropped
  abbrev pub with_window : RegistryView S → RegistryView S
  with_window board = record board { window = window; journal = within window board.journal }

  -- the page, as each of its boards keeps so many from now on
  abbrev pub page_with_window : PageView S → PageView S
  page_with_window page = record page { boards = map with_window page.boards }
