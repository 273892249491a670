use Rattle.std.proofs.Common.{◌≡◌, ◌+◌, ℕ, List, [], length, All}
use Rattle.std.specs.Vec.Iter.{into_iter_items}
use Rattle.register_rule.specs.declared.board.Board.{Board}
use Rattle.registry_state.specs.Kept.{RegistryView}
use Rattle.registry_state.specs.Replay.{nothing}
use Rattle.rtrb.specs.Ring.{sent, known_free}
use Rattle.page_crew.specs.News.{NewsRing, IsOver}
use Rattle.page_crew.specs.Following.{BeginsOn, AreTuned}
use Rattle.page_crew.specs.declared.page_scraper.PageScraper.{PageScraper}
use Rattle.page_crew.specs.declared.shared_scanner.SharedScanner.{SharedScanner}
use Rattle.page_crew.proofs.appointing.appoint.Given as goal

pub record AreAppointing {N C H G : ℕ} (boards rest : List (RegistryView (SharedScanner N C H G))) (rings : List (NewsRing N C H
    G))
    (scrapers : List (PageScraper N C H G)) : Type 0 where
  pub left : length rings + length rest ≡ length boards
  pub many : length rings ≡ length scrapers
  pub fresh : All (λ (registry : RegistryView (SharedScanner N C H G)). registry.state ≡ nothing) rest
  pub untold : All (λ (p : NewsRing N C H G). sent p ≡ []) rings
  pub room : All (λ (p : NewsRing N C H G). known_free p ≡ 32991) rings
  pub over : (board : Board N C H G) (id : ℕ) → All (IsOver board id) boards → All (IsOver board id) rest
  pub begin : (board : Board N C H G) (id : ℕ) → All (IsOver board id) boards → All (BeginsOn board id) scrapers
  pub pairs : AreTuned rings scrapers

abbrev pub invariant-loop-board : goal.invariant-loop-board
invariant-loop-board g l = AreAppointing l.fn.boards.items (into_iter_items l.board-iterator) l.rings.items l.scrapers.items
