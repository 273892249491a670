-- A page without scrapers.
use Rattle.std.proofs.Common.{◌≡◌, ℕ, List, [], ◌∷◌, length, refl, arith}
use Rattle.page_crew.specs.Opened.{IsNotOpened, IsPageCrewFault}
use Rattle.page_crew.specs.Told.{news_of, AreAppointed}
use Rattle.page_crew.specs.declared.fault.NoBoard.TheVariants as No
use Rattle.page_crew.specs.declared.fault.PageCrewFault.{PageCrewFault}
use Rattle.page_crew.specs.declared.fault.PageCrewFault.TheVariants as Opens
use Rattle.page_crew.specs.declared.owner.PageCrew.{PageCrew}
use Rattle.page_crew.specs.declared.page_scraper.PageScraper.{PageScraper}

-- why there is none
pub opened_alone : (n c h g window : ℕ) (fault : PageCrewFault) → IsNotOpened n c h g 1 window fault → IsPageCrewFault n c h g
    window fault
opened_alone n c h g window Opens.BadWindow why = why
opened_alone n c h g window (Opens.Board No.TooManyBoards) why = absurd why.1
opened_alone n c h g window (Opens.Board No.Geometry) why = (why.0, (omega arith, why.1))
opened_alone n c h g window (Opens.Board No.NoMemory) why = (why.0, (omega arith, why.1))

empty : {X : Type 0} (l : List X) → length l ≡ 0 → l ≡ []
empty [] none = refl
empty (x ∷ l) none = absurd (omega (arith, none))

-- it tells nobody
pub alone : {N C H G : ℕ} (crew : PageCrew N C H G) (scrapers : List (PageScraper N C H G)) → AreAppointed 0 crew scrapers →
    news_of crew ≡ []
alone crew scrapers are = empty (news_of crew) are.scrapers.rings_many
