-- A board of a page that is scraped alone.
use Rattle.std.proofs.Common.{◌≡◌, ℕ, List, length, get_or, refl, sym, ap, subst, ◌∙◌, inl}
use Rattle.std.specs.Prelude.{Option, Some, Ok, Err, IsSome, Result, slice_get}
use Rattle.std.proofs.lemmas.Option.{slice_get_read, slice_get_within}
use Rattle.expo_text.specs.Scraped.{Scraped}
use Rattle.page_crew.specs.Owned.{PageDid}
use Rattle.page_crew.specs.Shared.{recorded_in, quit_in, gave_in, gave_up_in}
use Rattle.page_crew.specs.declared.shared_scanner.SharedScanner.{SharedScanner}
use Rattle.register_rule.specs.declared.view.Answer.{Answer}
use Rattle.registry_state.specs.Replay.{State}
use Rattle.scrape_http.specs.declared.source.NoScrape.{NoScrape}
use Rattle.scrape_page.specs.Families.{PageView}
use Rattle.scrape_page.specs.Scraping.{BoardAloneScrapes}
use Rattle.scrape_server.specs.Scrapes.{Scrapes}
use Rattle.scrape_server.proofs.Askings.{at_end}
use Rattle.dirgwako_c.specs.Numbers.{Board, Reads, ReadsBoard, numbers_of, no_scrape_number}
use Rattle.dirgwako_c.specs.Registries.{Owner, IsHandedOver, owner_in, page_in, SparesStay, TellsNobody}
use Rattle.dirgwako_c.specs.declared.held.HeldRegistry.{HeldRegistry}
use Rattle.dirgwako_c.proofs.Places.{same_there, set_now}

module _ {N C H G : ℕ} where
  -- the board of this number alone was asked for a scrape, and gave this
  abbrev pub AsksAlone : (old new : Owner N C H G) → (number : ℕ) → Result Scraped NoScrape → Type 0
  AsksAlone old new number result = PageDid old new (λ a b.
      BoardAloneScrapes N C H G recorded_in quit_in gave_in gave_up_in number a b result)

  module _ (before after : HeldRegistry N C H G) (number : ℕ) where
    abbrev Alone : Result Scraped NoScrape → Type 0
    Alone result = AsksAlone (owner_in before) (owner_in after) number result

    -- the board, after it
    pub now_there : (result : Result Scraped NoScrape) (did : Alone result) → slice_get (page_in after).boards number ≡ Some
        did.1.after
    now_there result did =
        ap (λ (page : PageView (SharedScanner N C H G)). slice_get page.boards number) did.1.new_is
        ∙ set_now (page_in before).boards number did.1.before did.1.after did.1.at

    -- the board that was read behind it
    pub board_there : (scrape : Scraped) → Alone (Ok scrape) → (xs : List (Board N C H G)) (board : Board N C H G) → xs ≡ (page_in
        after).boards
        → board ≡ get_or xs number board → slice_get (page_in after).boards number ≡ Some board
    board_there scrape did xs board same read =
        let now = (page_in after).boards in
        let within = slice_get_within now number did.1.after (now_there (Ok scrape) did) in
        slice_get_read now (length now) number board refl within (subst (λ (l : List (Board N C H G)). board ≡ get_or l number
        board) same read)

    -- where a scrape was made, one is kept
    pub kept_there : (scrape : Scraped) → Alone (Ok scrape) → (board : Board N C H G) → slice_get (page_in after).boards number ≡
        Some board
        → IsSome board.state.last
    kept_there scrape did board there =
        let (mid, given) = at_end (Scrapes N C H G recorded_in quit_in gave_in gave_up_in) 3 did.1.before
        did.1.after (Ok scrape) did.1.scrapes in
        let last = ap (λ (s : State). s.last) given.kept.state in
        let is = same_there (slice_get (page_in after).boards number) did.1.after board (now_there (Ok scrape) did) there in
        subst (λ (b : Board N C H G). IsSome b.state.last) is (subst (λ (o : Option Answer). IsSome o) (sym last) refl)

    read_alone : (result : Result Scraped NoScrape) (answer : ℕ) (had has : List ℕ) (had_len has_len : ℕ) → SparesStay before
        after
        → TellsNobody (owner_in before) (owner_in after) → (did : Alone result)
        → ReadsBoard did.1.before did.1.after answer had has had_len has_len
        → Reads number answer before after had has had_len has_len
    read_alone result answer had has had_len has_len stay untold did reads = (
      stay,
      inl (record {
        old = did.1.before;
        new = did.1.after;
        at = did.1.at;
        page = (did.0, did.1.new_is, did.2);
        untold = untold;
        did = reads;
      }),
    )

    module _ (answer : ℕ) (had has : List ℕ) (had_len has_len : ℕ) (stay : SparesStay before after)
        (untold : TellsNobody (owner_in before) (owner_in after)) where
      pub read_made : (scrape : Scraped) → Alone (Ok scrape) → (board : Board N C H G) (moment : Answer)
          → slice_get (page_in after).boards number ≡ Some board → board.state.last ≡ Some moment
          → IsHandedOver (numbers_of board.id moment) answer had has has_len
          → Reads number answer before after had has had_len has_len
      read_made scrape did board moment there last handed =
          let is = sym (same_there (slice_get (page_in after).boards number) did.1.after board (now_there (Ok scrape) did) there)
          in
          read_alone (Ok scrape) answer had has had_len has_len stay untold did (record {
            made = Ok tt;
            asks = (scrape, did.1.scrapes);
            reads = (
              moment,
              subst (λ (b : Board N C H G). b.state.last ≡ Some moment) is last,
              subst (λ (b : Board N C H G). IsHandedOver (numbers_of b.id moment) answer had has has_len) is handed,
            );
          })

    pub read_none : (why : NoScrape) (answer : ℕ) (had : List ℕ) (had_len : ℕ) → SparesStay before after
        → TellsNobody (owner_in before) (owner_in after) → Alone (Err why) → answer ≡ no_scrape_number why → Reads number answer
        before after had had had_len had_len
    read_none why answer had had_len stay untold did told =
        read_alone (Err why) answer had had had_len had_len stay untold did (record {
          made = Err why;
          asks = did.1.scrapes;
          reads = (told, refl, refl);
        })

  -- the same, where the owner alone is another
  pub none_read : (before : HeldRegistry N C H G) (crew : Owner N C H G) (number : ℕ) (why told : NoScrape) (answer : ℕ) (had :
      List ℕ) (had_len : ℕ)
      → TellsNobody (owner_in before) crew → told ≡ why → AsksAlone (owner_in before) crew number (Err told) → answer ≡
      no_scrape_number why
      → Reads number answer before (record before {
        registrar = record before.registrar {
          at = record before.registrar.at {
            crew =
                crew;
          };
        };
      })
      had had had_len had_len
  none_read before crew number why told answer had had_len untold is did number_is =
      read_none before (record before { registrar = record before.registrar { at = record before.registrar.at { crew = crew } } })
      number why answer
      had had_len (refl, refl) untold (subst (λ (w : NoScrape). AsksAlone (owner_in before) crew number (Err w)) is did) number_is
