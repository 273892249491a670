-- Calls of a page keep the ids of its boards, and how many they are.
use Rattle.std.proofs.Common.{◌≡◌, ℕ, zero, suc, ◌+◌, ◌<◌, ◌≤◌, List, [], ◌∷◌, Some, length, map, slice_get, set, refl, sym}
use Rattle.std.proofs.Common.{ap, subst, ◌∙◌, inl, inr}
use Rattle.std.specs.Prelude.{Result, Ok, Err, IfOk, IfErr, OnOk, OnErr}
use Rattle.std.specs.List.{AllZip}
use Rattle.std.proofs.Math.ListN.{length-set}
use Rattle.std.proofs.lemmas.Option.{same_Some}
use Rattle.ledger_core.proofs.Placing.{at_set}
use Rattle.expo_text.specs.Scraped.{Scraped}
use Rattle.metric_desc.specs.Desc.{Descriptor}
use Rattle.register_rule.specs.declared.view.Answer.{Answer}
use Rattle.snapshot_scan.specs.declared.contended.Contended.{Contended}
use Rattle.register_rule.specs.Faults.{IsBoardSize}
use Rattle.registry_state.specs.Faults.{IsWindow}
use Rattle.registry_state.specs.Journal.{Registered}
use Rattle.registry_state.specs.Kept.{RegistryView}
use Rattle.registry_state.specs.Calls.{changed}
use Rattle.registry_state.specs.declared.handle.Handle.{Handle}
use Rattle.scrape_http.specs.declared.source.NoScrape.{NoScrape}
use Rattle.scrape_page.specs.Calls.{IsRegisteredOn, IsMadeOn, AddsFamily, IsGivenOnPage, LeavesPage, TakesPart}
use Rattle.scrape_page.specs.Families.{PageView}
use Rattle.scrape_page.specs.Rooms.{IsHome}
use Rattle.scrape_page.specs.Scraping.{PageScrapes, BoardAloneScrapes}
use Rattle.scrape_page.specs.Windows.{with_window, page_with_window}
use Rattle.scrape_page.specs.declared.family.Part.{Part}
use Rattle.scrape_page.specs.declared.family.PageFamilyId.{PageFamilyId}
use Rattle.scrape_page.specs.declared.fault.PageChildFault.{PageChildFault}
use Rattle.scrape_page.specs.declared.fault.PageChildFault.TheVariants.{NoSuchFamily, LabelCount, TooManyChildren, Full, NoMemory}
use Rattle.scrape_page.specs.declared.fault.PageFamilyFault.{PageFamilyFault}
use Rattle.scrape_page.proofs.Again.{SameFace, same_made, same_stopped, same_asked}
use Rattle.scrape_page.proofs.Windowed.{same_windowed}
use Rattle.page_crew.specs.Boards.{AreNumbered}
use Rattle.page_crew.specs.News.{NewsRing}
use Rattle.page_crew.specs.Rings.{Ring, HaveRoom}
use Rattle.page_crew.specs.declared.owner.PageCrew.{PageCrew}
use Rattle.page_crew.specs.declared.shared_scanner.SharedScanner.{SharedScanner}

module _ {S : Type 0} where
  -- as many boards, each with the id that the one of its number had
  pub record KeepsIds (old new : List (RegistryView S)) : Type 0 where
    pub many : length new ≡ length old
    pub ids : (k : ℕ) (b : RegistryView S) → slice_get new k ≡ Some b
        → (a : RegistryView S) × (slice_get old k ≡ Some a) × (b.id ≡ a.id)

  pub keeps_same : (old new : List (RegistryView S)) → new ≡ old → KeepsIds old new
  keeps_same old new same = subst (KeepsIds old) (sym same) (record { many = refl; ids = λ k b at. (b, at, refl) })

  keeps_then : (a b c : List (RegistryView S)) → KeepsIds a b → KeepsIds b c → KeepsIds a c
  keeps_then a b c first second = record {
    many = second.many ∙ first.many;
    ids = λ k z at. let y = second.ids k z at in let x = first.ids k y.0 y.1 in (x.0, x.1, y.2 ∙ x.2);
  }

  keeps_set : (old new : List (RegistryView S)) (place : ℕ) (a b : RegistryView S) → slice_get old place ≡ Some a → b.id ≡ a.id
      → new ≡ set old place b → KeepsIds old new
  keeps_set old new place a b at same is = subst (KeepsIds old) (sym is) (record {
    many = length-set old place b;
    ids = λ k x there. elim (at_set old place b k x there) [
      | inl here ↦ (
        a,
        subst (λ n. slice_get old n ≡ Some a) (sym here.0) at,
        ap (λ (v : RegistryView S). v.id) (sym here.1) ∙
            same,
      )
      | inr other ↦ (x, other.1, refl)
    ];
  })

  keeps_registered : (old new : List (RegistryView S)) (place : ℕ) (desc : Descriptor) (number : ℕ)
      → IsRegisteredOn old new place desc number → KeepsIds old new
  keeps_registered old new place desc number did =
      keeps_set old new place did.board (changed (Registered desc) did.board) did.at refl did.boards

  keeps_made : (c h g : ℕ) (old new : List (RegistryView S)) (part : Part) (values : List (List ℕ)) (handle : Handle)
      → IsMadeOn c h g old new part values handle → KeepsIds old new
  keeps_made c h g old new part values handle did =
      keeps_set old new part.board did.board did.board' did.at (ap (λ (v : RegistryView S). v.id) did.made.after_it) did.boards

  -- ids that followed each other do so
  pub numbered_still : (first : ℕ) (old new : List (RegistryView S)) → KeepsIds old new → AreNumbered first old → AreNumbered
      first new
  numbered_still first old new keeps numbered k b at = let a = keeps.ids k b at in a.2 ∙ numbered k a.0 a.1

  -- there is as much room as there was
  pub room_still : {N C H G : ℕ} (old new : List (RegistryView S)) (rings : List (Ring N C H G)) → KeepsIds old new
      → HaveRoom (length old) rings → HaveRoom (length new) rings
  room_still {N} {C} {H} {G} old new rings keeps room = subst (λ n. HaveRoom n rings) (sym keeps.many) room

  module _ (c h g : ℕ) (a b : PageView S) where
    boards_same : b ≡ a → KeepsIds a.boards b.boards
    boards_same same = keeps_same a.boards b.boards (ap (λ (p : PageView S). p.boards) same)

    -- a family was registered, or not
    pub register_keeps : (desc : Descriptor) (group : ℕ) (result : Result PageFamilyId PageFamilyFault)
        → OnOk result ((home : ℕ) × IsHome c h g a desc.kind group home × AddsFamily a b desc group home) → OnErr result (b ≡ a)
        → KeepsIds a.boards b.boards
    register_keeps desc group (Ok family) did none =
        keeps_registered a.boards b.boards did.0 desc did.2.number did.2.registered
    register_keeps desc group (Err why) did none = boards_same none

    module _ (number : ℕ) (values : List (List ℕ)) where
      given_keeps : (handle : Handle) → IsGivenOnPage c h g a b number values handle → KeepsIds a.boards b.boards
      given_keeps handle (inl found) = boards_same found.same
      given_keeps handle (inr (inl there)) =
          keeps_made c h g a.boards b.boards there.part values handle there.made.made
      given_keeps handle (inr (inr far)) =
          keeps_then a.boards far.mid.boards b.boards
          (keeps_registered a.boards far.mid.boards far.part.board far.taken.taken.family.desc far.part.family.number
          far.taken.taken.registered)
          (keeps_made c h g far.mid.boards b.boards far.part values handle far.made.made)

      leaves_keeps : (why : PageChildFault) → LeavesPage c h g a b number why → KeepsIds a.boards b.boards
      leaves_keeps NoSuchFamily same = boards_same same
      leaves_keeps (LabelCount want got) same = boards_same same
      leaves_keeps TooManyChildren same = boards_same same
      leaves_keeps (Full kind many) same = boards_same same
      leaves_keeps NoMemory (inl same) = boards_same same
      leaves_keeps NoMemory (inr took) = took_keeps took.0 took.1
        where
          took_keeps : (part : Part) → TakesPart c h g a b number part → KeepsIds a.boards b.boards
          took_keeps part took =
              keeps_registered a.boards b.boards part.board took.taken.family.desc part.family.number took.taken.registered

      -- a child was given, or not
      pub child_keeps : (result : Result Handle PageChildFault) → IfOk result (IsGivenOnPage c h g a b number values)
          → IfErr result (LeavesPage c h g a b number) → KeepsIds a.boards b.boards
      child_keeps (Ok handle) given none = given_keeps handle given
      child_keeps (Err why) given none = leaves_keeps why none

  keeps_zip : (old new : List (RegistryView S)) → AllZip SameFace old new → KeepsIds old new
  keeps_zip [] [] all = keeps_same [] [] refl
  keeps_zip [] (b ∷ new) all = absurd all
  keeps_zip (a ∷ old) [] all = absurd all
  keeps_zip (a ∷ old) (b ∷ new) all =
      let rest = keeps_zip old new all.1 in
      record { many = ap suc rest.many; ids = by rest }
    where
      by : KeepsIds old new → (k : ℕ) (y : RegistryView S) → slice_get (b ∷ new) k ≡ Some y
          → (x : RegistryView S) × (slice_get (a ∷ old) k ≡ Some x) × (y.id ≡ x.id)
      by rest zero y at = (a, refl, ap (λ (v : RegistryView S). v.id) (sym (same_Some b y at)) ∙ all.0.id)
      by rest (suc k) y at = rest.ids k y at

  -- a scrape was made, or not
  pub scrape_keeps : (n c h g : ℕ) (recorded : S → List Answer) (quit : S → ℕ) (gave : S → S → Answer → Type 0)
      (gave_up : S → S → Contended → Type 0) (a b : PageView S) (result : Result Scraped NoScrape)
      → PageScrapes n c h g recorded quit gave gave_up a b result → KeepsIds a.boards b.boards
  scrape_keeps n c h g recorded quit gave gave_up a b (Ok whole) did =
      keeps_zip a.boards b.boards (same_made n c h g recorded quit gave gave_up a.boards b.boards did.parts did.each)
  scrape_keeps n c h g recorded quit gave gave_up a b (Err why) did =
      keeps_zip a.boards b.boards (same_stopped n c h g recorded quit gave gave_up a.boards b.boards why did.stopped)

  -- one board was asked for a scrape
  pub board_keeps : (n c h g : ℕ) (recorded : S → List Answer) (quit : S → ℕ) (gave : S → S → Answer → Type 0)
      (gave_up : S → S → Contended → Type 0) (number : ℕ) (a b : PageView S) (result : Result Scraped NoScrape)
      → BoardAloneScrapes n c h g recorded quit gave gave_up number a b result → KeepsIds a.boards b.boards
  board_keeps n c h g recorded quit gave gave_up number a b result did =
      keeps_set a.boards b.boards number did.before did.after did.at
      (same_asked n c h g recorded quit gave gave_up did.before did.after result did.scrapes).id
      (ap (λ (p : PageView S). p.boards) did.new_is)

  -- each board keeps another number of scrapes
  pub window_keeps : (window : ℕ) (a b : PageView S) → b ≡ page_with_window window a → KeepsIds a.boards b.boards
  window_keeps window a b is = subst (KeepsIds a.boards) (sym (ap (λ (p : PageView S). p.boards) is))
      (keeps_zip a.boards (map (with_window window) a.boards) (same_windowed window a.boards))

-- what is so of a page's owner stays so, where the boards keep their ids
module _ {N C H G : ℕ} (old : PageCrew N C H G) (page : PageView (SharedScanner N C H G)) (keeps : KeepsIds old.page.boards
    page.boards) where
  abbrev pub Holds : (window : ℕ) (news : List (NewsRing N C H G)) → Type 0
  Holds window news = record {
    numbered : AreNumbered old.first page.boards;
    low : old.first + 96 < 18446744073709551616;
    kept : IsWindow window;
    count : length old.rings.items ≡ N;
    room : HaveRoom (length page.boards) old.rings.items;
    size : IsBoardSize N C H G 1;
    readers : length news ≤ 3;
  }

  pub held_with : (window : ℕ) (news : List (NewsRing N C H G)) → IsWindow window → length news ≤ 3 → Holds window news
  held_with window news kept readers = record {
    numbered = numbered_still old.first old.page.boards page.boards keeps old.numbered;
    low = old.low;
    kept = kept;
    count = old.count;
    room = room_still old.page.boards page.boards old.rings.items keeps old.room;
    size = old.size;
    readers = readers;
  }

  pub held_still : Holds old.window old.news.items
  held_still = held_with old.window old.news.items old.kept old.readers
