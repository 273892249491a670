-- A child was refused, and then scrapers may be told nothing more.
use Rattle.std.proofs.Common.{◌≡◌, ◌≢◌, ℕ, List, [], length, sym, ap, subst, ◌∙◌, inl, inr}
use mathlib.Core.Logic.{dite}
use native.Mathlib.Decide.{ℕ_discrete}
use Rattle.metric_desc.specs.declared.kind.Kind.{Kind}
use Rattle.scrape_page.specs.Calls.{LeavesPage}
use Rattle.scrape_page.specs.Families.{PageView}
use Rattle.scrape_page.specs.declared.fault.PageChildFault.{PageChildFault}
use Rattle.scrape_page.specs.declared.fault.PageChildFault.TheVariants.{NoMemory}
use Rattle.page_crew.specs.Owned.{page_of, IsUnchanged, PageDid, IsRefusedFurther, IsRefusedByCrew}
use Rattle.page_crew.specs.Told.{news_of, parts_in, HasToldBoards, HasToldRefused}
use Rattle.page_crew.specs.declared.owner.PageCrew.{PageCrew}
use Rattle.page_crew.specs.declared.shared_scanner.SharedScanner.{SharedScanner}
use Rattle.page_crew.proofs.Further.{unchanged_from}

module _ {N C H G : ℕ} where
  did_after : (old mid new : PageCrew N C H G) → IsUnchanged mid new
      → (Did : PageView (SharedScanner N C H G) → PageView (SharedScanner N C H G) → Type 0) → PageDid old mid Did → PageDid old
      new Did
  did_after old mid new same Did did = (
    (same.0.0 ∙ did.0.0, same.0.1 ∙ did.0.1),
    subst (λ (p : PageView (SharedScanner N C H G)). Did (page_of old) p) (sym same.1) did.1,
    same.2 ∙ did.2,
  )

  module _ (old mid new : PageCrew N C H G) (same : IsUnchanged mid new) (number : ℕ) where
    further_after : (kind : Kind) (many : ℕ) (why : PageChildFault) → IsRefusedFurther old mid number kind many why
        → IsRefusedFurther old new number kind many why
    further_after kind many why (inl none) = inl (none.0, none.1, unchanged_from old mid new none.2 same)
    further_after kind many why (inr (memory, few, some, inl none)) = inr (
      memory,
      few,
      some,
      inl (unchanged_from old mid new none
          same),
    )
    further_after kind many why (inr (memory, few, some, inr (far, grown, did))) =
        inr (memory, few, some, inr (far, grown, did_after far mid new same (λ a b. LeavesPage C H G a b number NoMemory) did))

    pub refused_after : (values : List (List ℕ)) (why : PageChildFault) → IsRefusedByCrew old mid number values why
        → IsRefusedByCrew old new number values why
    refused_after values why (inl (fault, other, did)) = inl (
      fault,
      other,
      did_after old mid new same (λ a b. LeavesPage C H G a
          b number why) did,
    )
    refused_after values why (inr (kind, many, full, further)) = inr (kind, many, full, further_after kind many why further)

    boards_after : news_of new ≡ news_of mid → HasToldBoards old mid number → HasToldBoards old new number
    boards_after news (inl none) =
        inl (ap (λ (p : PageView (SharedScanner N C H G)). length p.boards) same.1 ∙ none.0, news ∙ none.1)
    boards_after news (inr (far, grew, many, none)) =
        inr (far, grew, did_after far mid new same (λ a b. LeavesPage C H G a b number NoMemory) many, news ∙ none)

    -- the family had so many parts before
    pub in_step : (before : ℕ) → before ≡ parts_in (page_of old) number
        → (parts_in (page_of mid) number ≡ before → news_of new ≡ news_of mid) → (parts_in (page_of mid) number ≢ before → news_of
        new ≡ [])
        → HasToldBoards old mid number → HasToldRefused old new number
    in_step before had still gone told =
        let is : parts_in (page_of new) number ≡ parts_in (page_of mid) number =
        ap (λ (p : PageView (SharedScanner N C H G)). parts_in p number) same.1 in
        dite (ℕ_discrete (parts_in (page_of mid) number) before)
        (λ e. inl (is ∙ e ∙ had, boards_after (still e) told))
        (λ other. inr ((λ e. other (sym is ∙ e ∙ sym had)), gone other))
