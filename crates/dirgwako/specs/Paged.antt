-- What one call does to a page that is nobody else's, and answers.
use Rattle.std.specs.Prelude.{◌≡◌, ℕ, ◌<◌, List, length, Result, Ok, Err}
use Rattle.metric_desc.specs.Desc.{Descriptor}
use Rattle.registry_state.specs.Calls.{IsInside}
use Rattle.registry_state.specs.declared.fault.RegisterFault.{RegisterFault}
use Rattle.registry_state.specs.declared.fault.RegisterFault.TheVariants as Of
use Rattle.registry_state.specs.declared.handle.FamilyId.{FamilyId}
use Rattle.registry_state.specs.declared.handle.Handle.{Handle}
use Rattle.scrape_page.specs.Calls.{AddsFamily}
use Rattle.scrape_page.specs.Faults.{AreApart, IsPageFamilyFault}
use Rattle.scrape_page.specs.Rooms.{IsHome}
use Rattle.scrape_page.specs.declared.fault.PageChildFault.{PageChildFault}
use Rattle.scrape_page.specs.declared.fault.PageFamilyFault.{PageFamilyFault}
use Rattle.scrape_page.specs.declared.fault.PageFamilyFault.TheVariants as OfPage
use Rattle.page_crew.specs.Owned.{page_of, PageDid, IsUnchanged, IsGivenByCrew, IsRefusedByCrew}
use Rattle.page_crew.specs.Told.{news_of, HasToldFamily, HasToldGiven, HasToldRefused}
use Rattle.dirgwako.specs.declared.paged.OnPage.{OnPage}

-- a page's fault as one of a registry
abbrev pub as_register_fault : PageFamilyFault → RegisterFault
as_register_fault (OfPage.Clash with) = Of.Clash with
as_register_fault OfPage.TooManyFamilies = Of.TooManyFamilies
as_register_fault OfPage.NoMemory = Of.NoMemory

module _ {N C H G : ℕ} (old new : OnPage N C H G) where
  module _ (desc : Descriptor) where
    -- a family behind all that were there, of this descriptor, in the group, of which each scraper was told; or nothing
    abbrev pub RegistersFamily : Result FamilyId RegisterFault → Type 0
    RegistersFamily (Ok family) = (new.group ≡ old.group) × (family.number ≡ length (page_of old.crew).families)
        × AreApart (page_of old.crew).families desc × (length (page_of old.crew).families < 128)
        × PageDid old.crew new.crew (λ a b. (home : ℕ) × IsHome C H G a desc.kind old.group home × AddsFamily a b desc old.group
        home)
        × HasToldFamily old.crew new.crew desc old.group
    RegistersFamily (Err why) = (new.group ≡ old.group) × IsUnchanged old.crew new.crew × (news_of new.crew ≡ news_of old.crew)
        × ((fault : PageFamilyFault) × (why ≡ as_register_fault fault) × IsPageFamilyFault (page_of old.crew).families desc fault)

    -- a registration (as a record, so that a call's check reads it closed)
    pub record RegistersOnPage (answer : Result FamilyId RegisterFault) : Type 0 where
      pub did : RegistersFamily answer

  module _ (family : FamilyId) (values : List (List ℕ)) where
    -- one that was there or is made, on a board that came for it where it had to, and what scrapers were told of; or why there is
    -- none
    abbrev pub GivesChild : Result Handle PageChildFault → Type 0
    GivesChild (Ok handle) = (new.group ≡ old.group) × IsGivenByCrew old.crew new.crew family.number values handle × IsInside C H
        G handle
        × HasToldGiven old.crew new.crew family.number values handle
    GivesChild (Err why) = (new.group ≡ old.group) × IsRefusedByCrew old.crew new.crew family.number values why
        × HasToldRefused old.crew new.crew family.number

    -- the asking for a child
    pub record GivesOnPage (answer : Result Handle PageChildFault) : Type 0 where
      pub did : GivesChild answer
