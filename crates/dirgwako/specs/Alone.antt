-- What one call does to a registry that is nobody else's, and answers.
use Rattle.std.specs.Prelude.{◌≡◌, ℕ, List, length, Result, Ok, Err}
use Rattle.metric_desc.specs.Desc.{Descriptor}
use Rattle.registry_state.specs.Calls.{IsGiven, changed}
use Rattle.registry_state.specs.Faults.{IsChildFault, IsRegisterFault}
use Rattle.registry_state.specs.Journal.{Registered}
use Rattle.registry_state.specs.Kept.{RegistryView}
use Rattle.registry_state.specs.Replay.{IsAcceptedChange}
use Rattle.registry_state.specs.declared.fault.ChildFault.{ChildFault}
use Rattle.registry_state.specs.declared.fault.ChildFault.TheVariants as Of
use Rattle.registry_state.specs.declared.fault.RegisterFault.{RegisterFault}
use Rattle.registry_state.specs.declared.handle.FamilyId.{FamilyId}
use Rattle.registry_state.specs.declared.handle.Handle.{Handle}
use Rattle.scrape_page.specs.declared.fault.PageChildFault.{PageChildFault}
use Rattle.scrape_page.specs.declared.fault.PageChildFault.TheVariants as OfPage

-- a registry's fault as one of a page
abbrev pub as_page_fault : ChildFault → PageChildFault
as_page_fault Of.NoSuchFamily = OfPage.NoSuchFamily
as_page_fault (Of.LabelCount want got) = OfPage.LabelCount want got
as_page_fault (Of.Full kind many) = OfPage.Full kind many
as_page_fault Of.NoMemory = OfPage.NoMemory

module _ {S : Type 0} (n c h g : ℕ) (old new : RegistryView S) (desc : Descriptor) where
  -- a registration: a family behind all that were there, of this descriptor; or nothing
  abbrev pub RegistersAlone : Result FamilyId RegisterFault → Type 0
  RegistersAlone (Ok family) = (family.number ≡ length old.state.families) × IsAcceptedChange n c h g old.state.families
      (Registered desc) × (new ≡ changed (Registered desc) old)
  RegistersAlone (Err fault) = IsRegisterFault old.state.families desc fault × (new ≡ old)

module _ {S : Type 0} (c h g : ℕ) (old new : RegistryView S) (family : FamilyId) (values : List (List ℕ)) where
  -- the registry's refusal of a child, told as a page's
  abbrev pub IsRefusedAlone : PageChildFault → Type 0
  IsRefusedAlone why = (fault : ChildFault) × IsChildFault c h g old.state.families family.number values fault
      × (why ≡ as_page_fault fault)

  -- the asking for a child: one that was there or is made, or nothing
  abbrev pub GivesAlone : Result Handle PageChildFault → Type 0
  GivesAlone (Ok handle) = IsGiven c h g old new family.number values handle
  GivesAlone (Err why) = IsRefusedAlone why × (new ≡ old)
