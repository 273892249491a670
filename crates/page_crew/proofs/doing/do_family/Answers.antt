use Rattle.std.proofs.Common.{ℕ, subst, inl}
use Rattle.metric_desc.specs.Desc.{Descriptor}
use Rattle.scrape_page.specs.Calls.{AddsFamily}
use Rattle.scrape_page.specs.Rooms.{IsHome}
use Rattle.scrape_page.specs.Faults.{IsPageFamilyFault}
use Rattle.scrape_page.specs.declared.fault.PageFamilyFault.TheVariants.{NoMemory}
use Rattle.page_crew.proofs.Telling.{not_registered}
use Rattle.page_crew.proofs.doing.do_family.Goals as goal

pub returns-in-Ok-register-clause-done : goal.returns-in-Ok-register-clause-done
returns-in-Ok-register-clause-done g c =
    inl (subst (λ (desc : Descriptor). (home : ℕ) × IsHome g.row.C g.row.H g.row.G c.args.page.now desc.kind c.args.group home
    × AddsFamily c.args.page.now c.register.new.self desc c.args.group home) c.in-Ok.ensures c.in-Ok-register.ensures.registered)

pub returns-in-Err-NoMemory-clause-begun : goal.returns-in-Err-NoMemory-clause-begun
returns-in-Err-NoMemory-clause-begun g c = (
  subst (λ (d : Descriptor). IsPageFamilyFault c.args.page.now.families d NoMemory) c.in-Ok.ensures
      (subst (IsPageFamilyFault c.args.page.now.families c.in-Ok.copy) c.in-Err-NoMemory.field-0-is
      c.in-Err-NoMemory.ensures.fault),
  c.in-Err-NoMemory.ensures.unchanged,
)

pub returns-in-Err-TooManyFamilies-clause-done : goal.returns-in-Err-TooManyFamilies-clause-done
returns-in-Err-TooManyFamilies-clause-done g c =
    not_registered c.args.page.now c.register.new.self c.args.desc c.in-Ok.copy c.args.group c.in-Err-TooManyFamilies.field-0
    c.in-Ok.ensures
    c.in-Err-TooManyFamilies.field-0-is c.in-Err-TooManyFamilies.ensures.fault c.in-Err-TooManyFamilies.ensures.unchanged
