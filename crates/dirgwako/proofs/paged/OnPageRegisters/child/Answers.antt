use Rattle.std.proofs.Common.{◌≡◌, ℕ, List, Result, Ok, Err, IfOk, IfErr, OnErr, refl, subst, ◌∙◌}
use Rattle.registry_state.specs.Calls.{IsInside}
use Rattle.registry_state.specs.declared.handle.FamilyId.{FamilyId}
use Rattle.registry_state.specs.declared.handle.Handle.{Handle}
use Rattle.scrape_page.specs.declared.fault.PageChildFault.{PageChildFault}
use Rattle.page_crew.specs.Owned.{IsGivenByCrew, IsRefusedByCrew}
use Rattle.page_crew.specs.Told.{HasToldGiven, HasToldRefused}
use Rattle.dirgwako.specs.declared.paged.OnPage.{OnPage}
use Rattle.dirgwako.specs.Paged.{GivesOnPage}
use Rattle.dirgwako.proofs.paged.OnPageRegisters.child.Goals as goal

-- what the page's owner says of a child is what is said of what registers on it
gives : {N C H G : ℕ} (old new : OnPage N C H G) (family : FamilyId) (number : ℕ) (values : List (List ℕ))
    (r : Result Handle PageChildFault) → number ≡ family.number → new.group ≡ old.group
    → IfOk r (IsGivenByCrew old.crew new.crew number values) → IfOk r (IsInside C H G)
    → IfErr r (IsRefusedByCrew old.crew new.crew number values) → IfOk r (HasToldGiven old.crew new.crew number values)
    → OnErr r (HasToldRefused old.crew new.crew number) → GivesOnPage old new family values r
gives old new family number values (Ok handle) is group given inside fault told untold =
    record {
      did = (
        group,
        subst (λ n. IsGivenByCrew old.crew new.crew n values handle) is given,
        inside,
        subst (λ n. HasToldGiven old.crew new.crew n values handle) is told,
      );
    }
gives old new family number values (Err why) is group given inside fault told untold =
    record {
      did = (
        group,
        subst (λ n. IsRefusedByCrew old.crew new.crew n values why) is fault,
        subst (λ n. HasToldRefused old.crew new.crew n) is untold,
      );
    }

pub returns : goal.returns
returns g c =
    gives c.args.self.now (record { crew = c.child.new.self; group = c.args.self.now.group }) c.args.family c.of.result.number
    c.args.values.now
    c.child.result (c.of.ensures ∙ c.number.ensures) refl c.child.ensures.given c.child.ensures.inside c.child.ensures.fault
    c.child.ensures.told c.child.ensures.untold
