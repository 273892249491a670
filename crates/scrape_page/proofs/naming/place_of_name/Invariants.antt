use Rattle.std.proofs.Common.{map}
use Rattle.std.specs.List.{AllWithin}
use Rattle.expo_text.specs.Order.{IsBefore}
use Rattle.registry_state.specs.Held.{family_at}
use Rattle.scrape_page.specs.Families.{as_family}
use Rattle.scrape_page.proofs.naming.place_of_name.Given as goal

abbrev pub invariant-loop-place : goal.invariant-loop-place
invariant-loop-place l = AllWithin (λ i. IsBefore (family_at (map as_family l.families) i).desc.name l.name) l.order 0 l.place
