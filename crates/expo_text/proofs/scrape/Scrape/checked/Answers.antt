use Rattle.std.proofs.Common.{refl, sym, subst, List}
use Rattle.expo_text.specs.Scraped.{Family}
use Rattle.expo_text.specs.Order.{IsScrape}
use Rattle.expo_text.proofs.Elements.{never}
use Rattle.expo_text.proofs.scrape.Scrape.checked.Goals as goal

pub returns-then-not-is_scrape-clause-none : goal.returns-then-not-is_scrape-clause-none
returns-then-not-is_scrape-clause-none c is =
    never (c.if-not-is_scrape.ensures c.args.vector.items).1
    (subst (λ (families : List Family). IsScrape (record { vector = c.args.vector.items; families = families }))
    (sym c.deref.ensures.value) is)

pub new-requires : goal.new-requires
new-requires c =
    subst (λ (families : List Family). IsScrape (record { vector = c.args.vector.items; families = families }))
    c.deref.ensures.value ((c.if-not-is_scrape.ensures c.args.vector.items).0 refl)
