use Rattle.page_crew.proofs.page_registry.PageRegistry.child.Goals as goal

pub returns-in-Ok-clause-inside : goal.returns-in-Ok-clause-inside
returns-in-Ok-clause-inside g c = c.of_page.ensures.inside g.row.C g.row.H g.row.G c.in-Ok.ensures.inside
