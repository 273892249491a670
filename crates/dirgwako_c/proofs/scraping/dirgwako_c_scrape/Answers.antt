use Rattle.std.proofs.Common.{sym, ap, ◌∙◌}
use Rattle.std.specs.Prelude.{Some}
use Rattle.dirgwako_c.proofs.Called.{called}
use Rattle.dirgwako_c.proofs.scraping.dirgwako_c_scrape.Goals as goal

pub returns : goal.returns
returns c = called _ _ _ c.args.registry.now.value c.put.new.self.value c.deref_mut.result.now c.print_to-answer.new.source
    (c.in-Some.ensures.taken ∙ ap Some (sym c.deref_mut.ensures.value)) c.put.ensures c.print_to-answer.ensures
