use Rattle.std.proofs.Common.{◌≡◌, ◌∙◌, ◌+◌, ◌-◌, ap, arith, drop}
use Rattle.std.proofs.lemmas.List.{drop-drop}
use Rattle.scrape_history.proofs.history.History.drop_oldest.Goals as goal

pub loop-preserved : goal.loop-preserved
loop-preserved g c =
    let n : c.loop.counter - c.args.most + 1 ≡ c.loop.counter + 1 - c.args.most = omega arith in record {
      newest = c.drop_one.ensures.newest
          ∙ ap (drop 1) c.loop.invariant.newest
          ∙ drop-drop 1 (c.loop.counter - c.args.most) c.args.self.now.scrapes
          ∙ ap (λ m. drop m c.args.self.now.scrapes) n;
      places = c.drop_one.ensures.places ∙ c.loop.invariant.places;
      room = omega arith;
      few = omega arith;
    }
