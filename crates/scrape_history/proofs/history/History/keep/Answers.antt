use Rattle.std.proofs.Common.{◌-◌, ap, arith, rules, length, ◌∙◌}
use Rattle.std.proofs.lemmas.List.{length-drop}
use Rattle.scrape_history.proofs.Historic.{place_left}
use Rattle.scrape_history.proofs.history.History.keep.Goals as goal

pub push-requires : goal.push-requires
push-requires g c =
    let n = ap length c.drop_oldest.ensures.newest ∙ length-drop (length c.args.self.now.scrapes - (c.args.window - 1))
    c.args.self.now.scrapes in
    let fit = c.drop_oldest.ensures.fit in let same = c.drop_oldest.ensures.places in
    (search rules, (search rules, (rw same (place_left _ _ _ _ c.requires.window c.requires.places fit n), omega arith)))
