use Rattle.std.proofs.Common.{rules, ◌≡◌, sym, ◌∙◌}
use Rattle.std.specs.List.{insert}
use Rattle.registry_state.proofs.Placing.{put_at}
use Rattle.registry_state.proofs.family.put_child.Goals as goal

pub returns-clause-put : goal.returns-clause-put
returns-clause-put c =
    let inserted : c.insert.new.self.items ≡ insert c.args.children.now.items c.args.place c.args.child = search rules in
    inserted ∙ sym (put_at c.args.child c.args.children.now.items c.args.place c.requires.place)
