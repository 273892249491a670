use Rattle.std.specs.List.{flat_map}
use Rattle.expo_text.specs.Shown.{shown_of_child}
use Rattle.expo_text.proofs.Lines.{group_of-some}
use Rattle.expo_text.proofs.writer.put_lines.Goals as goal

pub returns-clause-text : goal.returns-clause-text
returns-clause-text g c =
    let chain = g.met.S.Sink.chain in
    let desc = c.args.desc.now in
    let children = c.args.children.now in
    let group = group_of-some desc children (flat_map (shown_of_child desc) children) c.requires.some in
    let took = chain _ _ _ _ _ (chain _ _ _ _ _ c.put_help.ensures.text c.put_type.ensures.text) c.put_children.ensures.text in
    rw group at took
