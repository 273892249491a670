use Rattle.std.proofs.Common.{rules}
use Rattle.dirgwako.specs.Setting.{Moves}
use Rattle.dirgwako.proofs.setting.GaugeCell.set_on_page.Goals as goal

-- the change that was asked for is what was published
pub returns-in-Ok-clause-published : goal.returns-in-Ok-clause-published
returns-in-Ok-clause-published g c =
    let moves : Moves c.args.self.now c.args.value c.change_to.result = search rules in
    (c.change_to.result, moves, c.in-Ok.ensures.published)
