use Rattle.std.proofs.Common.{subst}
use Rattle.expo_text.specs.Spelled.{IsSpelledChild}
use Rattle.expo_text.proofs.writer.put_child.Goals as goal

pub returns-clause-spelled : goal.returns-clause-spelled
returns-clause-spelled g c =
    let values = rw (c.deref-2.ensures.value, c.deref.ensures) at c.put_number.ensures.values in
    subst IsSpelledChild c.child.view_is (record { values = values; number = c.put_number.ensures.words })
