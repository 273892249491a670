use Rattle.std.proofs.Common.{◌≡◌, arith, ap, length, map}
use Rattle.std.proofs.lemmas.List.{length-map}
use Rattle.registry_state.specs.Merged.{change_of}
use Rattle.registry_state.proofs.Merging.{merged_length}
use Rattle.registry_state.proofs.journal.Journal.len.Goals as goal

pub returns : goal.returns
returns g c =
    let e : length (map change_of c.self.inside.notes.items) ≡ length c.self.inside.notes.items =
    length-map c.self.inside.notes.items change_of in
    let all = merged_length (map change_of c.self.inside.notes.items) 0 c.self.inside.kept.scrapes (rw e c.self.invariant.1) in
    let seen = ap length c.self.view_is in
    omega (arith, e, all, seen)
