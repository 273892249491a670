use Rattle.std.specs.Prelude.{◌≡◌, [], ◌∷◌, ◌++◌}
use Rattle.snapshot_scan.specs.Snapshots.{as_answer}
use Rattle.snapshot_scan.proofs.plain.PlainSourceOf.take.Given as goal

abbrev pub ghosts-load_as : goal.ghosts-load_as
ghosts-load_as g a = record {
  then = λ st me n me'. (me'.0 ≡ record { entries = me.0.entries ++ as_answer a._about.now ∷ [] }) × (me'.1 ≡ me.1);
}
