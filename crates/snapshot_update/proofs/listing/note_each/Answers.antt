use Rattle.std.proofs.Common.{List, ℕ, Contains, subst}
use Rattle.snapshot_update.proofs.listing.note_each.Goals as goal

pub note_each-requires : goal.note_each-requires
note_each-requires c = record {
  room = λ j has. c.requires.room j
      (subst (λ (l : List ℕ). Contains l j) c.as_slice.ensures.listed has);
}
