use Rattle.ledger_core.specs.Ops.{width}
use Rattle.segment_layout.proofs.Places.{within, alone}
use Rattle.segment_layout.proofs.place.place_of.Goals as goal

pub returns-clause-within : goal.returns-clause-within
returns-clause-within c =
    let a = c.args in
    let w = width a.c a.h a.g in
    rw c.segment_words.ensures (within a.n w a.segment _ c.requires.segment c.in_segment.ensures.within)

pub returns-clause-apart : goal.returns-clause-apart
returns-clause-apart c =
    let a = c.args in
    let w = width a.c a.h a.g in
    rw (c.segment_words.ensures, c.in_segment.ensures.place) (alone a.n w a.segment a.part c.requires.part)
