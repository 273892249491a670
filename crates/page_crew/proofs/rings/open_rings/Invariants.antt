use Rattle.std.proofs.Common.{◌≡◌, ℕ, List, [], length, All}
use Rattle.rtrb.specs.Ring.{sent, known_free}
use Rattle.page_crew.specs.Held.{HasNone}
use Rattle.page_crew.specs.Rings.{Ring, ArePaired}
use Rattle.page_crew.specs.declared.page_recorder.PageRecorder.{PageRecorder}
use Rattle.page_crew.proofs.rings.open_rings.Given as goal

pub record AreOpenTo {N C H G : ℕ} (first at : ℕ) (rings : List (Ring N C H G)) (recorders : List (PageRecorder N C H G)) : Type 0
  where
    pub rings_many : length rings ≡ at
    pub recorders_many : length recorders ≡ at
    pub empty : All (λ (p : Ring N C H G). (sent p ≡ []) × (known_free p ≡ 96)) rings
    pub none : All (HasNone first) recorders
    pub pairs : ArePaired rings recorders

abbrev pub invariant-loop-seat : goal.invariant-loop-seat
invariant-loop-seat g l = AreOpenTo l.first l._seat l.rings.items l.recorders.items
