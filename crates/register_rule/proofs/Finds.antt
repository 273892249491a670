-- What a load of a scan finds.
use Rattle.std.proofs.Common.{◌≡◌, ℕ, ◌<◌, List, length}
use Rattle.ledger_core.specs.declared.op.Op.{Op}
use Rattle.register_rule.specs.declared.view.PublishEntry.{PublishEntry}
use Rattle.register_rule.specs.declared.load.Load.{Load}
use Rattle.register_rule.specs.declared.load.Load.TheVariants.{Open, Read, Confirm, Ask, EndAsk}
use Rattle.register_rule.specs.Shown.{Shows}

-- the number of a segment, or a word of a version, which is right as long as this is the number
abbrev pub Finds : (n w : ℕ) → (List Op → ℕ → ℕ) → (ℕ → List PublishEntry) → Load → ℕ → Type 0
Finds n w adds made (Open place) x = (place < n) × (x ≡ length (made place))
Finds n w adds made (Read place number item) x = number ≡ length (made place) → Shows n w adds (made place) item x
Finds n w adds made (Confirm place) x = (place < n) × (x ≡ length (made place))
Finds n w adds made (Ask place) x = (place < n) × (x ≡ length (made place))
Finds n w adds made (EndAsk place) x = (place < n) × (x ≡ length (made place))
