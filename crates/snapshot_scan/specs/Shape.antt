-- What loads of a scan come to.
use Rattle.std.specs.Prelude.{ℕ, suc, Bool, cond, List, [], ◌∷◌}
use Rattle.register_rule.specs.declared.view.Member.{Member}
use Rattle.register_rule.specs.declared.view.ScanLog.{ScanLog}
use Rattle.register_rule.specs.declared.seats.Bundle.{Bundle}
use Rattle.register_rule.specs.Seats.{members_of}
use Rattle.register_rule.specs.ScanSteps.{after_open, after_read}
use Rattle.ledger_core.specs.Ops.{width, sum_ops}
use Rattle.ledger_core.specs.Row.{Accepts}
use Rattle.register_rule.specs.Told.{AreRuled}
use Rattle.register_rule.specs.Members.{first_of, led, scan_changed}

-- what the first of these members has learned by its scans
abbrev pub scan_of : List Member → ScanLog
scan_of ms = (first_of ms).scan

-- what the first member of a seat has learned by its scans
abbrev pub scan_in : Bundle → ScanLog
scan_in b = scan_of (members_of b)

-- the first member's scan is c
abbrev pub with_scan : ScanLog → List Member → List Member
with_scan c ms = led (scan_changed (λ _. c)) ms

-- loads of these words, from the item `from` on, of the version s of the place i
abbrev pub read_all : (w i s from : ℕ) → List ℕ → ScanLog → ScanLog
read_all w i s from [] c = c
read_all w i s from (x ∷ xs) c = read_all w i s (suc from) xs (after_read w i s from x c)

-- an opening load, and where its row is not known, loads of its words
abbrev pub looked_at : (w i s : ℕ) → (known : Bool) → List ℕ → ScanLog → ScanLog
looked_at w i s known fresh c = cond known (after_open i s c) (read_all w i s 0 fresh (after_open i s c))

-- all that the rule says of the seat's members, on a board of n workers, c counters, h histograms and g gauges
abbrev pub IsRuled : (n c h g : ℕ) → Bundle → Type 0
IsRuled n c h g b = AreRuled n (width c h g) (sum_ops c h) (Accepts c h g) (members_of b)
