-- How a scan ends.
use Rattle.std.proofs.Common.{◌≡◌, Bool, true, false}
use Rattle.snapshot_scan.specs.declared.scan_end.ScanEnd.{ScanEnd}
use Rattle.snapshot_scan.specs.declared.scan_end.ScanEnd.TheVariants as End

-- a quiet end
abbrev pub quiet_in : ScanEnd → Bool
quiet_in (End.Direct quiet) = quiet
quiet_in End.Lent = false
quiet_in End.GaveUp = false

-- the ways to end are apart
pub direct_lent : (q : Bool) → End.Direct q ≡ End.Lent → ⊥
direct_lent q e = cc

pub direct_up : (q : Bool) → End.Direct q ≡ End.GaveUp → ⊥
direct_up q e = cc

pub lent_direct : (q : Bool) → End.Lent ≡ End.Direct q → ⊥
lent_direct q e = cc

pub lent_up : End.Lent ≡ End.GaveUp → ⊥
lent_up e = cc

pub up_direct : (q : Bool) → End.GaveUp ≡ End.Direct q → ⊥
up_direct q e = cc

pub up_lent : End.GaveUp ≡ End.Lent → ⊥
up_lent e = cc

pub not_quiet : false ≡ true → ⊥
not_quiet e = cc
