-- What the end of a try says.
use Rattle.std.specs.Prelude.{Bool, true, false, cond, List, ℕ}
use Rattle.snapshot_scan.specs.declared.try_end.TryEnd.{TryEnd}
use Rattle.snapshot_scan.specs.declared.try_end.TryEnd.TheVariants.{Quiet, Clean, Failed}

-- each number was found again
abbrev pub is_clean : TryEnd → Bool
is_clean Quiet = true
is_clean Clean = true
is_clean Failed = false

-- and each was the remembered one
abbrev pub is_quiet : TryEnd → Bool
is_quiet Quiet = true
is_quiet Clean = false
is_quiet Failed = false

-- the numbers that the second collect of a try found: where each was found again, those that were opened
abbrev pub found_by : TryEnd → (opened found : List ℕ) → List ℕ
found_by end opened found = cond (is_clean end) opened found
