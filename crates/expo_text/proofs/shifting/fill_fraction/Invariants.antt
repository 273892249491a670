use Rattle.std.proofs.Common.{◌≡◌, ◌-◌, ◌^◌, ◌<◌, ◌++◌, length, take}
use Rattle.expo_text.specs.Shifted.{fraction}
use Rattle.expo_text.proofs.shifting.fill_fraction.Given as goal

-- the digits so far, and those of what is left
abbrev pub invariant-loop-filled : goal.invariant-loop-filled
invariant-loop-filled l =
    (l.unit ≡ 10 ^ (l.digits - l.filled)) × (l.rest < 10 ^ (l.digits - l.filled))
    × (take l.filled l.places ++ fraction (l.digits - l.filled) l.rest ≡ fraction l.digits l.parts)
    × (length l.places ≡ 9)
