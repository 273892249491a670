-- Of each histogram of a tally the sum of its values.
use Rattle.std.proofs.Common.{◌≡◌, ℕ, ◌+◌, ◌*◌, ◌<◌, ◌≤◌, inl, inr, List, length, get_or, set, arith}
use Rattle.std.proofs.lemmas.List.{get_or-set_same, get_or-set_other}
use Rattle.std.proofs.lemmas.Bool.{cases_eq}
use Rattle.bucket_math.specs.Words.{greatest_word}
use Rattle.ledger_core.specs.declared.op.Op.{Op}
use Rattle.ledger_core.specs.declared.op.Op.TheVariants.{Inc, Observe, Up, Down}
use Rattle.ledger_core.specs.Ops.{part}
use Rattle.ledger_core.specs.Takes.{Takes}
use Rattle.ledger_core.specs.Tally.{AreSums}
use Rattle.ledger_core.proofs.Bounded.{only_elsewhere}
use Rattle.ledger_core.proofs.Taking.{only_here}

-- an operation that adds to no sum of a histogram
abbrev pub IsBeside : (c h : ℕ) → Op → Type 0
IsBeside c h op = (i : ℕ) → i < h → part c h op (c + 27 * i + 25) ≡ 0

pub inc_beside : (c h counter by : ℕ) → counter < c → IsBeside c h (Inc counter by)
inc_beside c h counter by lt = λ i hi. only_elsewhere counter by (c + 27 * i + 25) (λ e. omega arith)

pub up_beside : (c h gauge by : ℕ) → IsBeside c h (Up gauge by)
up_beside c h gauge by = λ i hi. only_elsewhere (c + 27 * h + 2 * gauge) by (c + 27 * i + 25) (λ e. omega arith)

pub down_beside : (c h gauge by : ℕ) → IsBeside c h (Down gauge by)
down_beside c h gauge by = λ i hi. only_elsewhere (c + 27 * h + 2 * gauge + 1) by (c + 27 * i + 25) (λ e. omega arith)

pub sums_stay : (c h : ℕ) (op : Op) (ops ops' : List Op) (sums : List ℕ) → IsBeside c h op → Takes ops op ops'
    → AreSums c h ops sums
    → AreSums c h ops' sums
sums_stay c h op ops ops' sums beside takes was = record {
  are = λ i hi.
      let a = was.are i hi in
      let b = takes.sums c h (c + 27 * i + 25) in
      let n = beside i hi in
      omega arith;
  small = was.small;
}

observed_here : (c h hist place value : ℕ) → place < 25 → part c h (Observe hist place value) (c + 27 * hist + 25) ≡ value
observed_here c h hist place value lt =
    let a = only_elsewhere (c + 27 * hist + place) 1 (c + 27 * hist + 25) (λ e. omega arith) in
    let b = only_here (c + 27 * hist + 25) value in
    let d = only_elsewhere (c + 27 * hist + 26) 1 (c + 27 * hist + 25) (λ e. omega arith) in
    omega arith

observed_elsewhere : (c h hist place value i : ℕ) → place < 25 → (i ≡ hist → ⊥)
    → part c h (Observe hist place value) (c + 27 * i + 25) ≡ 0
observed_elsewhere c h hist place value i lt ne =
    let a = only_elsewhere (c + 27 * hist + place) 1 (c + 27 * i + 25) (λ e. omega arith) in
    let b = only_elsewhere (c + 27 * hist + 25) value (c + 27 * i + 25) (λ e. ne (omega arith)) in
    let d = only_elsewhere (c + 27 * hist + 26) 1 (c + 27 * i + 25) (λ e. omega arith) in
    omega arith

-- a value that was observed is in its histogram's sum
pub sums_observe : (c h hist place value : ℕ) (ops ops' : List Op) (sums : List ℕ) → hist < h → place < 25 → length sums ≡ h
    → get_or sums hist 0 + value ≤ greatest_word → Takes ops (Observe hist place value) ops' → AreSums c h ops sums
    → AreSums c h ops' (set sums hist (get_or sums hist 0 + value))
sums_observe c h hist place value ops ops' sums lt low all small takes was = record {
  are = λ i hi.
      elim (cases_eq i hist) [
        | inl e ↦
            let a = was.are hist lt in
            let b = takes.sums c h (c + 27 * hist + 25) in
            let n = observed_here c h hist place value low in
            let s = get_or-set_same sums hist (get_or sums hist 0 + value) 0 (omega arith) in
            rw e (omega arith)
        | inr ne ↦
            let a = was.are i hi in
            let b = takes.sums c h (c + 27 * i + 25) in
            let n = observed_elsewhere c h hist place value i low ne in
            let s = get_or-set_other sums hist i (get_or sums hist 0 + value) 0 ne in
            omega arith
      ];
  small = λ i hi. elim (cases_eq i hist) [
    | inl e ↦ let s = get_or-set_same sums hist (get_or sums hist 0 + value) 0 (omega arith) in rw e (omega arith)
    | inr ne ↦ let s = get_or-set_other sums hist i (get_or sums hist 0 + value) 0 ne in let l = was.small i hi in omega arith
  ];
}
