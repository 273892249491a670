-- A row accepts lists of operations that add up to the same alike.
use Rattle.std.proofs.Common.{ℕ, ◌+◌, List, length, slice_get, inl, inr, arith, All}
use Rattle.std.specs.Option.{IsSomeAnd}
use Rattle.std.proofs.Math.Seq.{take-length}
use Rattle.std.proofs.lemmas.List.Elements.{All-get_or}
use Rattle.std.proofs.lemmas.Option.{slice_get_cases}
use Rattle.std.proofs.lemmas.List.Sums.{sum_by-take-le}
use Rattle.ledger_core.specs.declared.op.Op.{Op}
use Rattle.ledger_core.specs.declared.op_fault.OpFault.TheVariants.{OutOfGeometry, TooLarge}
use Rattle.ledger_core.specs.Ops.{part, IsWithin}
use Rattle.ledger_core.specs.OpFault.{IsOpFault}
use Rattle.ledger_core.specs.Row.{Accepts}
use Rattle.ledger_core.specs.Tally.{AcceptsAlike, RefusesAlike}

pub accepts_alike : (c h g : ℕ) (word : ℕ → ℕ) (ops : List Op) → Accepts c h g word ops → AcceptsAlike c h g word ops
accepts_alike c h g word ops accepts = λ told same within. record {
  within = within;
  fits = λ j le k lt.
      let all = rw take-length at (accepts.fits (length ops) (omega arith) k lt) in
      let less = sum_by-take-le (λ op. part c h op k) told j in
      let e = same c h k in
      omega arith;
}

none_fails : {A : Type 0} (P : A → Type 0) (xs : List A) (i : ℕ) → All P xs → IsSomeAnd (slice_get xs i) (λ x. ¬ (P x)) → ⊥
none_fails P xs i all h = elim (slice_get_cases xs i).1 [
  | inl w ↦ let no = rw w.2 at h in no (rw w.3 at (All-get_or P xs i w.0 w.1 all))
  | inr w ↦ rw w.1 at h
]

-- no operation of a tally is outside the row
pub none_outside : (c h g : ℕ) (word : ℕ → ℕ) (ops : List Op) (place : ℕ) → All (IsWithin c h g) ops
    → IsOpFault c h g word ops (OutOfGeometry place) → ⊥
none_outside c h g word ops place within why = none_fails (IsWithin c h g) ops place within why.1

pub refuses_alike : (c h g : ℕ) (word : ℕ → ℕ) (ops : List Op) (place : ℕ) → IsOpFault c h g word ops (TooLarge place)
    → RefusesAlike c h g word ops
refuses_alike c h g word ops place why = λ told same accepts.
    let over = why.2 in
    let k = over.at in
    let above = over.above in
    let all = rw take-length at (accepts.fits (length told) (omega arith) k over.within) in
    let less = sum_by-take-le (λ op. part c h op k) ops (place + 1) in
    let e = same c h k in
    omega arith
