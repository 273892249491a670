-- A list of operations, one more at a time: what it adds, that it is accepted, and why it is refused.
use Rattle.std.proofs.Common.{◌≡◌, ℕ, ◌+◌, ◌<◌, ◌≤◌, List, [], length, get_or, take, ◌∙◌, arith, slice_index, inl, inr}
use Rattle.std.proofs.lemmas.List.{same_lists, get_or_default, length-take, take-take}
use Rattle.std.proofs.lemmas.List.Elements.{All-more, All-nil}
use Rattle.std.proofs.lemmas.List.Sums.{sum_by_more, sum_by_more_le}
use Rattle.std.proofs.lemmas.Option.{slice_get-get_or}
use Rattle.std.proofs.lemmas.Bool.{cases_lt}
use Rattle.bucket_math.specs.Words.{greatest_word}
use Rattle.ledger_core.specs.declared.op.Op.{Op}
use Rattle.ledger_core.specs.declared.op_fault.OpFault.{OpFault}
use Rattle.ledger_core.specs.declared.op_fault.OpFault.TheVariants.{OutOfGeometry, TooLarge}
use Rattle.ledger_core.specs.Ops.{part, sum_ops, IsWithin}
use Rattle.ledger_core.specs.Row.{Accepts, Adds, Fits}
use Rattle.ledger_core.specs.OpFault.{IsOpFault}
use Rattle.ledger_core.specs.Rise.{Rises, HasRoom, Refuses}

-- rows that rise to one row by the same operations are one
pub same_before : (c h : ℕ) (old new after : List ℕ) (ops : List Op) → Adds c h old ops after → Adds c h new ops after → new ≡ old
same_before c h old new after ops first second =
    let wide = second.width_stays in
    let wide' = first.width_stays in
    same_lists new old (omega arith) (λ k d lt.
    get_or_default new k d 0 lt
    ∙ (let a = first.sums k in let b = second.sums k in omega arith)
    ∙ get_or_default old k 0 d (omega arith))

pub adds_none : (c h : ℕ) (row : List ℕ) → Adds c h row [] row
adds_none c h row = record { width_stays = λ _. length row; sums = λ k. omega arith }

pub adds_more : (c h : ℕ) (old now new : List ℕ) (ops : List Op) (i : ℕ) (d : Op) → i < length ops
    → Adds c h old (take i ops) now → Rises now (part c h (get_or ops i d)) new → Adds c h old (take (i + 1) ops) new
adds_more c h old now new ops i d lt so_far step = record {
  width_stays = step.width_stays ∙ so_far.width_stays;
  sums = λ k.
      let a = so_far.sums k in
      let b = step.sums k in
      let s = sum_by_more (λ op. part c h op k) ops i d lt in
      omega arith;
}

-- what is still there of the operations that are not yet taken back
pub still_there : (c h : ℕ) (old now : List ℕ) (ops : List Op) (i : ℕ) (d : Op) → i < length ops
    → Adds c h now (take i ops) old → ((k : ℕ) → sum_ops c h ops k ≤ slice_index old k)
    → (k : ℕ) → part c h (get_or ops i d) k ≤ slice_index now k
still_there c h old now ops i d lt so_far added k =
    let a = so_far.sums k in
    let b = added k in
    let s = sum_by_more_le (λ op. part c h op k) ops i d lt in
    omega arith

pub accepts_none : (c h g : ℕ) (row : List ℕ) → ((k : ℕ) → slice_index row k ≤ greatest_word) → Accepts c h g (slice_index row) []
accepts_none c h g row bounded = record {
  within = All-nil (IsWithin c h g);
  fits = λ j le k lt. let e : j ≡ 0 = omega arith in rw e (omega (arith, bounded k));
}

-- a beginning of a beginning, or all of it
fits_more : (c h g : ℕ) (row : List ℕ) (ops : List Op) (i : ℕ) → i < length ops
    → Accepts c h g (slice_index row) (take i ops) → Fits c h g (slice_index row) (take (i + 1) ops)
    → (j : ℕ) → j ≤ length (take (i + 1) ops) → Fits c h g (slice_index row) (take j (take (i + 1) ops))
fits_more c h g row ops i lt so_far all j le =
    let n = length-take i ops in
    let m = length-take (i + 1) ops in
    elim (cases_lt i j) [
      | inl above ↦ let e : j ≡ i + 1 = omega arith in rw (e, take-take (i + 1) (i + 1) ops (omega arith)) all
      | inr below ↦ rw (take-take j (i + 1) ops (omega arith), ← take-take j i ops below) (so_far.fits j (omega arith))
    ]

pub accepts_more : (c h g : ℕ) (row now : List ℕ) (ops : List Op) (i : ℕ) (d : Op) → i < length ops
    → Accepts c h g (slice_index row) (take i ops) → Adds c h row (take i ops) now
    → IsWithin c h g (get_or ops i d) → HasRoom (slice_index now) (part c h (get_or ops i d))
    → Accepts c h g (slice_index row) (take (i + 1) ops)
accepts_more c h g row now ops i d lt so_far adds within room = record {
  within = All-more (IsWithin c h g) ops i d lt so_far.within within;
  fits = fits_more c h g row ops i lt so_far (λ k _.
      let a = adds.sums k in
      let b = room k in
      let s = sum_by_more (λ op. part c h op k) ops i d lt in
      omega arith);
}

-- the fault of one operation is the list's, where those before it are accepted
pub fault_of_list : (c h g : ℕ) (row now : List ℕ) (ops : List Op) (i : ℕ) (d : Op) (fault : OpFault) → i < length ops
    → Accepts c h g (slice_index row) (take i ops) → Adds c h row (take i ops) now
    → Refuses c h g (slice_index now) i (get_or ops i d) fault → IsOpFault c h g (slice_index row) ops fault
fault_of_list c h g row now ops i d (OutOfGeometry place) lt so_far adds why =
    rw why.0 (so_far, rw (slice_get-get_or ops i d lt) why.1)
fault_of_list c h g row now ops i d (TooLarge place) lt so_far adds why =
    let k = why.2.0 in
    let a = adds.sums k in
    let s = sum_by_more (λ op. part c h op k) ops i d lt in
    let over = why.2.2 in
    rw why.0 (so_far, rw (slice_get-get_or ops i d lt) why.1, record { at = k; within = why.2.1; above = omega arith })
