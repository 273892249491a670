-- The machine's test of a list of operations is whether the row accepts them.
use Rattle.std.proofs.Common.{◌≡◌, ◌&&◌, ℕ, zero, suc, ◌+◌, ◌<◌, ◌≤◌, Bool, true, false, cond, List, [], ◌∷◌, length, take}
use Rattle.std.proofs.Common.{get_or, sym, refl, ap, ◌∙◌, subst, arith, Some, None}
use Rattle.std.proofs.lemmas.Option.{none-some, same_Some}
use Rattle.std.proofs.lemmas.Bool.{and_parts}
use Rattle.std.proofs.lemmas.List.Elements.{All-cons, All-nil}
use Rattle.ledger_core.specs.declared.op.Op.{Op}
use Rattle.ledger_core.specs.Ops.{width, part, sum_ops, IsWithin}
use Rattle.ledger_core.specs.Row.{Fits, Accepts}
use Rattle.snapshot_core.specs.Machine.{is_within, has_room, raised, applied}
use Rattle.snapshot_core.proofs.Rows.{sum_more, room_at, length_raised, raised_at, within_of, first_taken, others_taken, goes_on}

module _ (c h g : ℕ) where
  pub accepts_same : (v w : ℕ → ℕ) (ops : List Op) → ((x : ℕ) → x < width c h g → v x ≡ w x) → Accepts c h g v ops
      → Accepts c h g w ops
  accepts_same v w ops same a = record {
    within = a.within;
    fits = λ j le k lt. let f = a.fits j le k lt in let s = same k lt in
        omega arith;
  }

  -- one operation more at the front
  with_op : (word : ℕ → ℕ) (op : Op) (ops : List Op) → IsWithin c h g op
      → ((k : ℕ) → k < width c h g → word k + part c h op k ≤ 281474976710655) → Accepts c h g (λ k. word k + part c h op k) ops
      → Accepts c h g word (op ∷ ops)
  with_op word op ops inside room a = record { within = All-cons (IsWithin c h g) op ops inside a.within; fits = each }
    where
      each : (j : ℕ) → j ≤ length (op ∷ ops) → Fits c h g word (take j (op ∷ ops))
      each zero le k lt = let f = room k lt in let s : sum_ops c h [] k ≡ 0 = refl in
          let goal : word k + sum_ops c h [] k ≤ 281474976710655 = omega arith in goal
      each (suc j) le k lt = let f = a.fits j (omega arith) k lt in let s = sum_more c h op (take j ops) k in
          let f' : word k + part c h op k + sum_ops c h (take j ops) k ≤ 281474976710655 = f in
          let goal : word k + sum_ops c h (op ∷ take j ops) k ≤ 281474976710655 = omega arith in goal

  -- the row with the operations
  pub record Taken (row : List ℕ) (ops : List Op) (new : List ℕ) : Type 0 where
    pub accepted : Accepts c h g (λ k. get_or row k 0) ops
    pub wide : length new ≡ width c h g
    pub sums : (k : ℕ) → k < width c h g → get_or new k 0 ≡ get_or row k 0 + sum_ops c h ops k
    pub small : (k : ℕ) → k < width c h g → get_or new k 0 ≤ 281474976710655

  pub taken : (row : List ℕ) (ops : List Op) (new : List ℕ) → length row ≡ width c h g
      → ((k : ℕ) → k < width c h g → get_or row k 0 ≤ 281474976710655) → applied c h g row ops ≡ Some new → Taken row ops new
  taken row [] new wide small e = let same : row ≡ new = same_Some row new e in record {
    accepted = record { within = All-nil (IsWithin c h g); fits = λ j le k lt. none_taken j k (small k lt) };
    wide = ap length (sym same) ∙ wide;
    small = λ k lt. subst (λ (y : List ℕ). get_or y k 0 ≤ 281474976710655) same (small k lt);
    sums = λ k lt. ap (λ (y : List ℕ). get_or y k 0) (sym same) ∙ (let g : get_or row k 0 ≡ get_or row k 0 + 0 = omega arith in
        g);
  }
    where
      none_taken : (j k : ℕ) → get_or row k 0 ≤ 281474976710655 → get_or row k 0 + sum_ops c h (take j []) k ≤ 281474976710655
      none_taken zero k le = omega arith
      none_taken (suc j) k le = omega arith
  taken row (op ∷ ops) new wide small e = go (is_within c h g op && has_room c h row op 0 (width c h g)) refl e
      (taken (raised c h g row op) ops new (length_raised c h g row op))
    where
      go : (t : Bool) → (is_within c h g op && has_room c h row op 0 (width c h g)) ≡ t
          → cond t (applied c h g (raised c h g row op) ops) None ≡ Some new
          → (((k : ℕ) → k < width c h g → get_or (raised c h g row op) k 0 ≤ 281474976710655)
          → applied c h g (raised c h g row op) ops ≡ Some new → Taken (raised c h g row op) ops new)
          → Taken row (op ∷ ops) new
      go false is e rec = absurd (none-some new e)
      go true is e rec = let b = and_parts (is_within c h g op) (has_room c h row op 0 (width c h g)) is in
          let room : (k : ℕ) → k < width c h g → get_or row k 0 + part c h op k ≤ 281474976710655 = λ k lt. room_at c h row op 0
          (width c h g) b.1 k (omega arith) (omega arith) in
          let t = rec (λ k lt. let w = raised_at c h g row op k lt in let r = room k lt in omega arith) e in record {
            accepted = with_op (λ k. get_or row k 0) op ops (within_of c h g op b.0) room
                (accepts_same (λ k. get_or (raised c h g row op) k 0) (λ k. get_or row k 0 + part c h op k) ops
                (raised_at c h g row op) t.accepted);
            wide = t.wide;
            small = t.small;
            sums = λ k lt. let s = t.sums k lt in let w = raised_at c h g row op k lt in let m = sum_more c h op ops k in
                let goal : get_or new k 0 ≡ get_or row k 0 + sum_ops c h (op ∷ ops) k = omega arith in goal;
          }

  pub takes : (row : List ℕ) (ops : List Op) → Accepts c h g (λ k. get_or row k 0) ops → (new : List ℕ)
      × (applied c h g row ops ≡ Some new)
  takes row [] a = (row, refl)
  takes row (op ∷ ops) a = let more = takes (raised c h g row op) ops (others_taken c h g row op ops a) in
      (more.0, goes_on c h g row op ops (first_taken c h g row op ops a) ∙ more.1)
