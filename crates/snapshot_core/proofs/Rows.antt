-- What a row does with a list of operations, as a list of words.
use Rattle.std.proofs.Common.{◌≡◌, ℕ, zero, suc, ◌+◌, ◌<◌, ◌≤◌, ◌&&◌, Bool, true, false, cond, Some, None, List, [], ◌∷◌, length}
use Rattle.std.proofs.Common.{take, get_or, leb, ltb, le-leb, inl, inr, subst, sym, refl, ap, ◌∙◌, arith}
use Rattle.std.specs.Prelude.{slice_get, slice_index, IsSomeAnd, Result, Ok, Err, OnOk, IfErr, is_ok}
use Rattle.std.proofs.lemmas.List.Sums.{sum_by-cons}
use Rattle.std.proofs.lemmas.Bool.{ltb-true, lt-ltb, lt-leb, and_parts, and_from, and_left, and_right, false_from_ne_true}
use Rattle.std.proofs.lemmas.Bool.{leb-true}
use Rattle.std.proofs.Math.Nat.{eq-or-lt_of_le}
use Rattle.std.proofs.lemmas.List.Elements.{All-head, All-tail}
use Rattle.std.proofs.lemmas.Grind.{same_number_lists}
use Rattle.std.proofs.lemmas.List.{length-map}
use Rattle.ledger_core.specs.declared.op.Op.{Op}
use Rattle.ledger_core.specs.declared.op.Op.TheVariants.{Inc, Observe, Up, Down}
use Rattle.ledger_core.specs.declared.op_fault.OpFault.{OpFault}
use Rattle.ledger_core.specs.declared.op_fault.OpFault.TheVariants.{OutOfGeometry, TooLarge}
use Rattle.ledger_core.specs.Ops.{width, part, sum_ops, IsWithin}
use Rattle.ledger_core.specs.Row.{Accepts, Adds}
use Rattle.ledger_core.specs.OpFault.{Overflows, IsOpFault}
use Rattle.snapshot_core.specs.Tries.{from_on}
use Rattle.snapshot_core.specs.Machine.{is_within, has_room, raised, applied}
use Rattle.snapshot_core.proofs.Collects.{length_from, from_at}

-- A row with one operation more.
module _ (c h : ℕ) where
  pub sum_more : (op : Op) (ops : List Op) (k : ℕ) → sum_ops c h (op ∷ ops) k ≡ part c h op k + sum_ops c h ops k
  sum_more op ops k = sum_by-cons (λ (o : Op). part c h o k) op ops

  room_true : (row : List ℕ) (op : Op) (k m : ℕ)
      → ((j : ℕ) → k ≤ j → j < k + m → get_or row j 0 + part c h op j ≤ 281474976710655) → has_room c h row op k m ≡ true
  room_true row op k zero f = refl
  room_true row op k (suc m) f = let a : k ≤ k = omega arith in let b : k < k + suc m = omega arith in
      and_from _ _ (le-leb (get_or row k 0 + part c h op k) 281474976710655 (f k a b))
      (room_true row op (suc k) m (λ j x y. f j (omega arith) (omega arith)))

  pub room_at : (row : List ℕ) (op : Op) (k m : ℕ) → has_room c h row op k m ≡ true → (j : ℕ) → k ≤ j → j < k + m
      → get_or row j 0 + part c h op j ≤ 281474976710655
  room_at row op k zero e j le lt = absurd (omega arith)
  room_at row op k (suc m) e j le lt = let parts = and_parts _ _ e in elim (eq-or-lt_of_le le) [
    | inl same ↦ subst (λ (z : ℕ). get_or row z 0 + part c h op z ≤ 281474976710655) same (leb-true _ _ parts.0)
    | inr less ↦ room_at row op (suc k) m parts.1 j less (omega arith)
  ]

  room_false : (row : List ℕ) (op : Op) (k m j : ℕ) → k ≤ j → j < k + m → 281474976710655 < get_or row j 0 + part c h op j
      → has_room c h row op k m ≡ false
  room_false row op k zero j le lt over = absurd (omega arith)
  room_false row op k (suc m) j le lt over = elim (eq-or-lt_of_le le) [
    | inl same ↦ and_left _ _ (ap (λ (z : ℕ). leb (get_or row z 0 + part c h op z) 281474976710655) same
        ∙ lt-leb (get_or row j 0 + part c h op j) 281474976710655 over)
    | inr less ↦ and_right _ _ (room_false row op (suc k) m j less (omega arith) over)
  ]

-- What the row does with a list of operations.
module _ (c h g : ℕ) where
  pub length_raised : (row : List ℕ) (op : Op) → length (raised c h g row op) ≡ width c h g
  length_raised row op = length-map (from_on 0 (width c h g)) (λ k. slice_index row k + part c h op k)
      ∙ length_from 0 (width c h g)

  pub raised_at : (row : List ℕ) (op : Op) (k : ℕ) → k < width c h g
      → get_or (raised c h g row op) k 0 ≡ get_or row k 0 + part c h op k
  raised_at row op k lt = from_at (λ k. slice_index row k + part c h op k) 0 (width c h g) k lt
      ∙ (let e : 0 + k ≡ k = omega arith in ap (λ (z : ℕ). get_or row z 0 + part c h op z) e)

  within_true : (op : Op) → IsWithin c h g op → is_within c h g op ≡ true
  within_true (Inc counter by) w = lt-ltb counter c w
  within_true (Observe hist place value) w = and_from _ _ (lt-ltb hist h (w.0)) (lt-ltb place 25 (w.1))
  within_true (Up gauge by) w = lt-ltb gauge g w
  within_true (Down gauge by) w = lt-ltb gauge g w

  pub within_of : (op : Op) → is_within c h g op ≡ true → IsWithin c h g op
  within_of (Inc counter by) w = ltb-true counter c w
  within_of (Observe hist place value) w = let b = and_parts (ltb hist h) (ltb place 25) w in
      (ltb-true hist h (b.0), ltb-true place 25 (b.1))
  within_of (Up gauge by) w = ltb-true gauge g w
  within_of (Down gauge by) w = ltb-true gauge g w

  within_false : (op : Op) → ¬ IsWithin c h g op → is_within c h g op ≡ false
  within_false op w = false_from_ne_true (is_within c h g op) (λ e. w (within_of op e))

  -- the first operation is accepted, and the row with it accepts the others
  abbrev tests : List ℕ → Op → Bool
  tests row op = is_within c h g op && has_room c h row op 0 (width c h g)

  abbrev Takes : List ℕ → List Op → Type 0
  Takes row ops = Accepts c h g (slice_index row) ops

  pub first_taken : (row : List ℕ) (op : Op) (ops : List Op) → Takes row (op ∷ ops) → tests row op ≡ true
  first_taken row op ops a =
      and_from _ _ (within_true op (All-head (IsWithin c h g) op ops (a.within)))
      (room_true c h row op 0 (width c h g) (λ j x y. let f = a.fits 1 (omega arith) j (omega arith) in
      let s = sum_more c h op [] j in omega (arith, f, s)))

  pub others_taken : (row : List ℕ) (op : Op) (ops : List Op) → Takes row (op ∷ ops) → Takes (raised c h g row op) ops
  others_taken row op ops a = record {
    within = All-tail (IsWithin c h g) op ops (a.within);
    fits = λ j le k lt. (let f = a.fits (suc j) (omega arith) k lt in let s = sum_more c h op (take j ops) k in
        let r = raised_at row op k lt in omega (arith, f, s, r));
  }

  pub goes_on : (row : List ℕ) (op : Op) (ops : List Op) → tests row op ≡ true → applied c h g row (op ∷ ops) ≡ applied c h g
      (raised c h g row op) ops
  goes_on row op ops t = ap (λ (b : Bool). cond b (applied c h g (raised c h g row op) ops) None) t

  stops : (row : List ℕ) (op : Op) (ops : List Op) → tests row op ≡ false → applied c h g row (op ∷ ops) ≡ None
  stops row op ops t = ap (λ (b : Bool). cond b (applied c h g (raised c h g row op) ops) None) t

  sums_to : (ops : List Op) (row new : List ℕ) → length row ≡ width c h g → length new ≡ width c h g → Takes row ops
      → ((k : ℕ) → k < width c h g → get_or new k 0 ≡ get_or row k 0 + sum_ops c h ops k) → applied c h g row ops ≡ Some new
  sums_to [] row new l m a e =
      ap Some (same_number_lists row new (l ∙ sym m) (λ k lt. (let x = e k (omega (arith, l)) in omega (arith, x))))
  sums_to (op ∷ ops) row new l m a e = goes_on row op ops (first_taken row op ops a)
      ∙ sums_to ops (raised c h g row op) new (length_raised row op) m (others_taken row op ops a)
      (λ k lt. (let x = e k lt in let s = sum_more c h op ops k in let r = raised_at row op k lt in omega (arith, x, s, r)))

  pub applied_some : (ops : List Op) (row new : List ℕ) → length row ≡ width c h g → Takes row ops → Adds c h row ops new
      → applied c h g row ops ≡ Some new
  applied_some ops row new l a d = sums_to ops row new l (d.width_stays ∙ l) a (λ k lt. d.sums k)

  outside : (ops : List Op) (row : List ℕ) (place : ℕ) → Takes row (take place ops)
      → IsSomeAnd (slice_get ops place) (λ op. ¬ (IsWithin c h g op)) → applied c h g row ops ≡ None
  outside [] row place a s = absurd s
  outside (op ∷ ops) row zero a s = stops row op ops (and_left _ _ (within_false op s))
  outside (op ∷ ops) row (suc place) a s = goes_on row op ops (first_taken row op (take place ops) a)
      ∙ outside ops (raised c h g row op) place (others_taken row op (take place ops) a) s

  too_large : (ops : List Op) (row : List ℕ) (place : ℕ) → Takes row (take place ops)
      → IsSomeAnd (slice_get ops place) (IsWithin c h g) → Overflows c h g (slice_index row) (take (suc place) ops)
      → applied c h g row ops ≡ None
  too_large [] row place a s o = absurd s
  too_large (op ∷ ops) row zero a s o = stops row op ops
      (and_right _ _ (let w = o.within in let x = o.above in let m = sum_more c h op [] o.at in
      room_false c h row op 0 (width c h g) o.at (omega arith) (omega arith) (omega (arith, x, m))))
  too_large (op ∷ ops) row (suc place) a s o = goes_on row op ops (first_taken row op (take place ops) a)
      ∙ too_large ops (raised c h g row op) place (others_taken row op (take place ops) a) s
      (record {
        at = o.at;
        within = o.within;
        above = (let x = o.above in let m = sum_more c h op (take (suc place) ops) o.at in
            let r = raised_at row op o.at o.within in omega (arith, x, m, r));
      })

  pub applied_none : (ops : List Op) (row : List ℕ) (fault : OpFault) → IsOpFault c h g (slice_index row) ops fault
      → applied c h g row ops ≡ None
  applied_none ops row (OutOfGeometry place) f = outside ops row place (f.0) (f.1)
  applied_none ops row (TooLarge place) f = too_large ops row place (f.0) (f.1) (let e : place + 1 ≡ suc place = omega arith in
      subst (λ (z : ℕ). Overflows c h g (slice_index row) (take z ops)) e (f.2))

  -- what a row says of the operations
  pub applied_by : (ops : List Op) (row new : List ℕ) (said : Result (Unit {0}) OpFault) → length row ≡ width c h g
      → OnOk said (Adds c h row ops new) → OnOk said (Takes row ops) → IfErr said (IsOpFault c h g (slice_index row) ops)
      → applied c h g row ops ≡ cond (is_ok said) (Some new) None
  applied_by ops row new (Ok u) l a t f = applied_some ops row new l t a
  applied_by ops row new (Err fault) l a t f = applied_none ops row fault f
