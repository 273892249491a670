-- Lists of operations that are told one more.
use Rattle.std.proofs.Common.{◌≡◌, ℕ, ◌+◌, ◌*◌, ◌<◌, List, [], ◌∷◌, ◌++◌, Some, length, slice_get, get_or, set, arith, subst}
use Rattle.std.proofs.Common.{length-set, refl, inl, inr}
use Rattle.std.proofs.Common.{Result, Ok, Err, IfErr}
use Rattle.std.proofs.lemmas.List.Elements.{All-set, All-push}
use Rattle.std.proofs.lemmas.List.Sums.{sum_by-set, sum_by_push, get_or-le-sum_by}
use Rattle.std.proofs.lemmas.Option.{slice_get-get_or}
use Rattle.std.proofs.lemmas.Bool.Decides.{nat_tests}
use Rattle.bucket_math.specs.Words.{greatest_word}
use Rattle.ledger_core.specs.declared.op.Op.{Op}
use Rattle.ledger_core.specs.declared.op.Op.TheVariants.{Inc, Observe, Up, Down}
use Rattle.ledger_core.specs.Ops.{only, part, sum_ops, IsWithin}
use Rattle.ledger_core.specs.Joining.{amount_of, IsSameSlot, IsSumOf, PassTogether}
use Rattle.ledger_core.specs.declared.tally_fault.TallyFault.{TallyFault}
use Rattle.ledger_core.specs.declared.tally_fault.TallyFault.TheVariants.{WrongRegistry, Outside, TooLarge, Full}
use Rattle.ledger_core.specs.Takes.{AddsUpTo, Takes, PassesLimit, IsListFault, IsApartAt, IsJoinFault}
use Rattle.ledger_core.specs.Tally.{Tallied, JoinsNone, IsTallyFault, AreSums}

pub only_here : (k by : ℕ) → only k by k ≡ by
only_here k by = grind (arith, nat_tests)

same_there : (ops : List Op) (at : ℕ) (first : Op) → slice_get ops at ≡ Some first → at < length ops → get_or ops at first ≡ first
same_there ops at first is lt = let s = slice_get-get_or ops at first lt in cc

-- what one operation more adds to a run of them
adds_more : (old new told : List Op) (op : Op) → ((c h k : ℕ) → sum_ops c h new k ≡ sum_ops c h old k + part c h op k)
    → AddsUpTo old told → AddsUpTo new (told ++ op ∷ [])
adds_more old new told op sums so_far = λ c h k.
    let a = sums c h k in
    let b = so_far c h k in
    let s = sum_by_push (λ o. part c h o k) told op in
    omega arith

pub told_last : (ops : List Op) (op : Op) → Takes ops op (ops ++ op ∷ [])
told_last ops op =
    let sums : (c h k : ℕ) → sum_ops c h (ops ++ op ∷ []) k ≡ sum_ops c h ops k + part c h op k =
    λ c h k. sum_by_push (λ o. part c h o k) ops op in
    record {
      sums = sums;
      adds_up = λ told so_far. adds_more ops (ops ++ op ∷ []) told op sums so_far;
      within = λ c h g all inside. All-push (IsWithin c h g) ops op all inside;
      longer = inr refl;
    }

sums_at : (ops : List Op) (at : ℕ) (first second both : Op) → slice_get ops at ≡ Some first → at < length ops
    → IsSumOf first second both → (c h k : ℕ) → sum_ops c h (set ops at both) k ≡ sum_ops c h ops k + part c h second k
sums_at ops at first second both is lt joins = λ c h k.
    let p = joins.sums c h k in
    let s = rw (same_there ops at first is lt) at (sum_by-set (λ op. part c h op k) ops at both first lt) in
    omega arith

pub told_at : (ops : List Op) (at : ℕ) (first second both : Op) → slice_get ops at ≡ Some first → at < length ops
    → IsSumOf first second both → Takes ops second (set ops at both)
told_at ops at first second both is lt joins = record {
  sums = sums_at ops at first second both is lt joins;
  adds_up = λ told so_far. adds_more ops (set ops at both) told second (sums_at ops at first second both is lt joins) so_far;
  within = λ c h g all op. All-set (IsWithin c h g) ops at both (joins.within c h g op) all;
  longer = inl (length-set ops at both);
}

pub passes_at : (ops : List Op) (at : ℕ) (first second : Op) → slice_get ops at ≡ Some first → at < length ops
    → PassTogether first second → PassesLimit ops second
passes_at ops at first second is lt both = λ c h g inside.
    let over = both c h g inside in
    let k = over.0 in
    let more = over.2 in
    let s = rw (same_there ops at first is lt) at (get_or-le-sum_by (λ op. part c h op k) ops at first lt) in
    (k, over.1, omega arith)

pub passes_alone : (ops : List Op) (op : Op) → greatest_word < amount_of op → PassesLimit ops op
passes_alone ops (Inc counter by) lt = λ c h g inside. (counter, omega arith, (rw (only_here counter by) (omega arith)))
passes_alone ops (Observe hist place value) lt = λ c h g inside.
    let e = only_here (c + 27 * hist + 25) value in
    (c + 27 * hist + 25, omega (arith, inside.0), omega arith)
passes_alone ops (Up gauge by) lt = λ c h g inside. (
  c + 27 * h + 2 * gauge,
  omega arith,
  (rw (only_here (c + 27 * h + 2 * gauge) by) (omega arith)),
)
passes_alone ops (Down gauge by) lt = λ c h g inside. (
  c + 27 * h + 2 * gauge + 1,
  omega arith,
  (rw (only_here (c + 27 * h + 2 * gauge + 1) by) (omega arith)),
)

pub ups_pass : (gauge had by : ℕ) → greatest_word < had + by → PassTogether (Up gauge had) (Up gauge by)
ups_pass gauge had by lt = λ c h g inside.
    let k = c + 27 * h + 2 * gauge in
    (k, omega arith, rw (only_here k had, only_here k by) lt)

pub downs_pass : (gauge had by : ℕ) → greatest_word < had + by → PassTogether (Down gauge had) (Down gauge by)
downs_pass gauge had by lt = λ c h g inside.
    let k = c + 27 * h + 2 * gauge + 1 in
    (k, omega arith, rw (only_here k had, only_here k by) lt)

pub incs_pass : (counter had by : ℕ) → greatest_word < had + by → PassTogether (Inc counter had) (Inc counter by)
incs_pass counter had by lt = λ c h g inside. (counter, omega arith, rw (only_here counter had, only_here counter by) lt)

-- where nothing stands to be joined, a list's fault is one of joining
pub apart_of : (room hint : ℕ) (ops : List Op) (op : Op) (fault : TallyFault) → IsApartAt hint ops op
    → IsListFault room ops op fault → IsJoinFault room hint ops op fault
apart_of room hint ops op WrongRegistry apart why = absurd why
apart_of room hint ops op Outside apart why = absurd why
apart_of room hint ops op TooLarge apart why = why
apart_of room hint ops op Full apart why = (why, apart)

pub apart_if : {T : Type 0} (room hint : ℕ) (ops : List Op) (op : Op) (r : Result T TallyFault) → IsApartAt hint ops op
    → IfErr r (IsListFault room ops op) → IfErr r (IsJoinFault room hint ops op)
apart_if room hint ops op (Ok v) apart why = tt
apart_if room hint ops op (Err fault) apart why = apart_of room hint ops op fault apart why

-- an observation joins nothing
pub joins_no : (hist place value : ℕ) (o : Op) → IsSameSlot o (Observe hist place value) → ⊥
joins_no hist place value (Inc k more) same = absurd same
joins_no hist place value (Observe other bucket more) same = absurd same
joins_no hist place value (Up k more) same = absurd same
joins_no hist place value (Down k more) same = absurd same

-- A refused operation, where `hint` is the place at which its slot's would stand.
module _ (c h g room registry hint : ℕ) (op : Op) where
  fault_of : (t : Tallied) (fault : TallyFault) → registry ≡ t.registry → IsWithin c h g op
      → (IsApartAt hint t.ops op → JoinsNone t.ops op)
      → IsJoinFault room hint t.ops op fault → IsTallyFault c h g room registry op t fault
  fault_of t WrongRegistry same inside none why = absurd why
  fault_of t Outside same inside none why = absurd why
  fault_of t TooLarge same inside none why = (same, inside, why c h g inside)
  fault_of t Full same inside none why = (same, inside, why.0, none why.1)

  pub fault_told : (r : ℕ) (ops : List Op) (t : Tallied) (fault : TallyFault)
      → ◌≡◌ {A = Tallied} (record { registry = r; ops = ops }) t → registry ≡ r → IsWithin c h g op
      → (IsApartAt hint ops op → JoinsNone ops op)
      → IsJoinFault room hint ops op fault → IsTallyFault c h g room registry op t fault
  fault_told r ops t fault e same inside none why =
      subst (λ (t : Tallied). IsTallyFault c h g room registry op t fault) e
      (fault_of (record { registry = r; ops = ops }) fault same inside none why)

  pub fault_if : {T : Type 0} (id : ℕ) (ops : List Op) (t : Tallied) (r : Result T TallyFault)
      → ◌≡◌ {A = Tallied} (record { registry = id; ops = ops }) t → registry ≡ id → IsWithin c h g op
      → (IsApartAt hint ops op → JoinsNone ops op)
      → IfErr r (IsJoinFault room hint ops op) → IfErr r (IsTallyFault c h g room registry op t)
  fault_if id ops t (Ok v) e same inside none why = tt
  fault_if id ops t (Err fault) e same inside none why = fault_told id ops t fault e same inside none why

-- a value that takes its histogram's sum past the limit
pub sum_passes : (c h g registry id hist place value room : ℕ) (ops : List Op) (sums : List ℕ) (t : Tallied)
    → ◌≡◌ {A = Tallied} (record { registry = id; ops = ops }) t → registry ≡ id → hist < h → place < 25 → AreSums c h ops sums
    → greatest_word < get_or sums hist 0 + value → IsTallyFault c h g room registry (Observe hist place value) t TooLarge
sum_passes c h g registry id hist place value room ops sums t e same lt low are over =
    subst (λ (t : Tallied). IsTallyFault c h g room registry (Observe hist place value) t TooLarge) e (
      same,
      (lt, low),
      (
        c + 27 * hist + 25,
        omega arith,
        (
            let a = are.are hist lt in
            let b = only_here (c + 27 * hist + 25) value in
            omega arith),
      ),
    )
