-- What a clause reads of a tally, and what counting in it comes to.
use Rattle.std.specs.Prelude.{◌≡◌, ◌≢◌, ℕ, ◌+◌, ◌*◌, ◌<◌, ◌≤◌, Some, List, length, slice_get, slice_index, All}
use Rattle.bucket_math.specs.Words.{greatest_word}
use Rattle.ledger_core.specs.declared.op.Op.{Op}
use Rattle.ledger_core.specs.declared.op.Op.TheVariants.{Inc, Observe, Up, Down}
use Rattle.ledger_core.specs.Ops.{width, part, sum_ops, IsWithin}
use Rattle.ledger_core.specs.Rise.{LacksRoom}
use Rattle.ledger_core.specs.Row.{Accepts}
use Rattle.ledger_core.specs.declared.tally_fault.TallyFault.{TallyFault}
use Rattle.ledger_core.specs.declared.tally_fault.TallyFault.TheVariants.{WrongRegistry, Outside, TooLarge, Full}
use Rattle.ledger_core.specs.Joining.{IsSameSlot}
use Rattle.ledger_core.specs.Takes.{Takes, AddsUpTo}

-- a tally: the registry whose handles it takes, and the operations that it would publish
pub record Tallied : Type 0 where
  pub registry : ℕ
  pub ops : List Op

-- the tally took this operation, by a handle of the registry `registry`. A row of c counters, h histograms and g gauges
pub record IsTallied (c h g registry : ℕ) (op : Op) (t t' : Tallied) : Type 0 where
  pub of_it : registry ≡ t.registry
  pub registry_stays : t'.registry ≡ t.registry
  pub inside : IsWithin c h g op
  pub takes : Takes t.ops op t'.ops

-- the list has no operation that this one would join: an increment of its counter, or a rise, or a fall, of its gauge
abbrev pub JoinsNone : List Op → Op → Type 0
JoinsNone ops op = (i : ℕ) (o : Op) → slice_get ops i ≡ Some o → ¬ (IsSameSlot o op)

-- why a tally with room for so many operations does not take one: the handle is not of its registry; or else the operation is
-- outside the row; or else a word of the sums would pass 2^48 - 1, or the tally is full and has nothing that it would join
abbrev pub IsTallyFault : (c h g room registry : ℕ) → Op → Tallied → TallyFault → Type 0
IsTallyFault c h g room registry op t WrongRegistry = registry ≢ t.registry
IsTallyFault c h g room registry op t Outside = (registry ≡ t.registry) × (¬ (IsWithin c h g op))
IsTallyFault c h g room registry op t TooLarge =
    (registry ≡ t.registry) × IsWithin c h g op × LacksRoom (width c h g) (sum_ops c h t.ops) (part c h op)
IsTallyFault c h g room registry op t Full =
    (registry ≡ t.registry) × IsWithin c h g op × (length t.ops ≡ room) × JoinsNone t.ops op

-- the number of each fault
abbrev pub tally_fault_number : TallyFault → ℕ
tally_fault_number WrongRegistry = 16
tally_fault_number Outside = 11
tally_fault_number TooLarge = 12
tally_fault_number Full = 33

-- of each counter there is one operation at most, and of each gauge one that raises it and one that lowers it
abbrev pub AreMerged : List Op → Type 0
AreMerged ops = (i j : ℕ) (a b : Op) → slice_get ops i ≡ Some a → slice_get ops j ≡ Some b → IsSameSlot a b → i ≡ j

-- no word of a row passes 2^48 - 1 by these operations alone
abbrev pub AreBounded : (c h : ℕ) → List Op → Type 0
AreBounded c h ops = (k : ℕ) → sum_ops c h ops k ≤ greatest_word

-- the operation's slot has this place in the tables; of an observation no place is kept
abbrev pub IsKnownAt : (counters ups downs : List ℕ) → ℕ → Op → Type 0
IsKnownAt counters ups downs i (Inc counter by) = slice_index counters counter ≡ i
IsKnownAt counters ups downs i (Observe hist place value) = Unit {0}
IsKnownAt counters ups downs i (Up gauge by) = slice_index ups gauge ≡ i
IsKnownAt counters ups downs i (Down gauge by) = slice_index downs gauge ≡ i

-- the tables have the place of each operation but the observations
abbrev pub AreKnown : (ops : List Op) (counters ups downs : List ℕ) → Type 0
AreKnown ops counters ups downs = (i : ℕ) (op : Op) → slice_get ops i ≡ Some op → IsKnownAt counters ups downs i op

-- of each histogram the sum of the values that were told, which is at most 2^48 - 1
pub record AreSums (c h : ℕ) (ops : List Op) (sums : List ℕ) : Type 0 where
  pub are : (i : ℕ) → i < h → slice_index sums i ≡ sum_ops c h ops (c + 27 * i + 25)
  pub small : (i : ℕ) → i < h → slice_index sums i ≤ greatest_word

-- what is true of the fields of every tally
pub record IsTally (c h g : ℕ) (ops : List Op) (counters ups downs sums : List ℕ) : Type 0 where
  pub all_counters : length counters ≡ c
  pub all_ups : length ups ≡ g
  pub all_downs : length downs ≡ g
  pub all_sums : length sums ≡ h
  pub within : All (IsWithin c h g) ops
  pub known : AreKnown ops counters ups downs
  pub summed : AreSums c h ops sums

-- a row of these words accepts each list within it that the operations add up to: nothing hangs on the order, nor on what is
-- joined
abbrev pub AcceptsAlike : (c h g : ℕ) → (ℕ → ℕ) → List Op → Type 0
AcceptsAlike c h g word ops = (told : List Op) → AddsUpTo ops told → All (IsWithin c h g) told → Accepts c h g word told

-- it accepts none of them
abbrev pub RefusesAlike : (c h g : ℕ) → (ℕ → ℕ) → List Op → Type 0
RefusesAlike c h g word ops = (told : List Op) → AddsUpTo ops told → ¬ (Accepts c h g word told)
