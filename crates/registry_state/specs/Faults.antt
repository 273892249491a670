-- Why a registry refuses, and the numbers of its refusals.
use Rattle.std.specs.Prelude.{◌≡◌, ◌≢◌, ℕ, ◌+◌, ◌<◌, ◌≤◌, List, length, take, slice_get, IsSomeAnd}
use Rattle.metric_desc.specs.Desc.{Descriptor, Clash}
use Rattle.metric_desc.specs.declared.kind.Kind.{Kind}
use Rattle.register_rule.specs.declared.view.Answer.{Answer}
use Rattle.snapshot_scan.specs.declared.contended.Contended.{Contended}
use Rattle.registry_state.specs.Replay.{Family, IsApart, IsNew, IsFree, slots}
use Rattle.registry_state.specs.declared.fault.NewFault.{NewFault}
use Rattle.registry_state.specs.declared.fault.NewFault.TheVariants as New
use Rattle.registry_state.specs.declared.fault.RegisterFault.{RegisterFault}
use Rattle.registry_state.specs.declared.fault.RegisterFault.TheVariants as Register
use Rattle.registry_state.specs.declared.fault.ChildFault.{ChildFault}
use Rattle.registry_state.specs.declared.fault.ChildFault.TheVariants as Child
use Rattle.registry_state.specs.declared.fault.ScrapeFault.{ScrapeFault}
use Rattle.registry_state.specs.declared.fault.ScrapeFault.TheVariants as Scrape

-- a registry may keep 1 to 1,024 scrapes
abbrev pub IsWindow : ℕ → Type 0
IsWindow window = (1 ≤ window) × (window ≤ 1024)

-- why there is no registry
abbrev pub IsNewFault : ℕ → NewFault → Type 0
IsNewFault window New.BadWindow = ¬ (IsWindow window)
IsNewFault window New.NoMemory = IsWindow window

-- the family of this number is the least that clashes with the descriptor
pub record IsFirstClash (families : List Family) (desc : Descriptor) (with : ℕ) : Type 0 where
  pub clash : IsSomeAnd (slice_get families with) (λ (family : Family). Clash family.desc desc)
  pub first : IsApart (take with families) desc

-- why a family is not registered
abbrev pub IsRegisterFault : List Family → Descriptor → RegisterFault → Type 0
IsRegisterFault families desc (Register.Clash with) = IsFirstClash families desc with
IsRegisterFault families desc Register.TooManyFamilies = IsApart families desc × (128 ≤ length families)
IsRegisterFault families desc Register.NoMemory = IsApart families desc × (length families < 128)

-- a slot of this kind is there and free
abbrev pub HasSlot : (c h g : ℕ) → List Family → Kind → Type 0
HasSlot c h g families kind = (slot : ℕ) × (slot < slots c h g kind) × IsFree families kind slot

-- so many slots of this kind are free: the last ones
pub record AreFree (c h g : ℕ) (families : List Family) (kind : Kind) (count : ℕ) : Type 0 where
  pub within : count ≤ slots c h g kind
  pub free : (slot : ℕ) → slot < slots c h g kind → slots c h g kind ≤ slot + count → IsFree families kind slot
  pub used : (slot : ℕ) → slot + count < slots c h g kind → ¬ (IsFree families kind slot)

-- the values are as many as the family's labels, and no child of it has them
abbrev pub IsMissingChild : Family → List (List ℕ) → Type 0
IsMissingChild family values = (length values ≡ length family.desc.labels) × IsNew family values

-- why there is no child of these values of the family of this number
abbrev pub IsChildFault : (c h g : ℕ) → List Family → (family : ℕ) → (values : List (List ℕ)) → ChildFault → Type 0
IsChildFault c h g families family values Child.NoSuchFamily = length families ≤ family
IsChildFault c h g families family values (Child.LabelCount want got) =
    IsSomeAnd (slice_get families family) (λ (it : Family). (want ≡ length it.desc.labels) × (got ≡ length values) × (want ≢ got))
IsChildFault c h g families family values (Child.Full kind many) = (many ≡ slots c h g kind)
    × IsSomeAnd (slice_get families family) (λ (it : Family). IsMissingChild it values × (kind ≡ it.desc.kind)
    × (¬ (HasSlot c h g families kind)))
IsChildFault c h g families family values Child.NoMemory =
    IsSomeAnd (slice_get families family) (λ (it : Family). IsMissingChild it values × HasSlot c h g families it.desc.kind)

-- what a refused scrape leaves of a source of n workers: all as it was, where nothing was scanned; and where a scan
-- was given up, it recorded nothing, some worker's number rose, and the source gave it up
module _ {S : Type 0} (n : ℕ) (recorded : S → List Answer) (quit : S → ℕ) (gave_up : S → S → Contended → Type 0) where
  -- this refusal leaves that of the source
  abbrev pub Leaves : (old new : S) → ScrapeFault → Type 0
  Leaves old new Scrape.NoMemory = new ≡ old
  Leaves old new (Scrape.Contended fault) =
      (recorded new ≡ recorded old) × (quit new ≡ quit old + 1) × (fault.worker < n) × (fault.first < fault.last)
      × gave_up old new fault

-- the number of each reason why there is no registry
abbrev pub new_fault_number : NewFault → ℕ
new_fault_number New.BadWindow = 31
new_fault_number New.NoMemory = 6

-- the number of each refusal of a family
abbrev pub register_fault_number : RegisterFault → ℕ
register_fault_number (Register.Clash with) = 19
register_fault_number Register.TooManyFamilies = 23
register_fault_number Register.NoMemory = 6

-- the number of each refusal of a child
abbrev pub child_fault_number : ChildFault → ℕ
child_fault_number Child.NoSuchFamily = 20
child_fault_number (Child.LabelCount want got) = 21
child_fault_number (Child.Full kind many) = 22
child_fault_number Child.NoMemory = 6

-- the number of each refusal of a scrape
abbrev pub scrape_fault_number : ScrapeFault → ℕ
scrape_fault_number Scrape.NoMemory = 6
scrape_fault_number (Scrape.Contended fault) = 14
