-- The replay of a journal: what its entries make, where each of them is accepted.
use Rattle.std.specs.Prelude.{◌≡◌, ◌≢◌, ℕ, zero, suc, ◌<◌, List, [], ◌∷◌, ◌++◌, Option, Some, None, length, slice_get, IsSomeAnd}
use Rattle.std.specs.Prelude.{All, if◌then◌else◌}
use Rattle.std.specs.Option.{ForSome}
use Rattle.std.specs.Ordering.{nat_cmp, is_lt}
use Rattle.std.specs.Cmp.Lexicographic.{slice_cmp}
use Rattle.metric_desc.specs.Desc.{Descriptor, Clash}
use Rattle.metric_desc.specs.declared.kind.Kind.{Kind}
use Rattle.metric_desc.specs.declared.kind.Kind.TheVariants.{Counter, Histogram, Gauge}
use Rattle.ledger_core.specs.Ops.{width}
use Rattle.register_rule.specs.declared.view.Answer.{Answer}
use Rattle.snapshot_scan.specs.Sources.{IsWhole, NothingFalls}
use Rattle.registry_state.specs.Journal.{RegistryChange, Registered, ChildMade, Entry, Changed, Scraped}

-- a child: the values of its labels, and the slot that counts for it
pub record Child : Type 0 where
  pub values : List (List ℕ)
  pub slot : ℕ

-- a family: what it is, and its children in the order of their values
pub record Family : Type 0 where
  pub desc : Descriptor
  pub children : List Child

-- what a registry holds: its families in the order of their registration, and the last scrape, if there is one: the newest that
-- is kept
pub record State : Type 0 where
  pub families : List Family
  pub last : Option Answer

-- what a new registry holds: no family, and no scrape
abbrev pub nothing : State
nothing = record { families = []; last = None }

-- how many slots a row of c counters, h histograms and g gauges has for a kind
abbrev pub slots : (c h g : ℕ) → Kind → ℕ
slots c h g Counter = c
slots c h g Histogram = h
slots c h g Gauge = g

-- no child of a family of this kind has this slot
abbrev pub IsFree : List Family → Kind → ℕ → Type 0
IsFree families kind slot =
    All (λ (family : Family). family.desc.kind ≡ kind → All (λ (child : Child). child.slot ≢ slot) family.children) families

-- no family clashes with the descriptor
abbrev pub IsApart : List Family → Descriptor → Type 0
IsApart families desc = All (λ (family : Family). ¬ (Clash family.desc desc)) families

-- no child of the family has these values
abbrev pub IsNew : Family → List (List ℕ) → Type 0
IsNew family values = All (λ (child : Child). child.values ≢ values) family.children

-- a child of these values may be made of this family, in this slot: the values are as many as its labels, no child has them, and
-- the slot is there and free
pub record MayMake (c h g : ℕ) (families : List Family) (values : List (List ℕ)) (slot : ℕ) (family : Family) : Type 0 where
  pub fit : length values ≡ length family.desc.labels
  pub apart : IsNew family values
  pub within : slot < slots c h g family.desc.kind
  pub free : IsFree families family.desc.kind slot

-- n workers, and rows of c counters, h histograms and g gauges
module _ (n c h g : ℕ) where
  -- a change is accepted: a family, if there are fewer than 128 and it clashes with none of them; a child, if it may be made of a
  -- family that is there
  abbrev pub IsAcceptedChange : List Family → RegistryChange → Type 0
  IsAcceptedChange families (Registered desc) = (length families < 128) × IsApart families desc
  IsAcceptedChange families (ChildMade family values slot) = IsSomeAnd (slice_get families family)
      (MayMake c h g families values slot)

  -- a scrape is accepted: it is whole, and not below the one before it
  pub record IsNext (last : Option Answer) (answer : Answer) : Type 0 where
    pub whole : IsWhole n c h g answer
    pub rises : ForSome last (λ before. NothingFalls n (width c h g) before answer)

-- the children with one more, which stands behind those whose values are before its own
abbrev pub put : Child → List Child → List Child
put child [] = child ∷ []
put child (other ∷ others) =
    if is_lt (slice_cmp (slice_cmp nat_cmp) other.values child.values) then other ∷ put child others else child ∷ other ∷ others

-- the families, of which the one of this number has one child more
abbrev pub with_child : List Family → ℕ → Child → List Family
with_child [] number child = []
with_child (family ∷ families) zero child = record { desc = family.desc; children = put child family.children } ∷ families
with_child (family ∷ families) (suc number) child = family ∷ with_child families number child

-- the families after a change
abbrev pub after : List Family → RegistryChange → List Family
after families (Registered desc) = families ++ record { desc = desc; children = [] } ∷ []
after families (ChildMade family values slot) = with_child families family (record { values = values; slot = slot })

module _ (n c h g : ℕ) where
  -- the entries lead from the one state to the other, each of them accepted where it stands
  abbrev pub Leads : State → List Entry → State → Type 0
  Leads from [] to = from ≡ to
  Leads from (Changed change ∷ entries) to =
      IsAcceptedChange n c h g from.families change
      × Leads (record { families = after from.families change; last = from.last }) entries to
  Leads from (Scraped answer ∷ entries) to =
      IsNext n c h g from.last answer × Leads (record { families = from.families; last = Some answer }) entries to

  -- the journal replays to this state
  abbrev pub Replays : List Entry → State → Type 0
  Replays journal state = Leads nothing journal state
