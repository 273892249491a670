-- What a registry knows of its families, and the order in which a scrape shows them.
use Rattle.std.specs.Prelude.{◌≡◌, ◌≢◌, ℕ, ◌+◌, ◌<◌, ◌≤◌, List, [], length, All, AllPairs}
use Rattle.std.specs.List.{range_with_len, slice_index_or, AllWithin}
use Rattle.std.specs.List.Sorted.{IsPermutation}
use Rattle.std.specs.Ordering.{nat_cmp}
use Rattle.std.specs.Cmp.Lexicographic.{slice_cmp}
use Rattle.std.specs.declared.cmp.Ordering.TheVariants.{Less, Greater}
use Rattle.metric_desc.specs.Desc.{Clash}
use Rattle.metric_desc.specs.declared.kind.Kind.{Kind}
use Rattle.metric_desc.specs.declared.kind.Kind.TheVariants.{Counter, Histogram, Gauge}
use Rattle.expo_text.specs.Order.{IsBefore}
use Rattle.registry_state.specs.Replay.{Child, Family, IsFree, slots}
use Rattle.register_rule.specs.declared.view.Answer.{Answer}
use Rattle.segment_layout.specs.Layout.{IsGeometry}
use Rattle.register_rule.specs.Members.{newest}
use Rattle.registry_state.specs.Journal.{Entry, scrapes}
use Rattle.registry_state.specs.Kept.{IsKept}

-- how many slots of each kind are used
abbrev pub used_of : (counters hists gauges : ℕ) → Kind → ℕ
used_of counters hists gauges Counter = counters
used_of counters hists gauges Histogram = hists
used_of counters hists gauges Gauge = gauges

-- one slot of the kind more is used
pub record IsOneMore (kind : Kind) (used used' : Kind → ℕ) : Type 0 where
  pub one : used' kind ≡ used kind + 1
  pub others : (other : Kind) → other ≢ kind → used' other ≡ used other

-- a child stands before another: by their values, one by one
abbrev pub IsChildBefore : Child → Child → Type 0
IsChildBefore a b = slice_cmp (slice_cmp nat_cmp) a.values b.values ≡ Less

-- the place at which a child of these values would stand: behind those whose values are before its own, and before
-- the others, none of which has its values
pub record IsPlaceOfValues (children : List Child) (values : List (List ℕ)) (place : ℕ) : Type 0 where
  pub within : place ≤ length children
  pub front : AllWithin (λ (child : Child). slice_cmp (slice_cmp nat_cmp) child.values values ≡ Less) children 0 place
  pub back : AllWithin (λ (child : Child). slice_cmp (slice_cmp nat_cmp) child.values values ≡ Greater) children place
      (length children)

-- the children of a family: each has as many values as the family has labels, and one of the least slots of its kind,
-- of as many as `used` says; they stand in strict order of their values, and no two have one slot
pub record AreChildren (used : Kind → ℕ) (family : Family) : Type 0 where
  pub fit : All (λ (child : Child). length child.values ≡ length family.desc.labels) family.children
  pub below : All (λ (child : Child). child.slot < used family.desc.kind) family.children
  pub ordered : AllPairs IsChildBefore family.children
  pub distinct : AllPairs (λ (a b : Child). a.slot ≢ b.slot) family.children

-- families of one registry: at most 128, no two of which clash, and whose children have slots of as many as `used` says
pub record AreFamilies (used : Kind → ℕ) (families : List Family) : Type 0 where
  pub few : length families ≤ 128
  pub apart : AllPairs (λ (a b : Family). ¬ (Clash a.desc b.desc)) families
  pub each : All (AreChildren used) families

-- families that a scrape can show, of rows of c counters, h histograms and g gauges: their children's slots are there
abbrev pub AreShowable : (c h g : ℕ) → List Family → Type 0
AreShowable c h g families = AreFamilies (slots c h g) families

-- the families of a registry whose rows have c counters, h histograms and g gauges: the least slots of each kind are used, as
-- many as `used` says, and they are there
pub record AreHeld (c h g : ℕ) (families : List Family) (used : Kind → ℕ) : Type 0 where
  pub are : AreFamilies used families
  pub taken : (kind : Kind) (slot : ℕ) → slot < used kind → ¬ (IsFree families kind slot)
  pub room : (kind : Kind) → used kind ≤ slots c h g kind

-- what stands for a family that is not there
abbrev pub no_family : Family
no_family = record { desc = record { name = []; help = []; labels = []; kind = Counter; bounds = []; digits = 0 }; children = [] }

-- the family of this number
abbrev pub family_at : List Family → ℕ → Family
family_at families number = slice_index_or families number no_family

-- one family stands before another: by their names, in byte order
abbrev pub IsNamedBefore : Family → Family → Type 0
IsNamedBefore a b = IsBefore a.desc.name b.desc.name

-- the place in the order at which the number of a new family of this name stands
pub record IsPlaceOfName (families : List Family) (order : List ℕ) (name : List ℕ) (place : ℕ) : Type 0 where
  pub within : place ≤ length order
  pub front : AllWithin (λ number. IsBefore (family_at families number).desc.name name) order 0 place
  pub back : AllWithin (λ number. IsBefore name (family_at families number).desc.name) order place (length order)

-- the numbers of all families, each once, in strict byte order of their names
pub record IsOrder (families : List Family) (order : List ℕ) : Type 0 where
  pub each : IsPermutation (range_with_len 0 (length families)) order
  pub rising : AllPairs (λ (i j : ℕ). IsNamedBefore (family_at families i) (family_at families j)) order

-- what every `RegistryState` keeps: what `IsKept` says, which is public (the journal replays to the families and the last
-- scrape), and besides that the families stand in this order by their names, and use so many slots
pub record IsHeld (n c h g : ℕ) (recorded : List Answer) (journal : List Entry) (window : ℕ) (families : List Family)
    (order : List ℕ) (used : Kind → ℕ) : Type 0 where
  pub geometry : IsGeometry n c h g
  pub kept : IsKept n c h g recorded journal window (record { families = families; last = newest (scrapes journal) })
  pub held : AreHeld c h g families used
  pub ordered : IsOrder families order
