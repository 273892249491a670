-- What plain texts register, and why they are refused.
use Rattle.std.specs.Prelude.{◌≡◌, ◌≢◌, ◌<◌, ℕ, List, [], All, Result, Ok, Err}
use Rattle.std.specs.Borrow.{Bor}
use Rattle.metric_names.specs.MetricName.{IsMetricName, IsMetricNameFault}
use Rattle.metric_names.specs.HelpText.{IsHelpText, IsHelpTextFault}
use Rattle.metric_names.specs.LabelName.{IsLabelName}
use Rattle.metric_names.specs.LabelValue.{IsLabelValue}
use Rattle.metric_desc.specs.Desc.{Descriptor, IsDescOf}
use Rattle.metric_desc.specs.Labels.{IsLabelsFault}
use Rattle.metric_desc.specs.Histogram.{IsHistogramFault}
use Rattle.metric_desc.specs.declared.kind.Kind.{Kind}
use Rattle.registry_state.specs.declared.fault.RegisterFault.{RegisterFault}
use Rattle.registry_state.specs.declared.handle.FamilyId.{FamilyId}
use Rattle.registry_state.specs.declared.handle.Handle.{Handle}
use Rattle.scrape_page.specs.declared.fault.PageChildFault.{PageChildFault}
use Rattle.dirgwako.specs.Texts.{texts_of, IsBadLabel, IsBadValue}
use Rattle.dirgwako.specs.declared.fault.FamilyRefusal.{FamilyRefusal}
use Rattle.dirgwako.specs.declared.fault.ChildRefusal.{ChildRefusal}
use Rattle.dirgwako.specs.declared.fault.MetricRefusal.{MetricRefusal}
use Rattle.dirgwako.specs.declared.family.Shape.{Shape}
use Rattle.dirgwako.specs.declared.family.Shape.TheVariants.{Counter, Gauge, Histogram}
use Rattle.metric_desc.specs.declared.kind.Kind.TheVariants as Kinds
use Rattle.dirgwako.specs.declared.fault.FamilyRefusal.TheVariants as family
use Rattle.dirgwako.specs.declared.fault.ChildRefusal.TheVariants as child
use Rattle.dirgwako.specs.declared.fault.MetricRefusal.TheVariants as metric

-- the family that these texts say, whose numbers a text shifts by so many decimal digits
abbrev pub shifted_family_of : Kind → (name help : List ℕ) → (labels : List (Bor (List ℕ))) → (bounds : List ℕ) → (digits : ℕ)
    → Descriptor
shifted_family_of kind name help labels bounds digits = record {
  name = name;
  help = help;
  labels = texts_of labels;
  kind = kind;
  bounds = bounds;
  digits = digits;
}

-- the family that these texts say, whose numbers are not shifted
abbrev pub family_of : Kind → (name help : List ℕ) → (labels : List (Bor (List ℕ))) → (bounds : List ℕ) → Descriptor
family_of kind name help labels bounds = shifted_family_of kind name help labels bounds 0

-- its name, its help and its labels' names are such
pub record AreGood (desc : Descriptor) : Type 0 where
  pub name_good : IsMetricName desc.name
  pub help_good : IsHelpText desc.help
  pub labels_good : All IsLabelName desc.labels

-- why the texts are none: the first of these that is so
abbrev pub IsUnread : Descriptor → FamilyRefusal → Type 0
IsUnread desc (family.Name fault) = IsMetricNameFault desc.name fault
IsUnread desc (family.Help fault) = IsMetricName desc.name × IsHelpTextFault desc.help fault
IsUnread desc (family.Label at fault) = IsMetricName desc.name × IsHelpText desc.help × IsBadLabel desc.labels at fault
IsUnread desc (family.Labels fault) = AreGood desc × (desc.kind ≢ Kinds.Histogram) × IsLabelsFault desc.labels fault
IsUnread desc (family.Histogram fault) = AreGood desc × (desc.kind ≡ Kinds.Histogram)
    × IsHistogramFault desc.labels desc.bounds fault
IsUnread desc (family.Digits fault) = AreGood desc × IsDescOf desc.kind desc.labels desc.bounds × (9 < desc.digits)
IsUnread desc (family.Register fault) = ⊥

module _ {S : Type 0} (registered : S → S → Descriptor → Result FamilyId RegisterFault → Type 0) (old new : S) (desc : Descriptor)
  where
    -- What is done and answered where a family is asked for: it is registered once, by a descriptor of just these
    -- texts; or the texts are none, and nothing is done.
    abbrev pub AsksFamily : Result FamilyId FamilyRefusal → Type 0
    AsksFamily (Ok id) = AreGood desc × registered old new desc (Ok id)
    AsksFamily (Err (family.Register fault)) = AreGood desc × registered old new desc (Err fault)
    AsksFamily (Err fault) = IsUnread desc fault × (new ≡ old)

-- another kind's handle
abbrev pub IsOther : Kind → Handle → Type 0
IsOther Kinds.Counter (Handle.Counter _) = ⊥
IsOther Kinds.Histogram (Handle.Histogram _) = ⊥
IsOther Kinds.Gauge (Handle.Gauge _) = ⊥
IsOther kind handle = Unit {0}

module _ {S : Type 0} (id_in : S → ℕ) (gave : S → S → FamilyId → List (List ℕ) → Result Handle PageChildFault → Type 0) (old new :
    S)
    (registry : ℕ) (id : FamilyId) (values : List (List ℕ)) where
  -- What is done and answered where a child is asked for: it is asked for once, with just these values; or the family
  -- is of a registry of another id, or else some value is none, and nothing is done.
  abbrev pub AsksHandle : Result Handle ChildRefusal → Type 0
  AsksHandle (Ok handle) = (registry ≡ id_in old) × All IsLabelValue values × gave old new id values (Ok handle)
  AsksHandle (Err child.OtherRegistry) = (registry ≢ id_in old) × (new ≡ old)
  AsksHandle (Err (child.Value at fault)) = (registry ≡ id_in old) × IsBadValue values at fault × (new ≡ old)
  AsksHandle (Err (child.Child fault)) = (registry ≡ id_in old) × All IsLabelValue values × gave old new id values (Err fault)
  AsksHandle (Err child.OtherKind) = ⊥

  -- the same, of a child of a family of this kind
  abbrev pub AsksChild : Kind → Result Handle ChildRefusal → Type 0
  AsksChild kind (Err child.OtherKind) = (registry ≡ id_in old) × All IsLabelValue values
      × ((handle : Handle) × gave old new id values (Ok handle) × IsOther kind handle)
  AsksChild kind answer = AsksHandle answer

module _ {S : Type 0} (id_in : S → ℕ) (registered : S → S → Descriptor → Result FamilyId RegisterFault → Type 0)
    (gave : S → S → FamilyId → List (List ℕ) → Result Handle PageChildFault → Type 0) (old new : S) (desc : Descriptor) where
  -- What is done and answered where a metric without labels is asked for: its family is registered, and then its one child is
  -- asked for.
  -- Where that is refused, the family stands, and is told.
  abbrev pub AsksMetric : Result Handle MetricRefusal → Type 0
  AsksMetric (Ok handle) = (mid : S) × (id : FamilyId) × AsksFamily registered old mid desc (Ok id)
      × AsksChild id_in gave mid new (id_in mid) id [] desc.kind (Ok handle)
  AsksMetric (Err (metric.Family fault)) = AsksFamily registered old new desc (Err fault)
  AsksMetric (Err (metric.Child id fault)) = (mid : S) × AsksFamily registered old mid desc (Ok id)
      × AsksChild id_in gave mid new (id_in mid) id [] desc.kind (Err fault)

-- the kind of a family of this shape
abbrev pub kind_of : Shape → Kind
kind_of Counter = Kinds.Counter
kind_of Gauge = Kinds.Gauge
kind_of (Histogram bounds) = Kinds.Histogram

-- its bounds: only a histogram has any
abbrev pub bounds_of : Shape → List ℕ
bounds_of Counter = []
bounds_of Gauge = []
bounds_of (Histogram bounds) = bounds.now
