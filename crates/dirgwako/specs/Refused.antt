-- The numbers of refusals.
use Rattle.std.specs.Prelude.{◌≡◌, ◌⊎◌, ℕ, ◌<◌, ◌≤◌, List, [], length}
use Rattle.metric_names.specs.MetricName as name
use Rattle.metric_names.specs.HelpText as help
use Rattle.metric_names.specs.LabelName as label
use Rattle.metric_names.specs.LabelValue as value
use Rattle.metric_desc.specs.Labels as labels
use Rattle.metric_desc.specs.Histogram as histogram
use Rattle.registry_state.specs.Faults as state
use Rattle.scrape_page.specs.Faults as page
use Rattle.dirgwako.specs.declared.fault.FamilyRefusal.{FamilyRefusal}
use Rattle.dirgwako.specs.declared.fault.FamilyRefusal.TheVariants as family
use Rattle.dirgwako.specs.declared.fault.ChildRefusal.{ChildRefusal}
use Rattle.dirgwako.specs.declared.fault.ChildRefusal.TheVariants as child
use Rattle.dirgwako.specs.declared.fault.MetricRefusal.{MetricRefusal}
use Rattle.dirgwako.specs.declared.fault.MetricRefusal.TheVariants as metric

-- a refusal tells this name; one that is too long for a metric's is not told
abbrev pub TellsName : (name told : List ℕ) → Type 0
TellsName name told = ((length name ≤ 128) × (told ≡ name)) ⊎ ((128 < length name) × (told ≡ []))

-- the number of each refusal of a family
abbrev pub family_refusal_number : FamilyRefusal → ℕ
family_refusal_number (family.Name fault) = name.number_of fault
family_refusal_number (family.Help fault) = help.number_of fault
family_refusal_number (family.Label _ fault) = label.number_of fault
family_refusal_number (family.Labels fault) = labels.number_of fault
family_refusal_number (family.Histogram fault) = histogram.number_of fault
family_refusal_number (family.Digits _) = 43
family_refusal_number (family.Register fault) = state.register_fault_number fault

-- the number of each refusal of a child
abbrev pub child_refusal_number : ChildRefusal → ℕ
child_refusal_number child.OtherRegistry = 20
child_refusal_number (child.Value _ fault) = value.number_of fault
child_refusal_number (child.Child fault) = page.child_fault_number fault
child_refusal_number child.OtherKind = 28

-- the number of each refusal of a metric: that of its family, or of its one child
abbrev pub metric_refusal_number : MetricRefusal → ℕ
metric_refusal_number (metric.Family fault) = family_refusal_number fault
metric_refusal_number (metric.Child _ fault) = child_refusal_number fault
