-- The numbers of the refusals of a script line.
use Rattle.std.specs.Prelude.{ℕ}
use Rattle.metric_names.specs.MetricName as name
use Rattle.metric_names.specs.LabelName as label
use Rattle.metric_names.specs.HelpText as help
use Rattle.metric_names.specs.LabelValue as value
use Rattle.metric_desc.specs.Labels as labels
use Rattle.metric_desc.specs.Histogram as histogram
use Rattle.registry_state.specs.Faults.{register_fault_number, child_fault_number, scrape_fault_number}
use Rattle.worker_pool.specs.Faults.{pool_fault_number}
use Rattle.metrics_program.specs.declared.line_fault.LineFault.{LineFault}
use Rattle.metrics_program.specs.declared.line_fault.LineFault.TheVariants.{BadLine, Name, Label, Help, Labels, Histogram, Value}
use Rattle.metrics_program.specs.declared.line_fault.LineFault.TheVariants.{Register, NoSuchFamily, Child, NoSuchChild, Pool}
use Rattle.metrics_program.specs.declared.line_fault.LineFault.TheVariants.{Scrape}
use Rattle.metrics_program.specs.declared.line_fault.LineFault.TheVariants.{Window, NoMemory}

-- the number of each fault
abbrev pub number_of : LineFault → ℕ
number_of BadLine = 27
number_of (Name fault) = name.number_of fault
number_of (Label fault) = label.number_of fault
number_of (Help fault) = help.number_of fault
number_of (Labels fault) = labels.number_of fault
number_of (Histogram fault) = histogram.number_of fault
number_of (Value fault) = value.number_of fault
number_of (Register fault) = register_fault_number fault
number_of NoSuchFamily = 20
number_of (Child fault) = child_fault_number fault
number_of NoSuchChild = 28
number_of (Pool fault) = pool_fault_number fault
number_of (Scrape fault) = scrape_fault_number fault
number_of (Window fault) = 31
number_of NoMemory = 6
