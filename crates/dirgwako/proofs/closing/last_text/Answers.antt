use Rattle.std.proofs.Common.{ℕ}
use Rattle.registry_state.specs.Kept.{RegistryView}
use Rattle.snapshot_scan.specs.Scanners.{recorded_in}
use Rattle.scrape_server.specs.Scans.{quit_in, gave_in, gave_up_in}
use Rattle.snapshot_scan.specs.declared.scanner.Scanner.{Scanner}
use Rattle.scrape_server.specs.Scrapes.{Scrapes}
use Rattle.dirgwako.specs.declared.printing.TextFault.{TextFault}
use Rattle.dirgwako.specs.declared.printing.TextFault.TheVariants.{NoMemory, Contended}
use Rattle.dirgwako.specs.Printing.{IsTextFault, IsLastFault}
use Rattle.dirgwako.proofs.Moment.{last_text_seen}
use Rattle.dirgwako.proofs.closing.last_text.Goals as goal

why : {N C H G : ℕ} (before after : RegistryView (Scanner N C H G)) (fault : TextFault)
    → IsTextFault (Scrapes N C H G recorded_in quit_in gave_in gave_up_in) 3 before after fault → IsLastFault fault after
why before after Contended is = (before, is)
why before after NoMemory is = tt

pub returns-in-Ok-clause-text : goal.returns-in-Ok-clause-text
returns-in-Ok-clause-text g c = last_text_seen _ _ _ _ _ _ c.in-Ok.ensures.text c.journal.ensures.kept

pub returns-in-Err-clause-fault : goal.returns-in-Err-clause-fault
returns-in-Err-clause-fault g c = why _ _ c.in-Err.fault c.in-Err.ensures.fault
