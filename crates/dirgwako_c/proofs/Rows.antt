-- What the handles of this library hold.
use denote.Param.{number}
use denote.RattleType.{RattleType}
use Rattle.dirgwako_c.specs.declared.geometry.TheConstants.{WORKERS, COUNTERS, HISTOGRAMS, GAUGES}
use Rattle.dirgwako_c.specs.contracts.held.HeldRecorder as recorder
use Rattle.dirgwako_c.specs.contracts.held.HeldRegistry as registry
use Rattle.dirgwako_c.specs.contracts.held.HeldScraper as scraper

abbrev pub held_recorder : RattleType
held_recorder = recorder.the_row (number WORKERS) (number COUNTERS) (number HISTOGRAMS) (number GAUGES)

abbrev pub held_registry : RattleType
held_registry = registry.the_row (number WORKERS) (number COUNTERS) (number HISTOGRAMS) (number GAUGES)

abbrev pub held_scraper : RattleType
held_scraper = scraper.the_row (number WORKERS) (number COUNTERS) (number HISTOGRAMS) (number GAUGES)
