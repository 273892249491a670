use Rattle.std.proofs.Common.{sym}
use Rattle.ledger_core.proofs.Places.{read_hist, read_gauge, hist-lt, gauge-lt}
use Rattle.ledger_core.proofs.words.Words.word.Goals as goal

pub returns-in-Hist-clause-value : goal.returns-in-Hist-clause-value
returns-in-Hist-clause-value g c =
    let h = rw c.in-Hist.is at c.requires in
    rw (c.in-Hist.is, ← c.self.view_is)
    (sym (read_hist g.row.C g.row.H g.row.G _ _ _ c.self.invariant c.in-Hist.hist c.in-Hist.item h.0 h.1))

pub returns-in-Hist-clause-within : goal.returns-in-Hist-clause-within
returns-in-Hist-clause-within g c =
    let h = rw c.in-Hist.is at c.requires in
    rw (c.in-Hist.is, ← c.self.view_is)
    (hist-lt g.row.C g.row.H g.row.G _ _ _ c.self.invariant c.in-Hist.hist c.in-Hist.item h.0 h.1)

pub returns-in-Gauge-clause-value : goal.returns-in-Gauge-clause-value
returns-in-Gauge-clause-value g c =
    let h = rw c.in-Gauge.is at c.requires in
    rw (c.in-Gauge.is, ← c.self.view_is)
    (sym (read_gauge g.row.C g.row.H g.row.G _ _ _ c.self.invariant c.in-Gauge.gauge c.in-Gauge.item h.0 h.1))

pub returns-in-Gauge-clause-within : goal.returns-in-Gauge-clause-within
returns-in-Gauge-clause-within g c =
    let h = rw c.in-Gauge.is at c.requires in
    rw (c.in-Gauge.is, ← c.self.view_is)
    (gauge-lt g.row.C g.row.H g.row.G _ _ _ c.self.invariant c.in-Gauge.gauge c.in-Gauge.item h.0 h.1)
