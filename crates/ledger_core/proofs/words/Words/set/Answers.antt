use Rattle.ledger_core.proofs.Places.{shape_counter, shape_hist, shape_gauge, write_counter, write_hist, write_gauge}
use Rattle.ledger_core.proofs.words.Words.set.Goals as goal

pub invariant_of-self : goal.invariant_of-self
invariant_of-self g c =
    let h = rw c.in-Counter.is at c.requires.known in
    shape_counter g.row.C g.row.H g.row.G _ _ _ c.self.invariant c.in-Counter.counter _ h c.requires.bounded

pub invariant_of-self-in-Hist : goal.invariant_of-self-in-Hist
invariant_of-self-in-Hist g c =
    let h = rw c.in-Hist.is at c.requires.known in
    shape_hist g.row.C g.row.H g.row.G _ _ _ c.self.invariant c.in-Hist.hist c.in-Hist.item _ h.0 h.1 c.requires.bounded

pub invariant_of-self-in-Gauge : goal.invariant_of-self-in-Gauge
invariant_of-self-in-Gauge g c =
    let h = rw c.in-Gauge.is at c.requires.known in
    shape_gauge g.row.C g.row.H g.row.G _ _ _ c.self.invariant c.in-Gauge.gauge c.in-Gauge.item _ h.0 h.1 c.requires.bounded

pub returns-in-Counter : goal.returns-in-Counter
returns-in-Counter g c =
    let h = rw c.in-Counter.is at c.requires.known in
    rw (c.in-Counter.is, ← c.self.view_is) (write_counter g.row.C g.row.H g.row.G _ _ _ c.self.invariant c.in-Counter.counter _ h)

pub returns-in-Hist : goal.returns-in-Hist
returns-in-Hist g c =
    let h = rw c.in-Hist.is at c.requires.known in
    rw (c.in-Hist.is, ← c.self.view_is)
    (write_hist g.row.C g.row.H g.row.G _ _ _ c.self.invariant c.in-Hist.hist c.in-Hist.item _ h.0 h.1)

pub returns-in-Gauge : goal.returns-in-Gauge
returns-in-Gauge g c =
    let h = rw c.in-Gauge.is at c.requires.known in
    rw (c.in-Gauge.is, ← c.self.view_is)
    (write_gauge g.row.C g.row.H g.row.G _ _ _ c.self.invariant c.in-Gauge.gauge c.in-Gauge.item _ h.0 h.1)
