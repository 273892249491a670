use Rattle.std.proofs.Common.{subst}
use Rattle.scrape_page.proofs.Further.{is_no_memory}
use Rattle.scrape_page.proofs.Sought.{IsSoughtOnPage, no_memory_there}
use Rattle.scrape_page.proofs.page.Page.child_there.Goals as goal

pub returns-in-Room-clause-fault : goal.returns-in-Room-clause-fault
returns-in-Room-clause-fault g c =
    no_memory_there g.row.C g.row.H g.row.G c.args.self.now c.args.family.number c.args.values.now c.in-Room._part
    (subst (IsSoughtOnPage g.row.C g.row.H g.row.G c.args.self.now c.args.family.number c.args.values.now) c.in-Room.is
    c.in_ok-handle.ensures.sought)

pub returns-in_ok-_place-in-Full-clause-fault : goal.returns-in_ok-_place-in-Full-clause-fault
returns-in_ok-_place-in-Full-clause-fault g c =
    let room = c.in_ok-_place-in-Full.ensures.place in
    is_no_memory g.row.C g.row.H g.row.G c.args.self.now c.args.family.number c.in-Full.kind c.args.values.now
    (subst (IsSoughtOnPage g.row.C g.row.H g.row.G c.args.self.now c.args.family.number c.args.values.now) c.in-Full.is
    c.in_ok-handle.ensures.sought) c.in_ok-_place-in-Full._place room.0 room.1 room.2
