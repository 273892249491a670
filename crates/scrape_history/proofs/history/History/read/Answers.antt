use Rattle.std.proofs.Common.{◌<◌, ◌∙◌, ap, sym, subst, arith, rules, length, take}
use Rattle.std.specs.Prelude.{Some, slice_get}
use Rattle.snapshot_scan.specs.Snapshots.{Taken, as_answer}
use Rattle.ledger_core.specs.Ops.{width}
use Rattle.scrape_history.specs.Increases.{raised_by, AreFor}
use Rattle.scrape_history.specs.History.{Stored, answers_of}
use Rattle.scrape_history.proofs.Historic.{held_few, changed_within, read_held}
use Rattle.scrape_history.proofs.history.History.read.Goals as goal

pub changed_to-changed-requires-clause-within : goal.changed_to-changed-requires-clause-within
changed_to-changed-requires-clause-within g c =
    let few = held_few c.self.inside.first c.self.inside.oldest c.self.inside.later.items c.self.inside.increases.items in
    let seen = ap (λ (h : Stored). length h.scrapes) c.self.view_is in
    let lt = c.requires in omega (arith, few, seen, lt)

pub raise-requires : goal.raise-requires
raise-requires g c =
    let all = c.self.invariant.all in
    let some = changed_within c.args.number c.self.inside.later.items in
    let is = c.changed_to-changed.ensures in (
      search rules,
      (
        omega (arith, all, some, is),
        subst (λ (t : Taken). AreFor g.row.N (width g.row.C g.row.H g.row.G) t c.self.inside.increases.items)
            (sym c.copy_from.ensures) c.self.invariant.lead.fit,
      ),
    )

pub returns : goal.returns
returns g c =
    let seen = ap (λ (h : Stored). length h.scrapes) c.self.view_is in
    let lt : c.args.number < length c.args.self.now.scrapes = c.requires in
    ap (λ (h : Stored). slice_get (answers_of h.scrapes) c.args.number) (sym c.self.view_is)
    ∙ read_held c.self.inside.first c.self.inside.oldest c.self.inside.later.items c.self.inside.increases.items c.args.number
    (omega (arith, seen, lt))
    ∙ ap (λ (t : Taken). Some (as_answer t))
    (sym (c.raise.ensures ∙ ap (λ t. raised_by t (take c.changed_to-changed.result c.self.inside.increases.items))
    c.copy_from.ensures
    ∙ ap (λ n. raised_by c.self.inside.oldest (take n c.self.inside.increases.items)) c.changed_to-changed.ensures))
