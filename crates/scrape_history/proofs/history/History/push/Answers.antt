use Rattle.std.proofs.Common.{◌≡◌, ◌∙◌, ◌+◌, ◌-◌, ◌++◌, ◌∷◌, [], ap, ap₂, sym, subst, arith, length}
use Rattle.std.specs.Prelude.{Some}
use Rattle.std.specs.VecDeque.{deque_len, deque_capacity}
use Rattle.snapshot_scan.specs.Snapshots.{Taken}
use Rattle.scrape_history.specs.declared.history.History.TheInside.{Inside}
use Rattle.scrape_history.specs.History.{Stored, held_of, IsHistory}
use Rattle.scrape_history.proofs.Historic.{held_some, history_more, history_first, held_more, held_first}
use Rattle.scrape_history.proofs.history.History.push.Goals as goal
use Rattle.scrape_history.proofs.history.History.push.Goals.{in-Some, in-None}

pub push_back_reserved-requires : goal.push_back_reserved-requires
push_back_reserved-requires g c =
    let all : deque_len c.self.inside.later ≡ length c.self.inside.later.items = c.self.inside.later.ok.0 in
    let count = held_some c.self.inside.first c.in-Some._before c.self.inside.oldest c.self.inside.later.items
    c.self.inside.increases.items c.in-Some.is in
    let seen = ap (λ (h : Stored). length h.scrapes) c.self.view_is in
    let places : deque_capacity c.self.inside.later + 1 ≡ c.args.self.now.places = ap (λ (h : Stored). h.places) c.self.view_is in
    let lt = c.requires.places in omega (arith, all, count, seen, places, lt)

pub invariant_of-self : goal.invariant_of-self
invariant_of-self g c =
    let P : Inside g.row.N g.row.C g.row.H g.row.G → Type 0 =
    λ s. IsHistory g.row.N g.row.C g.row.H g.row.G s.first s.oldest c.copy_from-2.new.self s.later.items s.increases.items in
    elim c.match-self.branch [
      | in-Some w ↦
          subst P (sym w.self-inside-is)
          (subst (λ (t : Taken). IsHistory g.row.N g.row.C g.row.H g.row.G c.self.inside.first c.self.inside.oldest t
          w.push_back_reserved.new.self.items w.note_increases.new.increases.items) (sym c.copy_from-2.ensures)
          (history_more _ _ _ _ _ _ _ _ _ c.self.invariant c.args.scrape.now w.note_increases.new.increases.items
          w.push_back_reserved.new.self.items c.args.before _ w.note_increases.ensures
          (ap₂ (λ m n. m - n) (w.len.ensures ∙ w.note_increases.new.increases.ok.0)
          (w.len-start.ensures ∙ c.self.inside.increases.ok.0))
          w.push_back_reserved.ensures.items _ w.in-Some.is))
      | in-None w ↦
          subst P (sym w.self-inside-is)
          (subst (λ (t : Taken). IsHistory g.row.N g.row.C g.row.H g.row.G (Some c.args.before) t c.copy_from-2.new.self
          c.self.inside.later.items c.self.inside.increases.items) (sym w.copy_from.ensures)
          (subst (λ (t : Taken). IsHistory g.row.N g.row.C g.row.H g.row.G (Some c.args.before) c.args.scrape.now t
          c.self.inside.later.items c.self.inside.increases.items) (sym c.copy_from-2.ensures)
          (history_first _ _ _ _ _ _ _ _ _ c.self.invariant w.in-None.is c.args.scrape.now c.args.before)))
    ]

pub returns : goal.returns
returns g c =
    let old = held_of c.self.inside.first c.self.inside.oldest c.self.inside.later.items c.self.inside.increases.items in
    let Q : Inside g.row.N g.row.C g.row.H g.row.G → Type 0 =
    λ s. held_of s.first s.oldest s.later.items s.increases.items ≡ old ++ (c.args.scrape.now, c.args.before) ∷ [] in
    let pushed : Q c.match-self.self-inside =
    elim c.match-self.branch [
      | in-Some w ↦
          subst Q (sym w.self-inside-is)
          (held_more _ _ _ _ _ _ _ _ _ c.self.invariant c.args.scrape.now w.note_increases.new.increases.items
          w.push_back_reserved.new.self.items c.args.before _ w.note_increases.ensures
          (ap₂ (λ m n. m - n) (w.len.ensures ∙ w.note_increases.new.increases.ok.0)
          (w.len-start.ensures ∙ c.self.inside.increases.ok.0))
          w.push_back_reserved.ensures.items _ w.in-Some.is)
      | in-None w ↦
          subst Q (sym w.self-inside-is)
          (subst (λ (t : Taken). held_of (Some c.args.before) t c.self.inside.later.items c.self.inside.increases.items ≡ old
          ++ (c.args.scrape.now, c.args.before) ∷ []) (sym w.copy_from.ensures)
          (held_first _ _ _ _ _ _ _ _ _ c.self.invariant w.in-None.is c.args.scrape.now c.args.before))
    ] in
    pushed ∙ ap (λ (h : Stored). h.scrapes ++ (c.args.scrape.now, c.args.before) ∷ []) c.self.view_is
