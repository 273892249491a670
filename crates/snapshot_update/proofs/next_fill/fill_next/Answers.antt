use Rattle.std.proofs.Common.{◌≡◌, ⊎_elim, ◌+◌, ℕ, false, List, Contains, subst, arith}
use Rattle.snapshot_scan.specs.ChangedItems.{ChangedView, NotesEach}
use Rattle.snapshot_update.proofs.next_fill.fill_next.Goals as goal

pub note_each-requires : goal.note_each-requires
note_each-requires g c = record {
  room = λ j has. let lt = c.requires.may.inside.2 j has in let few = c.requires.may.few in
      omega (arith, lt, few);
}

-- what is not listed was not late, and was not touched
neither : (touched : List ℕ) (old new : ChangedView) → NotesEach 0 touched old new → new.all ≡ false → (j : ℕ)
    → ¬ (Contains new.items j) → (¬ (Contains old.items j)) × (¬ (Contains touched j))
neither touched old new x few j not = let e : j + 0 ≡ j = omega arith in (
  λ h. not (x.keeps few j h),
  λ h. not (subst (λ (k : ℕ). Contains new.items k) e (x.notes few j h)),
)

pub returns-then-listed-clause-recent : goal.returns-then-listed-clause-recent
returns-then-listed-clause-recent g c = λ few j lt not. let lens = c.requires.may.lengths in
    let x = subst (λ (o : ChangedView). NotesEach 0 c.args.touched.now.items o c.note_each.new.to) c.swap.ensures.x_after
    c.note_each.ensures in
    let b = neither c.args.touched.now.items c.args.late.now c.note_each.new.to x few j not in
    c.requires.may.known c.if-listed.true j (omega (arith, lens.2, lt)) b.0 b.1

pub returns-then-listed-clause-inside : goal.returns-then-listed-clause-inside
returns-then-listed-clause-inside g c = λ j has.
    let x = subst (λ (o : ChangedView). NotesEach 0 c.args.touched.now.items o c.note_each.new.to) c.swap.ensures.x_after
    c.note_each.ensures in
    ⊎_elim (λ was. c.requires.may.inside.1 j was) (λ t. let lt = c.requires.may.inside.2 t.0 t.1 in let e = t.2 in
    omega (arith, lt, e)) (x.others j has)

pub returns-then-listed-clause-joined : goal.returns-then-listed-clause-joined
returns-then-listed-clause-joined g c = λ _ few.
    let listed = c.requires.may.listed c.if-listed.true in let touched = c.args.touched.now.items in
    let x = subst (λ (o : ChangedView). NotesEach 0 touched o c.note_each.new.to) c.swap.ensures.x_after c.note_each.ensures in
    let both = neither touched c.args.late.now c.note_each.new.to x few in record {
      listed = (few, listed.1, listed.2);
      late_too = λ j not. (both j not).0;
      touched_too = λ j not. (both j not).1;
      only = λ j not_late not_touched has. ⊎_elim not_late
          (λ t. let e = t.2 in not_touched (subst (λ (k : ℕ). Contains touched k) (let s : t.0 ≡ j = omega (arith, e) in s) t.1))
          (x.others j has);
    }
