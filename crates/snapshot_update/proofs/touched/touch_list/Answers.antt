use Rattle.std.proofs.Common.{◌≡◌, ℕ, List, Contains, sym, ◌∙◌, subst}
use Rattle.std.proofs.lemmas.Bool.Decides.{Decides-eqb}
use Rattle.std.proofs.lemmas.Slice.Eq.{slice_eq-Decides}
use Rattle.snapshot_scan.specs.ChangedItems.{ChangedView}
use Rattle.snapshot_update.proofs.touched.touch_list.Goals as goal

pub returns-then-are_single-clause-inside : goal.returns-then-are_single-clause-inside
returns-then-are_single-clause-inside g c = λ j has. c.are_single.ensures.inside c.if-are_single.true j
    (subst (λ (l : List ℕ). Contains l j) (sym c.as_slice.ensures.listed) has)

pub returns-then-eq-clause-inside : goal.returns-then-eq-clause-inside
returns-then-eq-clause-inside g c = λ j has.
    let a = c.as_slice-then-listed-is_all.ensures.listed in let b = c.as_slice-then-listed-is_all-2.ensures.listed in
    let same : c.as_slice-then-listed-is_all.result.now ≡ c.as_slice-then-listed-is_all-2.result.now =
    (slice_eq-Decides Decides-eqb c.as_slice-then-listed-is_all.result.now c.as_slice-then-listed-is_all-2.result.now c.eq.result
    c.eq.ensures).0 c.if-eq.true in
    c.touch_all.ensures.inside j (subst (λ (l : List ℕ). Contains l j) (sym a ∙ (same ∙ b)) has)

pub returns-clause-inside : goal.returns-clause-inside
returns-clause-inside g c = λ j has. c.touch_all.ensures.inside j
    (subst (λ (x : ChangedView). Contains x.items j) c.swap.ensures.x_after has)
