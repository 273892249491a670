use Rattle.std.proofs.Common.{rules, ◌≡◌, ℕ, ◌+◌, List, [], ◌∷◌, ◌++◌, Some, length, inl, inr, sym, ap, subst, ◌∙◌, arith}
use Rattle.std.specs.Prelude.{slice_get}
use Rattle.std.proofs.lemmas.List.{length_push}
use Rattle.ledger_core.proofs.Placing.{at_push}
use Rattle.snapshot_scan.specs.Snapshots.{Taken}
use Rattle.page_crew.specs.Settling.{IsExactOn}
use Rattle.page_crew.proofs.owner.PageCrew.settle.Goals as goal

pub loop-number-preserved : goal.loop-number-preserved
loop-number-preserved g c =
    let rs = c.join_all.new.recorders in
    let first : ℕ = c.args.self.now.first in
    let number : ℕ = c.loop-number.number in
    let boards : List Taken = c.loop-number.boards.items in
    let totals : Taken = c.in-Some-totals_on.totals in
    let inv = c.loop-number.invariant in
    let exact : IsExactOn (first + number) rs totals = c.in-Some-totals_on.ensures in
    let new : c.push_reserved.new.self.items ≡ boards ++ totals ∷ [] = c.push_reserved.ensures.items in
    record {
      many = ap length new ∙ length_push boards totals ∙ ap (λ n. n + 1) inv.many;
      room = let same = c.push_reserved.ensures.capacity in let before = inv.room in omega (arith, same, before);
      each = λ k taken at. elim (at_push boards totals k taken (subst (λ (l : List Taken). slice_get l k ≡ Some taken) new at)) [
        | inl last ↦ subst (λ j. IsExactOn (first + j) rs taken) (sym (last.0 ∙ inv.many)) (subst (IsExactOn (first + number) rs)
            last.1 exact)
        | inr there ↦ inv.each k taken there.1
      ];
    }

pub totals_on-requires : goal.totals_on-requires
totals_on-requires g c =
    let lt = c.loop-number-test.true in let same = ap length c.boards-many.ensures.boards in
    (search rules, (search rules, (search rules, c.in_default.ensures.none c.loop-number.number (omega (arith, lt, same)))))
