use Rattle.std.proofs.Common.{ℕ, List, Contains, sym, ◌∙◌, subst, rules}
use Rattle.snapshot_update.proofs.publishing.learn.Goals as goal

pub remember_at-requires : goal.remember_at-requires
remember_at-requires g c = let same = c.as_slice.ensures.listed in (
  search rules,
  (
    search rules,
    (
      c.requires.inside,
      (
        λ j has. c.requires.touched j (subst (λ (l : List ℕ). Contains l j) same has),
        λ v at k lt none. c.requires.known (sym c.is_known.ensures ∙ c.if-is_known.true) v at k lt
            (λ has. none (subst (λ (l : List ℕ). Contains l k) (sym same) has)),
      ),
    ),
  ),
)
