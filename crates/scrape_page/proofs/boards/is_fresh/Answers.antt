use Rattle.std.proofs.Common.{◌≢◌, ℕ, All, sym, subst, ◌∙◌}
use Rattle.std.proofs.lemmas.Bool.{eqb-true}
use Rattle.registry_state.specs.Kept.{RegistryView}
use Rattle.scrape_page.proofs.boards.is_fresh.Goals as goal

pub returns-then-family_count-eq0 : goal.returns-then-family_count-eq0
returns-then-family_count-eq0 g c =
    let P : ℕ → Type 0 = λ id. All (λ (other : RegistryView g.row.S.Denot). other.id ≢ id) c.args.boards.now in (
      (λ yes. record {
        empty = sym c.family_count.ensures ∙ c.if-family_count-eq0.true;
        new = subst P c.id.ensures (c.is_new_id.ensures.0 yes);
      }),
      (λ fresh. c.is_new_id.ensures.1 (subst P (sym c.id.ensures) fresh.new)),
    )

pub returns-else-family_count-eq0 : goal.returns-else-family_count-eq0
returns-else-family_count-eq0 g c = (
  (λ yes. absurd (c.if-family_count-eq0.false (eqb-true _ _ yes))),
  (λ fresh. absurd (c.if-family_count-eq0.false (c.family_count.ensures ∙ fresh.empty))),
)
