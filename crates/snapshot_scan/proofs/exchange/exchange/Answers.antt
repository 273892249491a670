use Rattle.std.proofs.Common.{ℕ, List, Contains, sym, ◌∙◌, subst}
use Rattle.snapshot_scan.proofs.exchange.exchange.Goals as goal

pub exchange_at-requires-clause-words : goal.exchange_at-requires-clause-words
exchange_at-requires-clause-words c = λ j has. c.requires.words j
    (subst (λ (l : List ℕ). Contains l j) c.as_slice.ensures.listed has)

pub exchange_at-requires-clause-others : goal.exchange_at-requires-clause-others
exchange_at-requires-clause-others c = λ k lt none. c.requires.others (sym c.is_all.ensures ∙ c.if-is_all.false) k lt
    (λ has. none (subst (λ (l : List ℕ). Contains l k) (sym c.as_slice.ensures.listed) has))
