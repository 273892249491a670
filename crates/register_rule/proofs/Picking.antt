-- A member of members that are apart is the one that is picked by its name.
use Rattle.std.proofs.Common.{◌≡◌, ℕ, suc, zero, true, List, [], ◌∷◌, sym, refl, ap, ◌∙◌, subst, eq-eqb}
use Rattle.std.proofs.lemmas.Bool.{false_from_ne_true, cond-true, cond-false}
use mathlib.Core.Option.{some, some-ne-none, some-injective}
use lib.ListN.{get_elem?}
use Rattle.register_rule.specs.declared.view.Who.{Who}
use Rattle.register_rule.specs.declared.view.Who.TheVariants.{Worker, Reader}
use Rattle.register_rule.specs.declared.view.Member.{Member}
use Rattle.register_rule.specs.Rule.{AreOthers, AreApart}
use Rattle.register_rule.specs.Members.{same_who, picked}
use Rattle.register_rule.proofs.Seating.{same_is}

same_self : (who : Who) → same_who who who ≡ true
same_self (Worker i) = eq-eqb i i refl
same_self (Reader i) = eq-eqb i i refl

picked_none : (who : Who) (ms : List Member) → AreOthers who ms → picked who ms ≡ []
picked_none who [] h = refl
picked_none who (m ∷ ms) h = cond-false (same_who who m.who) _ _
    (false_from_ne_true (same_who who m.who) (λ e. h 0 m refl (sym (same_is who m.who e)))) ∙ picked_none who ms (λ q. h (suc q))

pub picked_one : (ms : List Member) (p : ℕ) (m : Member) → AreApart ms → get_elem? ms p ≡ some m → picked m.who ms ≡ m ∷ []
picked_one [] p m a e = absurd (some-ne-none m (sym e))
picked_one (x ∷ xs) zero m a e = subst (λ (z : Member). picked z.who (x ∷ xs) ≡ z ∷ []) (some-injective x m e)
    (cond-true (same_who x.who x.who) _ _ (same_self x.who) ∙ ap (λ (l : List Member). x ∷ l) (picked_none x.who xs a.0))
picked_one (x ∷ xs) (suc p) m a e = cond-false (same_who m.who x.who) _ _
    (false_from_ne_true (same_who m.who x.who) (λ s. a.0 p m e (same_is m.who x.who s))) ∙ picked_one xs p m a.1 e
