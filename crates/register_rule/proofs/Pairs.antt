-- What the rule says of members in pairs.
use Rattle.std.proofs.Common.{◌⊎◌, inl, inr, ⊎_elim, ℕ, ◌<◌, ◌≡◌, refl, List, length, map, ap, subst, ◌∙◌, arith}
use Rattle.atomic_table.specs.Table.{State, Me, Allows, Splits, Joins}
use Rattle.ledger_core.specs.declared.op.Op.{Op}
use Rattle.register_rule.specs.declared.view.Look.{Look}
use Rattle.register_rule.specs.declared.view.Answer.{Answer}
use Rattle.register_rule.specs.declared.view.Member.{Member}
use Rattle.register_rule.specs.declared.view.SeatView.{SeatView}
use Rattle.register_rule.specs.Words.{seg}
use Rattle.register_rule.specs.History.{IsCut}
use Rattle.register_rule.specs.SoundScans.{opened_at, HasStale, IsSound}
use Rattle.register_rule.specs.Rule.{Rule}
use Rattle.register_rule.specs.Told.{HaveRecorded, Tries, IsDoomed, AreComparable, Sits, AllCompare}
use Rattle.register_rule.proofs.Moments.{comparable}

module _ (n w b : ℕ) (adds : List Op → ℕ → ℕ) (accepts : (ℕ → ℕ) → List Op → Type 0) (s : State (Unit {0}) SeatView)
    (r : Rule n w b adds accepts s) where
  scan_of : (m : Member) → Sits s m → IsSound n w adds r.made r.history m.scan
  scan_of m t = (r.each t.0 t.2 t.3 t.1 m t.4).scan

  -- by these numbers, which are those of the segments
  module _ (number : ℕ → ℕ) (same : (i : ℕ) → i < n → number i ≡ length (r.made i)) where
    -- a number that has moved is not that of the segment
    is_doomed : (m : Member) → Sits s m → HasStale n w adds r.made m.scan.trying.looks → IsDoomed n number
        (Sits s) m.scan.trying.looks
    is_doomed m t d = (
      d.0,
      d.1,
      d.2,
      d.3.0,
      λ e. let x = same d.1.place ((scan_of m t).looks d.0 d.1 d.2).0.inside in
          let h = d.3.1 in omega arith,
    )

    moment_of : (a : Answer) → HaveRecorded n number (Sits s) a → IsCut n r.history a.vector
    moment_of a x = ((scan_of x.0 x.1).recorded x.2.0 a x.2.1).0.moment

    -- a try with all places opened
    of_try : (looks : List Look) → Tries n number (Sits s) looks → IsDoomed n number (Sits s) looks
        ⊎ IsCut n r.history (map opened_at looks)
    of_try looks x = subst (λ (z : List Look). IsDoomed n number (Sits s) z ⊎ IsCut n r.history (map opened_at z)) x.2
        (⊎_elim (λ (d : HasStale n w adds r.made x.0.scan.trying.looks). inl (is_doomed x.0 x.1 d))
        (λ (p : IsCut n r.history (map opened_at x.0.scan.trying.looks)). inr p)
        ((scan_of x.0 x.1).whole (ap (λ (z : List Look). length z) x.2 ∙ x.3)))

    -- the numbers of two moments of one history are comparable
    pub compares_by : AreComparable n number (Sits s)
    compares_by = record {
      recorded = λ a c x y. comparable n r.history a.vector c.vector (moment_of a x) (moment_of c y);
      tries = λ looks others x y. ⊎_elim (λ d. inl (inl d))
          (λ p. ⊎_elim (λ d. inl (inr d)) (λ p'. inr (comparable n r.history _ _ p p')) (of_try others y)) (of_try looks x);
      between = λ looks a x y. ⊎_elim (λ d. inl d) (λ p. inr (comparable n r.history _ _ p (moment_of a y))) (of_try looks x);
    }

  pub compares : AllCompare n b s
  compares = compares_by (λ i. seg b s.words i 0) r.number

  pub compares_now : AreComparable n (λ i. length (r.made i)) (Sits s)
  compares_now = compares_by (λ i. length (r.made i)) (λ i h. refl)

-- fewer members compare too
pub fewer : (n : ℕ) (number : ℕ → ℕ) (Is Is' : Member → Type 0) → ((m : Member) → Is' m → Is m) → AreComparable n number Is
    → AreComparable n number Is'
fewer n number Is Is' all ok = record {
  recorded = λ a c x y. ok.recorded a c (x.0, all x.0 x.1, x.2) (y.0, all y.0 y.1, y.2);
  tries = λ looks others x y. ok.tries looks others (x.0, all x.0 x.1, x.2, x.3) (y.0, all y.0 y.1, y.2, y.3);
  between = λ looks a x y. ok.between looks a (x.0, all x.0 x.1, x.2, x.3) (y.0, all y.0 y.1, y.2);
}

-- a rule may say beside A what follows from A
module _ {S V : Type 0} (A B : State S V → Type 0) (follows : (s : State S V) → A s → B s) where
  pub allows_both : (slots id : ℕ) (me : Me S V) (i : ℕ) (f : ℕ → ℕ) (then : ℕ → Me S V → Type 0) → Allows A slots id me i f then
      → Allows (λ s. A s × B s) slots id me i f then
  allows_both slots id me i f then a s r deep seat fits = let t = a s r.0 deep seat fits in
      (t.0, t.1, t.2, (t.3, follows _ t.3), t.4)

  pub splits_both : (id : ℕ) (v left right : V) → Splits A id v left right → Splits (λ s. A s × B s) id v left right
  splits_both id v left right a s r at = let t = a s r.0 at in (t, follows _ t)

  pub joins_both : (id : ℕ) (v : V) (other : ℕ) (w both spent : V) → Joins A id v other w both spent
      → Joins (λ s. A s × B s) id v other w both spent
  joins_both id v other w both spent a s r at apart there = let t = a s r.0 at apart there in (t, follows _ t)
