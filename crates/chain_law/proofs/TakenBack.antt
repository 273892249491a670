-- One more worker is taken back.
use Rattle.std.proofs.Common.{◌≡◌, ⊎_elim, ℕ, ◌+◌, ◌≤◌, List, set, sym, ap, ◌∙◌, subst, arith}
use mathlib.Core.Logic.{dite}
use native.Mathlib.Decide.{ℕ_discrete}
use mathlib.Core.Option.{some, some-injective}
use lib.ListN.{get_elem?}
use Rattle.register_rule.specs.declared.view.Member.{Member}
use Rattle.register_rule.specs.declared.view.Who.TheVariants.{Worker as is_worker}
use Rattle.register_rule.specs.Members.{without}
use Rattle.snapshot_scan.specs.declared.reader.Reader.{Reader}
use Rattle.snapshot_scan.specs.Lent.{IsWorkerAmong}
use Rattle.snapshot_scan.specs.Readers.{members_with}
use Rattle.snapshot_scan.proofs.Standing.{stood_before}
use Rattle.snapshot_update.specs.declared.worker.Worker.{Worker}
use Rattle.snapshot_update.specs.Workers.{index_of, member_of}
use Rattle.snapshot_update.specs.Workers.{IsLentAs}
use Rattle.snapshot_update.proofs.Lending.{lent_left}
use Rattle.chain_law.specs.Lent.{AreDistinct, IsBackFrom, AreBackFrom, HaveLeft}
use Rattle.chain_law.proofs.Places.{from_set}

module _ {N C H G : ℕ} (vs ws : List (Worker N C H G)) (k : ℕ) (x y : Worker N C H G) (first r r' : Reader N C H G)
    (here : get_elem? vs k ≡ some x) (distinct : AreDistinct vs) (index : index_of y ≡ index_of x)
    (others : (p : ℕ) → k ≤ p → get_elem? ws p ≡ get_elem? vs p)
    (left : members_with r' ≡ without (is_worker (index_of x)) (members_with r)) where
  -- those behind it are lent still
  pub lent_still : ((p : ℕ) (w : Worker N C H G) → k ≤ p → get_elem? ws p ≡ some w → (m : Member) × IsLentAs m w r
      × IsWorkerAmong (index_of w) m (members_with first))
      → (p : ℕ) (w : Worker N C H G) → k + 1 ≤ p → get_elem? (set ws k y) p ≡ some w → (m : Member) × IsLentAs m w r'
      × IsWorkerAmong (index_of w) m (members_with first)
  lent_still lent p w le now = ⊎_elim (λ h. absurd (let e = h.0 in omega (arith, le, e)))
      (λ h. let t = lent p w (omega (arith, le)) h.1 in (
        t.0,
        lent_left w r r' t.0 t.1 (index_of x)
            (λ e. distinct k p x w (omega (arith, le)) here (sym (others p (omega (arith, le))) ∙ h.1) (sym e)) left,
        t.2,
      ))
      (from_set ws k p y w now)

  pub back_more : IsWorkerAmong (index_of x) (member_of y) (members_with first) → AreBackFrom k vs ws first
      → AreBackFrom (k + 1) vs (set ws k y) first
  back_more stood done p v w below its now = ⊎_elim
      (λ h. let same : x ≡ v = some-injective x v (sym here ∙ (ap (get_elem? vs) (sym h.0) ∙ its)) in
      subst (λ (u : Worker N C H G). IsBackFrom v u first) h.1
      (subst (λ (u : Worker N C H G). IsBackFrom u y first) same (record { index = index; stood = stood })))
      (λ h. done p v w (let n = h.0 in omega (arith, below, n)) its h.1)
      (from_set ws k p y w now)

module _ {N C H G : ℕ} (vs : List (Worker N C H G)) (k : ℕ) (x : Worker N C H G) (first r r' : Reader N C H G)
    (here : get_elem? vs k ≡ some x)
    (left : members_with r' ≡ without (is_worker (index_of x)) (members_with r)) where
  -- and one more has left
  pub left_more : HaveLeft k vs first r → HaveLeft (k + 1) vs first r'
  left_more done i m s =
      let b = stood_before i (index_of x) m (members_with r) (members_with r') left s in let t = done i m b.0 in (
        t.0,
        λ p w below at. dite (ℕ_discrete p k)
            (λ last same. b.1 (sym same ∙ ap index_of (some-injective w x (sym at ∙ (ap (get_elem? vs) last ∙ here)))))
            (λ other. t.1 p w (omega (arith, below, other)) at),
      )
