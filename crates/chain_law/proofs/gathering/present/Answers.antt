use Rattle.std.proofs.Common.{◌≡◌, ⊎_elim, ℕ, true, false, sym, ap, ◌∙◌, arith}
use Rattle.std.proofs.lemmas.Bool.{true≢false}
use mathlib.Core.Logic.{dite}
use native.Mathlib.Decide.{ℕ_discrete}
use mathlib.Core.Option.{some, some-injective}
use lib.ListN.{get_elem?}
use Rattle.snapshot_update.specs.Workers.{index_of}
use Rattle.register_rule.proofs.Words.{there, at_below}
use Rattle.chain_law.proofs.Places.{from_set}
use Rattle.chain_law.proofs.gathering.present.Goals as goal

pub loop-k-init : goal.loop-k-init
loop-k-init g c = λ i lt. (
  (λ e. absurd (true≢false (some-injective true false (sym e ∙ c.requires.none i lt)))),
  λ _ p w none. absurd (omega (arith, none)),
)

pub loop-k-preserved : goal.loop-k-preserved
loop-k-preserved g c = λ i lt.
    let marks = c.loop-k.marks in let at : ℕ = c.index.result in let k : ℕ = c.loop-k.k in let ws = c.args.workers.now in
    let w = c.index-workers-k.result in
    let inv = c.loop-k.invariant i lt in
    let here : get_elem? ws k ≡ some w = there ws k w c.loop-k-test.true ∙ ap some (sym c.index-workers-k.is) in (
      (λ e. ⊎_elim (λ h. (k, w, here, sym c.index.ensures.index ∙ sym h.0)) (λ h. inv.0 h.1) (from_set marks at i true true e)),
      λ e p v below its same. ⊎_elim (λ h. true≢false h.1) (λ h. dite (ℕ_discrete p k)
          (λ last. h.0 (sym same ∙ (ap index_of (some-injective v w (sym its ∙ (ap (get_elem? ws) last ∙ here)))
          ∙ sym c.index.ensures.index)))
          (λ other. inv.1 h.1 p v (omega (arith, below, other)) its same))
          (from_set marks at i true false e),
    )

pub returns : goal.returns
returns g c = record {
  marks = λ i lt. (
    (c.loop-k.invariant i lt).0,
    λ e has. (c.loop-k.invariant i lt).1 e has.0 has.1 (let h = at_below c.args.workers.now has.0 has.1 has.2 in
        let f = c.loop-k-test.false in omega (arith, h, f)) has.2 has.3,
  );
}
