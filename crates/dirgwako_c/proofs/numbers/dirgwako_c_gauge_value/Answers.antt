use Rattle.std.proofs.Common.{◌≡◌, ℕ, ◌+◌, ◌*◌, ◌<◌, ◌≤◌, List, get_or, ⊎_elim, inl, inr, refl, sym, ap, subst, ◌∙◌, arith}
use Rattle.std.specs.Prelude.{◌-ℤ◌, pos, slice_index}
use Rattle.std.proofs.lemmas.List.{get_or-drop}
use Rattle.dirgwako_c.specs.Told.{place_of_gauge, totals_in}
use Rattle.dirgwako_c.specs.declared.geometry.TheConstants.{WORKERS, COUNTERS, HISTOGRAMS}
use Rattle.dirgwako_c.proofs.numbers.dirgwako_c_gauge_value.Goals as goal

-- where the ups stand among all numbers
abbrev place : (slot : ℕ) → ℕ
place slot = 1 + WORKERS + COUNTERS + 27 * HISTOGRAMS + 2 * slot

up_at : (numbers : List ℕ) (slot : ℕ) → slice_index (totals_in numbers) (place_of_gauge slot) ≡ get_or numbers (place slot) 0
up_at numbers slot = get_or-drop (1 + WORKERS) numbers (place_of_gauge slot) 0 ∙ ap (λ (k : ℕ). get_or numbers k 0) (omega arith)

down_at : (numbers : List ℕ) (slot : ℕ) → slice_index (totals_in numbers) (place_of_gauge slot + 1) ≡ get_or numbers (place slot +
    1) 0
down_at numbers slot = get_or-drop (1 + WORKERS) numbers (place_of_gauge slot + 1) 0 ∙ ap (λ (k : ℕ). get_or numbers k 0) (omega
    arith)

pub returns-then-up-ge-LIMIT : goal.returns-then-up-ge-LIMIT
returns-then-up-ge-LIMIT c =
    let numbers = c.args.numbers.now in let slot = c.args.gauge.now.slot in
    inr (
      inr (
        refl,
        (c.if-numbers-ne-NUMBERS.false, c.if-numbers-gauge.false, c.if-gauge-ge-GAUGES.false),
        ⊎_elim (λ h. inl (subst (λ (n : ℕ). 9007199254740992 ≤ n) (sym (up_at numbers slot)) h))
            (λ h. inr (subst (λ (n : ℕ). 9007199254740992 ≤ n) (sym (down_at numbers slot)) h.1)) c.then-up-ge-LIMIT.either,
      ),
      refl,
    )

pub returns : goal.returns
returns c =
    let numbers = c.args.numbers.now in let slot = c.args.gauge.now.slot in
    inl (
      refl,
      (c.if-numbers-ne-NUMBERS.false, c.if-numbers-gauge.false, c.if-gauge-ge-GAUGES.false),
      subst (λ (n : ℕ). n < 9007199254740992) (sym (up_at numbers slot)) (omega arith),
      subst (λ (n : ℕ). n < 9007199254740992) (sym (down_at numbers slot)) (omega arith),
      c.tell_difference.ensures ∙ (ap (λ (n : ℕ). pos n -ℤ pos (get_or numbers (place slot + 1) 0)) (sym (up_at numbers slot))
          ∙ ap (λ (n : ℕ). pos (slice_index (totals_in numbers) (place_of_gauge slot)) -ℤ pos n) (sym (down_at numbers slot))),
    )
