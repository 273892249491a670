use Rattle.std.proofs.Common.{◌≡◌, ℕ, ◌+◌, ◌-◌, ◌*◌, List, take, drop, get_or, inl, refl, sym, ap, ◌∙◌, arith}
use Rattle.dirgwako_c.specs.declared.geometry.TheConstants.{WORKERS, COUNTERS}
use Rattle.dirgwako_c.specs.Told.{place_of_histogram, totals_in}
use Rattle.dirgwako_c.proofs.Settled.{drop_both}
use Rattle.std.specs.Prelude.{slice_index}
use Rattle.std.proofs.lemmas.List.{get_or-drop}
use Rattle.dirgwako_c.proofs.numbers.dirgwako_c_histogram_totals.Goals as goal

-- where the buckets stand among all numbers, and among the totals
abbrev first : (slot : ℕ) → ℕ
first slot = 1 + WORKERS + COUNTERS + 27 * slot

word_at : (numbers : List ℕ) (slot word : ℕ)
    → get_or numbers (first slot + word) 0 ≡ slice_index (totals_in numbers) (place_of_histogram slot + word)
word_at numbers slot word = sym (get_or-drop (1 + WORKERS) numbers (place_of_histogram slot + word) 0
    ∙ ap (λ (k : ℕ). get_or numbers k 0) (omega arith))

pub returns : goal.returns
returns c =
    let numbers = c.args.numbers.now in let slot : ℕ = c.args.histogram.now.slot in
    let many : first slot + 25 - first slot ≡ 25 = omega arith in
    let there : place_of_histogram slot + (1 + WORKERS) ≡ first slot = omega arith in
    inl (
      refl,
      (c.if-numbers-ne-NUMBERS.false, c.if-numbers-histogram.false, c.if-histogram-ge-HISTOGRAMS.false),
      c.copy_from_slice.ensures.after ∙ (ap (λ (n : ℕ). take n (drop (first slot) numbers)) many
          ∙ ap (take 25) (ap (λ (n : ℕ). drop n numbers) (sym there) ∙ sym (drop_both (place_of_histogram slot) (1 + WORKERS)
          numbers))),
      word_at numbers slot 25,
      word_at numbers slot 26,
    )
