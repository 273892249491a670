-- Six counters of a row, by their slots, which rise: what counted replies add to them together.
use Rattle.std.proofs.Common.{◌≡◌, ◌⊎◌, ℕ, ◌+◌, ◌<◌, List, [], ◌∷◌, ◌++◌, ◌∙◌, arith}
use Rattle.std.proofs.lemmas.Bool.Decides.{nat_tests}
use Rattle.std.proofs.lemmas.List.Sums.{sum_by-append}
use Rattle.ledger_core.specs.declared.op.Op.{Op}
use Rattle.ledger_core.specs.declared.op.Op.TheVariants.{Inc, Observe}
use Rattle.ledger_core.specs.Ops.{only, part, sum_ops}

-- the words of a histogram are behind those of all counters
no_counter : (hist place value k : ℕ) → k < 64 → part 64 8 (Observe hist place value) k ≡ 0
no_counter hist place value k inside = grind (arith, nat_tests, inside)

module _ (a b c d e f : ℕ) (ab : a < b) (bc : b < c) (cd : c < d) (de : d < e) (ef : e < f) (inside : f < 64) where
  abbrev pub of_six : (ℕ → ℕ) → ℕ
  of_six g = g a + g b + g c + g d + g e + g f

  pub six_same : (g h : ℕ → ℕ) → ((k : ℕ) → k < 64 → g k ≡ h k) → of_six g ≡ of_six h
  six_same g h same =
      omega (
        arith,
        same a (omega arith),
        same b (omega arith),
        same c (omega arith),
        same d (omega arith),
        same e (omega arith),
        same f inside,
      )

  -- of two lists
  pub six_both : (xs ys : List Op) → of_six (sum_ops 64 8 (xs ++ ys)) ≡ of_six (sum_ops 64 8 xs) + of_six (sum_ops 64 8 ys)
  six_both xs ys =
      let both : (k : ℕ) → sum_ops 64 8 (xs ++ ys) k ≡ sum_ops 64 8 xs k + sum_ops 64 8 ys k =
      λ k. sum_by-append (λ op. part 64 8 op k) xs ys in
      omega (arith, both a, both b, both c, both d, both e, both f)

  -- 1 at one of them
  pub one_of_six : (slot : ℕ) → (slot ≡ a) ⊎ (slot ≡ b) ⊎ (slot ≡ c) ⊎ (slot ≡ d) ⊎ (slot ≡ e) ⊎ (slot ≡ f)
      → of_six (only slot 1) ≡ 1
  one_of_six slot is = grind (arith, nat_tests, is)

  -- a list that counts a reply: its observation stands elsewhere
  pub six_list : (slot hist place value : ℕ) → of_six (only slot 1) ≡ 1
      → of_six (sum_ops 64 8 (Inc slot 1 ∷ Observe hist place value ∷ [])) ≡ 1
  six_list slot hist place value one =
      let ops = Inc slot 1 ∷ Observe hist place value ∷ [] in
      let each : (k : ℕ) → k < 64 → sum_ops 64 8 ops k ≡ only slot 1 k = λ k low. omega (
        arith,
        no_counter hist place value k low,
      ) in
      six_same (sum_ops 64 8 ops) (only slot 1) each ∙ one
