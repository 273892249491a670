-- Places of bytes that are filled from the front on.
use Rattle.std.specs.Prelude.{◌≡◌, ℕ, ◌+◌, ◌≤◌, List, [], ◌++◌, length, take}
use Rattle.std.proofs.Common.{refl, sym, ap, subst, ◌∙◌, add-zero, append_assoc, append-nil, length-append}
use Rattle.std.proofs.Math.Nat.{add_assoc, le_trans, le-add_right}

-- where there is room for them, these bytes stand after those that were there; there are as many places as before
pub record Fills (old new : List ℕ) (before after : ℕ) (bytes : List ℕ) : Type 0 where
  pub places : length new ≡ length old
  pub count : before + length bytes ≤ length old → after ≡ before + length bytes
  pub filled : before + length bytes ≤ length old → take after new ≡ take before old ++ bytes

-- where no bytes are filled in, the places and the count stay as they are
pub fills-nothing : (places : List ℕ) (n : ℕ) → Fills places places n n []
fills-nothing places n = record { places = refl; count = λ _. sym (add-zero n); filled = λ _. sym (append-nil (take n places)) }

-- some bytes, and then others, are filled as both together
pub fills-chain : (a b c : List ℕ) (i j k : ℕ) (xs ys : List ℕ) → Fills a b i j xs → Fills b c j k ys → Fills a c i k (xs ++ ys)
fills-chain a b c i j k xs ys first second =
    let lengths : length (xs ++ ys) ≡ length xs + length ys = length-append xs ys in
    let apart : i + length xs + length ys ≡ i + (length xs + length ys) = add_assoc i (length xs) (length ys) in
    let all : i + length (xs ++ ys) ≤ length a → i + length xs + length ys ≤ length a = λ room. subst (λ n. n ≤ length a)
    (sym apart) (subst (λ n. i + n ≤ length a) lengths room) in
    let start : i + length (xs ++ ys) ≤ length a → i + length xs ≤ length a =
    λ room. le_trans (le-add_right (i + length xs) (length ys)) (all room) in
    let then : i + length (xs ++ ys) ≤ length a → j + length ys ≤ length b = λ room.
    subst (λ n. n + length ys ≤ length b) (sym (first.count (start room)))
    (subst (λ n. i + length xs + length ys ≤ n) (sym first.places) (all room)) in
    record {
      places = second.places ∙ first.places;
      count = λ room. second.count (then room) ∙ ap (λ n. n + length ys) (first.count (start room)) ∙ apart
          ∙ ap (λ n. i + n) (sym lengths);
      filled = λ room. second.filled (then room) ∙ ap (λ l. l ++ ys) (first.filled (start room)) ∙ append_assoc (take i a) xs ys;
    }
