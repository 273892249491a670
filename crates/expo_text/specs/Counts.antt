-- Counts of bytes in a word of 64 bits.
use Rattle.std.specs.Prelude.{◌≡◌, ℕ, ◌+◌, ◌<◌, ◌^◌, List, ◌++◌, length}
use Rattle.std.proofs.Common.{sym, ap, subst, ◌∙◌, add-zero, length-append}
use Rattle.std.proofs.Math.Nat.{add_assoc, le-add_right, lt_of_le_of_lt}

-- a count rises by `n`, unless a word cannot hold that
abbrev pub Counts : (old new n : ℕ) → Type 0
Counts old new n = old + n < 2 ^ 64 → new ≡ old + n

-- a count to which nothing is added stays as it is
pub counts-none : (a : ℕ) → Counts a a 0
counts-none a fits = sym (add-zero a)

-- a count that rises by `n` and then by `m` rises by both together
counts-both : (a b c n m : ℕ) → Counts a b n → Counts b c m → Counts a c (n + m)
counts-both a b c n m first second fits =
    let apart : a + n + m ≡ a + (n + m) = add_assoc a n m in
    let all : a + n + m < 2 ^ 64 = subst (λ k. k < 2 ^ 64) (sym apart) fits in
    let start : b ≡ a + n = first (lt_of_le_of_lt (le-add_right (a + n) m) all) in
    let end : c ≡ b + m = second (subst (λ k. k + m < 2 ^ 64) (sym start) all) in
    end ∙ ap (λ k. k + m) start ∙ apart

-- a count of the bytes of one text, and then of another, is that of both together
pub counts-more : (a b c : ℕ) (xs ys : List ℕ) → Counts a b (length xs) → Counts b c (length ys) → Counts a c (length (xs ++ ys))
counts-more a b c xs ys first second =
    subst (λ n. Counts a c n) (sym (length-append xs ys)) (counts-both a b c (length xs) (length ys) first second)
