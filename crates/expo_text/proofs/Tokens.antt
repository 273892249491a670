-- Texts whose bytes all pass a test, up to a byte that fails it.
use Rattle.std.proofs.Common.{◌≡◌, ℕ, Bool, true, false, ◌==◌, IsTrue, List, [], ◌∷◌, ◌++◌, length, take, drop, take_while, All}
use Rattle.std.proofs.Common.{refl, ap, ◌∙◌, eqb-true, arith}
use Rattle.std.specs.Prelude.{⊤}
use Rattle.std.specs.List.{prefix_len, list_all}
use Rattle.std.proofs.Math.Seq.{take-append_seam, drop-append_seam}
use Rattle.std.proofs.lemmas.Bool.{and_parts, both_ways, false_from_ne_true}
use Rattle.std.proofs.lemmas.List.Elements.{All-head, All-tail, All-cons, All-nil}
use Rattle.expo_text.proofs.Walked.{drop_while}

-- each byte passes the test
abbrev pub Each : (ℕ → Bool) → List ℕ → Type 0
Each p [] = ⊤
Each p (b ∷ bs) = (p b ≡ true) × Each p bs

-- the text is empty, or its first byte fails the test
abbrev pub Stops : (ℕ → Bool) → List ℕ → Type 0
Stops p [] = ⊤
Stops p (b ∷ bs) = p b ≡ false

-- a fixed text is tested by computing
pub each_of : (p : ℕ → Bool) (xs : List ℕ) → list_all p xs ≡ true → Each p xs
each_of p [] h = tt
each_of p (x ∷ xs) h = let parts = and_parts (p x) (list_all p xs) h in (parts.0, each_of p xs parts.1)

-- two texts whose bytes pass, joined
pub each_append : (p : ℕ → Bool) (xs ys : List ℕ) → Each p xs → Each p ys → Each p (xs ++ ys)
each_append p [] ys h k = k
each_append p (x ∷ xs) ys h k = (h.0, each_append p xs ys h.1 k)

-- a test that lets through more
pub each_weaker : (p q : ℕ → Bool) → ((b : ℕ) → p b ≡ true → q b ≡ true) → (xs : List ℕ) → Each p xs → Each q xs
each_weaker p q more [] h = tt
each_weaker p q more (x ∷ xs) h = (more x h.0, each_weaker p q more xs h.1)

-- the same, from the facts by index
pub each_from_All : (p : ℕ → Bool) (xs : List ℕ) → All (λ b. IsTrue (p b)) xs → Each p xs
each_from_All p [] h = tt
each_from_All p (x ∷ xs) h =
    (All-head (λ b. IsTrue (p b)) x xs h, each_from_All p xs (All-tail (λ b. IsTrue (p b)) x xs h))

-- bytes that pass one test all fail another, as facts by index
pub all_fail : (p q : ℕ → Bool) → ((b : ℕ) → p b ≡ true → q b ≡ false) → (xs : List ℕ) → Each p xs → All (λ b. q b ≡ false) xs
all_fail p q other [] h = All-nil (λ b. q b ≡ false)
all_fail p q other (x ∷ xs) h = All-cons (λ b. q b ≡ false) x xs (other x h.0) (all_fail p q other xs h.1)

-- a byte that passes a test is no byte that fails it
pub other_byte : (p : ℕ → Bool) (b c : ℕ) → p c ≡ false → p b ≡ true → (b == c) ≡ false
other_byte p b c fails passes =
    false_from_ne_true (b == c) (λ same. both_ways (p b) (ap p (eqb-true b c same) ∙ fails) passes)

-- nothing passes at a text that stops at once
prefix_stops : (p : ℕ → Bool) (ys : List ℕ) → Stops p ys → prefix_len p ys ≡ 0
prefix_stops p [] h = refl
prefix_stops p (y ∷ ys) h = rw h refl

-- as many bytes pass as stand before the stop
prefix_all : (p : ℕ → Bool) (xs ys : List ℕ) → Each p xs → Stops p ys → prefix_len p (xs ++ ys) ≡ length xs
prefix_all p [] ys h k = prefix_stops p ys k
prefix_all p (x ∷ xs) ys h k = rw h.0 (let rest = prefix_all p xs ys h.1 k in omega arith)

-- what is taken while the test passes
pub take_while_all : (p : ℕ → Bool) (xs ys : List ℕ) → Each p xs → Stops p ys → take_while p (xs ++ ys) ≡ xs
take_while_all p xs ys h k = ap (λ n. take n (xs ++ ys)) (prefix_all p xs ys h k) ∙ take-append_seam xs ys

-- what is left where the test first fails
pub drop_while_all : (p : ℕ → Bool) (xs ys : List ℕ) → Each p xs → Stops p ys → drop_while p (xs ++ ys) ≡ ys
drop_while_all p xs ys h k = ap (λ n. drop n (xs ++ ys)) (prefix_all p xs ys h k) ∙ drop-append_seam xs ys
