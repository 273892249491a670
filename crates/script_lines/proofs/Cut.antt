-- A text that is cut at its first blank.
use Rattle.std.proofs.Common.{◌≡◌, ◌≢◌, ℕ, ◌<◌, cond, List, [], ◌∷◌, ◌++◌, length, get_or, Option, Some, None, MatchOption}
use Rattle.std.proofs.Common.{option_map, Bor, refl, sym, ap, ◌∙◌, subst, ⊎_elim}
use Rattle.std.proofs.lemmas.Bool.{ne_eqb}
use Rattle.std.proofs.lemmas.Bool.Decides.{eqb_tells}
use Rattle.std.proofs.lemmas.List.Elements.{All-nil, All-cons, All-head, All-tail, All-from_get_or}
use Rattle.script_lines.specs.Language.{blank, Lacks}
use Rattle.script_lines.specs.Reading.{cut_of}

step : (b : ℕ) (bs : List ℕ) → b ≢ 32 → cut_of (b ∷ bs) ≡ option_map (λ (c : List ℕ × List ℕ). (b ∷ c.0, c.1)) (cut_of bs)
unfolding cut_of
step b bs other = ap (λ t. cond t (Some ([], bs)) (option_map (λ (c : List ℕ × List ℕ). (b ∷ c.0, c.1)) (cut_of bs)))
    (ne_eqb b 32 other)

pub cut_found : (word rest : List ℕ) → Lacks blank word → cut_of (word ++ 32 ∷ rest) ≡ Some (word, rest)
unfolding cut_of
cut_found [] rest lacks = refl
cut_found (b ∷ word) rest lacks =
    step b (word ++ 32 ∷ rest) (All-head (λ x. x ≢ 32) b word lacks)
    ∙ ap (option_map (λ (c : List ℕ × List ℕ). (b ∷ c.0, c.1))) (cut_found word rest (All-tail (λ x. x ≢ 32) b word lacks))

pub cut_none : (word : List ℕ) → Lacks blank word → cut_of word ≡ None
unfolding cut_of
cut_none [] lacks = refl
cut_none (b ∷ word) lacks =
    step b word (All-head (λ x. x ≢ 32) b word lacks)
    ∙ ap (option_map (λ (c : List ℕ × List ℕ). (b ∷ c.0, c.1))) (cut_none word (All-tail (λ x. x ≢ 32) b word lacks))

-- what is cut, joined again by the blank, is the text
abbrev pub IsCut : List ℕ → Option (List ℕ × List ℕ) → Type 0
IsCut text o = MatchOption o (Lacks blank text) (λ c. (text ≡ c.0 ++ 32 ∷ c.1) × Lacks blank c.0)

one_more : (b : ℕ) (bs : List ℕ) (o : Option (List ℕ × List ℕ)) → b ≢ 32 → IsCut bs o
    → IsCut (b ∷ bs) (option_map (λ (c : List ℕ × List ℕ). (b ∷ c.0, c.1)) o)
one_more b bs None other lacks = All-cons (λ x. x ≢ 32) b bs other lacks
one_more b bs (Some c) other is = (ap (λ xs. b ∷ xs) is.0, All-cons (λ x. x ≢ 32) b c.0 other is.1)

pub cut_says : (text : List ℕ) → IsCut text (cut_of text)
unfolding cut_of
cut_says [] = All-nil (λ x. x ≢ 32)
cut_says (b ∷ bs) =
    ⊎_elim
    (λ yes. subst (λ t. IsCut (b ∷ bs)
    (cond t (Some ([], bs)) (option_map (λ (c : List ℕ × List ℕ). (b ∷ c.0, c.1)) (cut_of bs)))) (sym yes.0)
    (ap (λ x. x ∷ bs) yes.1, All-nil (λ x. x ≢ 32)))
    (λ no. subst (λ t. IsCut (b ∷ bs) (cond t (Some ([], bs)) (option_map (λ (c : List ℕ × List ℕ). (b ∷ c.0, c.1)) (cut_of bs))))
    (sym no.0) (one_more b bs (cut_of bs) no.1 (cut_says bs)))
    (eqb_tells b 32)

pub cut_parts : (text : List ℕ) (c : List ℕ × List ℕ) → cut_of text ≡ Some c → (text ≡ c.0 ++ 32 ∷ c.1) × Lacks blank c.0
cut_parts text c is = subst (IsCut text) is (cut_says text)

pub cut_whole : (text : List ℕ) → cut_of text ≡ None → Lacks blank text
cut_whole text is = subst (IsCut text) is (cut_says text)

-- what `split_once` gives
pub cut_is : (text : List ℕ) (r : Option (Bor (List ℕ) × Bor (List ℕ)))
    → MatchOption r ((i : ℕ) → i < length text → get_or text i 0 ≢ 32) (λ x. (text ≡ x.0.now ++ 32 ∷ x.1.now)
    × ((i : ℕ) → i < length x.0.now → get_or x.0.now i 0 ≢ 32))
    → option_map (λ (c : Bor (List ℕ) × Bor (List ℕ)). (c.0.now, c.1.now)) r ≡ cut_of text
cut_is text None h = sym (cut_none text (All-from_get_or (λ x. x ≢ 32) text 0 h))
cut_is text (Some x) h = sym (ap cut_of h.0 ∙ cut_found x.0.now x.1.now (All-from_get_or (λ b. b ≢ 32) x.0.now 0 h.1))
