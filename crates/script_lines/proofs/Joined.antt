-- Words joined by a byte that none of them has.
use Rattle.std.proofs.Common.{◌≡◌, ◌≢◌, ℕ, false, cond, eqb, List, [], ◌∷◌, length, All, refl, sym, ap, ◌∙◌, subst, ⊎_elim, arith}
use Rattle.std.specs.List.{slice_split, onto_first, join_with_byte}
use Rattle.std.proofs.lemmas.Bool.{ne_eqb, eq-eqb}
use Rattle.std.proofs.lemmas.Bool.Decides.{eqb_tells}
use Rattle.std.proofs.lemmas.List.Elements.{All-nil, All-cons, All-head, All-tail, All-weaker}
use Rattle.std.proofs.lemmas.List.Splits.{slice_split_none, slice_split_at, length-slice_split}
use Rattle.script_lines.specs.Language.{Lacks}

pub none_pass : (c : ℕ) (word : List ℕ) → Lacks c word → All (λ b. eqb b c ≡ false) word
none_pass c word lacks = All-weaker (λ b. b ≢ c) (λ b. eqb b c ≡ false) (λ b other. ne_eqb b c other) word lacks

-- they are the parts at that byte
pub split_joined : (c : ℕ) (words : List (List ℕ)) → words ≢ [] → All (Lacks c) words
    → slice_split (λ b. eqb b c) (join_with_byte c words) ≡ words
split_joined c [] some lacks = absurd (some refl)
split_joined c (word ∷ []) some lacks = slice_split_none (λ b. eqb b c) word (none_pass c word (All-head (Lacks c) word [] lacks))
split_joined c (word ∷ next ∷ words) some lacks =
    slice_split_at (λ b. eqb b c) word c (join_with_byte c (next ∷ words))
    (none_pass c word (All-head (Lacks c) word (next ∷ words) lacks)) (eq-eqb c c refl)
    ∙ ap (λ ws. word ∷ ws) (split_joined c (next ∷ words) (λ e. cc e) (All-tail (Lacks c) word (next ∷ words) lacks))

-- there is a part
pub some_part : (c : ℕ) (text : List ℕ) → slice_split (λ b. eqb b c) text ≢ []
some_part c text e = omega (arith, length-slice_split (λ b. eqb b c) text, ap length e)

onto_lacks : (c b : ℕ) (parts : List (List ℕ)) → b ≢ c → All (Lacks c) parts → All (Lacks c) (onto_first b parts)
onto_lacks c b [] other lacks = All-cons (Lacks c) (b ∷ []) [] (All-cons (λ x. x ≢ c) b [] other (All-nil (λ x. x ≢ c))) lacks
onto_lacks c b (part ∷ parts) other lacks =
    All-cons (Lacks c) (b ∷ part) parts (All-cons (λ x. x ≢ c) b part other (All-head (Lacks c) part parts lacks))
    (All-tail (Lacks c) part parts lacks)

-- no part has the byte
pub parts_lack : (c : ℕ) (text : List ℕ) → All (Lacks c) (slice_split (λ b. eqb b c) text)
parts_lack c [] = All-cons (Lacks c) [] [] (All-nil (λ x. x ≢ c)) (All-nil (Lacks c))
parts_lack c (b ∷ bs) =
    ⊎_elim
    (λ yes. subst (λ t. All (Lacks c)
    (cond t ([] ∷ slice_split (λ b. eqb b c) bs) (onto_first b (slice_split (λ b. eqb b c) bs)))) (sym yes.0)
    (All-cons (Lacks c) [] (slice_split (λ b. eqb b c) bs) (All-nil (λ x. x ≢ c)) (parts_lack c bs)))
    (λ no. subst (λ t. All (Lacks c) (cond t ([] ∷ slice_split (λ b. eqb b c) bs) (onto_first b (slice_split (λ b. eqb b c) bs))))
    (sym no.0)
    (onto_lacks c b (slice_split (λ b. eqb b c) bs) no.1 (parts_lack c bs)))
    (eqb_tells b c)
