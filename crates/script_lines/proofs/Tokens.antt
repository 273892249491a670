-- Tokens and helps, and what is cut of them.
use Rattle.std.proofs.Common.{◌≡◌, ◌≢◌, ℕ, ◌<◌, ◌^◌, not, cond, ◌||◌, List, [], ◌∷◌, ◌++◌, Option, Some, None, decimal, refl, sym}
use Rattle.std.proofs.Common.{ap, ◌∙◌, subst, inl, inr, ⊎_elim, arith}
use Rattle.std.specs.Prelude.{option_and_then, ◌⊎◌}
use Rattle.std.specs.Option.{option_map_or}
use Rattle.std.proofs.lemmas.Bool.{or_parts, or_from, not-false, not_from_true}
use Rattle.script_lines.specs.Language.{IsToken, IsWriting}
use Rattle.script_lines.specs.Reading.{cut_of, number_written, is_empty, is_writing, token_of, helped, helped_of, numbered_of}
use Rattle.script_lines.proofs.Options.{none_or_some, bind_some, unless_some}
use Rattle.script_lines.proofs.Cut.{cut_found, cut_none, cut_parts, cut_whole}
use Rattle.script_lines.proofs.Numbers.{number_found, number_says, digits_lack}
use Rattle.script_lines.proofs.Writings.{writing_says, writing_found}
use Rattle.script_lines.proofs.Parts.{nonempty_says, nonempty_found}

-- a token with a blank after it
pub token_says : (text : List ℕ) (c : List ℕ × List ℕ) → token_of text ≡ Some c → IsToken c.0 × (text ≡ c.0 ++ 32 ∷ c.1)
unfolding token_of
token_says text c h =
    let cut = bind_some (λ (c : List ℕ × List ℕ). cond (is_empty c.0) None (Some c)) (cut_of text) c h in
    let kept = unless_some (is_empty cut.0.0) cut.0 c cut.2 in
    let parts = cut_parts text cut.0 cut.1 in
    subst (λ (c : List ℕ × List ℕ). IsToken c.0 × (text ≡ c.0 ++ 32 ∷ c.1)) kept.1 (
      (nonempty_says cut.0.0 kept.0, parts.1),
      parts.0,
    )

pub token_found : (token rest : List ℕ) → IsToken token → token_of (token ++ 32 ∷ rest) ≡ Some (token, rest)
unfolding token_of
token_found token rest is =
    ap (option_and_then (λ (c : List ℕ × List ℕ). cond (is_empty c.0) None (Some c))) (cut_found token rest is.1)
    ∙ ap (λ t. cond t None (Some (token, rest))) (nonempty_found token is.0)

-- a token, and then nothing, or a blank and the help
abbrev pub IsHelped : (text token help : List ℕ) → Type 0
IsHelped text token help = ((text ≡ token) × (help ≡ [])) ⊎ (text ≡ token ++ 32 ∷ help)

both_say : (token help : List ℕ) (c : List ℕ × List ℕ) → helped token help ≡ Some c → (token ≢ []) × IsWriting help
    × (c ≡ (token, help))
both_say token help c h =
    let kept = unless_some (is_empty token || not (is_writing help)) (token, help) c h in
    let tests = or_parts (is_empty token) (not (is_writing help)) kept.0 in
    (nonempty_says token tests.0, writing_says help (not-false (is_writing help) tests.1), sym kept.1)

pub helped_says : (text : List ℕ) (c : List ℕ × List ℕ) → helped_of text ≡ Some c → IsToken c.0 × IsWriting c.1
    × IsHelped text c.0 c.1
unfolding helped_of
helped_says text c h =
    let at : (o : Option (List ℕ × List ℕ)) → cut_of text ≡ o → option_map_or (λ (c : List ℕ × List ℕ). helped c.0 c.1) o
    (helped text []) ≡ Some c =
    λ o e. subst (λ o. option_map_or (λ (c : List ℕ × List ℕ). helped c.0 c.1) o (helped text []) ≡ Some c) e h in
    ⊎_elim
    (λ none.
    let both = both_say text [] c (at None none) in
    subst (λ (c : List ℕ × List ℕ). IsToken c.0 × IsWriting c.1 × IsHelped text c.0 c.1) (sym both.2)
    ((both.0, cut_whole text none), both.1, inl (refl, refl)))
    (λ some.
    let both = both_say some.0.0 some.0.1 c (at (Some some.0) some.1) in
    let parts = cut_parts text some.0 some.1 in
    subst (λ (c : List ℕ × List ℕ). IsToken c.0 × IsWriting c.1 × IsHelped text c.0 c.1) (sym both.2)
    ((both.0, parts.1), both.1, inr parts.0))
    (none_or_some (cut_of text))

both_found : (token help : List ℕ) → token ≢ [] → IsWriting help → helped token help ≡ Some (token, help)
both_found token help some is =
    ap (λ t. cond t None (Some (token, help)))
    (or_from (is_empty token) (not (is_writing help)) (nonempty_found token some)
    (not_from_true (is_writing help) (writing_found help is)))

pub helped_found : (text token help : List ℕ) → IsToken token → IsWriting help → IsHelped text token help
    → helped_of text ≡ Some (token, help)
unfolding helped_of
helped_found text token help is written (inl none) =
    ap helped_of none.0
    ∙ ap (λ o. option_map_or (λ (c : List ℕ × List ℕ). helped c.0 c.1) o (helped token [])) (cut_none token is.1)
    ∙ ap (helped token) (sym none.1)
    ∙ both_found token help is.0 written
helped_found text token help is written (inr some) =
    ap helped_of some
    ∙ ap (λ o. option_map_or (λ (c : List ℕ × List ℕ). helped c.0 c.1) o (helped (token ++ 32 ∷ help) []))
    (cut_found token help is.1)
    ∙ both_found token help is.0 written

-- a number with a blank after it
pub numbered_says : (text : List ℕ) (c : ℕ × List ℕ) → numbered_of text ≡ Some c → (c.0 < 2 ^ 64)
    × (text ≡ decimal c.0 ++ 32 ∷ c.1)
unfolding numbered_of
numbered_says text c h =
    let cut = bind_some (λ (c : List ℕ × List ℕ). option_and_then (λ n. Some (n, c.1)) (number_written c.0)) (cut_of text) c h in
    let number = bind_some (λ n. Some (n, cut.0.1)) (number_written cut.0.0) c cut.2 in
    let parts = cut_parts text cut.0 cut.1 in
    let says = number_says cut.0.0 number.0 number.1 in
    let same : (number.0, cut.0.1) ≡ c = cc (number.2) in
    subst (λ (c : ℕ × List ℕ). (c.0 < 2 ^ 64) × (text ≡ decimal c.0 ++ 32 ∷ c.1)) same (
      says.0,
      parts.0 ∙ ap (λ w. w ++ 32 ∷ cut.0.1) says.1,
    )

pub numbered_found : (n : ℕ) (rest : List ℕ) → n < 2 ^ 64 → numbered_of (decimal n ++ 32 ∷ rest) ≡ Some (n, rest)
unfolding numbered_of
numbered_found n rest small =
    ap (option_and_then (λ (c : List ℕ × List ℕ). option_and_then (λ n. Some (n, c.1)) (number_written c.0)))
    (cut_found (decimal n) rest (digits_lack 32 n (omega arith) small))
    ∙ ap (option_and_then (λ m. Some (m, rest))) (number_found (decimal n) n small refl)
