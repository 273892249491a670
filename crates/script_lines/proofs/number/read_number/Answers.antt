use Rattle.std.proofs.Common.{◌≡◌, ℕ, List, true, nat_eq, sym, subst, ◌∙◌, rules}
use Rattle.std.proofs.lemmas.Bool.{true≢false}
use Rattle.std.proofs.lemmas.Cmp.{nat_list_eq_equiv}
use Rattle.std.proofs.lemmas.Fmt.{parse-decimal}
use Rattle.std.specs.Cmp.Lexicographic.{pointwise, same_text}
use Rattle.script_lines.proofs.Numbers.{number_found, number_none}
use Rattle.script_lines.proofs.number.read_number.Goals as goal

-- a number that the text spells is the one that was parsed
pub returns-in_default : goal.returns-in_default
returns-in_default c =
    number_none c.args.text.now (λ n fits is. absurd (cc (parse-decimal 64 n _ _ fits fits is c.parse.ensures.value.0)))

pub returns-then-eq : goal.returns-then-eq
returns-then-eq c =
    let same : c.args.text.now ≡ c.format.result.now = sym (same_text c.format.result.now c.args.text.now c.if-eq.ensures) in
    sym (number_found c.args.text.now c.in-Ok.number (search rules) (same ∙ c.format.ensures.text))

pub returns-else-eq : goal.returns-else-eq
returns-else-eq c =
    number_none c.args.text.now (λ n fits is.
    let read = parse-decimal 64 n _ _ fits fits is c.parse.ensures.value.0 in
    let same : c.format.result.now ≡ c.args.text.now = cc is in
    let equal : pointwise nat_eq c.format.result.now c.args.text.now ≡ true =
    subst (λ (t : List ℕ). pointwise nat_eq c.format.result.now t ≡ true) same (nat_list_eq_equiv.refl c.format.result.now) in
    absurd (true≢false (sym equal ∙ sym c.if-eq.ensures)))
