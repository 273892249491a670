use Rattle.std.proofs.Common.{◌≡◌, ◌≢◌, ◌++◌, List, ℕ, Some, None, string_bytes, ap, ◌∙◌, sym, subst, lit<, rules}
use Rattle.std.proofs.lemmas.Str.Pattern.{split_parts}
use Rattle.std.proofs.lemmas.List.Elements.{All-from_get_or}
use Rattle.script_lines.specs.Language.{Lacks, Writes}
use Rattle.script_lines.proofs.Writings.{SaidSoFar, escape_left, said_more, said_all, writes_alone}
use Rattle.script_lines.proofs.writing.unescape.Goals as goal

pub cut_escape-requires : goal.cut_escape-requires
cut_escape-requires c =
    let parts = split_parts 92 c.loop-plain.rest.now (Some (c.in-Some.plain, c.in-Some.after)) c.in-Some.ensures.cases
    (lit< tt) in
    escape_left c.args.written.now c.loop-plain.rest.now (string_bytes c.loop-plain.text) c.in-Some.plain.now c.in-Some.after.now
    c.loop-plain.invariant.1 parts.0
    (All-from_get_or (λ b. b ≢ 92) c.in-Some.plain.now 0 parts.1)

pub loop-plain-preserved : goal.loop-plain-preserved
loop-plain-preserved c =
    let parts = split_parts 92 c.loop-plain.rest.now (Some (c.in-Some.plain, c.in-Some.after)) c.in-Some.ensures.cases
    (lit< tt) in
    let said = c.cut_escape.result.0.now in
    let more = c.cut_escape.result.1.now in
    let both : string_bytes c.push_str-in-Some.new.self ≡ (string_bytes c.loop-plain.text ++ c.in-Some.plain.now) ++ said =
    c.in_ok-push_str-2.ensures.bytes ∙ ap (λ (t : List ℕ). t ++ said) c.in_ok-push_str.ensures.bytes in (
      search rules,
      subst (SaidSoFar c.args.written.now more) (sym both)
          (said_more c.args.written.now c.loop-plain.rest.now (string_bytes c.loop-plain.text) c.in-Some.plain.now
          c.in-Some.after.now said more c.loop-plain.invariant.1 parts.0
          (All-from_get_or (λ b. b ≢ 92) c.in-Some.plain.now 0 parts.1) c.cut_escape.ensures.escape),
    )

pub returns-clause-text : goal.returns-clause-text
returns-clause-text c =
    let none = split_parts 92 c.loop-plain.rest.now None c.in_default.ensures.cases (lit< tt) in
    let lacks : Lacks 92 c.loop-plain.rest.now = All-from_get_or (λ b. b ≢ 92) c.loop-plain.rest.now 0 none in
    subst (λ (t : List ℕ). Writes t c.args.written.now) (sym c.in_ok-push_str-3.ensures.bytes)
    (said_all c.args.written.now c.loop-plain.rest.now (string_bytes c.loop-plain.text) c.loop-plain.invariant.1 lacks)

pub returns-clause-only : goal.returns-clause-only
returns-clause-only c = λ other writes.
    let none = split_parts 92 c.loop-plain.rest.now None c.in_default.ensures.cases (lit< tt) in
    let lacks : Lacks 92 c.loop-plain.rest.now = All-from_get_or (λ b. b ≢ 92) c.loop-plain.rest.now 0 none in
    let is = said_all c.args.written.now c.loop-plain.rest.now (string_bytes c.loop-plain.text) c.loop-plain.invariant.1 lacks in
    writes_alone (string_bytes c.loop-plain.text ++ c.loop-plain.rest.now) other c.args.written.now is writes
    ∙ sym c.in_ok-push_str-3.ensures.bytes
