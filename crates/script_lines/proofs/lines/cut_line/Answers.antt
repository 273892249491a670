use Rattle.std.proofs.Common.{◌≡◌, ◌≢◌, ℕ, inl, inr, List, [], ◌∷◌, ◌++◌, length, Option, Some, None, Result, Ok, Err}
use Rattle.std.proofs.Common.{MatchOption, OnErr, sym, ap, subst, rules}
use Rattle.std.specs.Io.KnownBytes.{Keeps, Consumes, IsAtEnd}
use Rattle.std.proofs.KnownBytes.{Consumes-trans, Consumes-kept}
use Rattle.std.proofs.lemmas.List.{nil_from_length}
use Rattle.std.proofs.lemmas.List.Elements.{All-push}
use Rattle.script_lines.specs.Language.{Lacks}
use Rattle.script_lines.proofs.lines.cut_line.Goals as goal

-- what the next byte says of a reader that has m left, and n after it
abbrev Gives : (m n : Option (List ℕ)) → Option ℕ → Type 0
Gives m n byte = MatchOption byte (Keeps m n × IsAtEnd n) (λ b. Consumes m n (b ∷ []))

took_byte : (a m n : Option (List ℕ)) (line : List ℕ) (byte : Option ℕ) (b : ℕ) → Consumes a m line → Gives m n byte
    → byte ≡ Some b → Consumes a n (line ++ b ∷ [])
took_byte a m n line byte b took gives is = Consumes-trans a m n line (b ∷ []) took (subst (Gives m n) is gives)

took_last : (a m n : Option (List ℕ)) (line : List ℕ) (byte : Option ℕ) → Consumes a m line → Gives m n byte → byte ≡ None
    → Consumes a n line × IsAtEnd n
took_last a m n line byte took gives is = let ends = subst (Gives m n) is gives in (Consumes-kept a m n line took ends.0, ends.1)

took_none : (a n : Option (List ℕ)) → Consumes a n [] → Keeps a n
took_none None n took = tt
took_none (Some x) None took = absurd took
took_none (Some x) (Some y) took = sym took

on_err : {T E : Type 0} {X : Type 0} (r : Result T E) → X → OnErr r X
on_err (Ok x) h = tt
on_err (Err e) h = h

pub loop-reader-preserved : goal.loop-reader-preserved
loop-reader-preserved g c =
    let r = g.R.Read.remaining in let inv = c.loop-reader.invariant in let line = c.loop-reader.line.items in
    let items = sym c.push_reserved.ensures.items in
    record {
      room = search rules;
      short = search rules;
      whole = subst (Lacks 10) items (All-push (λ b. b ≢ 10) line c.in-Some.byte inv.whole c.in-Some.byte-test.1);
      took = subst (Consumes (r c.args.reader.now) (r c.read_byte.new.reader)) items
          (took_byte (r c.args.reader.now) (r c.loop-reader.reader) (r c.read_byte.new.reader) line c.in_ok-read_byte.field-0
          c.in-Some.byte inv.took c.in_ok-read_byte.ensures.byte c.in-Some.is);
    }

pub returns-in-Some-eq10-clause-ok : goal.returns-in-Some-eq10-clause-ok
returns-in-Some-eq10-clause-ok g c =
    let r = g.R.Read.remaining in let line = c.loop-reader.line.items in
    inl (subst (λ (b : ℕ). Consumes (r c.args.reader.now) (r c.read_byte.new.reader) (line ++ b ∷ [])) c.in-Some-eq10.field-0-test
    (took_byte (r c.args.reader.now) (r c.loop-reader.reader) (r c.read_byte.new.reader) line c.in_ok-read_byte.field-0
    c.in-Some-eq10.field-0
    c.loop-reader.invariant.took c.in_ok-read_byte.ensures.byte c.in-Some-eq10.is))

pub returns-in_err-read_byte-clause-err : goal.returns-in_err-read_byte-clause-err
returns-in_err-read_byte-clause-err g c =
    let r = g.R.Read.remaining in
    on_err c.from_residual.result (Consumes-kept (r c.args.reader.now) (r c.loop-reader.reader)
    (r c.read_byte.new.reader) c.loop-reader.line.items c.loop-reader.invariant.took c.in_err-read_byte.ensures.err)

pub returns-in_err-read_byte-2-clause-err : goal.returns-in_err-read_byte-2-clause-err
returns-in_err-read_byte-2-clause-err g c =
    let r = g.R.Read.remaining in
    on_err c.from_residual-in_err-read_byte-2.result
    (Consumes-kept (r c.args.reader.now) (r c.loop-reader.reader) (r c.read_byte-2.new.reader) c.loop-reader.line.items
    c.loop-reader.invariant.took c.in_err-read_byte-2.ensures.err)

pub returns-in-None-clause-ok : goal.returns-in-None-clause-ok
returns-in-None-clause-ok g c =
    let r = g.R.Read.remaining in let line = c.loop-reader.line.items in let inv = c.loop-reader.invariant in
    let last = took_last (r c.args.reader.now) (r c.loop-reader.reader) (r c.read_byte.new.reader) line c.in_ok-read_byte.field-0
    inv.took c.in_ok-read_byte.ensures.byte c.in-None.is in
    let zero : length line ≡ 0 = search rules in let empty = nil_from_length line zero in (
      empty,
      took_none (r c.args.reader.now) (r c.read_byte.new.reader)
          (subst (Consumes (r c.args.reader.now) (r c.read_byte.new.reader)) empty last.0),
      last.1,
    )

pub returns-in-None-2-clause-ok : goal.returns-in-None-2-clause-ok
returns-in-None-2-clause-ok g c =
    let r = g.R.Read.remaining in let line = c.loop-reader.line.items in let inv = c.loop-reader.invariant in
    let last = took_last (r c.args.reader.now) (r c.loop-reader.reader) (r c.read_byte.new.reader) line c.in_ok-read_byte.field-0
    inv.took c.in_ok-read_byte.ensures.byte c.in-None-2.is in
    let some : length line ≡ 0 → ⊥ = search rules in
    inr (λ e. some (ap (λ (l : List ℕ). length l) e), last.0, last.1)
