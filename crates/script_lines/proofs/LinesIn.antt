-- The lines of bytes, cut off one after another.
use Rattle.std.proofs.Common.{◌≡◌, ◌≢◌, ℕ, eqb, cond, List, [], ◌∷◌, ◌++◌, Option, Some, None, Result, Ok, Err, IfOk, refl, sym}
use Rattle.std.proofs.Common.{ap, ◌∙◌, inl, inr, subst, ⊎_elim, append_assoc, append-nil}
use Rattle.std.specs.List.{slice_split}
use Rattle.std.specs.Io.KnownBytes.{Keeps}
use Rattle.std.proofs.lemmas.List.Splits.{slice_split_none, slice_split_at}
use Rattle.script_lines.specs.declared.lines.Next.{Next}
use Rattle.script_lines.specs.declared.lines.Next.TheVariants.{Line, TooLong, End}
use Rattle.script_lines.specs.Language.{Lacks}
use Rattle.script_lines.specs.Cuts.{Cuts, without_empty_end, lines_in, TakesLine}
use Rattle.script_lines.proofs.Joined.{none_pass, some_part}
use Rattle.script_lines.proofs.Parts.{nonempty_found}

one_before : (line : List ℕ) (parts : List (List ℕ)) → parts ≢ []
    → without_empty_end (line ∷ parts) ≡ line ∷ without_empty_end parts
one_before line [] some = absurd (some refl)
one_before line (part ∷ parts) some = refl

with_feed : (line rest : List ℕ) → Lacks 10 line → lines_in (line ++ 10 ∷ rest) ≡ line ∷ lines_in rest
with_feed line rest lacks =
    ap without_empty_end (slice_split_at (λ b. eqb b 10) line 10 rest (none_pass 10 line lacks) refl)
    ∙ one_before line (slice_split (λ b. eqb b 10) rest) (some_part 10 rest)

last_line : (line : List ℕ) → line ≢ [] → Lacks 10 line → lines_in line ≡ line ∷ []
last_line line some lacks =
    ap without_empty_end (slice_split_none (λ b. eqb b 10) line (none_pass 10 line lacks))
    ∙ ap (λ t. cond t [] (line ∷ [])) (nonempty_found line some)

takes : (old new : Option (List ℕ)) (line : List ℕ) (next : Next) → Lacks 10 line → Cuts old new line next
    → TakesLine old new line next
takes None new line next lacks cuts = tt
takes (Some xs) None line next lacks cuts = tt
takes (Some xs) (Some ys) line Line lacks (inl whole) =
    ap lines_in (whole ∙ append_assoc line (10 ∷ []) ys) ∙ with_feed line ys lacks
takes (Some xs) (Some ys) line Line lacks (inr last) =
    ap lines_in (last.1 ∙ ap (λ r. line ++ r) last.2 ∙ append-nil line) ∙ last_line line last.0 lacks
    ∙ ap (λ r. line ∷ lines_in r) (sym last.2)
takes (Some xs) (Some ys) line TooLong lacks cuts = tt
takes (Some xs) (Some ys) line End lacks cuts = ap lines_in (sym cuts.1 ∙ cuts.2)

pub takes_line : {E : Type 0} (old new : Option (List ℕ)) (line : List ℕ) (r : Result Next E) → Lacks 10 line
    → IfOk r (λ next. Cuts old new line next) → IfOk r (λ next. TakesLine old new line next)
takes_line old new line (Ok next) lacks cuts = takes old new line next lacks cuts
takes_line old new line (Err e) lacks cuts = tt

-- these are the lines that were cut of the bytes, of which the rest is not read yet
pub record AreCut (bytes : List ℕ) (unread : Option (List ℕ)) (cut : List (List ℕ)) : Type 0 where
  pub left : List ℕ
  pub is : unread ≡ Some left
  pub joined : cut ++ lines_in left ≡ lines_in bytes

pub cut_none : (bytes : List ℕ) (unread : Option (List ℕ)) → Keeps (Some bytes) unread → AreCut bytes unread []
cut_none bytes None kept = absurd kept
cut_none bytes (Some left) kept = record { left = left; is = refl; joined = ap lines_in kept }

more : (bytes left : List ℕ) (new : Option (List ℕ)) (cut : List (List ℕ)) (line : List ℕ) → cut ++ lines_in left ≡ lines_in bytes
    → Cuts (Some left) new line Line → TakesLine (Some left) new line Line → AreCut bytes new (cut ++ line ∷ [])
more bytes left None cut line joined cuts takes = ⊎_elim (λ whole. absurd whole) (λ last. absurd last.1) cuts
more bytes left (Some rest) cut line joined cuts takes =
    record {
      left = rest;
      is = refl;
      joined = append_assoc cut (line ∷ []) (lines_in rest) ∙ ap (λ r. cut ++ r) (sym takes)
          ∙ joined;
    }

pub cut_more : (bytes : List ℕ) (old new : Option (List ℕ)) (cut : List (List ℕ)) (line : List ℕ) → AreCut bytes old cut
    → Cuts old new line Line → TakesLine old new line Line → AreCut bytes new (cut ++ line ∷ [])
cut_more bytes old new cut line are cuts takes =
    more bytes are.left new cut line are.joined (subst (λ o. Cuts o new line Line) are.is cuts)
    (subst (λ o. TakesLine o new line Line) are.is takes)

ended : (bytes left : List ℕ) (new : Option (List ℕ)) (cut : List (List ℕ)) (line : List ℕ)
    → cut ++ lines_in left ≡ lines_in bytes
    → Cuts (Some left) new line End → TakesLine (Some left) new line End → cut ≡ lines_in bytes
ended bytes left None cut line joined cuts takes = absurd cuts.1
ended bytes left (Some rest) cut line joined cuts takes = sym (append-nil cut) ∙ ap (λ r. cut ++ r) (sym takes) ∙ joined

pub cut_ended : (bytes : List ℕ) (old new : Option (List ℕ)) (cut : List (List ℕ)) (line : List ℕ) → AreCut bytes old cut
    → Cuts old new line End → TakesLine old new line End → cut ≡ lines_in bytes
cut_ended bytes old new cut line are cuts takes =
    ended bytes are.left new cut line are.joined (subst (λ o. Cuts o new line End) are.is cuts)
    (subst (λ o. TakesLine o new line End) are.is takes)
