-- A text is at most one line, and it is read where it is one.
use Rattle.std.proofs.Common.{◌≡◌, ℕ, suc, true, false, cond, eqb, ◌||◌, List, [], ◌∷◌, ◌++◌, length, get_or, Option, Some, None}
use Rattle.std.proofs.Common.{option_map, decimal, codes, refl, sym, ap, ◌∙◌, subst, inl, inr, ⊎_elim}
use Rattle.std.specs.Prelude.{bytes_eq}
use Rattle.std.specs.List.{join_with_byte}
use Rattle.std.specs.Option.{option_map_or}
use Rattle.std.proofs.Math.Dec.{eqb-suc-zero}
use Rattle.std.proofs.lemmas.Bool.{eqb-true}
use Rattle.std.proofs.lemmas.Slice.Eq.{bytes_eq-Decides}
use Rattle.script_lines.specs.Language.{Saying, Nothing, Counter, Gauge, Histogram, Child, Count, Go, Scrape, Settle, Window}
use Rattle.script_lines.specs.Language.{IsLine, word_of}
use Rattle.script_lines.specs.declared.line.Counting.TheVariants.{Inc, Obs, Up, Down}
use Rattle.script_lines.specs.declared.word.Word.{Word}
use Rattle.script_lines.specs.declared.word.Word.TheVariants as word
use Rattle.script_lines.specs.Reading.{cut_of, number_written, is_empty, family_of, word_in, after_word, alone_in, worded_of}
use Rattle.script_lines.specs.Reading.{line_of}
use Rattle.script_lines.proofs.Options.{none_or_some, bind_some, map_some, first_or_next}
use Rattle.script_lines.proofs.Cut.{cut_parts}
use Rattle.script_lines.proofs.Numbers.{number_found, number_says}
use Rattle.script_lines.proofs.Parts.{bounds_token}
use Rattle.script_lines.proofs.Families.{IsFamily, IsChild, IsHistogram, family_says, family_found, family_words, words_family}
use Rattle.script_lines.proofs.Families.{histogram_says, histogram_found, child_says, child_found}
use Rattle.script_lines.proofs.Counts.{count_says, count_found, count_words, words_count}

-- how a word is spelled
abbrev spelled : Word → List ℕ
spelled word.Counter = codes "counter"
spelled word.Gauge = codes "gauge"
spelled word.Histogram = codes "histogram"
spelled word.Child = codes "child"
spelled (word.Count what) = word_of what
spelled word.Window = codes "window"

-- one word of several
pick : (text key : List ℕ) (w v : Word) (o : Option Word) → key ≡ spelled w → cond (bytes_eq text key) (Some w) o ≡ Some v
    → (o ≡ Some v → text ≡ spelled v) → text ≡ spelled v
pick text key w v o spells h next =
    ⊎_elim (λ yes. (bytes_eq-Decides text key).0 yes.0 ∙ spells ∙ ap spelled yes.1) (λ no. next no.1)
    (first_or_next (bytes_eq text key) w v o h)

word_says : (text : List ℕ) (v : Word) → word_in text ≡ Some v → text ≡ spelled v
unfolding word_in
word_says text v h =
    pick text (codes "counter") word.Counter v _ refl h (λ h.
    pick text (codes "gauge") word.Gauge v _ refl h (λ h.
    pick text (codes "histogram") word.Histogram v _ refl h (λ h.
    pick text (codes "child") word.Child v _ refl h (λ h.
    pick text (codes "inc") (word.Count Inc) v _ refl h (λ h.
    pick text (codes "obs") (word.Count Obs) v _ refl h (λ h.
    pick text (codes "up") (word.Count Up) v _ refl h (λ h.
    pick text (codes "down") (word.Count Down) v _ refl h (λ h.
    pick text (codes "window") word.Window v None refl h (λ h. absurd (cc))))))))))

family_line : (first text : List ℕ) (make : List ℕ → List ℕ → List ℕ → Saying) (s : Saying)
    → ((name labels help : List ℕ) → IsFamily text name labels help → IsLine (first ++ 32 ∷ text) (make name labels help))
    → option_map (λ (f : List ℕ × List ℕ × List ℕ). make f.0 f.1 f.2) (family_of text) ≡ Some s → IsLine (first ++ 32 ∷ text) s
family_line first text make s line h =
    let found = map_some (λ (f : List ℕ × List ℕ × List ℕ). make f.0 f.1 f.2) (family_of text) s h in
    subst (IsLine (first ++ 32 ∷ text)) found.2 (line found.0.0 found.0.1 found.0.2 (family_says text found.0 found.1))

child_joined : (name text : List ℕ) (words : List (List ℕ)) → text ≡ join_with_byte 32 (name ∷ words)
    → codes "child" ++ 32 ∷ text ≡ join_with_byte 32 (codes "child" ∷ name ∷ words)
child_joined name text words is = ap (λ t. codes "child" ++ 32 ∷ t) is

after_says : (w : Word) (text : List ℕ) (s : Saying) → after_word w text ≡ Some s → IsLine (spelled w ++ 32 ∷ text) s
unfolding after_word
after_says word.Counter text s h =
    family_line (codes "counter") text Counter s
    (λ name labels help is. (is.token, is.words, is.written, family_words (codes "counter") text name labels help is)) h
after_says word.Gauge text s h =
    family_line (codes "gauge") text Gauge s
    (λ name labels help is. (is.token, is.words, is.written, family_words (codes "gauge") text name labels help is)) h
after_says word.Histogram text s h =
    let found = histogram_says text s h in
    let is = found.5 in
    subst (IsLine (codes "histogram" ++ 32 ∷ text)) (sym found.4) (
      is.token,
      is.family.token,
      (is.numbers, is.bounded),
      is.family.written,
      ⊎_elim
          (λ none. inl (
            ap (λ r. codes "histogram" ++ 32 ∷ r)
                (is.is ∙ ap (λ r. found.0 ++ 32 ∷ r) (is.family.is ∙ ap (λ r. found.1 ++ 32 ∷ r) none.0)),
            none.1,
          ))
          (λ some. inr (ap (λ r. codes "histogram" ++ 32 ∷ r)
          (is.is ∙ ap (λ r. found.0 ++ 32 ∷ r) (is.family.is ∙ ap (λ r. found.1 ++ 32 ∷ r) some))))
          is.family.ends,
    )
after_says word.Child text s h =
    let found = child_says text s h in
    let is = found.3 in
    subst (IsLine (codes "child" ++ 32 ∷ text)) (sym found.2) (
      is.token,
      (is.words, is.are, child_joined found.0 text is.words is.is),
    )
after_says (word.Count what) text s h =
    let found = count_says what text s h in
    let is = found.5 in
    subst (IsLine (word_of what ++ 32 ∷ text)) (sym found.4) (
      is.few,
      is.small,
      is.amount.small,
      is.amount.some,
      is.amount.few,
      count_words (word_of what) text found.0 found.1 found.2 found.3 is,
    )
after_says word.Window text s h =
    let found = map_some Window (number_written text) s h in
    let says = number_says text found.0 found.1 in
    subst (IsLine (codes "window" ++ 32 ∷ text)) found.2 (says.0, ap (λ r. codes "window" ++ 32 ∷ r) says.1)

alone_says : (text : List ℕ) (s : Saying) → alone_in text ≡ Some s → IsLine text s
unfolding alone_in
alone_says text s h =
    ⊎_elim
    (λ yes. subst (IsLine text) yes.1 ((bytes_eq-Decides text (codes "go")).0 yes.0))
    (λ no.
    ⊎_elim
    (λ yes. subst (IsLine text) yes.1 ((bytes_eq-Decides text (codes "scrape")).0 yes.0))
    (λ other.
    ⊎_elim
    (λ yes. subst (IsLine text) yes.1 ((bytes_eq-Decides text (codes "settle")).0 yes.0))
    (λ none. absurd (cc (none.1)))
    (first_or_next (bytes_eq text (codes "settle")) Settle s None other.1))
    (first_or_next (bytes_eq text (codes "scrape")) Scrape s (cond (bytes_eq text (codes "settle")) (Some Settle) None) no.1))
    (first_or_next (bytes_eq text (codes "go")) Go s
    (cond (bytes_eq text (codes "scrape")) (Some Scrape) (cond (bytes_eq text (codes "settle")) (Some Settle) None)) h)

passed_over : (text : List ℕ) → (is_empty text || eqb (get_or text 0 0) 35) ≡ true → IsLine text Nothing
passed_over [] h = inl refl
passed_over (b ∷ bs) h = inr (ap (λ x. Some x) (eqb-true b 35 (subst (λ t. (t || eqb b 35) ≡ true) (eqb-suc-zero (length bs)) h)))

pub line_says : (text : List ℕ) (s : Saying) → line_of text ≡ Some s → IsLine text s
unfolding line_of
line_says text s h =
    let rest : Option (List ℕ × List ℕ) → Option Saying = λ o. option_map_or (λ (c : List ℕ × List ℕ). worded_of c.0 c.1) o
    (alone_in text) in
    ⊎_elim
    (λ yes. subst (IsLine text) yes.1 (passed_over text yes.0))
    (λ no.
    ⊎_elim
    (λ none. alone_says text s (subst (λ o. rest o ≡ Some s) none no.1))
    (λ some.
    let found = bind_some (λ w. after_word w some.0.1) (word_in some.0.0) s (subst (λ o. rest o ≡ Some s) some.1 no.1) in
    let parts = cut_parts text some.0 some.1 in
    subst (λ t. IsLine t s) (sym (parts.0 ∙ ap (λ w. w ++ 32 ∷ some.0.1) (word_says some.0.0 found.0 found.1)))
    (after_says found.0 some.0.1 s found.2))
    (none_or_some (cut_of text)))
    (first_or_next (is_empty text || eqb (get_or text 0 0) 35) Nothing s (rest (cut_of text)) h)

not_passed : (m : ℕ) (x y : Option Saying) → cond (eqb (suc m) 0 || false) x y ≡ y
not_passed m x y = ap (λ t. cond (t || false) x y) (eqb-suc-zero m)

-- what is read of a line that begins with a word and a blank
worded_line : (w : Word) (text : List ℕ) → line_of (spelled w ++ 32 ∷ text) ≡ after_word w text
unfolding line_of cut_of word_in
worded_line word.Counter text = not_passed _ (Some Nothing) (after_word word.Counter text)
worded_line word.Gauge text = not_passed _ (Some Nothing) (after_word word.Gauge text)
worded_line word.Histogram text = not_passed _ (Some Nothing) (after_word word.Histogram text)
worded_line word.Child text = not_passed _ (Some Nothing) (after_word word.Child text)
worded_line (word.Count Inc) text = not_passed _ (Some Nothing) (after_word (word.Count Inc) text)
worded_line (word.Count Obs) text = not_passed _ (Some Nothing) (after_word (word.Count Obs) text)
worded_line (word.Count Up) text = not_passed _ (Some Nothing) (after_word (word.Count Up) text)
worded_line (word.Count Down) text = not_passed _ (Some Nothing) (after_word (word.Count Down) text)
worded_line word.Window text = not_passed _ (Some Nothing) (after_word word.Window text)

nothing_found : (text : List ℕ) → IsLine text Nothing → line_of text ≡ Some Nothing
unfolding line_of
nothing_found text (inl empty) = ap line_of empty
nothing_found [] (inr hash) = absurd (cc (hash))
nothing_found (b ∷ bs) (inr hash) =
    let is : b ≡ 35 = cc (hash) in
    ap (λ x. line_of (x ∷ bs)) is
    ∙ ap (λ t. cond (t || true) (Some Nothing) (option_map_or (λ (c : List ℕ × List ℕ). worded_of c.0 c.1) (cut_of (35 ∷ bs))
    (alone_in (35 ∷ bs)))) (eqb-suc-zero (length bs))

go_found : (text : List ℕ) → text ≡ codes "go" → line_of text ≡ Some Go
unfolding line_of cut_of alone_in
go_found text is = ap line_of is

scrape_found : (text : List ℕ) → text ≡ codes "scrape" → line_of text ≡ Some Scrape
unfolding line_of cut_of alone_in
scrape_found text is = ap line_of is

settle_found : (text : List ℕ) → text ≡ codes "settle" → line_of text ≡ Some Settle
unfolding line_of cut_of alone_in
settle_found text is = ap line_of is

pub line_found : (text : List ℕ) (s : Saying) → IsLine text s → line_of text ≡ Some s
unfolding after_word
line_found text Nothing is = nothing_found text is
line_found text (Counter name labels help) is =
    let found = words_family text (codes "counter") name labels help is.0 is.1 is.2 is.3 in
    ap line_of found.1 ∙ worded_line word.Counter found.0
    ∙ ap (option_map (λ (f : List ℕ × List ℕ × List ℕ). Counter f.0 f.1 f.2)) (family_found found.0 name labels help found.2)
line_found text (Gauge name labels help) is =
    let found = words_family text (codes "gauge") name labels help is.0 is.1 is.2 is.3 in
    ap line_of found.1 ∙ worded_line word.Gauge found.0
    ∙ ap (option_map (λ (f : List ℕ × List ℕ × List ℕ). Gauge f.0 f.1 f.2)) (family_found found.0 name labels help found.2)
line_found text (Histogram name labels bounds help) is =
    let written : (rest : List ℕ) × (text ≡ codes "histogram" ++ 32 ∷ rest) × IsHistogram rest name labels bounds help =
    ⊎_elim
    (λ none. (
      name ++ 32 ∷ (labels ++ 32 ∷ bounds),
      none.0,
      record {
        token = is.0;
        rest = labels ++ 32 ∷ bounds;
        is = refl;
        family = record {
          token = is.1;
          words = bounds_token bounds is.2.0 is.2.1;
          written = is.3;
          tail = bounds;
          is = refl;
          ends = inl (refl, none.1);
        };
        numbers = is.2.0;
        bounded = is.2.1;
      },
    ))
    (λ some. (
      name ++ 32 ∷ (labels ++ 32 ∷ (bounds ++ 32 ∷ help)),
      some,
      record {
        token = is.0;
        rest = labels ++ 32 ∷ (bounds ++ 32 ∷ help);
        is = refl;
        family = record {
          token = is.1;
          words = bounds_token bounds is.2.0 is.2.1;
          written = is.3;
          tail = bounds ++ 32 ∷ help;
          is = refl;
          ends = inr refl;
        };
        numbers = is.2.0;
        bounded = is.2.1;
      },
    ))
    is.4 in
    ap line_of written.1 ∙ worded_line word.Histogram written.0 ∙ histogram_found written.0 name labels bounds help written.2
line_found text (Child name values) is =
    let rest = join_with_byte 32 (name ∷ is.1.0) in
    let child : IsChild rest name values = record { token = is.0; words = is.1.0; are = is.1.1; is = refl } in
    ap line_of is.1.2 ∙ worded_line word.Child rest ∙ child_found rest name values child
line_found text (Count what worker child by times) is =
    let found = words_count text (word_of what) worker child by times is.0 is.1 is.2 is.3 is.4 is.5 in
    ap line_of found.1 ∙ worded_line (word.Count what) found.0 ∙ count_found what found.0 worker child by times found.2
line_found text Go is = go_found text is
line_found text Scrape is = scrape_found text is
line_found text Settle is = settle_found text is
line_found text (Window size) is =
    ap line_of is.1 ∙ worded_line word.Window (decimal size) ∙ ap (option_map Window) (number_found (decimal size) size is.0 refl)
