-- Texts as they are written.
use Rattle.std.proofs.Common.{◌≡◌, ◌≢◌, ℕ, ◌+◌, ◌<◌, ◌≤◌, Bool, true, false, not, cond, eqb, ◌&&◌, ◌||◌, List, [], ◌∷◌, ◌++◌}
use Rattle.std.proofs.Common.{length, get_or, drop, All, refl, sym, ap, ap₂, ◌∙◌, subst, ⊎_elim, map, append_assoc, append-nil}
use Rattle.std.specs.Prelude.{flat_map}
use Rattle.std.proofs.lemmas.Bool.{ne_eqb, eqb-true, or_cases, not-false, false≢true}
use Rattle.std.proofs.lemmas.Bool.Decides.{eqb_tells}
use Rattle.std.proofs.lemmas.List.Elements.{All-nil, All-cons, All-head, All-tail, All-append, All-map}
use Rattle.std.proofs.lemmas.Grind.{flat_map-append}
use Rattle.script_lines.specs.Language.{Lacks, Writes, Piece, Plain, Backslash, Feed, Blank, Nought, IsPiece, IsWriting}
use Rattle.script_lines.specs.Language.{written_as, stands_for}
use Rattle.std.proofs.lemmas.List.{at_drop_more, at_drop_all}
use Rattle.script_lines.specs.Reading.{ends_well, is_letter, is_writing}

-- one byte more, and the end
pub ends_more : (escaped : Bool) (bytes : List ℕ) (i : ℕ) → i < length bytes
    → ends_well escaped (drop i bytes) ≡ cond (escaped && not (is_letter (get_or bytes i 0))) false
    (ends_well (not escaped && eqb (get_or bytes i 0) 92) (drop (i + 1) bytes))
unfolding ends_well
ends_more escaped bytes i within = at_drop_more (ends_well escaped) bytes i 0 within

pub ends_all : (escaped : Bool) (bytes : List ℕ) (i : ℕ) → length bytes ≤ i → ends_well escaped (drop i bytes) ≡ not escaped
unfolding ends_well
ends_all escaped bytes i past = at_drop_all (ends_well escaped) bytes i past

-- one piece more in front
pub piece_more : (piece : Piece) (written : List ℕ) → IsPiece piece → IsWriting written → IsWriting (written_as piece ++ written)
piece_more piece written proper is = (
  stands_for piece ++ is.0,
  record {
    pieces = piece ∷ is.1.pieces;
    proper = All-cons IsPiece piece is.1.pieces proper is.1.proper;
    is = ap (λ xs. written_as piece ++ xs) is.1.is;
    says = ap (λ xs. stands_for piece ++ xs) is.1.says;
  },
)

nothing_written : IsWriting []
nothing_written = ([], record { pieces = []; proper = All-nil IsPiece; is = refl; says = refl })

-- the backslash that stands in front, and the text
abbrev behind : Bool → List ℕ → List ℕ
behind true text = 92 ∷ text
behind false text = text

letter_more : (b : ℕ) (rest : List ℕ) → is_letter b ≡ true → IsWriting rest → IsWriting (92 ∷ b ∷ rest)
letter_more b rest letter is =
    ⊎_elim
    (λ h.
    ⊎_elim
    (λ h.
    ⊎_elim (λ h. subst (λ x. IsWriting (92 ∷ x ∷ rest)) (sym (eqb-true b 92 h)) (piece_more Backslash rest tt is))
    (λ h. subst (λ x. IsWriting (92 ∷ x ∷ rest)) (sym (eqb-true b 110 h)) (piece_more Feed rest tt is))
    (or_cases (eqb b 92) (eqb b 110) h))
    (λ h. subst (λ x. IsWriting (92 ∷ x ∷ rest)) (sym (eqb-true b 115 h)) (piece_more Blank rest tt is))
    (or_cases (eqb b 92 || eqb b 110) (eqb b 115) h))
    (λ h. subst (λ x. IsWriting (92 ∷ x ∷ rest)) (sym (eqb-true b 101 h)) (piece_more Nought rest tt is))
    (or_cases (eqb b 92 || eqb b 110 || eqb b 115) (eqb b 101) letter)

past_test : (t : Bool) (e : Bool) → cond t false e ≡ true → (t ≡ false) × (e ≡ true)
past_test true e h = absurd (false≢true h)
past_test false e h = (refl, h)

pub ends_says : (escaped : Bool) (text : List ℕ) → ends_well escaped text ≡ true → IsWriting (behind escaped text)
unfolding ends_well
ends_says true [] h = absurd (false≢true h)
ends_says false [] h = nothing_written
ends_says true (b ∷ bs) h =
    let passed = past_test (not (is_letter b)) (ends_well false bs) h in
    letter_more b bs (not-false (is_letter b) passed.0) (ends_says false bs passed.1)
ends_says false (b ∷ bs) h =
    ⊎_elim
    (λ yes. subst (λ x. IsWriting (x ∷ bs)) (sym yes.1) (ends_says true bs (subst (λ t. ends_well t bs ≡ true) yes.0 h)))
    (λ no. piece_more (Plain b) bs no.1 (ends_says false bs (subst (λ t. ends_well t bs ≡ true) no.0 h)))
    (eqb_tells b 92)

pub writing_says : (text : List ℕ) → is_writing text ≡ true → IsWriting text
writing_says text h = ends_says false text h

piece_ends : (piece : Piece) (rest : List ℕ) → IsPiece piece → ends_well false (written_as piece ++ rest) ≡ ends_well false rest
unfolding ends_well
piece_ends (Plain b) rest proper = ap (λ t. ends_well t rest) (ne_eqb b 92 proper)
piece_ends Backslash rest proper = refl
piece_ends Feed rest proper = refl
piece_ends Blank rest proper = refl
piece_ends Nought rest proper = refl

pieces_end : (pieces : List Piece) → All IsPiece pieces → ends_well false (flat_map written_as pieces) ≡ true
unfolding ends_well
pieces_end [] proper = refl
pieces_end (piece ∷ pieces) proper =
    piece_ends piece (flat_map written_as pieces) (All-head IsPiece piece pieces proper)
    ∙ pieces_end pieces (All-tail IsPiece piece pieces proper)

pub writing_found : (text : List ℕ) → IsWriting text → is_writing text ≡ true
writing_found text is = ap (ends_well false) is.1.is ∙ pieces_end is.1.pieces is.1.proper

-- a backslash is followed by a letter
pub letter_there : (text : List ℕ) → IsWriting (92 ∷ text) → ((rest : List ℕ) → text ≡ 110 ∷ rest → ⊥)
    → ((rest : List ℕ) → text ≡ 115 ∷ rest → ⊥)
    → ((rest : List ℕ) → text ≡ 101 ∷ rest → ⊥) → ((rest : List ℕ) → text ≡ 92 ∷ rest → ⊥) → ⊥
unfolding ends_well
letter_there [] is feed blank nought slash = false≢true (writing_found (92 ∷ []) is)
letter_there (b ∷ bs) is feed blank nought slash =
    let passed = past_test (not (is_letter b)) (ends_well false bs) (writing_found (92 ∷ b ∷ bs) is) in
    ⊎_elim
    (λ h.
    ⊎_elim
    (λ h.
    ⊎_elim (λ h. slash bs (ap (λ x. x ∷ bs) (eqb-true b 92 h)))
    (λ h. feed bs (ap (λ x. x ∷ bs) (eqb-true b 110 h)))
    (or_cases (eqb b 92) (eqb b 110) h))
    (λ h. blank bs (ap (λ x. x ∷ bs) (eqb-true b 115 h)))
    (or_cases (eqb b 92 || eqb b 110) (eqb b 115) h))
    (λ h. nought bs (ap (λ x. x ∷ bs) (eqb-true b 101 h)))
    (or_cases (eqb b 92 || eqb b 110 || eqb b 115) (eqb b 101) (not-false (is_letter b) passed.0))

-- a text with no backslash
plain_ends : (plain rest : List ℕ) → Lacks 92 plain → ends_well false (plain ++ rest) ≡ ends_well false rest
unfolding ends_well
plain_ends [] rest lacks = refl
plain_ends (b ∷ plain) rest lacks =
    ap (λ t. ends_well t (plain ++ rest)) (ne_eqb b 92 (All-head (λ x. x ≢ 92) b plain lacks))
    ∙ plain_ends plain rest (All-tail (λ x. x ≢ 92) b plain lacks)

plain_is : (plain : List ℕ) → plain ≡ flat_map written_as (map Plain plain)
plain_is [] = refl
plain_is (b ∷ plain) = ap (λ xs. b ∷ xs) (plain_is plain)

plain_says : (plain : List ℕ) → plain ≡ flat_map stands_for (map Plain plain)
plain_says [] = refl
plain_says (b ∷ plain) = ap (λ xs. b ∷ xs) (plain_says plain)

plain_writes : (plain : List ℕ) → Lacks 92 plain → Writes plain plain
plain_writes plain lacks = record {
  pieces = map Plain plain;
  proper = All-map IsPiece Plain plain lacks;
  is = plain_is plain;
  says = plain_says plain;
}

-- one text after another
writes_append : (a b v w : List ℕ) → Writes a v → Writes b w → Writes (a ++ b) (v ++ w)
writes_append a b v w first next = record {
  pieces = first.pieces ++ next.pieces;
  proper = All-append IsPiece first.pieces next.pieces first.proper next.proper;
  is = ap₂ (λ x y. x ++ y) first.is next.is ∙ sym (flat_map-append written_as first.pieces next.pieces);
  says = ap₂ (λ x y. x ++ y) first.says next.says ∙ sym (flat_map-append stands_for first.pieces next.pieces);
}

piece_writes : (piece : Piece) → IsPiece piece → Writes (stands_for piece) (written_as piece)
piece_writes piece proper = record {
  pieces = piece ∷ [];
  proper = All-cons IsPiece piece [] proper (All-nil IsPiece);
  is = sym (append-nil (written_as piece));
  says = sym (append-nil (stands_for piece));
}

-- what stands in front of the rest is said
pub record SaidSoFar (written rest text : List ℕ) : Type 0 where
  pub front : List ℕ
  pub is : written ≡ front ++ rest
  pub writes : Writes text front
  pub left : IsWriting rest

pub said_none : (written : List ℕ) → IsWriting written → SaidSoFar written written []
said_none written is = record {
  front = [];
  is = refl;
  writes = record { pieces = []; proper = All-nil IsPiece; is = refl; says = refl };
  left = is;
}

-- after the next backslash there is an escape
pub escape_left : (written rest text plain after : List ℕ) → SaidSoFar written rest text → rest ≡ plain ++ 92 ∷ after
    → Lacks 92 plain → IsWriting (92 ∷ after)
escape_left written rest text plain after so_far is lacks =
    writing_says (92 ∷ after) (sym (plain_ends plain (92 ∷ after) lacks) ∙ ap (ends_well false) (sym is)
    ∙ writing_found rest so_far.left)

pub said_more : (written rest text plain after said more : List ℕ) → SaidSoFar written rest text → rest ≡ plain ++ 92 ∷ after
    → Lacks 92 plain
    → (piece : Piece) × IsPiece piece × (92 ∷ after ≡ written_as piece ++ more) × (said ≡ stands_for piece)
    → SaidSoFar written more ((text ++ plain) ++ said)
said_more written rest text plain after said more so_far is lacks escape =
    let piece = escape.0 in record {
      front = (so_far.front ++ plain) ++ written_as piece;
      is = so_far.is ∙ ap (λ r. so_far.front ++ r) (is ∙ ap (λ r. plain ++ r) escape.2)
          ∙ sym (append_assoc so_far.front plain (written_as piece ++ more))
          ∙ sym (append_assoc (so_far.front ++ plain) (written_as piece) more);
      writes = subst (λ s. Writes ((text ++ plain) ++ s) ((so_far.front ++ plain) ++ written_as piece)) (sym escape.3)
          (writes_append (text ++ plain) (stands_for piece) (so_far.front ++ plain) (written_as piece)
          (writes_append text plain so_far.front plain so_far.writes (plain_writes plain lacks))
          (piece_writes piece escape.1));
      left = writing_says more (sym (piece_ends piece more escape.1) ∙ ap (ends_well false) (sym escape.2)
          ∙ writing_found (92 ∷ after) (escape_left written rest text plain after so_far is lacks));
    }

pub said_all : (written rest text : List ℕ) → SaidSoFar written rest text → Lacks 92 rest → Writes (text ++ rest) written
said_all written rest text so_far lacks = subst (λ w. Writes (text ++ rest) w) (sym so_far.is)
    (writes_append text rest so_far.front rest so_far.writes (plain_writes rest lacks))

-- what a letter after a backslash stands for
abbrev letter_says : ℕ → List ℕ
letter_says b = cond (eqb b 92) (92 ∷ []) (cond (eqb b 110) (10 ∷ []) (cond (eqb b 115) (32 ∷ []) []))

-- what a text says, byte by byte
said_of : Bool → List ℕ → List ℕ
said_of true [] = []
said_of false [] = []
said_of true (b ∷ bs) = letter_says b ++ said_of false bs
said_of false (b ∷ bs) = cond (eqb b 92) (said_of true bs) (b ∷ said_of false bs)

piece_says : (piece : Piece) (rest : List ℕ) → IsPiece piece
    → said_of false (written_as piece ++ rest) ≡ stands_for piece ++ said_of false rest
unfolding said_of
piece_says (Plain b) rest proper = ap (λ t. cond t (said_of true rest) (b ∷ said_of false rest)) (ne_eqb b 92 proper)
piece_says Backslash rest proper = refl
piece_says Feed rest proper = refl
piece_says Blank rest proper = refl
piece_says Nought rest proper = refl

pieces_say : (pieces : List Piece) → All IsPiece pieces → said_of false (flat_map written_as pieces) ≡ flat_map stands_for pieces
unfolding said_of
pieces_say [] proper = refl
pieces_say (piece ∷ pieces) proper =
    piece_says piece (flat_map written_as pieces) (All-head IsPiece piece pieces proper)
    ∙ ap (λ r. stands_for piece ++ r) (pieces_say pieces (All-tail IsPiece piece pieces proper))

says_once : (text written : List ℕ) → Writes text written → text ≡ said_of false written
says_once text written writes = writes.says ∙ sym (pieces_say writes.pieces writes.proper) ∙ ap (said_of false) (sym writes.is)

-- a writing is one of one text alone
pub writes_alone : (text other written : List ℕ) → Writes text written → Writes other written → other ≡ text
writes_alone text other written writes also = says_once other written also ∙ sym (says_once text written writes)
