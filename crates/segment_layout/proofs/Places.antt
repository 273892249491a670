-- The words of a board by their places: each is on the board, and no two have one place.
use Rattle.std.proofs.Common.{◌≡◌, ℕ, ◌+◌, ◌*◌, ◌<◌, refl, ap, ap₂, arith}
use Rattle.std.proofs.lemmas.Nat.{mul-add-lt, same_from_place}
use Rattle.segment_layout.specs.declared.part.Part.{Part}
use Rattle.segment_layout.specs.declared.part.Part.TheVariants.{Number, Row, Flag, Vector, Lent}
use Rattle.segment_layout.specs.Layout.{IsPart, StandsAlone, depth, span, words, in_buffer, in_segment, place}

-- a word of a segment is on the board
pub within : (n w segment at : ℕ) → segment < n → at < span (depth n w) → segment * span (depth n w) + at < words n w
within n w segment at hs lt =
    let p = mul-add-lt segment (span (depth n w)) at n hs lt in
    omega (arith, p)

-- two items of buffers at one place are of one buffer, and one item
in_buffers : (n w i k j l : ℕ) → k < depth n w → l < depth n w → in_buffer n w i k ≡ in_buffer n w j l → (i ≡ j) × (k ≡ l)
in_buffers n w i k j l hk hl e =
    let d : ℕ = depth n w in
    same_from_place i k j l d hk hl (omega (arith, e))

-- an item of one of the two buffers is within the segment
in_buffer_lt : (n w i k : ℕ) → i < 2 → k < depth n w → in_buffer n w i k < span (depth n w)
in_buffer_lt n w i k hi hk =
    let p = mul-add-lt i (depth n w) k 2 hi hk in
    omega (arith, p)

-- a part is within its segment
in_segment_lt : (n w : ℕ) (part : Part) → IsPart n w part → in_segment n w part < span (depth n w)
in_segment_lt n w Number h = omega arith
in_segment_lt n w (Row b k) h = in_buffer_lt n w b k h.0 (omega (arith, h.1))
in_segment_lt n w (Flag b) h = in_buffer_lt n w b w h (omega arith)
in_segment_lt n w (Vector b k) h = in_buffer_lt n w b (w + 1 + k) h.0 (omega (arith, h.1))
in_segment_lt n w (Lent b k) h = in_buffer_lt n w b (w + 1 + n + k) h.0 (omega (arith, h.1))

-- two parts at one place of a segment are one part
same_part : (n w : ℕ) (one other : Part) → IsPart n w one → IsPart n w other → in_segment n w one ≡ in_segment n w other
    → one ≡ other
same_part n w Number Number h g e = refl
same_part n w Number (Row b k) h g e = absurd (omega (arith, e))
same_part n w (Row b k) Number h g e = absurd (omega (arith, e))
same_part n w Number (Flag b) h g e = absurd (omega (arith, e))
same_part n w (Flag b) Number h g e = absurd (omega (arith, e))
same_part n w Number (Vector b k) h g e = absurd (omega (arith, e))
same_part n w (Vector b k) Number h g e = absurd (omega (arith, e))
same_part n w Number (Lent b k) h g e = absurd (omega (arith, e))
same_part n w (Lent b k) Number h g e = absurd (omega (arith, e))
same_part n w (Row b k) (Row b' k') h g e =
    let s = in_buffers n w b k b' k' (omega (arith, h.1)) (omega (arith, g.1)) e in ap₂ (λ b k. Row b k) s.0 (omega (arith, s.1))
same_part n w (Row b k) (Flag b') h g e =
    let s = in_buffers n w b k b' w (omega (arith, h.1)) (omega arith) e in absurd (omega (arith, s.1, h.1))
same_part n w (Row b k) (Vector b' k') h g e =
    let s = in_buffers n w b k b' (w + 1 + k') (omega (arith, h.1)) (omega (arith, g.1)) e in
    absurd (omega (arith, s.1, h.1, g.1))
same_part n w (Row b k) (Lent b' k') h g e =
    let s = in_buffers n w b k b' (w + 1 + n + k') (omega (arith, h.1)) (omega (arith, g.1)) e in
    absurd (omega (arith, s.1, h.1, g.1))
same_part n w (Flag b) (Row b' k') h g e =
    let s = in_buffers n w b w b' k' (omega arith) (omega (arith, g.1)) e in absurd (omega (arith, s.1, g.1))
same_part n w (Flag b) (Flag b') h g e =
    let s = in_buffers n w b w b' w (omega arith) (omega arith) e in ap (λ b. Flag b) s.0
same_part n w (Flag b) (Vector b' k') h g e =
    let s = in_buffers n w b w b' (w + 1 + k') (omega arith) (omega (arith, g.1)) e in absurd (omega (arith, s.1, g.1))
same_part n w (Flag b) (Lent b' k') h g e =
    let s = in_buffers n w b w b' (w + 1 + n + k') (omega arith) (omega (arith, g.1)) e in absurd (omega (arith, s.1, g.1))
same_part n w (Vector b k) (Row b' k') h g e =
    let s = in_buffers n w b (w + 1 + k) b' k' (omega (arith, h.1)) (omega (arith, g.1)) e in
    absurd (omega (arith, s.1, h.1, g.1))
same_part n w (Vector b k) (Flag b') h g e =
    let s = in_buffers n w b (w + 1 + k) b' w (omega (arith, h.1)) (omega arith) e in absurd (omega (arith, s.1, h.1))
same_part n w (Vector b k) (Vector b' k') h g e =
    let s = in_buffers n w b (w + 1 + k) b' (w + 1 + k') (omega (arith, h.1)) (omega (arith, g.1)) e in
    ap₂ (λ b k. Vector b k) s.0 (omega (arith, s.1))
same_part n w (Vector b k) (Lent b' k') h g e =
    let s = in_buffers n w b (w + 1 + k) b' (w + 1 + n + k') (omega (arith, h.1)) (omega (arith, g.1)) e in
    absurd (omega (arith, s.1, h.1, g.1))
same_part n w (Lent b k) (Row b' k') h g e =
    let s = in_buffers n w b (w + 1 + n + k) b' k' (omega (arith, h.1)) (omega (arith, g.1)) e in
    absurd (omega (arith, s.1, h.1, g.1))
same_part n w (Lent b k) (Flag b') h g e =
    let s = in_buffers n w b (w + 1 + n + k) b' w (omega (arith, h.1)) (omega arith) e in absurd (omega (arith, s.1, h.1))
same_part n w (Lent b k) (Vector b' k') h g e =
    let s = in_buffers n w b (w + 1 + n + k) b' (w + 1 + k') (omega (arith, h.1)) (omega (arith, g.1)) e in
    absurd (omega (arith, s.1, h.1, g.1))
same_part n w (Lent b k) (Lent b' k') h g e =
    let s = in_buffers n w b (w + 1 + n + k) b' (w + 1 + n + k') (omega (arith, h.1)) (omega (arith, g.1)) e in
    ap₂ (λ b k. Lent b k) s.0 (omega (arith, s.1))

-- a part of a segment has its place alone
pub alone : (n w segment : ℕ) (part : Part) → IsPart n w part → StandsAlone n w segment part (place n w segment part)
alone n w segment part h other another lt g e =
    let here = in_segment_lt n w part h in
    let there = in_segment_lt n w another g in
    let s = same_from_place other (in_segment n w another) segment (in_segment n w part) (span (depth n w)) there here e in
    (s.0, same_part n w another part g h s.1)
