use Rattle.std.proofs.Common.{◌≡◌, ◌+◌, ◌<◌, ℕ, List, drop, length, get_or, sym, ap, ap₂, ◌∙◌, arith}
use Rattle.std.specs.Ordering.{nat_cmp, ordering_then}
use Rattle.std.specs.Cmp.Lexicographic.{slice_cmp}
use Rattle.std.specs.declared.cmp.Ordering.{Ordering}
use Rattle.expo_text.proofs.Compared.{compared_first, compared_end, decided, deferred}
use Rattle.expo_text.proofs.checked.compare.Goals as goal

-- the values from a place on, where the first of them, as texts, stand to each other as `order` says
first : (xs ys : List (List ℕ)) (i : ℕ) (x y s t : List ℕ) (order : Ordering) → i < length xs → i < length ys → x ≡ get_or xs i x
    → y ≡ get_or ys i y → s ≡ x → t ≡ y → order ≡ slice_cmp nat_cmp s t
    → ordering_then order (slice_cmp (slice_cmp nat_cmp) (drop (i + 1) xs) (drop (i + 1) ys)) ≡ slice_cmp (slice_cmp nat_cmp)
    (drop i xs) (drop i ys)
first xs ys i x y s t order in_xs in_ys is_x is_y is_s is_t is =
    let as_read : order ≡ slice_cmp nat_cmp x y = is ∙ ap₂ (slice_cmp nat_cmp) is_s is_t in
    ap (λ o. ordering_then o (slice_cmp (slice_cmp nat_cmp) (drop (i + 1) xs) (drop (i + 1) ys))) as_read
    ∙ sym (compared_first (slice_cmp nat_cmp) xs ys i x y in_xs in_ys is_x is_y)

pub loop-at-preserved : goal.loop-at-preserved
loop-at-preserved c =
    let rest = slice_cmp (slice_cmp nat_cmp) (drop (c.loop-at.at + 1) c.args.a.now) (drop (c.loop-at.at + 1) c.args.b.now) in
    sym (deferred c.cmp-order.result rest (sym c.is_ne.ensures ∙ c.if-is_ne.false))
    ∙ first c.args.a.now c.args.b.now c.loop-at.at c.index-a-at.result c.index-b-at.result c.as_str.result.now
    c.as_str-in-loop-at.result.now c.cmp-order.result (omega arith) (omega arith) c.index-a-at.is c.index-b-at.is
    c.as_str.ensures.text c.as_str-in-loop-at.ensures.text c.cmp-order.ensures
    ∙ c.loop-at.invariant

pub returns-then-is_ne : goal.returns-then-is_ne
returns-then-is_ne c =
    let rest = slice_cmp (slice_cmp nat_cmp) (drop (c.loop-at.at + 1) c.args.a.now) (drop (c.loop-at.at + 1) c.args.b.now) in
    sym (decided c.cmp-order.result rest (sym c.is_ne.ensures ∙ c.if-is_ne.true))
    ∙ first c.args.a.now c.args.b.now c.loop-at.at c.index-a-at.result c.index-b-at.result c.as_str.result.now
    c.as_str-in-loop-at.result.now c.cmp-order.result (omega arith) (omega arith) c.index-a-at.is c.index-b-at.is
    c.as_str.ensures.text c.as_str-in-loop-at.ensures.text c.cmp-order.ensures
    ∙ c.loop-at.invariant

pub returns : goal.returns
returns c =
    compared_end (slice_cmp nat_cmp) c.args.a.now c.args.b.now c.loop-at.at c.cmp.result (omega arith) c.cmp.ensures
    ∙ c.loop-at.invariant
