-- How long the parts of a text are at most.
use Rattle.std.proofs.Common.{rules, ◌≡◌, ℕ, zero, suc, ◌+◌, ◌-◌, ◌*◌, ◌/◌, ◌%◌, ◌<◌, ◌≤◌, ◌^◌, Bool, true, false, List, []}
use Rattle.std.proofs.Common.{◌∷◌, ◌++◌}
use Rattle.std.proofs.Common.{length, get_or, codes, decimal, All, arith, length-append}
use Rattle.std.specs.Prelude.{ℤ, pos, negsuc, ◌-ℤ◌, ◌==◌, if◌then◌else◌, nat_lt}
use Rattle.expo_text.specs.Shifted.{pointed, fraction, shifted, signed_shifted}
use Rattle.expo_text.proofs.Fractions.{fraction_is}
use Rattle.expo_text.proofs.ShiftedNumbers.{left_below}
use Rattle.std.proofs.Math.Nat.{div-le_self}
use Rattle.std.specs.List.{flat_map, zip}
use Rattle.std.proofs.lemmas.List.Elements.{All-head, All-tail, All-weaker, All-cons, All-nil}
use Rattle.std.proofs.lemmas.Grind.{flat_map-append}
use Rattle.std.proofs.lemmas.Fmt.{length-decimal-le}
use Rattle.metric_names.specs.Escapes.{help_byte, label_byte}
use Rattle.metric_names.specs.LabelName.{IsLabelName}
use Rattle.expo_text.specs.Shown.{Shown, shown_line}
use Rattle.expo_text.specs.Spelled.{IsSpelledValue}
use Rattle.expo_text.specs.Text.{label_text, labels_text}
use Rattle.expo_text.specs.Walk.{mark, opened, bucket_front}

-- pieces of at most `most` bytes
pub flat_map-short : {X : Type 0} (f : X → List ℕ) (most : ℕ) (xs : List X) → All (λ x. length (f x) ≤ most) xs
    → length (flat_map f xs) ≤ most * length xs
flat_map-short f most [] each = omega arith
flat_map-short f most (x ∷ xs) each =
    let first : length (f x) ≤ most = All-head (λ y. length (f y) ≤ most) x xs each in
    let rest : length (flat_map f xs) ≤ most * length xs =
    flat_map-short f most xs (All-tail (λ y. length (f y) ≤ most) x xs each) in
    let next : most * suc (length xs) ≡ most * length xs + most = grind arith in
    rw length-append (omega (arith, first, rest, next))

-- pieces of pieces
pub nested-short : {X Y : Type 0} (f : Y → List ℕ) (g : X → List Y) (most : ℕ) (xs : List X)
    → All (λ x. length (flat_map f (g x)) ≤ most) xs → length (flat_map f (flat_map g xs)) ≤ most * length xs
nested-short f g most [] each = omega arith
nested-short f g most (x ∷ xs) each =
    let first : length (flat_map f (g x)) ≤ most = All-head (λ y. length (flat_map f (g y)) ≤ most) x xs each in
    let rest : length (flat_map f (flat_map g xs)) ≤ most * length xs =
    nested-short f g most xs (All-tail (λ y. length (flat_map f (g y)) ≤ most) x xs each) in
    let next : most * suc (length xs) ≡ most * length xs + most = grind arith in
    rw (flat_map-append, length-append) (omega (arith, first, rest, next))

either-short : (c : Bool) (a b : List ℕ) (most : ℕ) → length a ≤ most → length b ≤ most → length (if c then a else b) ≤ most
either-short true a b most first second = first
either-short false a b most first second = second

pub help_byte-short : (b : ℕ) → length (help_byte b) ≤ 2
help_byte-short b =
    let slash : length (codes "\\\\") ≤ 2 = omega arith in
    let feed : length (codes "\\n") ≤ 2 = omega arith in
    let raw : length (b ∷ []) ≤ 2 = omega arith in
    either-short (b == 92) (codes "\\\\") (if b == 10 then codes "\\n" else b ∷ []) 2 slash
    (either-short (b == 10) (codes "\\n") (b ∷ []) 2 feed raw)

label_byte-short : (b : ℕ) → length (label_byte b) ≤ 2
label_byte-short b =
    let quote : length (codes "\\\"") ≤ 2 = omega arith in
    either-short (b == 34) (codes "\\\"") (help_byte b) 2 quote (help_byte-short b)

-- a label of at most 643 bytes
abbrev pub IsShortLabel : List ℕ × List ℕ → Type 0
IsShortLabel label = length (label_text label) ≤ 643

pub label_text-short : (name value : List ℕ) → length name ≤ 128 → length value ≤ 256 → IsShortLabel (name, value)
label_text-short name value short_name short_value =
    let escaped = flat_map-short label_byte 2 value (λ k d within. label_byte-short (get_or value k d)) in
    simp length-append (omega (arith, short_name, short_value, escaped))

pub zip-short : (names values : List (List ℕ)) → All IsLabelName names → All IsSpelledValue values
    → All IsShortLabel (zip names values)
zip-short [] values is_names is_values = All-nil IsShortLabel
zip-short (name ∷ names) [] is_names is_values = All-nil IsShortLabel
zip-short (name ∷ names) (value ∷ values) is_names is_values =
    All-cons IsShortLabel (name, value) (zip names values)
    (label_text-short name value (All-head IsLabelName name names is_names).short
    (All-head IsSpelledValue value values is_values).short)
    (zip-short names values (All-tail IsLabelName name names is_names) (All-tail IsSpelledValue value values is_values))

braces-short : (first rest : List ℕ) (n : ℕ) → length first ≤ 643 → length rest ≤ 644 * n
    → length (codes "{" ++ (first ++ rest) ++ codes "}") ≤ 2 + 644 * suc n
braces-short first rest n short_first short_rest = simp length-append (omega (arith, short_first, short_rest))

labels_text-short : (labels : List (List ℕ × List ℕ)) → All IsShortLabel labels
    → length (labels_text labels) ≤ 2 + 644 * length labels
labels_text-short [] each = omega arith
labels_text-short (label ∷ labels) each =
    let part : List ℕ × List ℕ → List ℕ = λ y. codes "," ++ label_text y in
    let first : length (label_text label) ≤ 643 = All-head IsShortLabel label labels each in
    let others = All-weaker IsShortLabel (λ y. length (part y) ≤ 644) (λ y short. omega (arith, short)) labels
    (All-tail IsShortLabel label labels each) in
    braces-short (label_text label) (flat_map part labels) (length labels) first (flat_map-short part 644 labels others)

-- what the lines of a child's buckets begin with
opened-short : (labels : List (List ℕ × List ℕ)) → All IsShortLabel labels → length (opened labels) ≤ 2 + 644 * length labels
opened-short [] each = omega arith
opened-short (label ∷ labels) each =
    let all = labels_text-short (label ∷ labels) each in
    let closed : length (opened (label ∷ labels) ++ codes "}") ≡ length (opened (label ∷ labels)) + 1 =
    length-append (opened (label ∷ labels)) (codes "}") in
    omega (arith, all, closed)

mark-short : (n : ℕ) → length (mark n) ≤ 1
mark-short zero = omega arith
mark-short (suc n) = search rules

pub front-short : (name : List ℕ) (labels : List (List ℕ × List ℕ)) → length name ≤ 128 → All IsShortLabel labels
    → length labels ≤ 8 → length (bucket_front name labels) ≤ 6144
front-short name labels short_name each few =
    let all = opened-short labels each in
    let one = mark-short (length labels) in
    simp length-append (omega (arith, short_name, few, all, one))

-- a sample whose line has at most 6,000 bytes
pub record IsShortSample (sample : Shown) : Type 0 where
  pub name : length sample.name ≤ 135
  pub labels : All IsShortLabel sample.labels
  pub few : length sample.labels ≤ 9
  pub value : length (signed_shifted sample.digits sample.value) ≤ 31

pub shown_line-short : (sample : Shown) → IsShortSample sample → length (shown_line sample) ≤ 6000
shown_line-short sample short =
    let labels = labels_text-short sample.labels short.labels in
    simp length-append (omega (arith, short.name, short.few, short.value, labels))

-- the values of samples
pub decimal-short : (n : ℕ) → n < 2 ^ 64 → length (decimal n) ≤ 20
decimal-short n small = length-decimal-le 20 n (omega arith) (omega (arith, small)) small

pointed-short : (part : List ℕ) → length (pointed part) ≤ 1 + length part
pointed-short [] = omega arith
pointed-short (c ∷ cs) = omega arith

pub shifted-short : (digits n : ℕ) → digits ≤ 9 → n < 2 ^ 64 → length (shifted digits n) ≤ 30
shifted-short digits n few small =
    let less = div-le_self n (10 ^ digits) in
    let front = decimal-short (n / 10 ^ digits) (omega (arith, small, less)) in
    let part = fraction digits (n % 10 ^ digits) in
    let rest = (fraction_is digits (n % 10 ^ digits) (left_below digits n)).few in
    let end = pointed-short part in
    rw length-append (omega (arith, few, front, rest, end))

either-value : (digits : ℕ) (c : Bool) (a b : ℤ) → length (signed_shifted digits a) ≤ 31 → length (signed_shifted digits b) ≤ 31
    → length (signed_shifted digits (if c then a else b)) ≤ 31
either-value digits true a b first second = first
either-value digits false a b first second = second

pub pos-short : (digits n : ℕ) → digits ≤ 9 → n < 2 ^ 64 → length (signed_shifted digits (pos n)) ≤ 31
pos-short digits n few small = let short = shifted-short digits n few small in omega (arith, short)

neg-short : (digits n : ℕ) → digits ≤ 9 → n + 1 < 2 ^ 64 → length (signed_shifted digits (negsuc n)) ≤ 31
neg-short digits n few small = let short = shifted-short digits (suc n) few (omega (arith, small)) in omega (arith, short)

pub difference-short : (digits up down : ℕ) → digits ≤ 9 → up < 2 ^ 64 → down < 2 ^ 64
    → length (signed_shifted digits (pos up -ℤ pos down)) ≤ 31
difference-short digits up zero few small_up small_down = pos-short digits (up + 0) few (omega (arith, small_up))
difference-short digits up (suc n) few small_up small_down =
    either-value digits (nat_lt up (suc n)) (negsuc (suc n - suc up)) (pos (up - suc n))
    (neg-short digits (suc n - suc up) few (omega (arith, small_down)))
    (pos-short digits (up - suc n) few (omega (arith, small_up)))
