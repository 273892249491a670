-- The lines of samples.
use Rattle.std.proofs.Common.{◌≡◌, ℕ, zero, suc, ◌+◌, ◌<◌, ◌≤◌, ◌^◌, List, [], ◌∷◌, ◌++◌, length, map, codes}
use Rattle.std.proofs.Common.{decimal, sum, refl, sym, ap, ap₂, ◌∙◌, arith, append_assoc, append-nil}
use Rattle.std.specs.Prelude.{pos, ◌-ℤ◌, slice_index}
use Rattle.expo_text.specs.Shifted.{shifted, signed_shifted}
use Rattle.std.specs.List.{flat_map, range_with_len}
use Rattle.metric_names.specs.Escapes.{label_byte}
use Rattle.std.proofs.lemmas.List.{flat_map_more}
use Rattle.std.proofs.lemmas.List.FromFn.{map-range_with_len_more}
use Rattle.std.proofs.lemmas.Grind.{flat_map-append}
use Rattle.bucket_math.specs.Buckets.{cumulated}
use Rattle.ledger_core.specs.declared.totals.HistTotals.{HistTotals}
use Rattle.ledger_core.specs.declared.totals.GaugeTotals.{GaugeTotals}
use Rattle.metric_desc.specs.Desc.{Descriptor}
use Rattle.expo_text.specs.declared.number.Number.TheVariants.{Counter, Histogram, Gauge}
use Rattle.expo_text.specs.Shown.{shown_bucket, shown_bounds, shown_last, shown_of_number}
use Rattle.expo_text.specs.Text.{labels_text}
use Rattle.expo_text.specs.Shown.{shown_line}
use Rattle.expo_text.proofs.Tokens.{Each, other_byte}
use Rattle.expo_text.proofs.Names.{is_value_byte, IsToken, shifted_token}
use Rattle.expo_text.proofs.ShiftedNumbers.{shifted_none}
use Rattle.expo_text.specs.Walk.{mark, opened, series, value_text, bucket_front, bucket_line, bucket_lines}
use Rattle.expo_text.proofs.Braces.{labels_text-more}

-- a name and labels, and after them a value, are a line
line-is : (start digits : List ℕ) → start ++ (codes " " ++ digits ++ codes "\n") ≡ start ++ codes " " ++ digits ++ codes "\n"
line-is start digits = sym (append_assoc (start ++ codes " ") digits (codes "\n")
    ∙ append_assoc start (codes " ") (digits ++ codes "\n"))

-- the bucket of all values
pub last-parts : (front digits : List ℕ) → front ++ codes "+Inf\"} " ++ digits ++ codes "\n" ≡ bucket_line front
    (codes "+Inf") digits
last-parts front digits = ap (λ l. l ++ digits ++ codes "\n") (sym (append_assoc front (codes "+Inf") (codes "\"} ")))

-- the bytes of a number stand in a label as they are
plain : (token : List ℕ) → Each is_value_byte token → flat_map label_byte token ≡ token
plain [] h = refl
plain (c ∷ cs) h = rw (
  other_byte is_value_byte c 34 refl h.0,
  other_byte is_value_byte c 92 refl h.0,
  other_byte is_value_byte c 10 refl h.0,
) (ap (λ l. c ∷ l) (plain cs h.1))

plain-token : (token : List ℕ) → IsToken token → flat_map label_byte token ≡ token
plain-token [] h = absurd h
plain-token (c ∷ cs) h = plain (c ∷ cs) h

-- the line of a bucket after its front
front-line : (n o m b d : List ℕ)
    → (n ++ codes "_bucket" ++ o ++ m ++ codes "le=\"") ++ b ++ codes "\"} " ++ d ++ codes "\n"
    ≡ (n ++ codes "_bucket") ++ (o ++ (m ++ (codes "le" ++ codes "=\"" ++ b ++ codes "\"")) ++ codes "}") ++ codes " " ++ d
    ++ codes "\n"
front-line n o m b d = simp append_assoc refl

bucket-line : (desc : Descriptor) (labels : List (List ℕ × List ℕ)) (bound : List ℕ) (value : ℕ)
    → flat_map label_byte bound ≡ bound → bucket_line (bucket_front desc.name labels) bound (decimal value) ≡ shown_line
    (shown_bucket desc labels bound value)
bucket-line desc labels bound value same =
    let start = desc.name ++ codes "_bucket" in
    front-line desc.name (opened labels) (mark (length labels)) bound (decimal value)
    ∙ ap (λ b. start ++ (opened labels ++ (mark (length labels) ++ (codes "le" ++ codes "=\"" ++ b ++ codes "\"")) ++ codes "}")
    ++ codes " " ++ decimal value ++ codes "\n") (sym same)
    ∙ ap (λ l. start ++ l ++ codes " " ++ decimal value ++ codes "\n") (labels_text-more labels (codes "le", bound))
    ∙ ap (λ v. start ++ labels_text (labels ++ ((codes "le", bound) ∷ [])) ++ codes " " ++ v ++ codes "\n") (sym (shifted_none
    value))

-- one more bucket
pub buckets-next : (front : List ℕ) (digits : ℕ) (bounds cumulated : List ℕ) (n : ℕ)
    → bucket_lines front digits bounds cumulated n ++ bucket_line front (shifted digits (slice_index bounds n))
    (decimal (slice_index cumulated n)) ≡ bucket_lines front digits bounds cumulated (n + 1)
buckets-next front digits bounds cumulated n =
    let line : ℕ → List ℕ = λ k. bucket_line front (shifted digits (slice_index bounds k)) (decimal (slice_index cumulated k)) in
    flat_map_more (λ l. l) [] (map line (range_with_len 0 n)) (line n)
    ∙ ap (flat_map (λ l. l)) (sym (map-range_with_len_more line 0 n n (omega arith)))

-- lines on a range
map-lines : {X : Type 0} (g : X → List ℕ) (line : ℕ → List ℕ) (f : ℕ → X) (a n : ℕ) → ((k : ℕ) → k < a + n → line k ≡ g (f k))
    → flat_map (λ l. l) (map line (range_with_len a n)) ≡ flat_map g (map f (range_with_len a n))
map-lines g line f a zero same = refl
map-lines g line f a (suc n) same =
    ap₂ (λ x xs. x ++ xs) (same a (omega arith)) (map-lines g line f (a + 1) n (λ k below. same k (omega (arith, below))))

buckets-cumulated : (desc : Descriptor) (labels : List (List ℕ × List ℕ)) (buckets values : List ℕ) → length desc.bounds ≤ 24
    → ((k : ℕ) → k < length desc.bounds → slice_index desc.bounds k < 2 ^ 64)
    → ((k : ℕ) → k < 25 → slice_index values k ≡ cumulated buckets (length desc.bounds) k)
    → bucket_lines (bucket_front desc.name labels) desc.digits desc.bounds values (length desc.bounds) ≡ flat_map shown_line
    (shown_bounds desc labels buckets)
buckets-cumulated desc labels buckets values few small are =
    let front = bucket_front desc.name labels in
    map-lines shown_line
    (λ k. bucket_line front (shifted desc.digits (slice_index desc.bounds k)) (decimal (slice_index values k)))
    (λ k. shown_bucket desc labels (shifted desc.digits (slice_index desc.bounds k)) (cumulated buckets (length desc.bounds) k))
    0 (length desc.bounds)
    (λ k below.
    let inside : k < length desc.bounds = omega (arith, below) in
    ap (λ v. bucket_line front (shifted desc.digits (slice_index desc.bounds k)) (decimal v)) (are k (omega (arith, few, below)))
    ∙ bucket-line desc labels (shifted desc.digits (slice_index desc.bounds k)) (cumulated buckets (length desc.bounds) k)
    (plain-token (shifted desc.digits (slice_index desc.bounds k))
    (shifted_token desc.digits (slice_index desc.bounds k) (small k inside))))

three-after : (before a b c : List ℕ) → before ++ a ++ b ++ c ≡ before ++ (a ++ (b ++ (c ++ [])))
three-after before a b c =
    append_assoc (before ++ a) b c ∙ append_assoc before a (b ++ c) ∙ ap (λ l. before ++ (a ++ (b ++ l))) (sym (append-nil c))

-- the lines of a histogram
pub histogram-lines : (desc : Descriptor) (labels : List (List ℕ × List ℕ)) (totals : HistTotals) (values : List ℕ)
    → length desc.bounds ≤ 24 → ((k : ℕ) → k < length desc.bounds → slice_index desc.bounds k < 2 ^ 64)
    → ((k : ℕ) → k < 25 → slice_index values k ≡ cumulated totals.buckets (length desc.bounds) k)
    → totals.count ≡ sum totals.buckets
    → bucket_lines (bucket_front desc.name labels) desc.digits desc.bounds values (length desc.bounds)
    ++ bucket_line (bucket_front desc.name labels) (codes "+Inf") (decimal totals.count)
    ++ (series (desc.name ++ codes "_sum") labels ++ value_text (codes " ") (shifted desc.digits totals.sum))
    ++ (series (desc.name ++ codes "_count") labels ++ value_text (codes " ") (shifted 0 totals.count))
    ≡ flat_map shown_line (shown_of_number desc labels (Histogram totals))
histogram-lines desc labels totals values few small are count =
    let front : List ℕ = bucket_front desc.name labels in
    let total : List ℕ = series (desc.name ++ codes "_sum") labels in
    let number : List ℕ = series (desc.name ++ codes "_count") labels in
    let before : List ℕ = bucket_lines front desc.digits desc.bounds values (length desc.bounds) in
    let all_line : List ℕ = shown_line (shown_bucket desc labels (codes "+Inf") (sum totals.buckets)) in
    let sum_line : List ℕ = shown_line (record {
      name = desc.name ++ codes "_sum";
      labels = labels;
      value = pos totals.sum;
      digits
          = desc.digits;
    }) in
    let count_line : List ℕ =
    shown_line (record { name = desc.name ++ codes "_count"; labels = labels; value = pos totals.count; digits = 0 }) in
    ap (λ l. before ++ l ++ (total ++ value_text (codes " ") (shifted desc.digits totals.sum)) ++ (number ++ value_text (codes
    " ") (shifted 0 totals.count)))
    (ap (λ n. bucket_line front (codes "+Inf") (decimal n)) count
    ∙ bucket-line desc labels (codes "+Inf") (sum totals.buckets) refl)
    ∙ ap (λ l. before ++ all_line ++ l ++ (number ++ value_text (codes " ") (shifted 0 totals.count))) (line-is total (shifted
    desc.digits totals.sum))
    ∙ ap (λ l. before ++ all_line ++ sum_line ++ l) (line-is number (shifted 0 totals.count))
    ∙ three-after before all_line sum_line count_line
    ∙ ap (λ l. l ++ (all_line ++ (sum_line ++ (count_line ++ []))))
    (buckets-cumulated desc labels totals.buckets values few small are)
    ∙ sym (flat_map-append shown_line (shown_bounds desc labels totals.buckets) (shown_last desc labels totals))

-- the line of a counter, and of a gauge
pub counter-line : (desc : Descriptor) (labels : List (List ℕ × List ℕ)) (total : ℕ)
    → series (desc.name ++ []) labels ++ value_text (codes " ") (shifted desc.digits total) ≡ flat_map shown_line
    (shown_of_number desc labels (Counter total))
counter-line desc labels total =
    ap (λ name. series name labels ++ value_text (codes " ") (shifted desc.digits total)) (append-nil desc.name)
    ∙ line-is (series desc.name labels) (shifted desc.digits total)
    ∙ sym (append-nil (series desc.name labels ++ codes " " ++ shifted desc.digits total ++ codes "\n"))

pub gauge-line : (desc : Descriptor) (labels : List (List ℕ × List ℕ)) (totals : GaugeTotals) (blank digits : List ℕ)
    → blank ++ digits ≡ codes " " ++ signed_shifted desc.digits (pos totals.up -ℤ pos totals.down)
    → series (desc.name ++ []) labels ++ value_text blank digits ≡ flat_map shown_line
    (shown_of_number desc labels (Gauge totals))
gauge-line desc labels totals blank digits is =
    let value = signed_shifted desc.digits (pos totals.up -ℤ pos totals.down) in
    ap (λ name. series name labels ++ value_text blank digits) (append-nil desc.name)
    ∙ ap (λ l. series desc.name labels ++ (l ++ codes "\n")) is
    ∙ line-is (series desc.name labels) value
    ∙ sym (append-nil (series desc.name labels ++ codes " " ++ value ++ codes "\n"))
