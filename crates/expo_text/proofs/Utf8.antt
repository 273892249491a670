-- The text of a scrape is UTF-8.
use Rattle.std.proofs.Common.{◌≡◌, ℕ, suc, ◌<◌, ◌≤◌, Bool, true, false, List, [], ◌∷◌, ◌++◌, length, get_or, codes}
use Rattle.std.proofs.Common.{All, IsUtf8, IsAscii, inl, inr, refl, sym, ap, ap₂, ◌∙◌, subst, arith, append-nil, ltb-true, ne_eqb}
use Rattle.std.specs.Prelude.{nat_lt, ◌==◌, if◌then◌else◌, slice_index, zip, flat_map}
use Rattle.expo_text.specs.Shifted.{shifted, signed_shifted}
use Rattle.std.specs.List.{list_all}
use Rattle.std.proofs.lemmas.Bool.{and_parts, cases_lt}
use Rattle.std.proofs.lemmas.Bool.Decides.{nat_tests}
use Rattle.std.proofs.lemmas.Grind.{flat_map-append}
use Rattle.std.proofs.lemmas.List.Elements.{recursion_from_All}
use Rattle.std.proofs.lemmas.Str.{IsUtf8-append, IsUtf8-nil, IsUtf8-encode, IsUtf8-from_ascii, encode_ascii, inside_one}
use Rattle.std.proofs.lemmas.Str.Ascii.{IsAscii-nil, IsAscii-cons}
use lib.Utf8.{scalar, scalars, encode, encodes}
use Rattle.metric_names.specs.LabelName.{IsLabelName}
use Rattle.metric_names.specs.Escapes.{help_byte, label_byte}
use Rattle.metric_desc.specs.Desc.{Descriptor, IsDescOf}
use Rattle.metric_desc.specs.declared.kind.Kind.{Kind}
use Rattle.metric_desc.specs.declared.kind.Kind.TheVariants.{Counter as CounterKind, Histogram as HistogramKind}
use Rattle.metric_desc.specs.declared.kind.Kind.TheVariants.{Gauge as GaugeKind}
use Rattle.expo_text.specs.declared.number.Number.{Number}
use Rattle.expo_text.specs.declared.number.Number.TheVariants.{Counter, Histogram, Gauge}
use Rattle.expo_text.specs.Scraped.{Child, Family, Scraped}
use Rattle.expo_text.specs.Shown.{Shown, shown_bounds, shown_last, shown_of_number, shown_of_family}
use Rattle.expo_text.specs.Order.{IsNumberOf, IsFamily, IsScrape}
use Rattle.expo_text.specs.Spelled.{IsOfWords, IsSpelledValue, IsSpelled, IsSpelledIfPrinted}
use Rattle.expo_text.specs.Text.{label_text, labels_text, help_line, kind_text, type_line}
use Rattle.expo_text.specs.Shown.{shown_line, shown_group_of, shown_group_text, shown_text}
use Rattle.expo_text.proofs.Tokens.{Each as EachByte, each_of, each_weaker as each_byte_weaker}
use Rattle.expo_text.proofs.LabelsRead.{is_name_byte, IsNamed}
use Rattle.expo_text.proofs.Names.{metric_named, label_named, is_value_byte, IsToken, shifted_token, value_token}
use Rattle.expo_text.proofs.Pairs.{Each, each_weaker, each_both, each_append}
use Rattle.expo_text.proofs.Owned.{IsOfNames, each_bound, number_names}
use Rattle.expo_text.proofs.Once.{IsKnown, all_known}
use Rattle.expo_text.proofs.Printed.{IsSmall, number_small, each_sample}

-- a byte of ASCII
abbrev is_ascii : ℕ → Bool
is_ascii b = nat_lt b 128

all_ascii : (bytes : List ℕ) → EachByte is_ascii bytes → IsAscii bytes
all_ascii [] each = IsAscii-nil
all_ascii (b ∷ bytes) each = IsAscii-cons b bytes (ltb-true b 128 each.0) (all_ascii bytes each.1)

-- a text of ASCII
ascii : (bytes : List ℕ) → EachByte is_ascii bytes → IsUtf8 bytes
ascii bytes each = IsUtf8-from_ascii bytes (all_ascii bytes each)

-- a fixed text of ASCII, by computing
fixed : (bytes : List ℕ) → list_all is_ascii bytes ≡ true → IsUtf8 bytes
fixed bytes all = ascii bytes (each_of is_ascii bytes all)

-- texts behind one another
three : (a b c : List ℕ) → IsUtf8 a → IsUtf8 b → IsUtf8 c → IsUtf8 (a ++ b ++ c)
three a b c first second third = IsUtf8-append (a ++ b) c (IsUtf8-append a b first second) third

five : (a b c d e : List ℕ) → IsUtf8 a → IsUtf8 b → IsUtf8 c → IsUtf8 d → IsUtf8 e → IsUtf8 (a ++ b ++ c ++ d ++ e)
five a b c d e first second third fourth fifth = three (a ++ b ++ c) d e (three a b c first second third) fourth fifth

-- the pieces that a function makes of each
pieces : {X : Type 0} (f : X → List ℕ) (xs : List X) → Each (λ x. IsUtf8 (f x)) xs → IsUtf8 (flat_map f xs)
pieces f [] each = IsUtf8-nil
pieces f (x ∷ xs) each = IsUtf8-append (f x) (flat_map f xs) each.0 (pieces f xs each.1)

-- a text written byte by byte, of which bytes above ASCII are written as they are, and others in UTF-8
module _ (written : ℕ → List ℕ) (below : (b : ℕ) → b < 128 → IsUtf8 (written b))
    (above : (b : ℕ) → 128 ≤ b → written b ≡ b ∷ []) where
  as_it_is : (bytes : List ℕ) → ((k : ℕ) → k < length bytes → 128 ≤ get_or bytes k 0) → flat_map written bytes ≡ bytes
  as_it_is [] high = refl
  as_it_is (b ∷ bytes) high =
      ap₂ (λ (x y : List ℕ). x ++ y) (above b (high 0 (omega arith)))
      (as_it_is bytes (λ k within. high (suc k) (omega (arith, within))))

  one_char : (c : ℕ) → scalar c ≡ true → IsUtf8 (flat_map written (encode c))
  one_char c is = elim (cases_lt c 128) [
    | inl small ↦
        subst IsUtf8 (sym (ap (flat_map written) (encode_ascii c small) ∙ append-nil (written c))) (below c small)
    | inr big ↦
        let high : (k : ℕ) → k < length (encode c) → 128 ≤ get_or (encode c) k 0 = λ k within.
        elim (cases_lt (get_or (encode c) k 0) 128) [
          | inl low ↦ absurd (omega (arith, big, inside_one c [] (encode c) k (sym (append-nil (encode c))) within low))
          | inr h ↦ h
        ] in
        subst IsUtf8 (sym (as_it_is (encode c) high)) (IsUtf8-encode c is)
  ]

  all_chars : (cs : List ℕ) → scalars cs ≡ true → IsUtf8 (flat_map written (encodes cs))
  all_chars [] all = IsUtf8-nil
  all_chars (c ∷ cs) all =
      let parts = and_parts (scalar c) (scalars cs) all in
      subst IsUtf8 (sym (flat_map-append written (encode c) (encodes cs)))
      (IsUtf8-append (flat_map written (encode c)) (flat_map written (encodes cs)) (one_char c parts.0) (all_chars cs parts.1))

  written_utf8 : (bytes : List ℕ) → IsUtf8 bytes → IsUtf8 (flat_map written bytes)
  written_utf8 bytes is = subst (λ made. IsUtf8 (flat_map written made)) is.1.1 (all_chars is.0 is.1.0)

-- one of two texts
either : (c : Bool) (a b : List ℕ) → IsUtf8 a → IsUtf8 b → IsUtf8 (if c then a else b)
either true a b first second = first
either false a b first second = second

-- the escapes
help_below : (b : ℕ) → b < 128 → IsUtf8 (help_byte b)
help_below b small =
    either (b == 92) (codes "\\\\") (if b == 10 then codes "\\n" else b ∷ []) (fixed (codes "\\\\") refl)
    (either (b == 10) (codes "\\n") (b ∷ []) (fixed (codes "\\n") refl)
    (IsUtf8-from_ascii (b ∷ []) (IsAscii-cons b [] small IsAscii-nil)))

label_below : (b : ℕ) → b < 128 → IsUtf8 (label_byte b)
label_below b small = either (b == 34) (codes "\\\"") (help_byte b) (fixed (codes "\\\"") refl) (help_below b small)

help_above : (b : ℕ) → 128 ≤ b → help_byte b ≡ b ∷ []
help_above b big =
    let slash : (b == 92) ≡ false = ne_eqb b 92 (λ e. omega (arith, e, big)) in
    let feed : (b == 10) ≡ false = ne_eqb b 10 (λ e. omega (arith, e, big)) in
    rw (slash, feed) refl

label_above : (b : ℕ) → 128 ≤ b → label_byte b ≡ b ∷ []
label_above b big =
    let quote : (b == 34) ≡ false = ne_eqb b 34 (λ e. omega (arith, e, big)) in
    rw quote (help_above b big)

-- a name
name_ascii : (b : ℕ) → is_name_byte b ≡ true → is_ascii b ≡ true
name_ascii b h = grind (arith, nat_tests)

named_utf8 : (name : List ℕ) → IsNamed name → IsUtf8 name
named_utf8 [] is = absurd is
named_utf8 (b ∷ bytes) is = ascii (b ∷ bytes) (each_byte_weaker is_name_byte is_ascii name_ascii (b ∷ bytes) is)

-- a value
value_ascii : (b : ℕ) → is_value_byte b ≡ true → is_ascii b ≡ true
value_ascii b h = grind (arith, nat_tests)

token_utf8 : (token : List ℕ) → IsToken token → IsUtf8 token
token_utf8 [] is = absurd is
token_utf8 (b ∷ bytes) is = ascii (b ∷ bytes) (each_byte_weaker is_value_byte is_ascii value_ascii (b ∷ bytes) is)

-- a label
abbrev IsUtf8Label : List ℕ × List ℕ → Type 0
IsUtf8Label label = IsUtf8 (label_text label)

label_utf8 : (name value : List ℕ) → IsUtf8 name → IsUtf8 value → IsUtf8Label (name, value)
label_utf8 name value is_name is_value =
    IsUtf8-append (name ++ codes "=\"" ++ flat_map label_byte value) (codes "\"")
    (three name (codes "=\"") (flat_map label_byte value) is_name (fixed (codes "=\"") refl)
    (written_utf8 label_byte label_below label_above value is_value))
    (fixed (codes "\"") refl)

-- the labels of a child
own_utf8 : (names values : List (List ℕ)) → Each IsLabelName names → Each IsSpelledValue values
    → Each IsUtf8Label (zip names values)
own_utf8 [] values is_names is_values = tt
own_utf8 (name ∷ names) [] is_names is_values = tt
own_utf8 (name ∷ names) (value ∷ values) is_names is_values = (
  label_utf8 name value (named_utf8 name (label_named name is_names.0)) is_values.0.utf8,
  own_utf8 names values is_names.1 is_values.1,
)

-- labels in braces
labels_utf8 : (labels : List (List ℕ × List ℕ)) → Each IsUtf8Label labels → IsUtf8 (labels_text labels)
labels_utf8 [] each = IsUtf8-nil
labels_utf8 (label ∷ labels) each =
    let next : List ℕ × List ℕ → List ℕ = λ other. codes "," ++ label_text other in
    let rest = pieces next labels (each_weaker IsUtf8Label (λ other. IsUtf8 (next other))
    (λ other is. IsUtf8-append (codes ",") (label_text other) (fixed (codes ",") refl) is) labels each.1) in
    three (codes "{") (label_text label ++ flat_map next labels) (codes "}") (fixed (codes "{") refl)
    (IsUtf8-append (label_text label) (flat_map next labels) each.0 rest) (fixed (codes "}") refl)

-- the labels of a sample
abbrev HasUtf8Labels : Shown → Type 0
HasUtf8Labels sample = IsUtf8 (labels_text sample.labels)

bucket_labels : (own : List (List ℕ × List ℕ)) (bound : List ℕ) → Each IsUtf8Label own → IsUtf8 bound
    → IsUtf8 (labels_text (own ++ ((codes "le", bound) ∷ [])))
bucket_labels own bound each is =
    labels_utf8 (own ++ ((codes "le", bound) ∷ []))
    (each_append IsUtf8Label own ((codes "le", bound) ∷ []) each (label_utf8 (codes "le") bound (fixed (codes "le") refl) is, tt))

number_labels : (desc : Descriptor) (own : List (List ℕ × List ℕ)) (number : Number) → IsNumberOf desc.kind number
    → IsDescOf desc.kind desc.labels desc.bounds → Each IsUtf8Label own → Each HasUtf8Labels (shown_of_number desc own number)
number_labels desc own (Counter total) is kept each = (labels_utf8 own each, tt)
number_labels desc own (Histogram totals) is kept each =
    let plain = labels_utf8 own each in
    let bounds = (kept.histogram is.0).bounds_ok in
    each_append HasUtf8Labels (shown_bounds desc own totals.buckets) (shown_last desc own totals)
    (each_bound HasUtf8Labels desc own totals.buckets (λ k within. let bound = bounds.bounded k 0 within in
    bucket_labels own (shifted desc.digits (slice_index desc.bounds k)) each
    (token_utf8 (shifted desc.digits (slice_index desc.bounds k))
    (shifted_token desc.digits (slice_index desc.bounds k) (omega (arith, bound))))))
    (bucket_labels own (codes "+Inf") each (fixed (codes "+Inf") refl), (plain, (plain, tt)))
number_labels desc own (Gauge totals) is kept each = (labels_utf8 own each, tt)

-- the line of a sample
abbrev IsUtf8Line : Shown → Type 0
IsUtf8Line sample = IsUtf8 (shown_line sample)

line_utf8 : (sample : Shown) → IsUtf8 sample.name → HasUtf8Labels sample → IsSmall sample → IsUtf8Line sample
line_utf8 sample name labels small =
    five sample.name (labels_text sample.labels) (codes " ") (signed_shifted sample.digits sample.value) (codes "\n") name labels
    (fixed (codes " ") refl) (token_utf8 (signed_shifted sample.digits sample.value) (value_token sample.digits sample.value
    small)) (fixed (codes "\n") refl)

-- the names of a kind's samples
names_utf8 : (name : List ℕ) (kind : Kind) → IsUtf8 name → IsOfNames IsUtf8 name kind
names_utf8 name kind is = record {
  counter = λ _. is;
  bucket = λ _. IsUtf8-append name (codes "_bucket") is (fixed (codes "_bucket") refl);
  sum = λ _. IsUtf8-append name (codes "_sum") is (fixed (codes "_sum") refl);
  count = λ _. IsUtf8-append name (codes "_count") is (fixed (codes "_count") refl);
  gauge = λ _. is;
}

-- the lines of a number's samples
number_lines : (desc : Descriptor) (own : List (List ℕ × List ℕ)) (number : Number) → IsNumberOf desc.kind number
    → IsOfWords number → IsUtf8 desc.name → IsDescOf desc.kind desc.labels desc.bounds → Each IsUtf8Label own
    → Each IsUtf8Line (shown_of_number desc own number)
number_lines desc own number is words name kept each =
    let all = shown_of_number desc own number in
    let named = number_names IsUtf8 desc own number is (names_utf8 desc.name desc.kind name) in
    let labelled = number_labels desc own number is kept each in
    each_weaker (λ (sample : Shown). (IsUtf8 sample.name × HasUtf8Labels sample) × IsSmall sample) IsUtf8Line
    (λ sample known. line_utf8 sample known.0.0 known.0.1 known.1) all
    (each_both (λ (sample : Shown). IsUtf8 sample.name × HasUtf8Labels sample) IsSmall all
    (each_both (λ (sample : Shown). IsUtf8 sample.name) HasUtf8Labels all named labelled)
    (number_small desc own number is words))

-- the lines of a family's samples
family_lines : (family : Family) → IsFamily family → IsSpelled family → IsUtf8 family.desc.name
    → Each IsUtf8Line (shown_of_family family)
family_lines family is spelled name =
    each_sample IsUtf8Line family is spelled (λ child number known.
    number_lines family.desc (zip family.desc.labels child.values) child.number number known.number name spelled.desc.kept
    (own_utf8 family.desc.labels child.values (recursion_from_All IsLabelName family.desc.labels spelled.desc.labels)
    (recursion_from_All IsSpelledValue child.values known.values)))

-- the line of a help
help_utf8 : (name help : List ℕ) → IsUtf8 name → IsUtf8 help → IsUtf8 (help_line name help)
help_utf8 name [] is_name is_help = IsUtf8-nil
help_utf8 name (byte ∷ bytes) is_name is_help =
    five (codes "# HELP ") name (codes " ") (flat_map help_byte (byte ∷ bytes)) (codes "\n") (fixed (codes "# HELP ") refl)
    is_name (fixed (codes " ") refl) (written_utf8 help_byte help_below help_above (byte ∷ bytes) is_help) (fixed (codes "\n")
    refl)

-- the line of a type
kind_utf8 : (kind : Kind) → IsUtf8 (kind_text kind)
kind_utf8 CounterKind = fixed (codes "counter") refl
kind_utf8 HistogramKind = fixed (codes "histogram") refl
kind_utf8 GaugeKind = fixed (codes "gauge") refl

type_utf8 : (desc : Descriptor) → IsUtf8 desc.name → IsUtf8 (type_line desc)
type_utf8 desc name =
    five (codes "# TYPE ") desc.name (codes " ") (kind_text desc.kind) (codes "\n") (fixed (codes "# TYPE ") refl) name
    (fixed (codes " ") refl) (kind_utf8 desc.kind) (fixed (codes "\n") refl)

-- the lines of a family that is printed
family_utf8 : (family : Family) → IsFamily family → IsSpelled family
    → IsUtf8 (help_line family.desc.name family.desc.help ++ type_line family.desc
    ++ flat_map shown_line (shown_of_family family))
family_utf8 family is spelled =
    let desc = family.desc in
    let name = named_utf8 desc.name (metric_named desc.name spelled.desc.name) in
    three (help_line desc.name desc.help) (type_line desc) (flat_map shown_line (shown_of_family family))
    (help_utf8 desc.name desc.help name spelled.desc.utf8) (type_utf8 desc name)
    (pieces shown_line (shown_of_family family) (family_lines family is spelled name))

-- a group, where there are children, and nothing else
group_utf8 : (desc : Descriptor) (children : List Child) (all : List Shown)
    → (0 < length children → IsUtf8 (help_line desc.name desc.help ++ type_line desc ++ flat_map shown_line all))
    → IsUtf8 (shown_group_of desc children all)
group_utf8 desc [] all holds = IsUtf8-nil
group_utf8 desc (_ ∷ _) all holds = holds (omega arith)

pub text_utf8 : (scrape : Scraped) → IsScrape scrape → All IsSpelledIfPrinted scrape.families → IsUtf8 (shown_text scrape)
text_utf8 scrape is spelled =
    pieces shown_group_text scrape.families
    (each_weaker IsKnown (λ family. IsUtf8 (shown_group_text family))
    (λ family known. group_utf8 family.desc family.children (shown_of_family family)
    (λ printed. family_utf8 family known.kept (known.spelled printed))) scrape.families
    (all_known scrape is spelled))
