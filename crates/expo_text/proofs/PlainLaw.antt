-- Where no family is shifted, the shown text is the text, and what is read to no place is what is read.
use Rattle.std.proofs.Common.{◌≡◌, ◌↔◌, ℕ, zero, suc, ◌+◌, ◌-◌, ◌*◌, ◌^◌, ◌≤◌, List, [], ◌∷◌, ◌++◌, length, map, codes, decimal}
use Rattle.std.proofs.Common.{inl, inr, refl, sym, ap, ap₂, ◌∙◌, subst, arith, append-nil}
use Rattle.std.specs.Prelude.{ℤ, pos, negsuc, neg_ℤ, ◌*ℤ◌, Option, Some, None, All, zip, flat_map, slice_index}
use Rattle.std.specs.List.{range_with_len}
use Rattle.std.specs.Fmt.{signed_decimal}
use Rattle.std.specs.Str.Parse.{IsNumeral, digits_value}
use Rattle.std.proofs.lemmas.List.{map-append}
use Rattle.std.proofs.lemmas.List.Elements.{All-weaker, recursion_from_All}
use Rattle.bucket_math.specs.Buckets.{cumulated}
use Rattle.metric_desc.specs.Desc.{Descriptor}
use Rattle.metric_desc.specs.declared.kind.Kind.{Kind}
use Rattle.metric_desc.specs.declared.kind.Kind.TheVariants.{Histogram as HistogramKind}
use Rattle.expo_text.specs.declared.number.Number.{Number}
use Rattle.expo_text.specs.declared.number.Number.TheVariants.{Counter, Histogram, Gauge}
use Rattle.expo_text.specs.Scraped.{Child, Family, Scraped}
use Rattle.expo_text.specs.Order.{IsScrape}
use Rattle.expo_text.specs.Spelled.{IsSpelledIfPrinted}
use Rattle.expo_text.specs.Samples.{Sample, last_samples, samples_of_number, samples_of_child}
use Rattle.expo_text.specs.Text.{labels_text, help_line, type_line, sample_line, group_of, group_text, text}
use Rattle.expo_text.specs.Shifted.{pointed, WritesTo, shifted, signed_shifted}
use Rattle.expo_text.specs.Shown.{Shown, shown_bounds, shown_last, shown_of_number, shown_of_child, shown_of_family, shown_line}
use Rattle.expo_text.specs.Shown.{shown_group_of, shown_group_text, shown_text, ArePlain}
use Rattle.expo_text.specs.Groups.{Group, group_of_children, group_of_family, groups_of}
use Rattle.expo_text.specs.Lines.{Written}
use Rattle.expo_text.specs.Parts.{Part}
use Rattle.expo_text.specs.Reads.{Match, WritesValue, WritesBound, IsSample, IsGroup, IsBucket, IsOfHistogram, IsNoHigher}
use Rattle.expo_text.specs.Reads.{IsHistogramGroup, Reads}
use Rattle.expo_text.specs.ReadsTo.{worth, group_to, groups_to, WritesValueTo, WritesBoundTo, IsSampleTo, IsGroupTo, IsBucketTo}
use Rattle.expo_text.specs.ReadsTo.{IsOfHistogramTo, IsNoHigherTo, IsHistogramGroupTo, ReadsTo}
use Rattle.expo_text.proofs.Pairs.{Each, each_weaker, each_any, each_flat_map}
use Rattle.expo_text.proofs.Families.{HasFew}
use Rattle.expo_text.proofs.SamplesRead.{IsWithin}
use Rattle.expo_text.proofs.Printed.{number_within}
use Rattle.expo_text.proofs.ShiftedNumbers.{shifted_none}
use Rattle.expo_text.proofs.ReadingLaw.{reading_law_to}

-- decimal digits write a number to no place
writes_plain : (token : List ℕ) (n : ℕ) → IsNumeral 10 token → digits_value 10 token ≡ n → WritesTo 0 token n
writes_plain token n numeral value = record {
  whole = token;
  part = [];
  is = sym (append-nil token);
  numeral = numeral;
  digits = tt;
  few = omega arith;
  value = omega (arith, value);
}

no_part : (part : List ℕ) → length part ≤ 0 → part ≡ []
no_part [] few = refl
no_part (c ∷ cs) few = absurd (omega (arith, few))

-- and only they do
token_plain : (token : List ℕ) (n : ℕ) → (writes : WritesTo 0 token n) → token ≡ writes.whole
token_plain token n writes =
    writes.is ∙ ap (λ p. writes.whole ++ pointed p) (no_part writes.part writes.few) ∙ append-nil writes.whole

numeral_plain : (token : List ℕ) (n : ℕ) → WritesTo 0 token n → IsNumeral 10 token
numeral_plain token n writes = subst (IsNumeral 10) (sym (token_plain token n writes)) writes.numeral

value_plain : (token : List ℕ) (n : ℕ) → WritesTo 0 token n → digits_value 10 token ≡ n
value_plain token n writes =
    let whole = writes.whole in
    let is = writes.value ∙ ap (λ p. digits_value 10 whole * 10 ^ 0 + digits_value 10 p * 10 ^ (0 - length p))
    (no_part writes.part writes.few) in
    ap (digits_value 10) (token_plain token n writes) ∙ (let same : digits_value 10 whole ≡ n = omega (arith, is) in same)

-- values
value_to : (kind : Kind) (token : List ℕ) (value : ℤ) → WritesValue kind token value → WritesValueTo 0 kind token value
value_to kind token value (inl m) = inl (digits_value 10 token, writes_plain token _ m.0 refl, m.1)
value_to kind token value (inr m) = inr (m.0, digits_value 10 m.0, m.1, m.2, writes_plain m.0 _ m.3 refl, m.4)

value_from : (kind : Kind) (token : List ℕ) (value : ℤ) → WritesValueTo 0 kind token value → WritesValue kind token value
value_from kind token value (inl m) = inl (numeral_plain token m.0 m.1, m.2 ∙ ap pos (sym (value_plain token m.0 m.1)))
value_from kind token value (inr m) =
    inr (m.0, m.2, m.3, numeral_plain m.0 m.1 m.4, m.5 ∙ ap (λ k. neg_ℤ (pos k)) (sym (value_plain m.0 m.1 m.4)))

-- a relation between lists, weakened
match_weaker : {A B : Type 0} (R S : A → B → Type 0) → ((x : A) (y : B) → R x y → S x y) → (xs : List A) (ys : List B)
    → Match R xs ys → Match S xs ys
match_weaker R S weaker [] [] all = tt
match_weaker R S weaker [] (_ ∷ _) all = absurd all
match_weaker R S weaker (_ ∷ _) [] all = absurd all
match_weaker R S weaker (x ∷ xs) (y ∷ ys) all = (weaker x y all.0, match_weaker R S weaker xs ys all.1)

-- samples and groups
sample_to : (kind : Kind) (written : Written) (sample : Sample) → IsSample kind written sample → IsSampleTo 0 kind written sample
sample_to kind written sample is = record {
  name = is.name;
  labels = is.labels;
  value = value_to kind written.value sample.value is.value;
}

sample_from : (kind : Kind) (written : Written) (sample : Sample) → IsSampleTo 0 kind written sample → IsSample kind written
    sample
sample_from kind written sample is = record {
  name = is.name;
  labels = is.labels;
  value = value_from kind written.value sample.value is.value;
}

part_to : (part : Part) (group : Group) → IsGroup part group → IsGroupTo 0 part group
part_to part group is = record {
  name = is.name;
  spelled = is.spelled;
  help = is.help;
  kind = is.kind;
  samples = match_weaker (IsSample group.kind) (IsSampleTo 0 group.kind) (sample_to group.kind) part.samples group.samples
      is.samples;
}

part_from : (part : Part) (group : Group) → IsGroupTo 0 part group → IsGroup part group
part_from part group is = record {
  name = is.name;
  spelled = is.spelled;
  help = is.help;
  kind = is.kind;
  samples = match_weaker (IsSampleTo 0 group.kind) (IsSample group.kind) (sample_from group.kind) part.samples group.samples
      is.samples;
}

-- bounds
bound_to : (token : List ℕ) (bound : Option ℕ) → WritesBound token bound → WritesBoundTo 0 token bound
bound_to token (Some n) writes = writes_plain token n writes.0 writes.1
bound_to token None writes = writes

bound_from : (token : List ℕ) (bound : Option ℕ) → WritesBoundTo 0 token bound → WritesBound token bound
bound_from token (Some n) writes = (numeral_plain token n writes, value_plain token n writes)
bound_from token None writes = writes

bucket_to : (name : List ℕ) (bound : Option ℕ) (sample : Sample) → IsBucket name bound sample → IsBucketTo 0 name bound sample
bucket_to name bound sample is =
    record { named = is.named; token = is.token; le = is.le; writes = bound_to is.token bound is.writes }

bucket_from : (name : List ℕ) (bound : Option ℕ) (sample : Sample) → IsBucketTo 0 name bound sample → IsBucket name bound sample
bucket_from name bound sample is =
    record { named = is.named; token = is.token; le = is.le; writes = bound_from is.token bound is.writes }

-- histograms
formed_to : (name : List ℕ) (sample : Sample) → IsOfHistogram name sample → IsOfHistogramTo 0 name sample
formed_to name sample (inl bucket) = inl (bucket.0, bucket_to name bucket.0 sample bucket.1)
formed_to name sample (inr rest) = inr rest

formed_from : (name : List ℕ) (sample : Sample) → IsOfHistogramTo 0 name sample → IsOfHistogram name sample
formed_from name sample (inl bucket) = inl (bucket.0, bucket_from name bucket.0 sample bucket.1)
formed_from name sample (inr rest) = inr rest

rise_to : (name : List ℕ) (a b : Sample) → IsNoHigher name a b → IsNoHigherTo 0 name a b
rise_to name a b rises x y is_a is_b child lower = rises x y (bucket_from name x a is_a) (bucket_from name y b is_b) child lower

rise_from : (name : List ℕ) (a b : Sample) → IsNoHigherTo 0 name a b → IsNoHigher name a b
rise_from name a b rises x y is_a is_b child lower = rises x y (bucket_to name x a is_a) (bucket_to name y b is_b) child lower

histogram_to : (group : Group) → IsHistogramGroup group → IsHistogramGroupTo 0 group
histogram_to group is = record {
  formed = All-weaker (IsOfHistogram group.name) (IsOfHistogramTo 0 group.name) (formed_to group.name) group.samples is.formed;
  rising = λ i j d lt within. (
      let both = is.rising i j d lt within in
      (rise_to group.name _ _ both.0, rise_to group.name _ _ both.1));
  whole = is.whole;
}

histogram_from : (group : Group) → IsHistogramGroupTo 0 group → IsHistogramGroup group
histogram_from group is = record {
  formed = All-weaker (IsOfHistogramTo 0 group.name) (IsOfHistogram group.name) (formed_from group.name) group.samples is.formed;
  rising = λ i j d lt within. (
      let both = is.rising i j d lt within in
      (rise_from group.name _ _ both.0, rise_from group.name _ _ both.1));
  whole = is.whole;
}

-- a text that is read is one that is read to no place
reads_to : (bytes : List ℕ) (groups : List Group) → Reads bytes groups → ReadsTo 0 bytes groups
reads_to bytes groups is = record {
  lines = is.lines;
  cut = is.cut;
  entries = is.entries;
  formed = is.formed;
  parts = is.parts;
  blocks = is.blocks;
  matched = match_weaker IsGroup (IsGroupTo 0) part_to is.parts groups is.matched;
  unbroken = is.unbroken;
  once = is.once;
  labels = is.labels;
  histograms = All-weaker (λ (group : Group). group.kind ≡ HistogramKind → IsHistogramGroup group)
      (λ group. group.kind ≡ HistogramKind → IsHistogramGroupTo 0 group)
      (λ group is_one kind. histogram_to group (is_one kind)) groups is.histograms;
}

reads_from : (bytes : List ℕ) (groups : List Group) → ReadsTo 0 bytes groups → Reads bytes groups
reads_from bytes groups is = record {
  lines = is.lines;
  cut = is.cut;
  entries = is.entries;
  formed = is.formed;
  parts = is.parts;
  blocks = is.blocks;
  matched = match_weaker (IsGroupTo 0) IsGroup part_from is.parts groups is.matched;
  unbroken = is.unbroken;
  once = is.once;
  labels = is.labels;
  histograms = All-weaker (λ (group : Group). group.kind ≡ HistogramKind → IsHistogramGroupTo 0 group)
      (λ group. group.kind ≡ HistogramKind → IsHistogramGroup group)
      (λ group is_one kind. histogram_from group (is_one kind)) groups is.histograms;
}

pub reads_plain : (bytes : List ℕ) (groups : List Group) → ReadsTo 0 bytes groups ↔ Reads bytes groups
reads_plain bytes groups = (reads_from bytes groups, reads_to bytes groups)

-- a shown sample without its digits
abbrev unshifted : Shown → Sample
unshifted sample = record { name = sample.name; labels = sample.labels; value = sample.value }

times_one : (value : ℤ) (k : ℕ) → k ≡ 1 → value *ℤ pos k ≡ value
times_one (pos n) k one = ap pos (ap (λ x. n * x) one ∙ (let same : n * 1 ≡ n = omega arith in same))
times_one (negsuc n) k one =
    ap (λ m. neg_ℤ (pos m)) (ap (λ x. suc n * x) one ∙ (let same : suc n * 1 ≡ suc n = omega arith in same))

-- to no place it is worth its value
worth_none : (samples : List Shown) → map (worth 0) samples ≡ map unshifted samples
worth_none [] = refl
worth_none (sample ∷ samples) =
    ap₂ (λ (v : ℤ) (rest : List Sample). record { name = sample.name; labels = sample.labels; value = v } ∷ rest)
    (times_one sample.value (10 ^ (0 - sample.digits)) (ap (λ k. 10 ^ k) (let none : 0 - sample.digits ≡ 0 = omega arith in
    none)))
    (worth_none samples)

-- an unshifted value
value_none : (digits : ℕ) (value : ℤ) → digits ≤ 0 → signed_shifted digits value ≡ signed_decimal value
value_none zero (pos n) few = shifted_none n
value_none zero (negsuc n) few = ap (λ text. 45 ∷ text) (shifted_none (suc n))
value_none (suc digits) value few = absurd (omega (arith, few))

-- unshifted lines
lines_none : (samples : List Shown) → Each (IsWithin 0) samples
    → flat_map shown_line samples ≡ flat_map sample_line (map unshifted samples)
lines_none [] few = refl
lines_none (sample ∷ samples) few =
    ap₂ (λ v rest. (sample.name ++ labels_text sample.labels ++ codes " " ++ v ++ codes "\n") ++ rest)
    (value_none sample.digits sample.value few.0) (lines_none samples few.1)

-- on a range
map_range : (f : ℕ → Shown) (g : ℕ → Sample) (a n : ℕ) → ((k : ℕ) → unshifted (f k) ≡ g k)
    → map unshifted (map f (range_with_len a n)) ≡ map g (range_with_len a n)
map_range f g a zero same = refl
map_range f g a (suc n) same = ap₂ (λ x xs. x ∷ xs) (same a) (map_range f g (a + 1) n same)

-- the bounds of a family that is not shifted
bound_none : (desc : Descriptor) → desc.digits ≡ 0 → (n : ℕ) → shifted desc.digits n ≡ decimal n
bound_none desc none n = ap (λ d. shifted d n) none ∙ shifted_none n

-- its samples
number_none : (desc : Descriptor) (own : List (List ℕ × List ℕ)) (number : Number) → desc.digits ≡ 0
    → map unshifted (shown_of_number desc own number) ≡ samples_of_number desc own number
number_none desc own (Counter total) none = refl
number_none desc own (Histogram totals) none =
    map-append unshifted (shown_bounds desc own totals.buckets) (shown_last desc own totals)
    ∙ ap (λ xs. xs ++ last_samples desc own totals)
    (map_range _ _ 0 (length desc.bounds) (λ k.
    ap (λ (b : List ℕ). record {
      name = desc.name ++ codes "_bucket";
      labels = own ++ ((codes "le", b) ∷ []);
      value = pos (cumulated totals.buckets (length desc.bounds) k);
    }) (bound_none desc none (slice_index desc.bounds k))))
number_none desc own (Gauge totals) none = refl

children_none : (desc : Descriptor) (children : List Child) → desc.digits ≡ 0
    → map unshifted (flat_map (shown_of_child desc) children) ≡ flat_map (samples_of_child desc) children
children_none desc [] none = refl
children_none desc (child ∷ children) none =
    map-append unshifted (shown_of_child desc child) (flat_map (shown_of_child desc) children)
    ∙ ap₂ (λ x y. x ++ y) (number_none desc (zip desc.labels child.values) child.number none) (children_none desc children none)

-- its group
group_text_none : (desc : Descriptor) (children : List Child) (samples : List Shown) → Each (IsWithin 0) samples
    → shown_group_of desc children samples ≡ group_of desc children (map unshifted samples)
group_text_none desc [] samples few = refl
group_text_none desc (_ ∷ _) samples few =
    ap (λ lines. help_line desc.name desc.help ++ type_line desc ++ lines) (lines_none samples few)

-- its samples are shifted by no digits
family_few : (family : Family) → family.desc.digits ≡ 0 → Each (IsWithin 0) (shown_of_family family)
family_few family none =
    each_flat_map (IsWithin 0) (shown_of_child family.desc) family.children
    (each_any (λ child. Each (IsWithin 0) (shown_of_child family.desc child))
    (λ child. number_within 0 family.desc (zip family.desc.labels child.values) child.number (omega (arith, none)))
    family.children)

family_text_none : (family : Family) → family.desc.digits ≡ 0 → shown_group_text family ≡ group_text family
family_text_none family none =
    group_text_none family.desc family.children (shown_of_family family) (family_few family none)
    ∙ ap (group_of family.desc family.children) (children_none family.desc family.children none)

family_groups_none : (family : Family) → family.desc.digits ≡ 0 → group_to 0 family ≡ group_of_family family
family_groups_none family none =
    ap (group_of_children family.desc family.children)
    (worth_none (shown_of_family family) ∙ children_none family.desc family.children none)

-- families that are not shifted
abbrev IsPlain : Family → Type 0
IsPlain family = family.desc.digits ≡ 0

texts_none : (families : List Family) → Each IsPlain families → flat_map shown_group_text families ≡ flat_map group_text families
texts_none [] plain = refl
texts_none (family ∷ families) plain = ap₂ (λ x y. x ++ y) (family_text_none family plain.0) (texts_none families plain.1)

groups_none : (families : List Family) → Each IsPlain families
    → flat_map (group_to 0) families ≡ flat_map group_of_family families
groups_none [] plain = refl
groups_none (family ∷ families) plain = ap₂ (λ x y. x ++ y) (family_groups_none family plain.0) (groups_none families plain.1)

-- the text of a scrape that is not shifted
pub text_plain : (scrape : Scraped) → ArePlain scrape → shown_text scrape ≡ text scrape
text_plain scrape plain = texts_none scrape.families (recursion_from_All IsPlain scrape.families plain)

-- and its groups
pub groups_plain : (scrape : Scraped) → ArePlain scrape → groups_to 0 scrape ≡ groups_of scrape
groups_plain scrape plain = groups_none scrape.families (recursion_from_All IsPlain scrape.families plain)

-- it is read as these groups, and as no others
pub reading_law_plain : (scrape : Scraped) → IsScrape scrape → All IsSpelledIfPrinted scrape.families → ArePlain scrape
    → (groups : List Group) → Reads (shown_text scrape) groups ↔ (groups ≡ groups_of scrape)
reading_law_plain scrape is spelled plain groups =
    let law = reading_law_to 0 scrape is spelled
    (each_weaker IsPlain (HasFew 0) (λ family none _. omega (arith, none)) scrape.families
    (recursion_from_All IsPlain scrape.families plain)) groups in
    let same = groups_plain scrape plain in (
      λ reads. law.0 (reads_to (shown_text scrape) groups reads) ∙ same,
      λ is. reads_from (shown_text scrape) groups (law.1 (is ∙ sym same)),
    )
