-- A scraper parts the lines of printed groups into those groups.
use Rattle.std.proofs.Common.{◌≡◌, ◌≢◌, ℕ, true, false, List, [], ◌∷◌, ◌++◌, map, refl, sym, ap, ◌∙◌, append-nil, append_assoc}
use Rattle.std.specs.Prelude.{All, codes}
use Rattle.std.proofs.lemmas.Bool.{cond-true}
use Rattle.metric_desc.specs.declared.kind.Kind.{Kind}
use Rattle.metric_desc.specs.declared.kind.Kind.TheVariants.{Counter, Histogram, Gauge}
use Rattle.expo_text.specs.Scraped.{Scraped}
use Rattle.expo_text.specs.Shown.{Shown}
use Rattle.expo_text.specs.Order.{IsScrape}
use Rattle.expo_text.specs.Spelled.{IsSpelledIfPrinted}
use Rattle.expo_text.proofs.ShownGroups.{ShownGroup, shown_groups, group_for}
use Rattle.expo_text.specs.Lines.{is_same_text, LineEntry, Help, Typed}
use Rattle.expo_text.specs.Parts.{Part}
use Rattle.expo_text.proofs.Walked.{ends_of, has_end, begun, gathered, parts_of}
use Rattle.expo_text.specs.Reads.{word_of}
use Rattle.expo_text.proofs.Entries.{written_of, help_entries, sampled, entries_of, helps_of, part_of}
use Rattle.expo_text.proofs.Tokened.{same_self, same_other}
use Rattle.expo_text.proofs.PartsWalked.{end_here, end_later}
use Rattle.expo_text.proofs.Pairs.{Each, Pairs, each_weaker}
use Rattle.expo_text.proofs.Families.{IsPrinted, each_group, unbroken_pairs}
use Rattle.expo_text.proofs.Owned.{IsOfNames, family_names}
use Rattle.expo_text.proofs.Once.{IsKnown, all_known}

-- each sample's name is one of its group
abbrev pub IsNamed : ShownGroup → Type 0
IsNamed group = Each (λ (sample : Shown). has_end sample.name group.name (ends_of (word_of group.kind ∷ [])) ≡ true)
    group.samples

-- the samples after the types of their group
gathered-samples : (part : Part) (samples : List Shown) (rest : List LineEntry)
    → Each (λ (sample : Shown). has_end sample.name part.name (ends_of part.types) ≡ true) samples
    → gathered part (map sampled samples ++ rest) ≡ gathered (record part { samples = part.samples ++ map written_of samples })
    rest
gathered-samples part [] rest named = ap (λ written. gathered (record part { samples = written }) rest)
    (sym (append-nil part.samples))
gathered-samples part (sample ∷ samples) rest named =
    let more : Part = record part { samples = part.samples ++ (written_of sample ∷ []) } in
    cond-true (has_end sample.name part.name (ends_of part.types)) (gathered more (map sampled samples ++ rest))
    (part ∷ gathered (begun (sampled sample)) (map sampled samples ++ rest)) named.0
    ∙ gathered-samples more samples rest named.1
    ∙ ap (λ written. gathered (record part { samples = written }) rest)
    (append_assoc part.samples (written_of sample ∷ []) (map written_of samples))

-- a group's part before its samples
abbrev pub open_part : (name help : List ℕ) → Kind → Part
open_part name help kind = record { name = name; helps = helps_of help; types = word_of kind ∷ []; samples = [] }

-- a type joins the help of its group
gathered-type : (name written word : List ℕ) (rest : List LineEntry)
    → gathered (begun (Help name written)) (Typed name word ∷ rest)
    ≡ gathered (record { name = name; helps = written ∷ []; types = word ∷ []; samples = [] }) rest
gathered-type name written word rest = rw (same_self name) refl

-- the lines of the first group
parts_of-first : (name help : List ℕ) (kind : Kind) (rest : List LineEntry)
    → parts_of (help_entries name help ++ (Typed name (word_of kind) ∷ rest)) ≡ gathered (open_part name help kind) rest
parts_of-first name [] kind rest = refl
parts_of-first name (byte ∷ bytes) kind rest = rw (same_self name) refl

-- the lines of a group after those of another
gathered-next : (part : Part) (name help : List ℕ) (kind : Kind) (rest : List LineEntry) → is_same_text name part.name ≡ false
    → gathered part (help_entries name help ++ (Typed name (word_of kind) ∷ rest)) ≡ part ∷ gathered (open_part name help kind)
    rest
gathered-next part name [] kind rest differ = rw differ refl
gathered-next part name (byte ∷ bytes) kind rest differ = rw (differ, same_self name) refl

-- the lines of all groups after one whose lines are read
gathered-groups : (group : ShownGroup) (groups : List ShownGroup) → Pairs (λ (a b : ShownGroup). a.name ≢ b.name) (group ∷ groups)
    → Each IsNamed groups
    → gathered (part_of group) (entries_of groups) ≡ part_of group ∷ map part_of groups
gathered-groups group [] differ named = refl
gathered-groups group (next ∷ groups) differ named =
    ap (λ entries. gathered (part_of group) entries)
    (append_assoc (help_entries next.name next.help) (Typed next.name (word_of next.kind) ∷ map sampled next.samples)
    (entries_of groups))
    ∙ gathered-next (part_of group) next.name next.help next.kind (map sampled next.samples ++ entries_of groups)
    (same_other next.name group.name (λ e. differ.0.0 (sym e)))
    ∙ ap (λ parts. part_of group ∷ parts)
    (gathered-samples (open_part next.name next.help next.kind) next.samples (entries_of groups) named.0
    ∙ gathered-groups next groups differ.1 named.1)

-- the lines of groups whose names differ are parted into them
pub parted_groups : (groups : List ShownGroup) → Pairs (λ (a b : ShownGroup). a.name ≢ b.name) groups → Each IsNamed groups
    → parts_of (entries_of groups) ≡ map part_of groups
parted_groups [] differ named = refl
parted_groups (group ∷ groups) differ named =
    ap parts_of (append_assoc (help_entries group.name group.help)
    (Typed group.name (word_of group.kind) ∷ map sampled group.samples) (entries_of groups))
    ∙ parts_of-first group.name group.help group.kind (map sampled group.samples ++ entries_of groups)
    ∙ gathered-samples (open_part group.name group.help group.kind) group.samples (entries_of groups) named.0
    ∙ gathered-groups group groups differ named.1

-- the names of a kind's samples have its ends
kind_ends : (name : List ℕ) (kind : Kind) → IsOfNames (λ other. has_end other name (ends_of (word_of kind ∷ [])) ≡ true) name kind
kind_ends name Counter = record {
  counter = λ e. end_here name name [] [] (sym (append-nil name));
  bucket = λ e. cc;
  sum = λ e. cc;
  count = λ e. cc;
  gauge = λ e. cc;
}
kind_ends name Histogram = record {
  counter = λ e. cc;
  bucket = λ e. end_here (name ++ codes "_bucket") name (codes "_bucket") (codes "_sum" ∷ codes "_count" ∷ []) refl;
  sum = λ e.
      end_later (name ++ codes "_sum") name (codes "_bucket") (codes "_sum" ∷ codes "_count" ∷ [])
      (end_here (name ++ codes "_sum") name (codes "_sum") (codes "_count" ∷ []) refl);
  count = λ e.
      end_later (name ++ codes "_count") name (codes "_bucket") (codes "_sum" ∷ codes "_count" ∷ [])
      (end_later (name ++ codes "_count") name (codes "_sum") (codes "_count" ∷ [])
      (end_here (name ++ codes "_count") name (codes "_count") [] refl));
  gauge = λ e. cc;
}
kind_ends name Gauge = record {
  counter = λ e. cc;
  bucket = λ e. cc;
  sum = λ e. cc;
  count = λ e. cc;
  gauge = λ e. end_here name name [] [] (sym (append-nil name));
}

-- each sample of each group is named after it
pub all_named : (scrape : Scraped) → IsScrape scrape → All IsSpelledIfPrinted scrape.families → Each IsNamed (shown_groups scrape)
all_named scrape is spelled =
    each_group IsNamed scrape.families
    (each_weaker IsKnown (λ family. IsPrinted family → IsNamed (group_for family))
    (λ family known _. family_names (λ other. has_end other family.desc.name (ends_of (word_of family.desc.kind ∷ [])) ≡ true)
    family known.kept (kind_ends family.desc.name family.desc.kind))
    scrape.families (all_known scrape is spelled))

-- the entries of a scrape's groups are parted into those groups
pub parted : (scrape : Scraped) → IsScrape scrape → All IsSpelledIfPrinted scrape.families
    → parts_of (entries_of (shown_groups scrape)) ≡ map part_of (shown_groups scrape)
parted scrape is spelled = parted_groups (shown_groups scrape) (unbroken_pairs scrape is) (all_named scrape is spelled)
