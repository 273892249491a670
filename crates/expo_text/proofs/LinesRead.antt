-- The lines of a scrape, and what a scraper finds in them.
use Rattle.std.proofs.Common.{◌≡◌, ◌≢◌, ℕ, ◌==◌, List, [], ◌∷◌, ◌++◌, map, codes, All, refl, sym, ap, ap₂, ◌∙◌, append_assoc}
use Rattle.std.proofs.Common.{append-nil}
use Rattle.std.specs.Prelude.{flat_map}
use Rattle.std.specs.List.{slice_split}
use Rattle.expo_text.specs.Shifted.{signed_shifted}
use Rattle.std.proofs.lemmas.Bool.{not-true}
use Rattle.std.proofs.lemmas.Grind.{flat_map-append}
use Rattle.std.proofs.lemmas.List.Elements.{All-head, All-tail, All-cons, All-nil}
use Rattle.std.proofs.lemmas.List.Splits.{slice_split_at}
use Rattle.metric_names.specs.HelpText.{is_blank, IsHelpText}
use Rattle.metric_names.specs.Escapes.{help_byte}
use Rattle.metric_desc.specs.Desc.{Descriptor}
use Rattle.metric_desc.specs.declared.kind.Kind.{Kind}
use Rattle.metric_desc.specs.declared.kind.Kind.TheVariants.{Counter, Histogram, Gauge}
use Rattle.expo_text.specs.Scraped.{Child, Family, Scraped}
use Rattle.expo_text.specs.Shown.{Shown, shown_of_family, shown_line, shown_group_of, shown_group_text, shown_text}
use Rattle.expo_text.proofs.ShownGroups.{ShownGroup, shown_groups, shown_group, shown_group_of_children}
use Rattle.expo_text.specs.Text.{labels_text, help_line, kind_text, type_line}
use Rattle.expo_text.specs.Lines.{AreLines, LineEntry, Typed, Malformed}
use Rattle.expo_text.proofs.Walked.{in_token, entry_of}
use Rattle.expo_text.specs.Reads.{Match, word_of}
use Rattle.expo_text.proofs.Entries.{IsPrintedSample, IsPrintedGroup, sampled, help_entries, group_entries, entries_of}
use Rattle.expo_text.proofs.Tokens.{Each, Stops, each_of, each_append, each_from_All, all_fail}
use Rattle.expo_text.proofs.LabelsRead.{is_name_byte, IsNamed}
use Rattle.expo_text.proofs.Names.{metric_named, labels_named, named_from, help_stops, value_token}
use Rattle.expo_text.proofs.Feeds.{is_kept, Kept, named_kept, token_kept, help_kept, labels_kept, kind_kept}
use Rattle.expo_text.proofs.LineRead.{help_read, type_read, sample_read}

-- a line as it is printed, without its line feed, and the entry that a scraper reads in it
record IsPrintedLine (line : List ℕ) (entry : LineEntry) : Type 0 where
  kept : Kept line
  reads : entry_of line ≡ entry
  formed : entry ≢ Malformed

-- lines and their entries, joined
pub match_append : {A B : Type 0} (R : A → B → Type 0) (xs xs' : List A) (ys ys' : List B)
    → Match R xs ys → Match R xs' ys' → Match R (xs ++ xs') (ys ++ ys')
match_append R [] xs' [] ys' h k = k
match_append R [] xs' (y ∷ ys) ys' h k = absurd h
match_append R (x ∷ xs) xs' [] ys' h k = absurd h
match_append R (x ∷ xs) xs' (y ∷ ys) ys' h k = (h.0, match_append R xs xs' ys ys' h.1 k)

-- the line of a help, without its line feed
abbrev help_body : (name help : List ℕ) → List ℕ
help_body name help = codes "# HELP " ++ (name ++ (32 ∷ flat_map help_byte help))

-- no line where the help is empty
abbrev help_lines : (name help : List ℕ) → List (List ℕ)
help_lines name [] = []
help_lines name (byte ∷ bytes) = help_body name (byte ∷ bytes) ∷ []

-- the line of a type, without its line feed
abbrev type_body : (name : List ℕ) → Kind → List ℕ
type_body name kind = codes "# TYPE " ++ (name ++ (32 ∷ kind_text kind))

-- the line of a sample, without its line feed
abbrev sample_body : Shown → List ℕ
sample_body sample = sample.name ++ (labels_text sample.labels ++ (32 ∷ signed_shifted sample.digits sample.value))

-- the lines of a group, without their line feeds
abbrev group_lines : ShownGroup → List (List ℕ)
group_lines group = help_lines group.name group.help ++ (type_body group.name group.kind ∷ map sample_body group.samples)

-- the lines of groups
abbrev lines_of : List ShownGroup → List (List ℕ)
lines_of groups = flat_map group_lines groups

-- a line with its line feed
abbrev ended : List ℕ → List ℕ
ended line = line ++ (10 ∷ [])

-- lines with a line feed after each
abbrev feed : List (List ℕ) → List ℕ
feed lines = flat_map ended lines

-- the line of a sample, as it is printed
is_sample_line : (sample : Shown) → IsPrintedSample sample → IsPrintedLine (sample_body sample) (sampled sample)
is_sample_line sample printed =
    let named = named_from sample.name printed.nonempty (each_from_All is_name_byte sample.name printed.spelled) in
    let labels = labels_named sample.labels printed.labels in
    let token = value_token sample.digits sample.value printed.value in
    record {
      kept = each_append is_kept sample.name (labels_text sample.labels ++ (32 ∷ signed_shifted sample.digits sample.value))
          (named_kept sample.name named)
          (each_append is_kept (labels_text sample.labels) (32 ∷ signed_shifted sample.digits sample.value) (labels_kept
          sample.labels labels)
          (refl, token_kept (signed_shifted sample.digits sample.value) token));
      reads = sample_read sample.name (signed_shifted sample.digits sample.value) sample.labels named labels token;
      formed = λ e. cc;
    }

-- the lines of samples
are_sample_lines : (samples : List Shown) → All IsPrintedSample samples → Match IsPrintedLine (map sample_body samples)
    (map sampled samples)
are_sample_lines [] printed = tt
are_sample_lines (sample ∷ samples) printed = (
  is_sample_line sample (All-head IsPrintedSample sample samples printed),
  are_sample_lines samples (All-tail IsPrintedSample sample samples printed),
)

-- the line of a help, if there is one
are_help_lines : (name help : List ℕ) → IsNamed name → IsHelpText help → Match IsPrintedLine (help_lines name help)
    (help_entries name help)
are_help_lines name [] named is = tt
are_help_lines name (byte ∷ bytes) named is =
    let written = flat_map help_byte (byte ∷ bytes) in (
      record {
        kept = each_append is_kept (codes "# HELP ") (name ++ (32 ∷ written)) (each_of is_kept (codes "# HELP ") refl)
            (each_append is_kept name (32 ∷ written) (named_kept name named) (refl, help_kept (byte ∷ bytes)));
        reads = help_read name written named (help_stops byte bytes is);
        formed = λ e. cc;
      },
      tt,
    )

-- the word of a kind is one token
kind_token : (kind : Kind) → Each in_token (word_of kind)
kind_token Counter = each_of in_token (codes "counter") refl
kind_token Histogram = each_of in_token (codes "histogram") refl
kind_token Gauge = each_of in_token (codes "gauge") refl

-- the word of a kind has no blank in front
kind_stops : (kind : Kind) → Stops is_blank (word_of kind)
kind_stops Counter = refl
kind_stops Histogram = refl
kind_stops Gauge = refl

-- the word that is printed is the word that is read
same_word : (kind : Kind) → kind_text kind ≡ word_of kind
same_word Counter = refl
same_word Histogram = refl
same_word Gauge = refl

-- the line of a type
is_type_line : (name : List ℕ) (kind : Kind) → IsNamed name → IsPrintedLine (type_body name kind) (Typed name (word_of kind))
is_type_line name kind named = record {
  kept = each_append is_kept (codes "# TYPE ") (name ++ (32 ∷ kind_text kind)) (each_of is_kept (codes "# TYPE ") refl)
      (each_append is_kept name (32 ∷ kind_text kind) (named_kept name named) (refl, kind_kept kind));
  reads = ap (λ word. entry_of (codes "# TYPE " ++ (name ++ (32 ∷ word)))) (same_word kind)
      ∙ type_read name (word_of kind) named (kind_token kind) (kind_stops kind);
  formed = λ e. cc;
}

-- the lines of a group, and the entries in them
are_group_lines : (group : ShownGroup) → IsPrintedGroup group → Match IsPrintedLine (group_lines group) (group_entries group)
are_group_lines group printed =
    let named = metric_named group.name printed.name in
    match_append IsPrintedLine (help_lines group.name group.help)
    (type_body group.name group.kind ∷ map sample_body group.samples)
    (help_entries group.name group.help) (Typed group.name (word_of group.kind) ∷ map sampled group.samples)
    (are_help_lines group.name group.help named printed.help)
    (is_type_line group.name group.kind named, are_sample_lines group.samples printed.samples)

-- the lines of groups, and the entries in them
are_lines : (groups : List ShownGroup) → All IsPrintedGroup groups → Match IsPrintedLine (lines_of groups) (entries_of groups)
are_lines [] printed = tt
are_lines (group ∷ groups) printed =
    match_append IsPrintedLine (group_lines group) (lines_of groups) (group_entries group) (entries_of groups)
    (are_group_lines group (All-head IsPrintedGroup group groups printed))
    (are_lines groups (All-tail IsPrintedGroup group groups printed))

-- a text cut at its line feeds gives the lines back
cut_back : (lines : List (List ℕ)) (entries : List LineEntry) → Match IsPrintedLine lines entries → AreLines (feed lines) lines
cut_back [] [] h = refl
cut_back [] (entry ∷ entries) h = absurd h
cut_back (line ∷ lines) [] h = absurd h
cut_back (line ∷ lines) (entry ∷ entries) h =
    ap (λ bytes. slice_split (λ b. b == 10) bytes) (append_assoc line (10 ∷ []) (feed lines))
    ∙ slice_split_at (λ b. b == 10) line 10 (feed lines)
    (all_fail is_kept (λ b. b == 10) (λ b kept. not-true (b == 10) kept) line h.0.kept) refl
    ∙ ap (λ rest. line ∷ rest) (cut_back lines entries h.1)

-- the entries of the lines
read_back : (lines : List (List ℕ)) (entries : List LineEntry) → Match IsPrintedLine lines entries → map entry_of lines ≡ entries
read_back [] [] h = refl
read_back [] (entry ∷ entries) h = absurd h
read_back (line ∷ lines) [] h = absurd h
read_back (line ∷ lines) (entry ∷ entries) h = ap₂ ◌∷◌ h.0.reads (read_back lines entries h.1)

-- each line is one of the format
formed_each : (lines : List (List ℕ)) (entries : List LineEntry) → Match IsPrintedLine lines entries
    → All (λ line. entry_of line ≢ Malformed) lines
formed_each [] [] h = All-nil (λ line. entry_of line ≢ Malformed)
formed_each [] (entry ∷ entries) h = absurd h
formed_each (line ∷ lines) [] h = absurd h
formed_each (line ∷ lines) (entry ∷ entries) h =
    All-cons (λ line. entry_of line ≢ Malformed) line lines (λ e. h.0.formed (sym h.0.reads ∙ e)) (formed_each lines entries h.1)

-- the line of a sample is printed with its line feed
fed_sample : (sample : Shown) → shown_line sample ≡ ended (sample_body sample)
fed_sample sample = simp append_assoc

-- the lines of samples, with their line feeds
fed_samples : (samples : List Shown) → flat_map shown_line samples ≡ feed (map sample_body samples)
fed_samples [] = refl
fed_samples (sample ∷ samples) = ap₂ ◌++◌ (fed_sample sample) (fed_samples samples)

-- five texts joined, in other parentheses
regroup : (a b c d e : List ℕ) → (((a ++ b) ++ c) ++ d) ++ e ≡ (a ++ (b ++ (c ++ d))) ++ e
regroup a b c d e = simp append_assoc

-- the line of a help, with its line feed
fed_help : (name help : List ℕ) → help_line name help ≡ feed (help_lines name help)
fed_help name [] = refl
fed_help name (byte ∷ bytes) =
    let written = flat_map help_byte (byte ∷ bytes) in
    regroup (codes "# HELP ") name (codes " ") written (codes "\n") ∙ sym (append-nil (ended (help_body name (byte ∷ bytes))))

-- the line of a type, with its line feed
fed_type : (desc : Descriptor) → type_line desc ≡ ended (type_body desc.name desc.kind)
fed_type desc = simp append_assoc

-- the text of a family is that of its group
fed_children : (desc : Descriptor) (children : List Child) (samples : List Shown)
    → shown_group_of desc children samples ≡ feed (lines_of (shown_group_of_children desc children samples))
fed_children desc [] samples = refl
fed_children desc (child ∷ children) samples =
    append_assoc (help_line desc.name desc.help) (type_line desc) (flat_map shown_line samples)
    ∙ ap₂ ◌++◌ (fed_help desc.name desc.help) (ap₂ ◌++◌ (fed_type desc) (fed_samples samples))
    ∙ sym (flat_map-append ended (help_lines desc.name desc.help) (type_body desc.name desc.kind ∷ map sample_body samples))
    ∙ ap feed (sym (append-nil (help_lines desc.name desc.help ++ (type_body desc.name desc.kind ∷ map sample_body samples))))

-- the text of families is that of their groups
fed_families : (families : List Family) → flat_map shown_group_text families ≡ feed (lines_of (flat_map shown_group families))
fed_families [] = refl
fed_families (family ∷ families) =
    ap₂ ◌++◌ (fed_children family.desc family.children (shown_of_family family)) (fed_families families)
    ∙ sym (flat_map-append ended (lines_of (shown_group family)) (lines_of (flat_map shown_group families)))
    ∙ ap feed (sym (flat_map-append group_lines (shown_group family) (flat_map shown_group families)))

-- the lines of a scrape: the text is cut into them, and a scraper reads the entries of the groups in them
pub record LinesRead (scrape : Scraped) : Type 0 where
  pub lines : List (List ℕ)
  pub cut : AreLines (shown_text scrape) lines
  pub read : map entry_of lines ≡ entries_of (shown_groups scrape)
  pub formed : All (λ line. entry_of line ≢ Malformed) lines

-- what a scraper reads in the text of a scrape
pub lines_read : (scrape : Scraped) → All IsPrintedGroup (shown_groups scrape) → LinesRead scrape
lines_read scrape printed =
    let groups = shown_groups scrape in
    let found : Match IsPrintedLine (lines_of groups) (entries_of groups) = are_lines groups printed in
    record {
      lines = lines_of groups;
      cut = ap (λ bytes. slice_split (λ b. b == 10) bytes) (fed_families scrape.families)
          ∙ cut_back (lines_of groups) (entries_of groups) found;
      read = read_back (lines_of groups) (entries_of groups) found;
      formed = formed_each (lines_of groups) (entries_of groups) found;
    }
