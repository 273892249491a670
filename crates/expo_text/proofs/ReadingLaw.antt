-- The text of a scrape is read as the groups that the scrape prints, and as no others.
use Rattle.std.proofs.Common.{◌≡◌, ◌↔◌, ℕ, List, [], ◌∷◌, map, sym, ap, ◌∙◌, subst}
use Rattle.std.specs.Prelude.{All}
use Rattle.std.proofs.lemmas.List.Elements.{All-head, All-tail, recursion_from_All}
use Rattle.expo_text.specs.Scraped.{Scraped}
use Rattle.expo_text.specs.Order.{IsScrape}
use Rattle.expo_text.specs.Spelled.{IsSpelledIfPrinted}
use Rattle.expo_text.specs.Shown.{shown_text}
use Rattle.expo_text.specs.Groups.{Group}
use Rattle.expo_text.proofs.Walked.{parts_of, ReadsWalked}
use Rattle.expo_text.proofs.Walks.{found}
use Rattle.expo_text.specs.Reads.{Match}
use Rattle.expo_text.specs.ReadsTo.{groups_to, IsGroupTo, ReadsTo}
use Rattle.expo_text.proofs.Pairs.{Each, each_weaker}
use Rattle.expo_text.proofs.ShownGroups.{ShownGroup, shown_groups, as_group, groups_are}
use Rattle.expo_text.proofs.Entries.{part_of, IsPrintedGroup}
use Rattle.expo_text.proofs.LinesRead.{lines_read}
use Rattle.expo_text.proofs.SamplesRead.{IsWithin, group_reads}
use Rattle.expo_text.proofs.Families.{HasFew, unbroken}
use Rattle.expo_text.proofs.Parted.{parted}
use Rattle.expo_text.proofs.Once.{once}
use Rattle.expo_text.proofs.Distinct.{distinct}
use Rattle.expo_text.proofs.Whole.{histograms}
use Rattle.expo_text.proofs.Printed.{printed, all_within}
use Rattle.expo_text.proofs.OneReading.{one_reading}

-- each printed group is read from its own part
groups_read : (places : ℕ) (groups : List ShownGroup) → All IsPrintedGroup groups
    → Each (λ (group : ShownGroup). Each (IsWithin places) group.samples) groups
    → Match (IsGroupTo places) (map part_of groups) (map (as_group places) groups)
groups_read places [] all within = tt
groups_read places (group ∷ groups) all within = (
  group_reads places group (All-head IsPrintedGroup group groups all) within.0,
  groups_read places groups (All-tail IsPrintedGroup group groups all) within.1,
)

reads_walked : (places : ℕ) (scrape : Scraped) → IsScrape scrape → All IsSpelledIfPrinted scrape.families
    → Each (HasFew places) scrape.families
    → ReadsWalked places (shown_text scrape) (map (as_group places) (shown_groups scrape))
reads_walked places scrape is spelled few =
    let all = printed scrape is spelled in
    let read = lines_read scrape all in
    let groups : List Group = map (as_group places) (shown_groups scrape) in
    let parts = sym (ap parts_of read.read ∙ parted scrape is spelled) in
    record {
      lines = read.lines;
      cut = read.cut;
      formed = read.formed;
      parts = subst (λ made. Match (IsGroupTo places) made groups) parts
          (groups_read places (shown_groups scrape) all (all_within places scrape few));
      unbroken = unbroken places scrape is;
      once = once places scrape is spelled;
      labels = distinct places scrape is spelled;
      histograms = histograms places scrape is spelled few;
    }

reads : (places : ℕ) (scrape : Scraped) → IsScrape scrape → All IsSpelledIfPrinted scrape.families
    → Each (HasFew places) scrape.families → ReadsTo places (shown_text scrape) (groups_to places scrape)
reads places scrape is spelled few =
    subst (ReadsTo places (shown_text scrape)) (sym (groups_are places scrape.families))
    (found places (shown_text scrape) (map (as_group places) (shown_groups scrape)) (reads_walked places scrape is spelled few))

-- to as many places as the printed families have digits, or more
pub reading_law_to : (places : ℕ) (scrape : Scraped) → IsScrape scrape → All IsSpelledIfPrinted scrape.families
    → Each (HasFew places) scrape.families → (groups : List Group)
    → ReadsTo places (shown_text scrape) groups ↔ (groups ≡ groups_to places scrape)
reading_law_to places scrape is spelled few groups = (
  λ others. one_reading places (shown_text scrape) groups (groups_to places scrape) others (reads places scrape is spelled few),
  λ same. subst (ReadsTo places (shown_text scrape)) (sym same) (reads places scrape is spelled few),
)

-- to 9 places, of every scrape
pub reading_law : (scrape : Scraped) → IsScrape scrape → All IsSpelledIfPrinted scrape.families → (groups : List Group)
    → ReadsTo 9 (shown_text scrape) groups ↔ (groups ≡ groups_to 9 scrape)
reading_law scrape is spelled groups =
    reading_law_to 9 scrape is spelled
    (each_weaker IsSpelledIfPrinted (HasFew 9) (λ family known printed. (known printed).desc.digits) scrape.families
    (recursion_from_All IsSpelledIfPrinted scrape.families spelled)) groups
