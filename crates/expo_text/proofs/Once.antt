-- No series stands twice among the samples of a scrape.
use Rattle.std.proofs.Common.{ℕ, List, ◌++◌, map, refl, subst, arith, append-nil}
use Rattle.std.specs.Prelude.{⊤, All, AllPairs, Contains, flat_map}
use Rattle.std.proofs.lemmas.List.Elements.{recursion_from_All}
use Rattle.metric_desc.specs.Desc.{suffixes_of, names_of, Clash}
use Rattle.metric_desc.specs.declared.kind.Kind.{Kind}
use Rattle.metric_desc.specs.declared.kind.Kind.TheVariants.{Counter, Histogram, Gauge}
use Rattle.expo_text.specs.Scraped.{Family, Scraped}
use Rattle.expo_text.specs.Shown.{Shown, shown_of_family}
use Rattle.expo_text.specs.Order.{IsFamily, IsScrape}
use Rattle.expo_text.specs.Spelled.{IsSpelledIfPrinted}
use Rattle.expo_text.specs.Samples.{Sample}
use Rattle.expo_text.specs.Groups.{Group}
use Rattle.expo_text.specs.ReadsTo.{worth}
use Rattle.expo_text.proofs.ShownGroups.{ShownGroup, as_group, shown_groups}
use Rattle.expo_text.specs.Reads.{IsSameSeries}
use Rattle.expo_text.proofs.Pairs.{Each, Pairs, Across, each_weaker, each_both, pairs_recursion, pairs_places, pairs_flat_map}
use Rattle.expo_text.proofs.Pairs.{pairs_weaker, across_by, pairs_map, each_map, each_any}
use Rattle.expo_text.proofs.Families.{IsPrinted, each_group, pairs_groups}
use Rattle.expo_text.proofs.Owned.{IsOfNames, family_names}
use Rattle.expo_text.proofs.Apart.{AreApart, family_apart}

-- the names of a kind's samples are among those of its family
kind_names : (name : List ℕ) (kind : Kind) → IsOfNames (Contains (map (λ suffix. name ++ suffix) (suffixes_of kind))) name kind
kind_names name Counter = record {
  counter = λ e. (0, (omega arith), append-nil name);
  bucket = λ e. cc;
  sum = λ e. cc;
  count = λ e. cc;
  gauge = λ e. cc;
}
kind_names name Histogram = record {
  counter = λ e. cc;
  bucket = λ e. (1, (omega arith), refl);
  sum = λ e. (2, (omega arith), refl);
  count = λ e. (3, (omega arith), refl);
  gauge = λ e. cc;
}
kind_names name Gauge = record {
  counter = λ e. cc;
  bucket = λ e. cc;
  sum = λ e. cc;
  count = λ e. cc;
  gauge = λ e. (0, (omega arith), append-nil name);
}

-- the samples of two families whose names do not clash
families_across : (a b : Family) → IsFamily a → IsFamily b → ¬ (Clash a.desc b.desc)
    → Across AreApart (shown_of_family a) (shown_of_family b)
families_across a b is_a is_b apart =
    across_by (λ (s : Shown). Contains (names_of a.desc) s.name) (λ (t : Shown). Contains (names_of b.desc) t.name) AreApart
    (λ s t left right same. apart (t.name, subst (λ name. Contains (names_of a.desc) name) same.name left, right))
    (shown_of_family a) (shown_of_family b)
    (family_names (Contains (names_of a.desc)) a is_a (kind_names a.desc.name a.desc.kind))
    (family_names (Contains (names_of b.desc)) b is_b (kind_names b.desc.name b.desc.kind))

-- what is known of each family of a scrape
pub record IsKnown (family : Family) : Type 0 where
  pub kept : IsFamily family
  pub spelled : IsSpelledIfPrinted family

-- this is known of all families of a scrape
pub all_known : (scrape : Scraped) → IsScrape scrape → All IsSpelledIfPrinted scrape.families → Each IsKnown scrape.families
all_known scrape is spelled =
    each_weaker (λ family. IsFamily family × IsSpelledIfPrinted family) IsKnown
    (λ family both. record { kept = both.0; spelled = both.1 }) scrape.families
    (each_both IsFamily IsSpelledIfPrinted scrape.families (recursion_from_All IsFamily scrape.families is.each)
    (recursion_from_All IsSpelledIfPrinted scrape.families spelled))

-- the samples of a group are of different series as they are worth, too
group_once : (places : ℕ) (samples : List Shown) → Pairs AreApart samples
    → Pairs (λ a b. ¬ (IsSameSeries a b)) (map (worth places) samples)
group_once places samples apart =
    pairs_map (λ (a b : Sample). ¬ (IsSameSeries a b)) (worth places) samples
    (pairs_weaker (λ (s : Shown). ⊤) AreApart (λ a b. ¬ (IsSameSeries (worth places a) (worth places b)))
    (λ a b _ _ differ same. differ (record { name = same.name; labels = same.labels })) samples
    (each_any (λ (s : Shown). ⊤) (λ _. tt) samples) apart)

-- so are those of two groups
groups_once : (places : ℕ) (xs ys : List Shown) → Across AreApart xs ys
    → Across (λ a b. ¬ (IsSameSeries a b)) (map (worth places) xs) (map (worth places) ys)
groups_once places xs ys apart =
    each_map (λ (a : Sample). Each (λ b. ¬ (IsSameSeries a b)) (map (worth places) ys)) (worth places) xs
    (each_weaker (λ x. Each (AreApart x) ys) (λ x. Each (λ b. ¬ (IsSameSeries (worth places x) b)) (map (worth places) ys))
    (λ x all. each_map (λ (b : Sample). ¬ (IsSameSeries (worth places x) b)) (worth places) ys
    (each_weaker (AreApart x) (λ y. ¬ (IsSameSeries (worth places x) (worth places y)))
    (λ y differ same. differ (record { name = same.name; labels = same.labels })) ys all)) xs apart)

-- the samples of each group
each_once : (scrape : Scraped) → IsScrape scrape → All IsSpelledIfPrinted scrape.families
    → Each (λ (group : ShownGroup). Pairs AreApart group.samples) (shown_groups scrape)
each_once scrape is spelled =
    each_group (λ (group : ShownGroup). Pairs AreApart group.samples) scrape.families
    (each_weaker IsKnown (λ family. IsPrinted family → Pairs AreApart (shown_of_family family))
    (λ family known printed. family_apart family known.kept (known.spelled printed).desc.kept) scrape.families
    (all_known scrape is spelled))

-- the samples of each two groups
pairs_once : (scrape : Scraped) → IsScrape scrape
    → Pairs (λ (a b : ShownGroup). Across AreApart a.samples b.samples) (shown_groups scrape)
pairs_once scrape is =
    pairs_groups (λ (a b : ShownGroup). Across AreApart a.samples b.samples) scrape.families
    (pairs_weaker IsFamily (λ a b. ¬ (Clash a.desc b.desc)) (λ a b. IsPrinted a → IsPrinted b
    → Across AreApart (shown_of_family a) (shown_of_family b))
    (λ a b is_a is_b apart _ _. families_across a b is_a is_b apart) scrape.families
    (recursion_from_All IsFamily scrape.families is.each)
    (pairs_recursion (λ a b. ¬ (Clash a.desc b.desc)) scrape.families is.apart))

-- no series stands twice
pub once : (places : ℕ) (scrape : Scraped) → IsScrape scrape → All IsSpelledIfPrinted scrape.families
    → AllPairs (λ a b. ¬ (IsSameSeries a b))
    (flat_map (λ (group : Group). group.samples) (map (as_group places) (shown_groups scrape)))
once places scrape is spelled =
    let groups : List Group = map (as_group places) (shown_groups scrape) in
    pairs_places (λ (a b : Sample). ¬ (IsSameSeries a b)) (flat_map (λ (group : Group). group.samples) groups)
    (pairs_flat_map (λ (a b : Sample). ¬ (IsSameSeries a b)) (λ (group : Group). group.samples) groups
    (each_map (λ (group : Group). Pairs (λ a b. ¬ (IsSameSeries a b)) group.samples) (as_group places) (shown_groups scrape)
    (each_weaker (λ (group : ShownGroup). Pairs AreApart group.samples)
    (λ group. Pairs (λ a b. ¬ (IsSameSeries a b)) (map (worth places) group.samples))
    (λ group apart. group_once places group.samples apart) (shown_groups scrape) (each_once scrape is spelled)))
    (pairs_map (λ (a b : Group). Across (λ x y. ¬ (IsSameSeries x y)) a.samples b.samples) (as_group places) (shown_groups scrape)
    (pairs_weaker (λ (group : ShownGroup). ⊤) (λ (a b : ShownGroup). Across AreApart a.samples b.samples)
    (λ a b. Across (λ x y. ¬ (IsSameSeries x y)) (map (worth places) a.samples) (map (worth places) b.samples))
    (λ a b _ _ apart. groups_once places a.samples b.samples apart) (shown_groups scrape)
    (each_any (λ (group : ShownGroup). ⊤) (λ _. tt) (shown_groups scrape)) (pairs_once scrape is))))
