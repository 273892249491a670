-- No sample of a scrape has two labels of one name.
use Rattle.std.proofs.Common.{◌≡◌, ◌≢◌, ℕ, List, [], ◌∷◌, ◌++◌, inl, inr, sym, subst, map}
use Rattle.std.specs.Prelude.{All, AllPairs, zip, flat_map, codes}
use Rattle.std.proofs.lemmas.List.Elements.{All-from_recursion, recursion_from_All}
use Rattle.metric_desc.specs.Desc.{Descriptor, IsDescOf}
use Rattle.metric_desc.specs.Histogram.{le}
use Rattle.metric_desc.specs.declared.kind.Kind.TheVariants.{Histogram as HistogramKind}
use Rattle.expo_text.specs.declared.number.Number.{Number}
use Rattle.expo_text.specs.declared.number.Number.TheVariants.{Counter, Histogram, Gauge}
use Rattle.expo_text.specs.Scraped.{Child, Family, Scraped}
use Rattle.expo_text.specs.Shown.{Shown, shown_of_number, shown_of_child, shown_of_family}
use Rattle.expo_text.specs.Order.{IsNumberOf, IsFamily, IsScrape}
use Rattle.expo_text.specs.Spelled.{IsSpelledIfPrinted}
use Rattle.expo_text.specs.Groups.{Group}
use Rattle.expo_text.specs.ReadsTo.{worth}
use Rattle.expo_text.proofs.ShownGroups.{ShownGroup, as_group, shown_groups}
use Rattle.expo_text.specs.Reads.{HasDistinctLabels}
use Rattle.expo_text.proofs.Pairs.{Each, Pairs, each_weaker, each_map, each_flat_map, pairs_places, pairs_recursion, pairs_append}
use Rattle.expo_text.proofs.Families.{IsPrinted, each_group}
use Rattle.expo_text.proofs.LabelSets.{each_zip, zip_no_le}
use Rattle.expo_text.proofs.Owned.{IsOwned, number_owned}
use Rattle.expo_text.proofs.Once.{IsKnown, all_known}

-- no two labels of a shown sample have one name
abbrev pub AreDistinct : Shown → Type 0
AreDistinct sample = AllPairs (λ (a b : List ℕ × List ℕ). a.0 ≢ b.0) sample.labels

-- two labels have different names
abbrev pub NamesDiffer : List ℕ × List ℕ → List ℕ × List ℕ → Type 0
NamesDiffer a b = a.0 ≢ b.0

-- where no two names are the same, no two labels that have them are of one name
zip_differ : (names values : List (List ℕ)) → Pairs (λ a b. a ≢ b) names → Pairs NamesDiffer (zip names values)
zip_differ [] values all = tt
zip_differ (name ∷ names) [] all = tt
zip_differ (name ∷ names) (value ∷ values) all = (
  each_zip (λ other. name ≢ other) names values all.0,
  zip_differ names values all.1,
)

-- with the label `le` after them, labels of different names are still of different names, where none is named `le`
with_le : (own : List (List ℕ × List ℕ)) (bound : List ℕ) → Pairs NamesDiffer own
    → Each (λ (label : List ℕ × List ℕ). label.0 ≢ le) own
    → Pairs NamesDiffer (own ++ ((codes "le", bound) ∷ []))
with_le own bound differ none =
    pairs_append NamesDiffer own ((codes "le", bound) ∷ []) differ (tt, tt)
    (each_weaker (λ (label : List ℕ × List ℕ). label.0 ≢ le) (λ label. Each (NamesDiffer label) ((codes "le", bound) ∷ []))
    (λ label other. (other, tt)) own none)

-- a sample whose labels are its child's own, or these and `le`, has no two labels of one name
owned_distinct : (own : List (List ℕ × List ℕ)) (sample : Shown) → Pairs NamesDiffer own
    → Each (λ (label : List ℕ × List ℕ). label.0 ≢ le) own → IsOwned own sample → AreDistinct sample
owned_distinct own sample differ none (inl e) = pairs_places NamesDiffer sample.labels (subst (Pairs NamesDiffer) (sym e) differ)
owned_distinct own sample differ none (inr e) =
    pairs_places NamesDiffer sample.labels (subst (Pairs NamesDiffer) (sym e.1) (with_le own e.0 differ none))

-- no sample of a number has two labels of one name
number_distinct : (desc : Descriptor) (own : List (List ℕ × List ℕ)) (number : Number) → IsNumberOf desc.kind number
    → Pairs NamesDiffer own
    → (desc.kind ≡ HistogramKind → Each (λ (label : List ℕ × List ℕ). label.0 ≢ le) own)
    → Each AreDistinct (shown_of_number desc own number)
number_distinct desc own (Counter total) is differ none = (pairs_places NamesDiffer own differ, tt)
number_distinct desc own (Histogram totals) is differ none =
    each_weaker (IsOwned own) AreDistinct (λ sample owned. owned_distinct own sample differ (none is.0) owned)
    (shown_of_number desc own (Histogram totals)) (number_owned desc own (Histogram totals))
number_distinct desc own (Gauge totals) is differ none = (pairs_places NamesDiffer own differ, tt)

-- no sample of a child has two labels of one name
child_distinct : (desc : Descriptor) (child : Child) → IsDescOf desc.kind desc.labels desc.bounds
    → IsNumberOf desc.kind child.number
    → Each AreDistinct (shown_of_child desc child)
child_distinct desc child kept number =
    number_distinct desc (zip desc.labels child.values) child.number number
    (zip_differ desc.labels child.values (pairs_recursion (λ a b. a ≢ b) desc.labels kept.labels_ok.distinct))
    (λ kind. zip_no_le desc.labels child.values (kept.histogram kind).no_le)

-- no sample of a family has two labels of one name
family_distinct : (family : Family) → IsFamily family → IsDescOf family.desc.kind family.desc.labels family.desc.bounds
    → Each AreDistinct (shown_of_family family)
family_distinct family is kept =
    each_flat_map AreDistinct (shown_of_child family.desc) family.children
    (each_weaker (λ (child : Child). IsNumberOf family.desc.kind child.number)
    (λ child. Each AreDistinct (shown_of_child family.desc child))
    (λ child number. child_distinct family.desc child kept number) family.children
    (recursion_from_All (λ (child : Child). IsNumberOf family.desc.kind child.number) family.children is.numbers))

-- no sample of a scrape has two labels of one name
pub distinct : (places : ℕ) (scrape : Scraped) → IsScrape scrape → All IsSpelledIfPrinted scrape.families
    → All HasDistinctLabels (flat_map (λ (group : Group). group.samples) (map (as_group places) (shown_groups scrape)))
distinct places scrape is spelled =
    let groups : List Group = map (as_group places) (shown_groups scrape) in
    All-from_recursion HasDistinctLabels (flat_map (λ (group : Group). group.samples) groups)
    (each_flat_map HasDistinctLabels (λ (group : Group). group.samples) groups
    (each_map (λ (group : Group). Each HasDistinctLabels group.samples) (as_group places) (shown_groups scrape)
    (each_group (λ (group : ShownGroup). Each HasDistinctLabels (map (worth places) group.samples)) scrape.families
    (each_weaker IsKnown (λ family. IsPrinted family → Each HasDistinctLabels (map (worth places) (shown_of_family family)))
    (λ family known printed. each_map HasDistinctLabels (worth places) (shown_of_family family)
    (family_distinct family known.kept (known.spelled printed).desc.kept)) scrape.families
    (all_known scrape is spelled)))))
