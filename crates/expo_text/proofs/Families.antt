-- From the families of a scrape to the groups that it prints: a family without children has none.
use Rattle.std.proofs.Common.{◌≡◌, ◌≢◌, ℕ, ◌<◌, List, [], ◌∷◌, length, arith, sym, ap, ◌∙◌, ◌≤◌, map}
use Rattle.std.specs.Prelude.{AllPairs, flat_map}
use Rattle.std.specs.Ordering.{nat_cmp}
use Rattle.std.specs.Cmp.Lexicographic.{slice_cmp}
use Rattle.std.specs.declared.cmp.Ordering.TheVariants.{Less, Equal}
use Rattle.std.proofs.lemmas.Cmp.{nat_list_cmp_total, tied_itself}
use Rattle.metric_desc.specs.Desc.{Descriptor}
use Rattle.expo_text.specs.Scraped.{Child, Family, Scraped}
use Rattle.expo_text.specs.Shown.{Shown, shown_of_family}
use Rattle.expo_text.specs.Order.{IsBefore, IsScrape}
use Rattle.expo_text.specs.Groups.{Group}
use Rattle.expo_text.proofs.ShownGroups.{ShownGroup, group_for, as_group, shown_group_of_children, shown_group, shown_groups}
use Rattle.expo_text.proofs.Pairs.{Each, Pairs, Across, each_weaker, each_any, each_flat_map, pairs_recursion, pairs_places}
use Rattle.expo_text.proofs.Pairs.{pairs_flat_map, pairs_weaker, pairs_map}

-- a family that has children has a group
abbrev pub IsPrinted : Family → Type 0
IsPrinted family = 0 < length family.children

-- a printed family is shifted by at most so many digits
abbrev pub HasFew : (places : ℕ) → Family → Type 0
HasFew places family = IsPrinted family → family.desc.digits ≤ places

-- what holds of a family's group where there is one
each_of_children : (P : ShownGroup → Type 0) (desc : Descriptor) (children : List Child) (all : List Shown)
    → (0 < length children → P (record { name = desc.name; help = desc.help; kind = desc.kind; samples = all }))
    → Each P (shown_group_of_children desc children all)
each_of_children P desc [] all holds = tt
each_of_children P desc (child ∷ children) all holds = (holds (omega arith), tt)

-- a family has one group at most
pairs_of_children : (R : ShownGroup → ShownGroup → Type 0) (desc : Descriptor) (children : List Child) (all : List Shown)
    → Pairs R (shown_group_of_children desc children all)
pairs_of_children R desc [] all = tt
pairs_of_children R desc (child ∷ children) all = (tt, tt)

-- what holds of the group of each printed family holds of each group
pub each_group : (P : ShownGroup → Type 0) (families : List Family) → Each (λ family. IsPrinted family → P (group_for family))
    families
    → Each P (flat_map shown_group families)
each_group P families all =
    each_flat_map P shown_group families
    (each_weaker (λ family. IsPrinted family → P (group_for family)) (λ family. Each P (shown_group family))
    (λ family holds. each_of_children P family.desc family.children (shown_of_family family) holds) families all)

-- what holds between the groups of two printed families
across_groups : (R : ShownGroup → ShownGroup → Type 0) (a b : Family) → (IsPrinted a → IsPrinted b → R (group_for a) (group_for
    b))
    → Across R (shown_group a) (shown_group b)
across_groups R a b holds =
    each_of_children (λ group. Each (R group) (shown_group b)) a.desc a.children (shown_of_family a)
    (λ some. each_of_children (R (group_for a)) b.desc b.children (shown_of_family b) (holds some))

-- what holds between the groups of each two printed families holds between each two groups
pub pairs_groups : (R : ShownGroup → ShownGroup → Type 0) (families : List Family)
    → Pairs (λ a b. IsPrinted a → IsPrinted b → R (group_for a) (group_for b)) families
    → Pairs R (flat_map shown_group families)
pairs_groups R families all =
    pairs_flat_map R shown_group families
    (each_any (λ family. Pairs R (shown_group family))
    (λ family. pairs_of_children R family.desc family.children (shown_of_family family)) families)
    (pairs_weaker (λ family. Pairs R (shown_group family)) (λ a b. IsPrinted a → IsPrinted b → R (group_for a) (group_for b))
    (λ a b. Across R (shown_group a) (shown_group b)) (λ a b _ _ holds. across_groups R a b holds) families
    (each_any (λ family. Pairs R (shown_group family))
    (λ family. pairs_of_children R family.desc family.children (shown_of_family family)) families)
    all)

-- a text does not stand before itself
pub before_differs : (a b : List ℕ) → IsBefore a b → a ≢ b
before_differs a b before e =
    let same : slice_cmp nat_cmp b b ≡ Equal = tied_itself nat_list_cmp_total b in
    let less : slice_cmp nat_cmp b b ≡ Less = ap (λ x. slice_cmp nat_cmp x b) (sym e) ∙ before in
    cc

-- the names of two groups differ, by recursion
pub unbroken_pairs : (scrape : Scraped) → IsScrape scrape → Pairs (λ (a b : ShownGroup). a.name ≢ b.name) (shown_groups scrape)
unbroken_pairs scrape is =
    pairs_groups (λ (a b : ShownGroup). a.name ≢ b.name) scrape.families
    (pairs_weaker (λ family. IsPrinted family → IsPrinted family) (λ a b. IsBefore a.desc.name b.desc.name)
    (λ a b. IsPrinted a → IsPrinted b → a.desc.name ≢ b.desc.name)
    (λ a b _ _ before _ _. before_differs a.desc.name b.desc.name before) scrape.families
    (each_any (λ family. IsPrinted family → IsPrinted family) (λ family some. some) scrape.families)
    (pairs_recursion (λ a b. IsBefore a.desc.name b.desc.name) scrape.families is.ordered))

-- the lines of no group are broken by another's: no two groups have one name
pub unbroken : (places : ℕ) (scrape : Scraped) → IsScrape scrape
    → AllPairs (λ (a b : Group). a.name ≢ b.name) (map (as_group places) (shown_groups scrape))
unbroken places scrape is =
    pairs_places (λ (a b : Group). a.name ≢ b.name) (map (as_group places) (shown_groups scrape))
    (pairs_map (λ (a b : Group). a.name ≢ b.name) (as_group places) (shown_groups scrape) (unbroken_pairs scrape is))
