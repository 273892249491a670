-- Lists of labels that have the same labels, in any order.
use Rattle.std.proofs.Common.{◌≡◌, ◌≢◌, ℕ, zero, suc, List, [], ◌∷◌, ◌++◌, length, ◌⊎◌, inl, inr, ⊎_elim, refl, sym, ap, subst}
use Rattle.std.proofs.Common.{arith}
use Rattle.std.specs.Prelude.{Contains, zip, codes}
use Rattle.std.proofs.lemmas.List.Elements.{Contains-append_left, Contains-append_right, Contains-append_cases}
use Rattle.std.proofs.lemmas.List.Elements.{recursion_from_All, All-contains_itself}
use Rattle.expo_text.specs.Reads.{AreSameLabels}
use Rattle.expo_text.proofs.Pairs.{Each, Pairs, each_weaker}

-- what holds of each element holds of one that is contained
pub each_at : {X : Type 0} (P : X → Type 0) (xs : List X) (x : X) → Each P xs → Contains xs x → P x
each_at P [] x all found = absurd (let lt = found.1 in omega (arith, lt))
each_at P (y ∷ ys) x all (zero, lt, e) = subst P e all.0
each_at P (y ∷ ys) x all (suc k, lt, e) = each_at P ys x all.1 (k, omega (arith, lt), e)

-- the first element, or one of the others
split : {X : Type 0} (y : X) (ys : List X) (x : X) → Contains (y ∷ ys) x → (y ≡ x) ⊎ Contains ys x
split y ys x (zero, lt, e) = inl e
split y ys x (suc k, lt, e) = inr (k, omega (arith, lt), e)

here : {X : Type 0} (y : X) (ys : List X) → Contains (y ∷ ys) y
here y ys = (zero, omega arith, refl)

later : {X : Type 0} (y : X) (ys : List X) (x : X) → Contains ys x → Contains (y ∷ ys) x
later y ys x (k, lt, e) = (suc k, omega (arith, lt), e)

-- the only element
alone : {X : Type 0} (y x : X) → Contains (y ∷ []) x → y ≡ x
alone y x found = ⊎_elim (λ e. e) (λ none. absurd (let lt = none.1 in omega (arith, lt))) (split y [] x found)

-- none of the labels is named `le`
abbrev pub HasNoLe : List (List ℕ × List ℕ) → Type 0
HasNoLe labels = Each (λ label. label.0 ≢ codes "le") labels

pub no_le_in : (own : List (List ℕ × List ℕ)) → HasNoLe own → (value : List ℕ) → ¬ (Contains own (codes "le", value))
no_le_in own none value found = each_at (λ label. label.0 ≢ codes "le") own (codes "le", value) none found refl

-- the label `le` of labels that have it after others
pub le_is : (own : List (List ℕ × List ℕ)) (bound token : List ℕ) → HasNoLe own → Contains (own ++ ((codes "le", bound) ∷ []))
    (codes "le", token) → bound ≡ token
le_is own bound token none found =
    ⊎_elim (λ in_own. absurd (no_le_in own none token in_own))
    (λ last. ap (λ (label : List ℕ × List ℕ). label.1) (alone (codes "le", bound) (codes "le", token) last))
    (Contains-append_cases own ((codes "le", bound) ∷ []) (codes "le", token) found)

pub le_there : (own : List (List ℕ × List ℕ)) (bound : List ℕ) → Contains (own ++ ((codes "le", bound) ∷ [])) (codes "le", bound)
le_there own bound = Contains-append_right own ((codes "le", bound) ∷ []) (codes "le", bound) (here (codes "le", bound) [])

-- what stands before the label `le` is among labels that have it as well, before theirs
half : (a b : List (List ℕ × List ℕ)) (x y : List ℕ) → HasNoLe a
    → ((label : List ℕ × List ℕ) → Contains (a ++ ((codes "le", x) ∷ [])) label → Contains (b ++ ((codes "le", y) ∷ [])) label)
    → (label : List ℕ × List ℕ) → Contains a label → Contains b label
half a b x y none all label found =
    ⊎_elim (λ h. h) (λ last. absurd
    (each_at (λ (l : List ℕ × List ℕ). l.0 ≢ codes "le") a label none found
    (sym (ap (λ (l : List ℕ × List ℕ). l.0) (alone (codes "le", y) label last)))))
    (Contains-append_cases b ((codes "le", y) ∷ []) label (all label (Contains-append_left a ((codes "le", x) ∷ []) label found)))

pub before_le : (a b : List (List ℕ × List ℕ)) (x y : List ℕ) → HasNoLe a → HasNoLe b
    → AreSameLabels (a ++ ((codes "le", x) ∷ [])) (b ++ ((codes "le", y) ∷ [])) → AreSameLabels a b
before_le a b x y none_a none_b s = (half a b x y none_a s.0, half b a y x none_b s.1)

-- of labels without `le` and labels with it one label differs
pub one_le : (a b : List (List ℕ × List ℕ)) (y : List ℕ) → HasNoLe a → ¬ (AreSameLabels a (b ++ ((codes "le", y) ∷ [])))
one_le a b y none s = no_le_in a none y (s.1 (codes "le", y) (le_there b y))

pub turned : (a b : List (List ℕ × List ℕ)) → AreSameLabels a b → AreSameLabels b a
turned a b s = (s.1, s.0)

pub same_list : (a b : List (List ℕ × List ℕ)) → a ≡ b → AreSameLabels a b
same_list a b e = (
  λ label found. subst (λ l. Contains l label) e found,
  λ label found. subst (λ l. Contains l label) (sym e) found,
)

-- what holds of each name holds of the name of each label that has one of them
pub each_zip : (P : List ℕ → Type 0) (names values : List (List ℕ)) → Each P names → Each (λ (label : List ℕ × List ℕ). P label.0)
    (zip names values)
each_zip P [] values all = tt
each_zip P (name ∷ names) [] all = tt
each_zip P (name ∷ names) (value ∷ values) all = (all.0, each_zip P names values all.1)

-- one value beside a name that no other label has
value_of : (n x y : List ℕ) (names ys : List (List ℕ)) → Each (λ name. n ≢ name) names → Contains ((n, y) ∷ zip names ys) (n, x)
    → y ≡ x
value_of n x y names ys other found =
    ⊎_elim (λ e. ap (λ (l : List ℕ × List ℕ). l.1) e)
    (λ h. absurd (each_at (λ (l : List ℕ × List ℕ). n ≢ l.0) (zip names ys) (
      n,
      x,
    ) (each_zip (λ name. n ≢ name) names ys other) h refl))
    (split (n, y) (zip names ys) (n, x) found)

rest_in : (n x y : List ℕ) (names xs ys : List (List ℕ)) → Each (λ name. n ≢ name) names
    → ((label : List ℕ × List ℕ) → Contains ((n, x) ∷ zip names xs) label → Contains ((n, y) ∷ zip names ys) label)
    → (label : List ℕ × List ℕ) → Contains (zip names xs) label → Contains (zip names ys) label
rest_in n x y names xs ys other all label found =
    ⊎_elim (λ e. absurd (each_at (λ (l : List ℕ × List ℕ). n ≢ l.0) (zip names xs) label
    (each_zip (λ name. n ≢ name) names xs other) found (ap (λ (l : List ℕ × List ℕ). l.0) e))) (λ h. h)
    (split (n, y) (zip names ys) label (all label (later (n, x) (zip names xs) label found)))

-- values beside the same names, of which no two are the same, are told apart by their labels in any order
pub zip_same : (names xs ys : List (List ℕ)) → length xs ≡ length names → length ys ≡ length names → Pairs (λ a b. a ≢ b) names
    → AreSameLabels (zip names xs) (zip names ys) → xs ≡ ys
zip_same [] [] [] fit fits differ s = refl
zip_same [] (x ∷ xs) ys fit fits differ s = absurd (omega (arith, fit))
zip_same [] [] (y ∷ ys) fit fits differ s = absurd (omega (arith, fits))
zip_same (n ∷ names) [] ys fit fits differ s = absurd (omega (arith, fit))
zip_same (n ∷ names) (x ∷ xs) [] fit fits differ s = absurd (omega (arith, fits))
zip_same (n ∷ names) (x ∷ xs) (y ∷ ys) fit fits differ s =
    let first : y ≡ x = value_of n x y names ys differ.0 (s.0 (n, x) (here (n, x) (zip names xs))) in
    let others : xs ≡ ys = zip_same names xs ys (omega (arith, fit)) (omega (arith, fits)) differ.1
    (rest_in n x y names xs ys differ.0 s.0, rest_in n y x names ys xs differ.0 s.1) in
    λ z. sym first z ∷ others z

-- where `le` is none of the names, each of them is another text, and no label beside them is `le`
names_no_le : (names : List (List ℕ)) → ¬ (Contains names (codes "le")) → Each (λ name. name ≢ codes "le") names
names_no_le names none =
    each_weaker (Contains names) (λ name. name ≢ codes "le") (λ name there same. none (subst (Contains names) same there)) names
    (recursion_from_All (Contains names) names (All-contains_itself names))

pub zip_no_le : (names values : List (List ℕ)) → ¬ (Contains names (codes "le")) → HasNoLe (zip names values)
zip_no_le names values none = each_zip (λ name. name ≢ codes "le") names values (names_no_le names none)
