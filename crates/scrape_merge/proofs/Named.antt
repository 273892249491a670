-- The families of a name.
use Rattle.std.proofs.Common.{◌≡◌, ◌≢◌, ℕ, ◌+◌, true, false, Bool, List, [], ◌∷◌, ◌++◌, length, All}
use Rattle.std.proofs.Common.{refl, ap, ◌∙◌, arith, append-nil, length-append}
use Rattle.std.specs.Prelude.{if◌then◌else◌}
use Rattle.std.specs.Str.{bytes_eq}
use Rattle.std.proofs.lemmas.Slice.Eq.{bytes_eq-Decides}
use Rattle.std.proofs.lemmas.List.Concat.{flat_map-append}
use Rattle.std.proofs.lemmas.List.Elements.{All-append, All-nil, All-head, All-tail}
use Rattle.expo_text.specs.Scraped.{Child, Family}
use Rattle.scrape_merge.specs.Merged.{children_of, named}

pub children-append : (name : List ℕ) (xs ys : List Family) → children_of name (xs ++ ys) ≡ children_of name xs ++ children_of
    name ys
children-append name xs ys =
    flat_map-append (λ (family : Family). if bytes_eq family.desc.name name then family.children else []) xs ys

pub named-append : (name : List ℕ) (xs ys : List Family) → named name (xs ++ ys) ≡ named name xs ++ named name ys
named-append name xs ys =
    flat_map-append (λ (family : Family). if bytes_eq family.desc.name name then family.desc ∷ [] else []) xs ys

pub length-named : (name : List ℕ) (xs ys : List Family)
    → length (named name (xs ++ ys)) ≡ length (named name xs) + length (named name ys)
length-named name xs ys = ap length (named-append name xs ys) ∙ length-append (named name xs) (named name ys)

pub length-children : (name : List ℕ) (xs ys : List Family)
    → length (children_of name (xs ++ ys)) ≡ length (children_of name xs) + length (children_of name ys)
length-children name xs ys = ap length (children-append name xs ys) ∙ length-append (children_of name xs) (children_of name ys)

is_named : (family : Family) (name : List ℕ) → family.desc.name ≡ name → bytes_eq family.desc.name name ≡ true
is_named family name same = (bytes_eq-Decides family.desc.name name).1 same

is_other : (b : Bool) → (b ≡ true → ⊥) → b ≡ false
is_other true differ = absurd (differ refl)
is_other false differ = refl

-- a family alone, of the name
pub children_here : (name : List ℕ) (family : Family) → family.desc.name ≡ name → children_of name (family ∷ []) ≡ family.children
children_here name family same = rw (is_named family name same) (append-nil family.children)

pub named_here : (name : List ℕ) (family : Family) → family.desc.name ≡ name → length (named name (family ∷ [])) ≡ 1
named_here name family same = rw (is_named family name same) refl

-- and of another name
pub children_there : (name : List ℕ) (family : Family) → family.desc.name ≢ name → children_of name (family ∷ []) ≡ []
children_there name family differ =
    let other : bytes_eq family.desc.name name ≡ false =
    is_other (bytes_eq family.desc.name name) (λ said. differ ((bytes_eq-Decides family.desc.name name).0 said)) in
    rw other refl

-- where there is no family of the name, it has no children
pub none_named : (name : List ℕ) (families : List Family) → length (named name families) ≡ 0 → children_of name families ≡ []
none_named name [] none = refl
none_named name (family ∷ families) none =
    by (bytes_eq family.desc.name name) none (λ rest. none_named name families rest)
  where
    by : (b : Bool) → length ((if b then family.desc ∷ [] else []) ++ named name families) ≡ 0
        → (length (named name families) ≡ 0 → children_of name families ≡ [])
        → (if b then family.children else []) ++ children_of name families ≡ []
    by true none rest = absurd (omega (arith, none))
    by false none rest = rest none

-- what holds of the children of each family of the name
pub all_children : (P : Child → Type 0) (name : List ℕ) (families : List Family)
    → All (λ (family : Family). family.desc.name ≡ name → All P family.children) families → All P (children_of name families)
all_children P name [] all = All-nil P
all_children P name (family ∷ families) all =
    All-append P (if bytes_eq family.desc.name name then family.children else []) (children_of name families)
    (by (bytes_eq family.desc.name name) (bytes_eq-Decides family.desc.name name).0)
    (all_children P name families (All-tail (λ (family : Family). family.desc.name ≡ name → All P family.children) family families
    all))
  where
    by : (b : Bool) → (b ≡ true → family.desc.name ≡ name) → All P (if b then family.children else [])
    by true said = All-head (λ (family : Family). family.desc.name ≡ name → All P family.children) family families all (said refl)
    by false said = All-nil P
