-- Two texts joined, and the names that suffixes make.
use Rattle.std.proofs.Common.{◌≡◌, ◌↔◌, ℕ, ◌+◌, ◌<◌, List, [], ◌∷◌, ◌++◌, length, get_or, map, Contains, ◌⊎◌, inl, inr}
use Rattle.std.proofs.Common.{below_more, refl, sym, ap, subst, ◌∙◌, append_assoc, arith}
use Rattle.std.proofs.lemmas.List.{append_cancel_left}
use Rattle.std.proofs.lemmas.List.{get_or-map}
use Rattle.std.proofs.lemmas.List.Elements.{Contains-get_or}
use Rattle.std.proofs.Math.ListN.{length-map}

-- where a is b and a rest, the rest moves to the other side
pub moved : (a x b y rest : List ℕ) → a ≡ b ++ rest → (y ≡ rest ++ x) ↔ (a ++ x ≡ b ++ y)
moved a x b y rest is = (
  λ e. ap (λ s. s ++ x) is ∙ append_assoc b rest x ∙ ap (λ s. b ++ s) (sym e),
  λ e. sym (append_cancel_left b (rest ++ x) y (sym (append_assoc b rest x) ∙ ap (λ s. s ++ x) (sym is) ∙ e)),
)

-- of two texts that begin one text, one begins the other
pub one_begins : (a x b y : List ℕ) → a ++ x ≡ b ++ y → ((rest : List ℕ) × (a ≡ b ++ rest)) ⊎ ((rest : List ℕ) × (b ≡ a ++ rest))
one_begins [] x b y e = inr (b, refl)
one_begins (h ∷ a) x [] y e = inl (h ∷ a, refl)
one_begins (h ∷ a) x (k ∷ b) y e =
    let heads : h ≡ k = cc in
    let tails : a ++ x ≡ b ++ y = cc in
    elim (one_begins a x b y tails) [ inl p ↦ inl (p.0, cc (heads, p.1)) | inr p ↦ inr (p.0, cc (heads, p.1)) ]

-- none of the first i, and not the next
pub none_more : {A : Type 0} (f : A → List ℕ) (P : List ℕ → Type 0) (xs : List A) (i : ℕ) (e : A) → i < length xs
    → ((k : ℕ) (d : List ℕ) → k < i → P (get_or (map f xs) k d) → ⊥) → (P (f (get_or xs i e)) → ⊥) → (k : ℕ) (d : List ℕ)
    → k < i + 1 → P (get_or (map f xs) k d) → ⊥
none_more f P xs i e within below here k d lt =
    below_more (λ j. (d : List ℕ) → P (get_or (map f xs) j d) → ⊥) i (λ j lt d. below j d lt)
    (λ d p. here (subst P (get_or-map f xs i e d within) p)) k lt d

-- a name that no suffix makes is none of the names
pub none_contained : (g : List ℕ → List ℕ) (suffixes : List (List ℕ)) (P : List ℕ → Type 0)
    → ((k : ℕ) (d : List ℕ) → k < length suffixes → P (g (get_or suffixes k d)) → ⊥) → (name : List ℕ)
    → Contains (map g suffixes) name → P name → ⊥
none_contained g suffixes P none name found p =
    let within : found.0 < length suffixes = omega (arith, found.1, length-map suffixes g) in
    none found.0 [] within (subst P (sym found.2 ∙ get_or-map g suffixes found.0 [] name within) p)

-- the name that a suffix makes is one of the names
pub one_contained : (g : List ℕ → List ℕ) (suffixes : List (List ℕ)) (i : ℕ) (d : List ℕ) → i < length suffixes
    → Contains (map g suffixes) (g (get_or suffixes i d))
one_contained g suffixes i d within =
    subst (λ name. Contains (map g suffixes) name) (get_or-map g suffixes i d [] within)
    (Contains-get_or (map g suffixes) i [] (omega (arith, length-map suffixes g)))
