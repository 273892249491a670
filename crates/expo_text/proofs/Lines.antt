-- The lines of a family, child by child, and the groups of a scrape, family by family.
use Rattle.std.proofs.Common.{◌≡◌, ℕ, ◌+◌, ◌<◌, List, [], ◌∷◌, ◌++◌, length, take, get_or, All, codes, refl, sym, ap, subst, ◌∙◌}
use Rattle.std.proofs.Common.{arith}
use Rattle.std.specs.List.{flat_map}
use Rattle.std.proofs.lemmas.List.{take_more, flat_map_more}
use Rattle.std.proofs.lemmas.List.Elements.{All-more}
use Rattle.std.proofs.lemmas.Grind.{flat_map-append}
use Rattle.metric_names.specs.Escapes.{help_byte}
use Rattle.metric_desc.specs.Desc.{Descriptor}
use Rattle.expo_text.specs.Scraped.{Child}
use Rattle.expo_text.specs.Shown.{Shown, shown_of_child}
use Rattle.expo_text.specs.Text.{help_line, type_line}
use Rattle.expo_text.specs.Shown.{shown_line, shown_group_of}

-- the pieces of one more element
pub flat_map-next : {X A : Type 0} (f : X → List A) (xs : List X) (n : ℕ) (x : X) → n < length xs → x ≡ get_or xs n x
    → flat_map f (take (n + 1) xs) ≡ flat_map f (take n xs) ++ f x
flat_map-next f xs n x within is =
    ap (flat_map f) (take_more xs n x within ∙ ap (λ y. take n xs ++ y ∷ []) (sym is)) ∙ sym (flat_map_more f [] (take n xs) x)

-- the lines of some children of a family
abbrev pub lines : Descriptor → List Child → List ℕ
lines desc children = flat_map shown_line (flat_map (shown_of_child desc) children)

-- the lines of one more child
pub lines-next : (desc : Descriptor) (children : List Child) (n : ℕ) (child : Child) → n < length children
    → child ≡ get_or children n child → lines desc (take (n + 1) children) ≡ lines desc (take n children) ++ flat_map shown_line
    (shown_of_child desc child)
lines-next desc children n child within is =
    ap (flat_map shown_line) (flat_map-next (shown_of_child desc) children n child within is)
    ∙ flat_map-append shown_line (flat_map (shown_of_child desc) (take n children)) (shown_of_child desc child)

-- one more element of which it holds
pub All-next : {X : Type 0} (P : X → Type 0) (xs : List X) (n : ℕ) (x : X) → n < length xs → x ≡ get_or xs n x → All P (take n xs)
    → P x → All P (take (n + 1) xs)
All-next P xs n x within is before here = All-more P xs n x within before (subst P is here)

-- a family with children has a group
pub group_of-some : (desc : Descriptor) (children : List Child) (all : List Shown) → 0 < length children
    → help_line desc.name desc.help ++ type_line desc ++ flat_map shown_line all ≡ shown_group_of desc children all
group_of-some desc [] all some = absurd (omega (arith, some))
group_of-some desc (_ ∷ _) all some = refl

-- a help that is not empty has a line
pub help_line-some : (name help : List ℕ) → 0 < length help
    → codes "# HELP " ++ name ++ codes " " ++ flat_map help_byte help ++ codes "\n" ≡ help_line name help
help_line-some name [] some = absurd (omega (arith, some))
help_line-some name (_ ∷ _) some = refl
