-- Children are put into families.
use Rattle.std.proofs.Common.{◌≡◌, ℕ, ◌+◌, ◌<◌, ◌≤◌, true, false, List, [], ◌∷◌, ◌++◌, length, get_or, set, AllPairs}
use Rattle.std.proofs.Common.{refl, sym, ap, ap₂, subst, ◌∙◌, arith, append-nil, append_assoc, length-append}
use Rattle.std.specs.Vec.{vec_capacity}
use Rattle.std.specs.List.{AllZip}
use Rattle.std.proofs.lemmas.List.{get_or_default}
use Rattle.expo_text.specs.Scraped.{Child, Family}
use Rattle.scrape_merge.specs.Merged.{named, children_of}
use Rattle.scrape_merge.specs.declared.frames.Frame.{Frame as Held}
use Rattle.scrape_merge.specs.Held.{name_of, HasRoomFor, IsGrown, IsFed, IsNamedBefore}
use Rattle.scrape_merge.proofs.Named.{children-append, length-named, length-children, children_here, named_here, children_there}
use Rattle.scrape_merge.proofs.Named.{none_named}
use Rattle.scrape_merge.proofs.Places.{one_place}
use Rattle.scrape_merge.proofs.Zipped.{zip_set}

-- it stays as it is where it is given nothing
pub fed_nothing : (held : Held) (families : List Family) → children_of (name_of held) families ≡ [] → IsFed families held held
fed_nothing held families none = record {
  desc = refl;
  single = refl;
  children = sym (append-nil held.children.items) ∙ ap (λ more. held.children.items ++ more) (sym none);
  room = λ many. omega arith;
  marked = λ marked. marked;
}

pub fed_same : {more : List Child} {a b : Held} → IsGrown more a b → name_of b ≡ name_of a
fed_same fed = ap (λ desc. desc.name) fed.desc

-- some families, and then others
pub fed_append : (xs ys : List Family) (a b c : Held) → IsFed xs a b → IsFed ys b c → IsFed (xs ++ ys) a c
fed_append xs ys a b c first second = record {
  desc = second.desc ∙ first.desc;
  single = second.single ∙ first.single;
  children = second.children ∙ ap₂ (λ l name. l ++ children_of name ys) first.children (fed_same first)
      ∙ append_assoc a.children.items (children_of (name_of a) xs) (children_of (name_of a) ys)
      ∙ ap (λ l. a.children.items ++ l) (sym (children-append (name_of a) xs ys));
  room = λ many.
      let one : vec_capacity a.children ≤ vec_capacity b.children = first.room many in
      let two : vec_capacity b.children ≤ vec_capacity c.children = second.room (first.single ∙ many) in
      omega arith;
  marked = λ marked. second.marked (first.marked marked);
}

-- room for families is room for the first of them
pub room_front : (xs ys : List Family) (held : Held) → HasRoomFor (xs ++ ys) held → HasRoomFor xs held
room_front xs ys held room =
    let n = length-named (name_of held) xs ys in
    let m = length-children (name_of held) xs ys in
    record {
      one = λ single. let few = room.one single in omega arith;
      none = λ single some. room.none single (omega arith);
      many = λ many. let fits = room.many many in omega arith;
    }

-- and behind those, for the others
pub room_behind : (xs ys : List Family) (a b : Held) → HasRoomFor (xs ++ ys) a → IsFed xs a b → HasRoomFor ys b
room_behind xs ys a b room fed =
    let name : name_of b ≡ name_of a = fed_same fed in
    let n = length-named (name_of a) xs ys in
    let m = length-children (name_of a) xs ys in
    let named_is : length (named (name_of b) ys) ≡ length (named (name_of a) ys) = ap (λ it. length (named it ys)) name in
    let children_is : length (children_of (name_of b) ys) ≡ length (children_of (name_of a) ys) =
    ap (λ it. length (children_of it ys)) name in
    record {
      one = λ single. let few = room.one (sym fed.single ∙ single) in omega arith;
      none = λ single some.
          let few = room.one (sym fed.single ∙ single) in
          let before : a.children.items ≡ [] = room.none (sym fed.single ∙ single) (omega arith) in
          let nothing : children_of (name_of a) xs ≡ [] = none_named (name_of a) xs (omega arith) in
          fed.children ∙ ap₂ (λ l k. l ++ k) before nothing;
      many = λ many.
          let fits = room.many (sym fed.single ∙ many) in
          let grown = fed.room (sym fed.single ∙ many) in
          let long : length b.children.items ≡ length a.children.items + length (children_of (name_of a) xs) =
          ap length fed.children ∙ length-append a.children.items (children_of (name_of a) xs) in
          omega arith;
    }

-- room for a family of its name is room for the children of that
pub room_here : (family : Family) (held : Held) → name_of held ≡ family.desc.name → HasRoomFor (family ∷ []) held
    → (held.single ≡ true → held.children.items ≡ [])
    × (held.single ≡ false → length held.children.items + length family.children ≤ vec_capacity held.children)
room_here family held name room =
    let n = named_here (name_of held) family (sym name) in
    let m : length (children_of (name_of held) (family ∷ [])) ≡ length family.children =
    ap length (children_here (name_of held) family (sym name)) in
    (λ single. room.none single (omega arith), λ many. let fits = room.many many in omega arith)

-- the family of its name takes the children of a family, and the others stay
pub put_one : (family : Family) (frames : List Held) (i : ℕ) (old new : Held) → AllPairs IsNamedBefore frames → i < length frames
    → old ≡ get_or frames i old → name_of old ≡ family.desc.name → IsGrown family.children old new
    → AllZip (IsFed (family ∷ [])) frames (set frames i new)
put_one family frames i old new ordered within is name grown =
    zip_set (IsFed (family ∷ [])) frames i new within
    (λ d. subst (λ held. IsFed (family ∷ []) held new) (at d)
    (subst (λ more. IsGrown more old new) (sym (children_here (name_of old) family (sym name))) grown))
    (λ k d lt differ. fed_nothing (get_or frames k d) (family ∷ []) (children_there (name_of (get_or frames k d)) family
    (λ same. differ (one_place name_of frames ordered k i d lt within
    (sym same ∙ sym name ∙ ap name_of (at d))))))
  where
    at : (d : Held) → old ≡ get_or frames i d
    at d = is ∙ get_or_default frames i old d within
