use Rattle.std.proofs.Common.{◌≡◌, ℕ, List, [], ◌∷◌, ◌++◌, map, All, Contains, refl, sym, ap, ap₂, subst, ◌∙◌, append-nil}
use Rattle.std.proofs.Common.{append_assoc, rules, arith}
use Rattle.std.specs.List.{AllZip}
use Rattle.std.specs.Vec.Iter.{into_iter_items}
use Rattle.std.proofs.lemmas.List.{flat_map_more}
use Rattle.std.proofs.lemmas.List.Elements.{All-nil, All-append}
use Rattle.expo_text.specs.Scraped.{Family, Scraped}
use Rattle.expo_text.specs.Order.{IsBefore, IsFamily}
use Rattle.scrape_merge.specs.Merged.{families_of}
use Rattle.scrape_merge.specs.Held.{name_of, HasRoomFor, IsFed}
use Rattle.scrape_merge.proofs.Zipped.{zip_then, zip_all, zip_map, zip_same, pairs_same, all_front, all_back}
use Rattle.scrape_merge.proofs.Feeding.{fed_nothing, fed_same, fed_append, room_front, room_behind}
use Rattle.scrape_merge.proofs.Whole.{families_split, families_push}
use Rattle.scrape_merge.proofs.merging.gather.Goals as goal

pub loop-part-init : goal.loop-part-init
loop-part-init c = record {
  split = search rules;
  vector = sym (append-nil c.args.vector.now.items);
  room = omega arith;
  fed = zip_same (IsFed []) c.args.frames.now (λ k d within. fed_nothing _ [] refl);
  each = All-nil IsFamily;
}

pub put_families-requires-clause-ordered : goal.put_families-requires-clause-ordered
put_families-requires-clause-ordered c =
    pairs_same IsBefore name_of name_of c.args.frames.now c.loop-part.frames
    (zip_map (IsFed (families_of c.loop-part.yielded)) name_of name_of (λ a b fed. fed_same fed) c.args.frames.now
    c.loop-part.frames
    c.loop-part.invariant.fed)
    c.requires.ordered

pub put_families-requires-clause-known : goal.put_families-requires-clause-known
put_families-requires-clause-known c =
    let part : Scraped = c.in-Some.part in
    let rest : List Scraped = into_iter_items c.next.new.self in
    let front : List Scraped = c.loop-part.yielded in
    let split : c.args.parts.items ≡ front ++ part ∷ rest =
    c.loop-part.invariant.split ∙ ap (λ (l : List Scraped). front ++ l) c.in-Some.ensures.steps.0 in
    let P : List (List ℕ) → Family → Type 0 = λ names family. Contains names family.desc.name in
    subst (λ (l : List Family). All (P (map name_of c.loop-part.frames)) l) (sym c.into_parts-numbers.ensures.families)
    (subst (λ (names : List (List ℕ)). All (P names) part.families)
    (sym (zip_map (IsFed (families_of front)) name_of name_of (λ a b fed. fed_same fed) c.args.frames.now c.loop-part.frames
    c.loop-part.invariant.fed))
    (all_front (P (map name_of c.args.frames.now)) part.families (families_of rest)
    (all_back (P (map name_of c.args.frames.now)) (families_of front) (part.families ++ families_of rest)
    (subst (All (P (map name_of c.args.frames.now))) (families_split c.args.parts.items front part rest split)
    c.requires.known))))

pub put_families-requires-clause-room : goal.put_families-requires-clause-room
put_families-requires-clause-room c =
    let part : Scraped = c.in-Some.part in
    let rest : List Scraped = into_iter_items c.next.new.self in
    let front : List Scraped = c.loop-part.yielded in
    let split : c.args.parts.items ≡ front ++ part ∷ rest =
    c.loop-part.invariant.split ∙ ap (λ (l : List Scraped). front ++ l) c.in-Some.ensures.steps.0 in
    subst (λ (l : List Family). All (HasRoomFor l) c.loop-part.frames) (sym c.into_parts-numbers.ensures.families)
    (zip_all (HasRoomFor (families_of front ++ (part.families ++ families_of rest))) (IsFed (families_of front)) (HasRoomFor
    part.families)
    (λ a b room fed. room_front part.families (families_of rest) b
    (room_behind (families_of front) (part.families ++ families_of rest) a b room fed))
    c.args.frames.now c.loop-part.frames
    (subst (λ (l : List Family). All (HasRoomFor l) c.args.frames.now) (families_split c.args.parts.items front part rest split)
    c.requires.room)
    c.loop-part.invariant.fed)

pub loop-part-preserved : goal.loop-part-preserved
loop-part-preserved c =
    let part : Scraped = c.in-Some.part in
    let rest : List Scraped = into_iter_items c.next.new.self in
    let front : List Scraped = c.loop-part.yielded in
    let push : families_of (front ++ part ∷ []) ≡ families_of front ++ part.families = families_push front part in
    let here : AllZip (IsFed part.families) c.loop-part.frames c.put_families.new.frames =
    subst (λ (l : List Family). AllZip (IsFed l) c.loop-part.frames c.put_families.new.frames)
    c.into_parts-numbers.ensures.families
    c.put_families.ensures in
    record {
      split = c.loop-part.invariant.split ∙ ap (λ (l : List Scraped). front ++ l) c.in-Some.ensures.steps.0
          ∙ sym (append_assoc front (part ∷ []) rest);
      vector = c.in-Ok.ensures.items ∙ ap₂ (λ (l k : List ℕ). l ++ k) c.loop-part.invariant.vector
          c.into_parts-numbers.ensures.vector
          ∙ flat_map_more (λ (part : Scraped). part.vector) c.args.vector.now.items front part;
      room = omega arith;
      fed = subst (λ (l : List Family). AllZip (IsFed l) c.args.frames.now c.put_families.new.frames) (sym push)
          (zip_then (IsFed (families_of front)) (IsFed part.families) (IsFed (families_of front ++ part.families))
          (fed_append (families_of front) part.families) c.args.frames.now c.loop-part.frames c.put_families.new.frames
          c.loop-part.invariant.fed here);
      each = subst (All IsFamily) (sym push) (All-append IsFamily (families_of front) part.families c.loop-part.invariant.each
          c.into_parts-numbers.ensures.ordered.each);
    }
