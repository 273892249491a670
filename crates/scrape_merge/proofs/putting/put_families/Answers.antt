use Rattle.std.proofs.Common.{◌≡◌, ℕ, List, [], ◌∷◌, ◌++◌, All, Contains, refl, sym, ap, subst, ◌∙◌, append_assoc, rules}
use Rattle.std.specs.Vec.Iter.{into_iter_items}
use Rattle.expo_text.specs.Scraped.{Family}
use Rattle.expo_text.specs.Order.{IsBefore}
use Rattle.scrape_merge.specs.Held.{name_of, IsKnown, HasRoomFor, IsFed}
use Rattle.scrape_merge.proofs.Zipped.{zip_then, zip_all, zip_map, zip_same, pairs_same, all_mid}
use Rattle.scrape_merge.proofs.Feeding.{fed_nothing, fed_same, fed_append, room_front, room_behind}
use Rattle.scrape_merge.proofs.putting.put_families.Goals as goal

pub loop-family-init : goal.loop-family-init
loop-family-init c = record {
  split = search rules;
  fed = zip_same (IsFed []) c.args.frames.now (λ k d within. fed_nothing _ [] refl);
}

pub put_family-requires-clause-ordered : goal.put_family-requires-clause-ordered
put_family-requires-clause-ordered c =
    pairs_same IsBefore name_of name_of c.args.frames.now c.loop-family.frames
    (zip_map (IsFed c.loop-family.yielded) name_of name_of (λ a b fed. fed_same fed) c.args.frames.now c.loop-family.frames
    c.loop-family.invariant.fed)
    c.requires.ordered

pub put_family-requires-clause-known : goal.put_family-requires-clause-known
put_family-requires-clause-known c =
    let family : Family = c.in-Some.family in
    let rest : List Family = into_iter_items c.next.new.self in
    let split : c.args.families.items ≡ c.loop-family.yielded ++ family ∷ rest =
    c.loop-family.invariant.split ∙ ap (λ (l : List Family). c.loop-family.yielded ++ l) c.in-Some.ensures.steps.0 in
    subst (λ (names : List (List ℕ)). Contains names family.desc.name)
    (sym (zip_map (IsFed c.loop-family.yielded) name_of name_of (λ a b fed. fed_same fed) c.args.frames.now c.loop-family.frames
    c.loop-family.invariant.fed))
    (all_mid (IsKnown c.args.frames.now) c.loop-family.yielded family rest
    (subst (All (IsKnown c.args.frames.now)) split c.requires.known))

pub put_family-requires-clause-room : goal.put_family-requires-clause-room
put_family-requires-clause-room c =
    let family : Family = c.in-Some.family in
    let rest : List Family = into_iter_items c.next.new.self in
    let split : c.args.families.items ≡ c.loop-family.yielded ++ family ∷ rest =
    c.loop-family.invariant.split ∙ ap (λ (l : List Family). c.loop-family.yielded ++ l) c.in-Some.ensures.steps.0 in
    zip_all (HasRoomFor (c.loop-family.yielded ++ family ∷ rest)) (IsFed c.loop-family.yielded) (HasRoomFor (family ∷ []))
    (λ a b room fed. room_front (family ∷ []) rest b (room_behind c.loop-family.yielded (family ∷ rest) a b room fed))
    c.args.frames.now c.loop-family.frames
    (subst (λ (l : List Family). All (HasRoomFor l) c.args.frames.now) split c.requires.room) c.loop-family.invariant.fed

pub loop-family-preserved : goal.loop-family-preserved
loop-family-preserved c =
    let family : Family = c.in-Some.family in
    let rest : List Family = into_iter_items c.next.new.self in
    let split : c.args.families.items ≡ c.loop-family.yielded ++ family ∷ rest =
    c.loop-family.invariant.split ∙ ap (λ (l : List Family). c.loop-family.yielded ++ l) c.in-Some.ensures.steps.0 in
    record {
      split = split ∙ sym (append_assoc c.loop-family.yielded (family ∷ []) rest);
      fed = zip_then (IsFed c.loop-family.yielded) (IsFed (family ∷ [])) (IsFed (c.loop-family.yielded ++ family ∷ []))
          (fed_append c.loop-family.yielded (family ∷ [])) c.args.frames.now c.loop-family.frames c.put_family.new.frames
          c.loop-family.invariant.fed c.put_family.ensures;
    }
