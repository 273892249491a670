use Rattle.std.proofs.Common.{◌≡◌, ℕ, List, ◌++◌, map, All, AllPairs, sym, ap, subst, ◌∙◌}
use Rattle.std.specs.Prelude.{flat_map}
use Rattle.std.specs.List.{AllZip}
use Rattle.expo_text.specs.Scraped.{Scraped}
use Rattle.scrape_merge.specs.Frames.{FramesView}
use Rattle.scrape_merge.specs.Merged.{families_of}
use Rattle.scrape_merge.specs.declared.frames.Frame.{Frame as Held}
use Rattle.scrape_merge.specs.Held.{frame_of, IsKnown, IsNamedBefore, HasRoomFor, IsFed, IsShowable, IsShown}
use Rattle.scrape_merge.proofs.Zipped.{zip_length, written}
use Rattle.scrape_merge.proofs.Whole.{names_ordered, names_known, has_room, showable, is_scrape, is_merged}
use Rattle.scrape_merge.proofs.merging.merge.Goals as goal

pub gather-requires-clause-ordered : goal.gather-requires-clause-ordered
gather-requires-clause-ordered c =
    let hs : List Held = c.frames.inside.families.items in
    let is : map frame_of hs ≡ c.args.frames.families = ap (λ (view : FramesView). view.families) c.frames.view_is in
    subst (AllPairs IsNamedBefore) (sym c.deref_mut.ensures.value)
    (names_ordered hs c.args.frames c.args.parts.items is c.requires c.frames.invariant.each)

pub gather-requires-clause-known : goal.gather-requires-clause-known
gather-requires-clause-known c =
    let hs : List Held = c.frames.inside.families.items in
    let is : map frame_of hs ≡ c.args.frames.families = ap (λ (view : FramesView). view.families) c.frames.view_is in
    subst (λ (l : List Held). All (IsKnown l) (families_of c.args.parts.items))
    (sym c.deref_mut.ensures.value)
    (names_known hs c.args.frames c.args.parts.items is c.requires c.frames.invariant.each)

pub gather-requires-clause-room : goal.gather-requires-clause-room
gather-requires-clause-room c =
    let hs : List Held = c.frames.inside.families.items in
    let is : map frame_of hs ≡ c.args.frames.families = ap (λ (view : FramesView). view.families) c.frames.view_is in
    subst (All (HasRoomFor (families_of c.args.parts.items))) (sym c.deref_mut.ensures.value)
    (has_room hs c.args.frames c.args.parts.items is c.requires c.frames.invariant.each)

pub show_all-requires-clause-each : goal.show_all-requires-clause-each
show_all-requires-clause-each c =
    let hs : List Held = c.frames.inside.families.items in
    let is : map frame_of hs ≡ c.args.frames.families = ap (λ (view : FramesView). view.families) c.frames.view_is in
    let fed : AllZip (IsFed (families_of c.args.parts.items)) hs c.gather.new.frames =
    subst (λ (l : List Held). AllZip (IsFed (families_of c.args.parts.items)) l c.gather.new.frames) c.deref_mut.ensures.value
    c.gather.ensures.fed in
    subst (All IsShowable) (sym (written c.gather.new.frames hs c.frames.inside.families.len c.frames.inside.families.ok.0
    (zip_length (IsFed (families_of c.args.parts.items)) hs c.gather.new.frames fed)))
    (showable hs c.args.frames c.args.parts.items is c.requires c.frames.invariant.each c.gather.new.frames fed)

pub new-requires : goal.new-requires
new-requires c =
    let hs : List Held = c.frames.inside.families.items in
    let is : map frame_of hs ≡ c.args.frames.families = ap (λ (view : FramesView). view.families) c.frames.view_is in
    let fed : AllZip (IsFed (families_of c.args.parts.items)) hs c.gather.new.frames =
    subst (λ (l : List Held). AllZip (IsFed (families_of c.args.parts.items)) l c.gather.new.frames) c.deref_mut.ensures.value
    c.gather.ensures.fed in
    let shows : AllZip IsShown c.gather.new.frames c.show_all.result.items =
    subst (λ (l : List Held). AllZip IsShown l c.show_all.result.items)
    (written c.gather.new.frames hs c.frames.inside.families.len c.frames.inside.families.ok.0
    (zip_length (IsFed (families_of c.args.parts.items)) hs c.gather.new.frames fed)) c.show_all.ensures in
    is_scrape hs c.args.frames c.args.parts.items is c.requires c.frames.invariant.each c.gather.new.frames fed
    c.show_all.result.items
    shows c.gather.ensures.each c.gather.new.vector.items

pub returns : goal.returns
returns c =
    let hs : List Held = c.frames.inside.families.items in
    let is : map frame_of hs ≡ c.args.frames.families = ap (λ (view : FramesView). view.families) c.frames.view_is in
    let fed : AllZip (IsFed (families_of c.args.parts.items)) hs c.gather.new.frames =
    subst (λ (l : List Held). AllZip (IsFed (families_of c.args.parts.items)) l c.gather.new.frames) c.deref_mut.ensures.value
    c.gather.ensures.fed in
    let shows : AllZip IsShown c.gather.new.frames c.show_all.result.items =
    subst (λ (l : List Held). AllZip IsShown l c.show_all.result.items)
    (written c.gather.new.frames hs c.frames.inside.families.len c.frames.inside.families.ok.0
    (zip_length (IsFed (families_of c.args.parts.items)) hs c.gather.new.frames fed)) c.show_all.ensures in
    is_merged hs c.args.frames c.args.parts.items is c.requires c.frames.invariant.each c.gather.new.frames fed
    c.show_all.result.items
    shows c.gather.ensures.each c.gather.new.vector.items c.new.result
    (c.gather.ensures.vector
    ∙ ap (λ (l : List ℕ). l ++ flat_map (λ (part : Scraped). part.vector) c.args.parts.items) c.frames.invariant.no_numbers)
    c.new.ensures
