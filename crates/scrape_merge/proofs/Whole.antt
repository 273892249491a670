-- A merge as a whole.
use Rattle.std.proofs.Common.{◌≡◌, ◌≢◌, ℕ, ◌<◌, ◌≤◌, List, [], ◌∷◌, ◌++◌, length, map, get_or, All, AllPairs, Contains}
use Rattle.std.proofs.Common.{refl, sym, ap, subst, ◌∙◌, arith, append-nil}
use Rattle.std.specs.Prelude.{flat_map}
use Rattle.std.specs.List.{AllZip}
use Rattle.std.specs.List.Sorted.{IsPermutation}
use Rattle.std.proofs.lemmas.List.{length-map, get_or-map}
use Rattle.std.proofs.lemmas.List.Concat.{flat_map-append}
use Rattle.std.proofs.lemmas.List.Elements.{All-weaker}
use Rattle.std.proofs.lemmas.List.Sorted.{All-permutation, length_permutation}
use Rattle.metric_desc.specs.Desc.{Descriptor, Clash}
use Rattle.expo_text.specs.Scraped.{Child, Family, Scraped}
use Rattle.expo_text.specs.Order.{IsBefore, IsChildBefore, IsNumberOf, IsFamily, IsScrape}
use Rattle.scrape_merge.specs.Frames.{Frame, FramesView, descs_of}
use Rattle.scrape_merge.specs.Merged.{families_of, children_of, HasRoom, IsMergeable, IsMerged}
use Rattle.scrape_merge.specs.declared.frames.Frame.{Frame as Held}
use Rattle.scrape_merge.specs.Held.{name_of, IsKnown, frame_of, IsEmpty, IsNamedBefore, HasRoomFor, IsFed, IsShowable, IsShown}
use Rattle.scrape_merge.proofs.Zipped.{zip_then, zip_all, zip_map, zip_length, zip_known, zip_made, pairs_unmap, pairs_same}
use Rattle.scrape_merge.proofs.Zipped.{all_unmap}
use Rattle.scrape_merge.proofs.Zipped.{contains_map}
use Rattle.scrape_merge.proofs.Places.{one_place}
use Rattle.scrape_merge.proofs.Named.{all_children}

-- the families of scrapes of which some have gone before
pub families_split : (parts front : List Scraped) (part : Scraped) (rest : List Scraped) → parts ≡ front ++ part ∷ rest
    → families_of parts ≡ families_of front ++ (part.families ++ families_of rest)
families_split parts front part rest split =
    ap families_of split ∙ flat_map-append (λ (part : Scraped). part.families) front (part ∷ rest)

pub families_push : (front : List Scraped) (part : Scraped) → families_of (front ++ part ∷ []) ≡ families_of front ++
    part.families
families_push front part = flat_map-append (λ (part : Scraped). part.families) front (part ∷ [])
    ∙ ap (λ l. families_of front ++ l) (append-nil part.families)

-- a family of a merge, and as it is shown
record IsWhole (all : List Family) (frame : Frame) (family : Family) : Type 0 where
  desc : family.desc ≡ frame.desc
  children : IsPermutation (children_of frame.desc.name all) family.children
  ordered : AllPairs IsChildBefore family.children

-- the children of a name fit the family of that name
record IsFitting (all : List Family) (frame : Frame) : Type 0 where
  few : length (children_of frame.desc.name all) ≤ 256
  fit : All (λ (child : Child). length child.values ≡ length frame.desc.labels) (children_of frame.desc.name all)
  numbers : All (λ (child : Child). IsNumberOf frame.desc.kind child.number) (children_of frame.desc.name all)

-- a descriptor of one of these families is that of the family of its name
desc_is : (frames : List Frame) → AllPairs (λ (a b : Frame). IsBefore a.desc.name b.desc.name) frames → (k : ℕ) (d : Frame)
    → k < length frames → (desc : Descriptor) → Contains (descs_of frames) desc → desc.name ≡ (get_or frames k d).desc.name
    → desc ≡ (get_or frames k d).desc
desc_is frames ordered k d within desc known same =
    let n : length (descs_of frames) ≡ length frames = length-map frames (λ (frame : Frame). frame.desc) in
    let in_j : known.0 < length frames = let lt : known.0 < length (descs_of frames) = known.1 in omega arith in
    let at : desc ≡ (get_or frames known.0 d).desc =
    sym known.2 ∙ get_or-map (λ (frame : Frame). frame.desc) frames known.0 d desc in_j in
    let place : known.0 ≡ k = one_place (λ (frame : Frame). frame.desc.name) frames ordered known.0 k d in_j within
    (ap (λ (desc : Descriptor). desc.name) (sym at) ∙ same) in
    at ∙ ap (λ n. (get_or frames n d).desc) place

fitting : (frames : FramesView) (parts : List Scraped) → IsMergeable frames parts → All IsFamily (families_of parts)
    → All (IsFitting (families_of parts)) frames.families
fitting frames parts can valid k d within =
    let all : List Family = families_of parts in
    let frame : Frame = get_or frames.families k d in
    let desc = λ (i : ℕ) (e : Family) (lt : i < length all) (same : (get_or all i e).desc.name ≡ frame.desc.name).
    desc_is frames.families can.ordered k d within (get_or all i e).desc (can.known i e lt) same in
    record {
      few = can.limit k d within;
      fit = all_children (λ (child : Child). length child.values ≡ length frame.desc.labels) frame.desc.name all
          (λ i e lt same. subst (λ (desc : Descriptor). All (λ (child : Child). length child.values ≡ length desc.labels)
          (get_or all i e).children) (desc i e lt same) (valid i e lt).fit);
      numbers = all_children (λ (child : Child). IsNumberOf frame.desc.kind child.number) frame.desc.name all
          (λ i e lt same. subst (λ (desc : Descriptor). All (λ (child : Child). IsNumberOf desc.kind child.number)
          (get_or all i e).children) (desc i e lt same) (valid i e lt).numbers);
    }

family_is : (all : List Family) (frame : Frame) (family : Family) → IsFitting all frame → IsWhole all frame family → IsFamily
    family
family_is all frame family fits whole =
    let n = length_permutation (children_of frame.desc.name all) family.children whole.children in
    record {
      few = let few = fits.few in omega arith;
      fit = subst (λ (desc : Descriptor). All (λ (child : Child). length child.values ≡ length desc.labels) family.children)
          (sym whole.desc) (All-permutation (λ (child : Child). length child.values ≡ length frame.desc.labels) (children_of
          frame.desc.name all)
          family.children whole.children fits.fit);
      numbers = subst (λ (desc : Descriptor). All (λ (child : Child). IsNumberOf desc.kind child.number) family.children)
          (sym whole.desc) (All-permutation (λ (child : Child). IsNumberOf frame.desc.kind child.number) (children_of
          frame.desc.name all)
          family.children whole.children fits.numbers);
      ordered = whole.ordered;
    }

-- what is known before the merge
module _ (hs : List Held) (frames : FramesView) (parts : List Scraped) (is : map frame_of hs ≡ frames.families)
    (can : IsMergeable frames parts) (empty : All IsEmpty hs) where
  pub names_ordered : AllPairs IsNamedBefore hs
  names_ordered = pairs_unmap (λ (a b : Frame). IsBefore a.desc.name b.desc.name) frame_of hs
      (subst (AllPairs (λ (a b : Frame). IsBefore a.desc.name b.desc.name)) (sym is) can.ordered)

  pub names_known : All (IsKnown hs) (families_of parts)
  names_known = All-weaker (λ (family : Family). Contains (descs_of frames.families) family.desc)
      (IsKnown hs)
      (λ family known. subst (λ (names : List (List ℕ)). Contains names family.desc.name) names_are
      (contains_map (λ (desc : Descriptor). desc.name) (descs_of frames.families) family.desc known))
      (families_of parts) can.known
    where
      names : (hs : List Held) → map (λ (desc : Descriptor). desc.name) (descs_of (map frame_of hs)) ≡ map name_of hs
      names [] = refl
      names (held ∷ hs) = ap (λ l. name_of held ∷ l) (names hs)

      names_are : map (λ (desc : Descriptor). desc.name) (descs_of frames.families) ≡ map name_of hs
      names_are = ap (λ (fs : List Frame). map (λ (desc : Descriptor). desc.name) (descs_of fs)) (sym is) ∙ names hs

  pub has_room : All (HasRoomFor (families_of parts)) hs
  has_room k d within =
      let room : HasRoom (families_of parts) (frame_of (get_or hs k d)) =
      all_unmap (HasRoom (families_of parts)) frame_of hs (subst (All (HasRoom (families_of parts))) (sym is) can.room) k d within
      in
      let none = (empty k d within).children in
      let length_is : length (get_or hs k d).children.items ≡ 0 = ap length none in
      record {
        one = room.0;
        none = λ single some. none;
        many = λ many. let fits = room.1 many in omega arith;
      }

  -- and when the families were fed
  module _ (grown : List Held) (fed : AllZip (IsFed (families_of parts)) hs grown) where
    pub showable : All IsShowable grown
    showable = zip_all (λ held. IsEmpty held
        × AllPairs (λ (a b : Child). a.values ≢ b.values) (children_of (name_of held) (families_of parts)))
        (IsFed (families_of parts)) IsShowable
        (λ a b known fed. record {
          marked = fed.marked (λ said. subst (AllPairs IsChildBefore) (sym known.0.children)
              (λ i j d lt within. absurd (omega arith)));
          distinct = subst (AllPairs (λ (a b : Child). a.values ≢ b.values))
              (sym (fed.children ∙ ap (λ l. l ++ children_of (name_of a) (families_of parts)) known.0.children)) known.1;
        }) hs grown
        (λ k d within. (
          empty k d within,
          all_unmap (λ (frame : Frame). AllPairs (λ (a b : Child). a.values ≢ b.values) (children_of frame.desc.name (families_of
              parts)))
              frame_of hs (subst (All (λ (frame : Frame). AllPairs (λ (a b : Child). a.values ≢ b.values)
              (children_of frame.desc.name (families_of parts)))) (sym is) can.distinct) k d within,
        ))
        fed

    -- and shown
    module _ (shown : List Family) (shows : AllZip IsShown grown shown) (valid : All IsFamily (families_of parts)) where
      wholes : AllZip (IsWhole (families_of parts)) frames.families shown
      wholes = subst (λ (fs : List Frame). AllZip (IsWhole (families_of parts)) fs shown) is
          (zip_made (IsWhole (families_of parts)) frame_of hs shown
          (zip_then (λ a b. IsEmpty a × IsFed (families_of parts) a b) IsShown
          (λ held family. IsWhole (families_of parts) (frame_of held) family)
          (λ a b family known shown. record {
            desc = shown.desc ∙ known.1.desc;
            children = subst (λ (l : List Child). IsPermutation l family.children)
                (known.1.children ∙ ap (λ l. l ++ children_of (name_of a) (families_of parts)) known.0.children) shown.children;
            ordered = shown.ordered;
          }) hs grown shown (zip_known IsEmpty (IsFed (families_of parts)) hs grown empty fed) shows))

      descs : map (λ (family : Family). family.desc) shown ≡ descs_of frames.families
      descs = zip_map (IsWhole (families_of parts)) (λ (frame : Frame). frame.desc) (λ (family : Family). family.desc)
          (λ frame family whole. whole.desc) frames.families shown wholes

      pub is_scrape : (vector : List ℕ) → IsScrape (record { vector = vector; families = shown })
      is_scrape vector = record {
        few = let few = can.few in let n = zip_length (IsWhole (families_of parts)) frames.families shown wholes in omega arith;
        each = zip_all (IsFitting (families_of parts)) (IsWhole (families_of parts)) IsFamily (family_is (families_of parts))
            frames.families shown (fitting frames parts can valid) wholes;
        ordered = pairs_same (λ (a b : Descriptor). IsBefore a.name b.name) (λ (frame : Frame). frame.desc)
            (λ (family : Family). family.desc) frames.families shown descs can.ordered;
        apart = pairs_same (λ (a b : Descriptor). ¬ (Clash a b)) (λ (frame : Frame). frame.desc)
            (λ (family : Family). family.desc) frames.families shown descs can.apart;
      }

      pub is_merged : (vector : List ℕ) (whole : Scraped) → vector ≡ flat_map (λ (part : Scraped). part.vector) parts
          → whole ≡ record { vector = vector; families = shown } → IsMerged (descs_of frames.families) parts whole
      is_merged vector whole row made = subst (IsMerged (descs_of frames.families) parts) (sym made) (record {
        vector = row;
        families = descs;
        children = zip_all (IsFitting (families_of parts)) (IsWhole (families_of parts))
            (λ (family : Family). IsPermutation (children_of family.desc.name (families_of parts)) family.children)
            (λ frame family fits whole.
            subst (λ (desc : Descriptor). IsPermutation (children_of desc.name (families_of parts)) family.children)
            (sym whole.desc) whole.children)
            frames.families shown (fitting frames parts can valid) wholes;
      })
