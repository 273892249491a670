-- The families of a merge, one by one.
use Rattle.std.proofs.Common.{◌≡◌, ℕ, ◌+◌, ◌<◌, ◌≤◌, Some, None, List, [], ◌∷◌, ◌++◌, length, take, get_or, slice_get}
use Rattle.std.proofs.Common.{IsSomeAnd, refl, sym, ap, subst, ◌∙◌}
use mathlib.Core.Bool.{true≢false}
use Rattle.std.proofs.lemmas.List.{take_more}
use Rattle.std.proofs.lemmas.Option.{slice_get_read}
use Rattle.registry_state.proofs.Making.{some_at}
use Rattle.scrape_merge.specs.Frames.{Frame, FramesView, IsFrameFor, IsPushed}
use Rattle.scrape_merge.proofs.Zipped.{zip_push}
use Rattle.scrape_page.specs.Families.{PageFamily}
use Rattle.scrape_page.specs.Framed.{IsFrameOf, AreFrames}

-- room for none
of_few : (frame : Frame) (family : PageFamily) → IsFrameFor family.desc None frame → length family.parts ≤ 1 → IsFrameOf frame
    family
of_few frame family is few = record {
  desc = is.desc;
  single = λ single. few;
  room = λ many. absurd (true≢false (sym is.single ∙ many));
}

-- room for all children
of_many : (frame : Frame) (family : PageFamily) → IsFrameFor family.desc (Some family.children) frame → IsFrameOf frame family
of_many frame family is = record {
  desc = is.desc;
  single = λ single. absurd (true≢false (sym single ∙ is.single));
  room = λ many. is.room;
}

-- one family more
module _ (families : List PageFamily) (order : List ℕ) (i number : ℕ) (family : PageFamily) (old new : FramesView)
    (within : i < length order) (here : number ≡ get_or order i number) (there : number < length families)
    (is : family ≡ get_or families number family) (before : AreFrames families (take i order) old.families) where
  more : (frame : Frame) → IsFrameOf frame family → new.families ≡ old.families ++ frame ∷ []
      → AreFrames families (take (i + 1) order) new.families
  more frame of pushed =
      let front : take (i + 1) order ≡ take i order ++ number ∷ [] =
      take_more order i number within ∙ ap (λ k. take i order ++ k ∷ []) (sym here) in
      subst (λ (frames : List Frame). AreFrames families (take (i + 1) order) frames) (sym pushed)
      (subst (λ (numbers : List ℕ). AreFrames families numbers (old.families ++ frame ∷ [])) (sym front)
      (zip_push (λ (number : ℕ) (frame : Frame). IsSomeAnd (slice_get families number) (IsFrameOf frame)) (take i order)
      old.families
      number frame before
      (some_at (IsFrameOf frame) families number family (slice_get_read families (length families) number family refl there is)
      of)))

  pub more_single : IsPushed family.desc None old new → length family.parts ≤ 1 → AreFrames families (take (i + 1) order)
      new.families
  more_single pushed few = more pushed.frame (of_few pushed.frame family pushed.is few) pushed.families

  pub more_many : IsPushed family.desc (Some family.children) old new → AreFrames families (take (i + 1) order) new.families
  more_many pushed = more pushed.frame (of_many pushed.frame family pushed.is) pushed.families
