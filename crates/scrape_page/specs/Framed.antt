-- The families of a merge, as a page makes them.
use Rattle.std.specs.Prelude.{◌≡◌, ℕ, ◌≤◌, true, false, List, length, slice_get, IsSomeAnd}
use Rattle.std.specs.List.{AllZip}
use Rattle.scrape_merge.specs.Frames.{Frame}
use Rattle.scrape_page.specs.Families.{PageFamily}

-- a family of a page as one of a merge: it has one part at most, whose children are taken as they are, or else there is room for
-- all of its children
pub record IsFrameOf (frame : Frame) (family : PageFamily) : Type 0 where
  pub desc : frame.desc ≡ family.desc
  pub single : frame.single ≡ true → length family.parts ≤ 1
  pub room : frame.single ≡ false → family.children ≤ frame.room

-- the families of these numbers, in this order
abbrev pub AreFrames : List PageFamily → (order : List ℕ) → List Frame → Type 0
AreFrames families order frames =
    AllZip (λ (number : ℕ) (frame : Frame). IsSomeAnd (slice_get families number) (IsFrameOf frame)) order frames
