-- What a merge knows of its families before it.
use Rattle.std.specs.Prelude.{◌≡◌, ℕ, ◌≤◌, Bool, List, [], ◌∷◌, ◌++◌, map, Option, is_none, IfSome}
use Rattle.metric_desc.specs.Desc.{Descriptor}

-- a family of a merge: what it is; whether one family at most is merged into it, whose children it then takes as they are; and
-- else for how many children there is room
pub record Frame : Type 0 where
  pub desc : Descriptor
  pub single : Bool
  pub room : ℕ

-- the families, in the order of the text, and for how many numbers of the vectors there is room
pub record FramesView : Type 0 where
  pub numbers : ℕ
  pub families : List Frame

-- what the families are
abbrev pub descs_of : List Frame → List Descriptor
descs_of frames = map (λ (frame : Frame). frame.desc) frames

-- a family of this descriptor, with room for so many children, or for those of one family
pub record IsFrameFor (it : Descriptor) (children : Option ℕ) (frame : Frame) : Type 0 where
  pub desc : frame.desc ≡ it
  pub single : frame.single ≡ is_none children
  pub room : IfSome children (λ (n : ℕ). n ≤ frame.room)

-- such a family stands behind the others, and nothing else has changed
pub record IsPushed (desc : Descriptor) (room : Option ℕ) (old new : FramesView) : Type 0 where
  pub frame : Frame
  pub is : IsFrameFor desc room frame
  pub families : new.families ≡ old.families ++ frame ∷ []
  pub numbers : new.numbers ≡ old.numbers
