-- What a merge holds.
use Rattle.std.specs.Prelude.{◌≡◌, ◌≢◌, ℕ, ◌+◌, ◌≤◌, true, false, List, [], ◌++◌, length, map, All, AllPairs, Contains}
use Rattle.std.specs.Arc.{arc_value}
use Rattle.std.specs.Global.{Vec}
use Rattle.std.specs.Vec.{vec_len, vec_capacity}
use Rattle.std.specs.List.Sorted.{IsPermutation}
use Rattle.expo_text.specs.Scraped.{Child, Family}
use Rattle.expo_text.specs.Order.{IsBefore, IsChildBefore}
use Rattle.scrape_merge.specs.Frames.{Frame}
use Rattle.scrape_merge.specs.Merged.{named, children_of}
use Rattle.scrape_merge.specs.declared.frames.Frame.{Frame as Held}

-- what contracts see of a family of a merge
abbrev pub frame_of : Held → Frame
frame_of held = record { desc = arc_value held.desc; single = held.single; room = vec_capacity held.children }

-- nothing was merged into it
pub record IsEmpty (held : Held) : Type 0 where
  pub children : held.children.items ≡ []
  pub ordered : held.ordered ≡ true

-- nothing was merged, and there is room to show each family
pub record IsReady (vector : Vec ℕ) (families : Vec Held) (shown : Vec Family) : Type 0 where
  pub no_numbers : vector.items ≡ []
  pub none_shown : shown.items ≡ []
  pub each : All IsEmpty families.items
  pub room : vec_len families ≤ vec_capacity shown

-- its name
abbrev pub name_of : Held → List ℕ
name_of held = (arc_value held.desc).name

-- one family's name stands before another's
abbrev pub IsNamedBefore : Held → Held → Type 0
IsNamedBefore a b = IsBefore (name_of a) (name_of b)

-- one of these has the family's name
abbrev pub IsKnown : List Held → Family → Type 0
IsKnown frames family = Contains (map name_of frames) family.desc.name

-- the children are in strict order where they are marked so
abbrev pub IsMarked : Held → Type 0
IsMarked held = held.ordered ≡ true → AllPairs IsChildBefore held.children.items

-- there is room for more children: of a family at most, into one that has none, or else behind those that it has
pub record HasRoomFor (families : List Family) (held : Held) : Type 0 where
  pub one : held.single ≡ true → length (named (name_of held) families) ≤ 1
  pub none : held.single ≡ true → 1 ≤ length (named (name_of held) families) → held.children.items ≡ []
  pub many : held.single ≡ false
      → length held.children.items + length (children_of (name_of held) families) ≤ vec_capacity held.children

-- more children stand behind those that it had
pub record IsGrown (more : List Child) (old new : Held) : Type 0 where
  pub desc : arc_value new.desc ≡ arc_value old.desc
  pub single : new.single ≡ old.single
  pub children : new.children.items ≡ old.children.items ++ more
  pub room : old.single ≡ false → vec_capacity old.children ≤ vec_capacity new.children
  pub marked : IsMarked old → IsMarked new

-- the children of these families that have its name stand behind those that it had
abbrev pub IsFed : List Family → Held → Held → Type 0
IsFed families old new = IsGrown (children_of (name_of old) families) old new

-- it is shown: its children, in strict order
pub record IsShown (held : Held) (family : Family) : Type 0 where
  pub desc : family.desc ≡ arc_value held.desc
  pub children : IsPermutation held.children.items family.children
  pub ordered : AllPairs IsChildBefore family.children

-- its children can be put in strict order
pub record IsShowable (held : Held) : Type 0 where
  pub marked : IsMarked held
  pub distinct : AllPairs (λ (a b : Child). a.values ≢ b.values) held.children.items
