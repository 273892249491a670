-- What a page's owner has given to its recorders, each by a ring of its own, and how rings are given anything.
use Rattle.std.specs.Prelude.{◌≡◌, ℕ, ◌+◌, ◌≤◌, List, [], ◌∷◌, ◌++◌, Some, length, slice_get, All}
use Rattle.std.specs.declared.alloc.Global.{Global}
use Rattle.rtrb.specs.Ring.{sent, known_free, IsPair, SameProducer}
use Rattle.rtrb.specs.declared.producer.Producer.{Producer}
use Rattle.rtrb.specs.declared.AnyItems.{AnyItems}
use Rattle.page_crew.specs.declared.page_recorder.PageRecorder.{PageRecorder}
use Rattle.page_crew.specs.declared.shared_recorder.SharedRecorder.{SharedRecorder}
use Rattle.page_crew.specs.Held.{HasNone, feed_of}

-- the owner's end of a ring
abbrev pub Ring : (N C H G : ℕ) → Type 0
Ring N C H G = Producer (SharedRecorder N C H G) Global AnyItems

module _ {T : Type 0} where
  -- it is the same ring, and it was given this, behind what it was given before
  abbrev pub IsGiven : (p q : Producer T Global AnyItems) → T → Type 0
  IsGiven p q it = SameProducer p q × (sent q ≡ sent p ++ it ∷ []) × (known_free p ≡ known_free q + 1)

  -- each ring was given one thing more, in order
  pub record AreGiven (old new : List (Producer T Global AnyItems)) (items : List T) : Type 0 where
    pub many : length new ≡ length old
    pub all : length items ≡ length old
    pub given : (k : ℕ) (p q : Producer T Global AnyItems) (it : T) → slice_get old k ≡ Some p → slice_get new k ≡ Some q
        → slice_get items k ≡ Some it → IsGiven p q it

module _ {N C H G : ℕ} where
  -- there is room in each ring for the recorders of all boards that may still come to a page of so many
  abbrev pub HaveRoom : (boards : ℕ) → List (Ring N C H G) → Type 0
  HaveRoom boards rings = All (λ (p : Ring N C H G). 96 ≤ known_free p + boards) rings

  -- each ring and the recorder of its number have the two ends of one ring
  abbrev pub ArePaired : List (Ring N C H G) → List (PageRecorder N C H G) → Type 0
  ArePaired rings recorders = (k : ℕ) (p : Ring N C H G) (r : PageRecorder N C H G) → slice_get rings k ≡ Some p
      → slice_get recorders k ≡ Some r → IsPair p (feed_of r)

  -- N rings with room for 96 each, to which nothing was given, and N recorders of a page whose first board has this id, which
  -- know no board
  pub record AreOpen (first : ℕ) (rings : List (Ring N C H G)) (recorders : List (PageRecorder N C H G)) : Type 0 where
    pub rings_many : length rings ≡ N
    pub recorders_many : length recorders ≡ N
    pub empty : All (λ (p : Ring N C H G). (sent p ≡ []) × (known_free p ≡ 96)) rings
    pub none : All (HasNone first) recorders
    pub pairs : ArePaired rings recorders
