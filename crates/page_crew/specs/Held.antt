-- What contracts see of a page's recorder.
use Rattle.std.specs.Prelude.{◌≡◌, ℕ, List, []}
use Rattle.std.specs.declared.alloc.Global.{Global}
use Rattle.rtrb.specs.declared.consumer.Consumer.{Consumer}
use Rattle.rtrb.specs.declared.AnyItems.{AnyItems}
use Rattle.page_crew.specs.declared.page_recorder.PageRecorder.{PageRecorder}
use Rattle.page_crew.specs.declared.shared_recorder.SharedRecorder.{SharedRecorder}

module _ {N C H G : ℕ} where
  -- what a page's recorder counts with: its recorder of each board that it knows, by the board's number
  abbrev pub recorders_of : PageRecorder N C H G → List (SharedRecorder N C H G)
  recorders_of r = r.recorders.items

  -- the id of the page's first board
  abbrev pub first_of : PageRecorder N C H G → ℕ
  first_of r = r.first

  -- its end of the ring by which it gets its recorders of boards that come later
  abbrev pub feed_of : PageRecorder N C H G → Consumer (SharedRecorder N C H G) Global AnyItems
  feed_of r = r.more

  -- it knows no board yet, and the first has this id
  abbrev pub HasNone : (first : ℕ) → PageRecorder N C H G → Type 0
  HasNone first r = (recorders_of r ≡ []) × (first_of r ≡ first)
