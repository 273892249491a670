-- Changes that are no list of one board.
use Rattle.std.proofs.Common.{ℕ, List, inl, inr, refl, sym, ◌∙◌, arith, slice_index_or}
use Rattle.page_crew.specs.declared.page_recorder.PageRecorder.{PageRecorder}
use Rattle.dirgwako_c.specs.Changes.{IsNoList, AreOfNoBoard, Publishes}
use Rattle.dirgwako_c.specs.declared.change.Change.{Change}

-- where one is not of the board of the first, they are of no board
no_board : (changes : List Change) (d : Change) (number : ℕ) → IsNoList (slice_index_or changes 0 d).registry changes number
    → AreOfNoBoard changes number
no_board changes d number (inl apart) = inl (
  apart.0,
  λ id all. apart.1 (λ k e within. all k e within ∙ sym (all 0 d (omega
      arith))),
)
no_board changes d number (inr none) = inr none

-- then nothing is published
pub publishes_none : {N C H G : ℕ} (most : ℕ) (changes : List Change) (d : Change) (number : ℕ) (r : PageRecorder N C H G)
    → IsNoList (slice_index_or changes 0 d).registry changes number → Publishes most changes number r r
publishes_none most changes d number r fault = inr (inr (inl (no_board changes d number fault, refl)))
