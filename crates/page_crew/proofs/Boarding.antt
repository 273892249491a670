-- A page whose boards' ids follow each other grows by a board.
use Rattle.std.proofs.Common.{◌≡◌, ℕ, ◌+◌, ◌<◌, ◌≤◌, ◌⊎◌, List, [], ◌∷◌, ◌++◌, length, get_or, sym, ap, subst, ◌∙◌, arith}
use Rattle.std.proofs.Common.{inl, inr}
use Rattle.std.proofs.lemmas.Option.{slice_get-get_or, slice_get_cases}
use Rattle.ledger_core.proofs.Placing.{at_push}
use Rattle.registry_state.specs.Kept.{RegistryView}
use Rattle.registry_state.specs.Replay.{nothing}
use Rattle.rtrb.specs.Ring.{known_free}
use Rattle.scrape_page.specs.Faults.{IsFresh, IsBoardFault}
use Rattle.scrape_page.specs.declared.fault.BoardFault.{BoardFault}
use Rattle.scrape_page.specs.declared.fault.BoardFault.TheVariants.{TooManyBoards, NotFresh}
use Rattle.page_crew.specs.Boards.{AreNumbered}
use Rattle.page_crew.specs.Rings.{Ring, AreGiven, HaveRoom}
use Rattle.page_crew.specs.declared.shared_recorder.SharedRecorder.{SharedRecorder}

module _ {S : Type 0} (first : ℕ) (boards : List (RegistryView S)) (numbered : AreNumbered first boards) (board : RegistryView S)
    (id : board.id ≡ first + length boards) where
  -- the board behind them has the next id
  pub numbered_more : AreNumbered first (boards ++ board ∷ [])
  numbered_more k x at = elim (at_push boards board k x at) [
    | inl last ↦ ap (λ (b : RegistryView S). b.id) (sym last.1) ∙ id ∙ ap (λ n. first + n) (sym last.0)
    | inr there ↦ numbered k x there.1
  ]

  -- a page with these boards takes it, where nothing is registered on it
  pub fresh_behind : board.state ≡ nothing → IsFresh boards board
  fresh_behind state = record {
    empty = ap (λ s. length s.families) state;
    new = λ k d within same.
        let is : (get_or boards k d).id ≡ first + k = numbered k (get_or boards k d) (slice_get-get_or boards k d within) in
        omega (arith, is, same, id, within);
  }

  -- so no reason is left but memory
  pub never_refused : board.state ≡ nothing → length boards < 96 → (fault : BoardFault) → IsBoardFault boards board fault
      → (fault ≡ TooManyBoards) ⊎ (fault ≡ NotFresh) → ⊥
  never_refused state few fault is which = elim which [
    | inl many ↦ let most : 96 ≤ length boards = subst (IsBoardFault boards board) many is in omega (arith, most, few)
    | inr stale ↦ (subst (IsBoardFault boards board) stale is).1 (fresh_behind state)
  ]

-- each ring was given one recorder more, and one board more is there: there is room for those of the boards that may still come
pub room_left : {N C H G : ℕ} (boards boards' : ℕ) (old new : List (Ring N C H G)) (recorders : List (SharedRecorder N C H G))
    → boards' ≡ boards + 1 → AreGiven old new recorders → HaveRoom boards old → HaveRoom boards' new
room_left {N} {C} {H} {G} boards boards' old new recorders more given room k d within =
    let many = given.many in
    let all = given.all in
    let in_old : k < length old = omega (arith, within, many) in
    elim (slice_get_cases recorders k).1 [
      | inl there ↦
          let left = (given.given k (get_or old k d) (get_or new k d) there.0 (slice_get-get_or old k d in_old)
          (slice_get-get_or new k d within) there.2).2 in
          let before : 96 ≤ known_free (get_or old k d) + boards = room k d in_old in
          omega (arith, left, before, more)
      | inr none ↦ absurd (let past = none.0 in omega (arith, past, in_old, all))
    ]
