-- How many slots of a kind are free on a board, and which board has most.
use Rattle.std.proofs.Common.{◌≡◌, ℕ, ◌+◌, ◌-◌, ◌<◌, ◌≤◌, List, length, take, get_or, Some, slice_get, IsSomeAnd, All, refl}
use Rattle.std.proofs.Common.{◌⊎◌, subst, arith, inl, inr}
use Rattle.std.proofs.lemmas.Bool.{cases_lt}
use Rattle.std.proofs.lemmas.List.{take_all}
use Rattle.std.proofs.lemmas.List.Elements.{All-nil, All-more, All-weaker}
use Rattle.std.proofs.lemmas.Option.{slice_get_read}
use Rattle.metric_desc.specs.declared.kind.Kind.{Kind}
use Rattle.registry_state.specs.Replay.{Family, slots}
use Rattle.registry_state.specs.Faults.{AreFree, HasSlot}
use Rattle.registry_state.specs.Kept.{RegistryView}
use Rattle.registry_state.proofs.Making.{some_at}
use Rattle.scrape_page.specs.declared.family.Part.{Part}
use Rattle.scrape_page.specs.Rooms.{HasFree, HasRoom, AreFull, IsRoomiest, IsFullPart}

module _ (c h g : ℕ) (families : List Family) (kind : Kind) where
  -- of two counts of the free slots neither is more
  not_more : (m n : ℕ) → AreFree c h g families kind m → AreFree c h g families kind n → ¬ (n < m)
  not_more m n one two more =
      let within : m ≤ slots c h g kind = one.within in
      two.used (slots c h g kind - m) (omega arith) (one.free (slots c h g kind - m) (omega arith) (omega arith))

  pub count_most : (m n : ℕ) → AreFree c h g families kind m → AreFree c h g families kind n → m ≤ n
  count_most m n one two = elim (cases_lt n m) [ inl more ↦ absurd (not_more m n one two more) | inr le ↦ le ]

  pub some_free : (n : ℕ) → AreFree c h g families kind n → 0 < n → HasSlot c h g families kind
  some_free n are some =
      let within : n ≤ slots c h g kind = are.within in
      (slots c h g kind - 1, omega (arith, within, some), are.free (slots c h g kind - 1) (omega arith) (omega arith))

  pub none_free : (n : ℕ) → AreFree c h g families kind n → n ≡ 0 → ¬ (HasSlot c h g families kind)
  none_free n are none has = are.used has.0 (let lt = has.1 in omega (arith, lt, none)) has.2

-- so many free slots beside so many families are taken before these
abbrev pub Beats : (free count room families : ℕ) → Type 0
Beats free count room families = (room < free) ⊎ ((free ≡ room) × (count < families))

beats_room : (free count room families : ℕ) → Beats free count room families → room ≤ free
beats_room free count room families (inl more) = omega (arith, more)
beats_room free count room families (inr as_many) = let e = as_many.0 in omega (arith, e)

beats_families : (free count room families : ℕ) → Beats free count room families → free ≡ room → count < families
beats_families free count room families (inl more) e = absurd (omega (arith, more, e))
beats_families free count room families (inr as_many) e = as_many.1

beaten_room : (free count room families : ℕ) → ¬ (Beats free count room families) → free ≤ room
beaten_room free count room families not = elim (cases_lt room free) [ inl more ↦ absurd (not (inl more)) | inr le ↦ le ]

beaten_families : (free count room families : ℕ) → ¬ (Beats free count room families) → free ≡ room → families ≤ count
beaten_families free count room families not e =
    elim (cases_lt count families) [ inl fewer ↦ absurd (not (inr (e, fewer))) | inr le ↦ le ]

module _ {S : Type 0} (c h g : ℕ) (kind : Kind) (boards : List (RegistryView S)) where
  -- a board has no more free slots than this
  abbrev HasNoMore : ℕ → RegistryView S → Type 0
  HasNoMore room board = (count : ℕ) → HasFree c h g kind board count → count ≤ room

  -- where it has so many, it has so many families or more, or more
  abbrev HasAsMany : (room families : ℕ) → RegistryView S → Type 0
  HasAsMany room families board = HasFree c h g kind board room → families ≤ length board.state.families

  abbrev HasMore : (room families : ℕ) → RegistryView S → Type 0
  HasMore room families board = HasFree c h g kind board room → families < length board.state.families

  -- the board that `IsRoomiest` names among those before this number, and how many families it has; where it has no free slot,
  -- none of them has
  pub record IsBest (upto at room families : ℕ) : Type 0 where
    pub board : RegistryView S
    pub there : slice_get boards at ≡ Some board
    pub free : HasFree c h g kind board room
    pub count : families ≡ length board.state.families
    pub most : All (HasNoMore room) (take upto boards)
    pub fewest : All (HasAsMany room families) (take upto boards)
    pub first : All (HasMore room families) (take at boards)
    pub full : room ≡ 0 → AreFull c h g kind (take upto boards)

  pub best_none : (board : RegistryView S) (room families : ℕ) → 0 < length boards → board ≡ get_or boards 0 board
      → HasFree c h g kind board room → families ≡ length board.state.families → IsBest 0 0 room families
  best_none board room families some read has counted = record {
    board = board;
    there = slice_get_read boards (length boards) 0 board refl some read;
    free = has;
    count = counted;
    most = All-nil (HasNoMore room);
    fewest = All-nil (HasAsMany room families);
    first = All-nil (HasMore room families);
    full = λ _. All-nil (λ (b : RegistryView S). ¬ (HasRoom c h g kind b));
  }

  module _ (i at room families : ℕ) (board : RegistryView S) (free count : ℕ) (before : IsBest i at room families) (lt : i <
      length boards)
      (read : board ≡ get_or boards i board) (has : HasFree c h g kind board free) (counted : count ≡ length board.state.families)
    where
      -- where the board has as many free slots as this, it is this many
      same_free : (n : ℕ) → HasFree c h g kind board n → free ≡ n
      same_free n other =
          let up : free ≤ n = count_most c h g board.state.families kind free n has other in
          let down : n ≤ free = count_most c h g board.state.families kind n free other has in
          omega (arith, up, down)

      none_full : free ≡ 0 → room ≡ 0 → AreFull c h g kind (take (i + 1) boards)
      none_full none all = All-more (λ (b : RegistryView S). ¬ (HasRoom c h g kind b)) boards i board lt (before.full all)
          (subst (λ (b : RegistryView S). ¬ (HasRoom c h g kind b)) read (none_free c h g board.state.families kind free has none))

      -- one more, which is not taken before it
      pub best_stays : ¬ (Beats free count room families) → IsBest (i + 1) at room families
      best_stays not = record {
        board = before.board;
        there = before.there;
        free = before.free;
        count = before.count;
        most = All-more (HasNoMore room) boards i board lt before.most (subst (HasNoMore room) read
            (λ n other. let le : n ≤ free = count_most c h g board.state.families kind n free other has in omega (
              arith,
              le,
              no_more,
            )));
        fewest = All-more (HasAsMany room families) boards i board lt before.fewest (subst (HasAsMany room families) read
            (λ other. let le : families ≤ count = beaten_families free count room families not (same_free room other) in
            omega (arith, le, counted)));
        first = before.first;
        full = λ none. none_full (omega (arith, none, no_more)) none;
      }
        where
          no_more : free ≤ room
          no_more = beaten_room free count room families not

      -- one more, which is taken before it
      pub best_new : Beats free count room families → IsBest (i + 1) i free count
      best_new beats = record {
        board = board;
        there = slice_get_read boards (length boards) i board refl lt read;
        free = has;
        count = counted;
        most = All-more (HasNoMore free) boards i board lt
            (All-weaker (HasNoMore room) (HasNoMore free)
            (λ b le n is. let here : n ≤ room = le n is in omega (arith, here, no_less)) (take i boards) before.most)
            (subst (HasNoMore free) read (λ n is. count_most c h g board.state.families kind n free is has));
        fewest = All-more (HasAsMany free count) boards i board lt
            (All-weaker (HasMore free count) (HasAsMany free count)
            (λ b lt is. let here : count < length b.state.families = lt is in omega (arith, here)) (take i boards) more_before)
            (subst (HasAsMany free count) read (λ _. omega (arith, counted)));
        first = more_before;
        full = λ none. none_full none (omega (arith, none, no_less));
      }
        where
          no_less : room ≤ free
          no_less = beats_room free count room families beats

          more_there : (other : RegistryView S) → HasNoMore room other → HasAsMany room families other → HasMore free count other
          more_there other most fewest is =
              let le : free ≤ room = most free is in
              let e : free ≡ room = omega (arith, le, no_less) in
              let few : count < families = beats_families free count room families beats e in
              let as_many : families ≤ length other.state.families = fewest (subst (HasFree c h g kind other) e is) in
              omega (arith, few, as_many)

          more_before : All (HasMore free count) (take i boards)
          more_before k d within = more_there (get_or (take i boards) k d) (before.most k d within) (before.fewest k d within)

  pub best_all : (n at room families : ℕ) → length boards ≤ n → IsBest n at room families → IsRoomiest c h g kind boards at room
  best_all n at room families all is = record {
    board = is.board;
    there = is.there;
    free = is.free;
    most = subst (All (HasNoMore room)) (take_all n boards all) is.most;
    fewest = subst (λ n. All (HasAsMany room n) boards) is.count
        (subst (All (HasAsMany room families)) (take_all n boards all) is.fewest);
    first = subst (λ n. All (HasMore room n) (take at boards)) is.count is.first;
  }

  pub full_all : (n at room families : ℕ) → length boards ≤ n → IsBest n at room families → room ≡ 0 → AreFull c h g kind boards
  full_all n at room families all is none =
      subst (All (λ (b : RegistryView S). ¬ (HasRoom c h g kind b))) (take_all n boards all) (is.full none)

  -- the board with most free slots has room, if it has any
  pub room_there : (at room : ℕ) → IsRoomiest c h g kind boards at room → 0 < room
      → IsSomeAnd (slice_get boards at) (HasRoom c h g kind)
  room_there at room is some = some_at (HasRoom c h g kind) boards at is.board is.there
      (some_free c h g is.board.state.families kind room is.free some)

  -- a part that is on a board with so many free slots
  module _ (part : Part) (board : RegistryView S) (free : ℕ) (lt : part.board < length boards)
      (read : board ≡ get_or boards part.board board) (has : HasFree c h g kind board free) where
    on : slice_get boards part.board ≡ Some board
    on = slice_get_read boards (length boards) part.board board refl lt read

    pub full_part : free ≤ 0 → IsFullPart c h g kind boards part
    full_part none = some_at (λ (b : RegistryView S). ¬ (HasRoom c h g kind b)) boards part.board board on
        (none_free c h g board.state.families kind free has (omega (arith, none)))

    pub room_at : 0 < free → IsSomeAnd (slice_get boards part.board) (HasRoom c h g kind)
    room_at some = some_at (HasRoom c h g kind) boards part.board board on
        (some_free c h g board.state.families kind free has some)
