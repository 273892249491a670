-- What the owner of a page tells its scrapers.
use Rattle.std.proofs.Common.{◌≡◌, ◌≢◌, ℕ, zero, suc, ◌+◌, ◌<◌, ◌≤◌, List, [], ◌∷◌, ◌++◌, Some, length, slice_get, set, All}
use Rattle.std.proofs.Common.{Box, refl, sym, ap, subst, ◌∙◌, arith, inl, inr}
use Rattle.std.specs.Prelude.{◌⊎◌, Result, Ok, Err, IfOk, IfErr, OnErr, Option, None, MatchOption}
use Rattle.std.specs.declared.alloc.Global.{Global}
use Rattle.std.specs.Arc.{arc_value}
use Rattle.std.proofs.lemmas.Option.{none-some}
use Rattle.registry_state.specs.declared.handle.Handle.{Handle}
use Rattle.rtrb.specs.Ring.{known_free}
use Rattle.scrape_page.specs.Calls.{IsGivenOnPage, LeavesPage, AddsChild, WasFound, WasMadeThere, WasMadeFurther}
use Rattle.scrape_page.specs.Families.{PageFamily, PageView}
use Rattle.scrape_page.specs.declared.fault.PageChildFault.{PageChildFault}
use Rattle.scrape_page.specs.declared.fault.PageChildFault.TheVariants.{NoSuchFamily, LabelCount, TooManyChildren, Full, NoMemory}
use Rattle.page_crew.specs.News.{NewsRing, AreReady, AreTold, IsBoardNews}
use Rattle.page_crew.specs.Owned.{page_of, first_of, IsUnchanged, PageDid}
use Rattle.page_crew.specs.Rings.{AreGiven}
use Rattle.page_crew.specs.Told.{news_of, HasToldBoard, HasToldChild, HasToldFurther, HasToldGiven, HasToldBoards, GrewAndTold}
use Rattle.page_crew.specs.declared.news.PageNews.{PageNews}
use Rattle.page_crew.specs.declared.owner.PageCrew.{PageCrew}
use Rattle.page_crew.specs.declared.shared_scanner.SharedScanner.{SharedScanner}
use Rattle.page_crew.proofs.Further.{grown_from}
use Rattle.page_crew.proofs.Steady.{child_keeps}

-- what was written is there
set_at : {X : Type 0} (xs : List X) (i : ℕ) (x y : X) → slice_get xs i ≡ Some x → slice_get (set xs i y) i ≡ Some y
set_at [] i x y is = absurd (none-some x is)
set_at (z ∷ xs) zero x y is = refl
set_at (z ∷ xs) (suc i) x y is = set_at xs i x y is

-- so many children has the family of this number
abbrev pub HasChildren : List PageFamily → (number count : ℕ) → Type 0
HasChildren families number count =
    MatchOption (slice_get families number) (count ≡ 0) (λ (it : PageFamily). count ≡ it.children)

children_is : (families : List PageFamily) (number count : ℕ) (it : PageFamily) → slice_get families number ≡ Some it
    → HasChildren families number count → count ≡ it.children
children_is families number count it is has =
    subst (λ (o : Option PageFamily). MatchOption o (count ≡ 0) (λ (f : PageFamily). count ≡ f.children)) is has

has_children : (families : List PageFamily) (number : ℕ) (it : PageFamily) → slice_get families number ≡ Some it
    → HasChildren families number it.children
has_children families number it is =
    subst (λ (o : Option PageFamily). MatchOption o (it.children ≡ 0) (λ (f : PageFamily). it.children ≡ f.children)) (sym is)
    refl

module _ {S : Type 0} (c h g : ℕ) (number : ℕ) (values : List (List ℕ)) (handle : Handle) where
  -- a child more, where one was made
  one_more : (a b : PageView S) → ((part : _) × AddsChild c h g a b number part values handle) → (before after : ℕ)
      → HasChildren a.families number before → HasChildren b.families number after → after ≡ before + 1
  one_more a b (part, made) before after was is =
      let family = made.family in
      let more : PageFamily = record family { children = family.children + 1 } in
      let had : before ≡ family.children = children_is a.families number before family made.it was in
      let there : slice_get b.families number ≡ Some more =
      subst (λ (l : List PageFamily). slice_get l number ≡ Some more) (sym made.families) (set_at a.families number family more
      made.it) in
      let has : after ≡ family.children + 1 = children_is b.families number after more there is in
      omega (arith, had, has)

  more_there : (a b : PageView S) → WasMadeThere c h g a b number values handle → (before after : ℕ) → HasChildren a.families
      number before
      → HasChildren b.families number after → after ≡ before + 1
  more_there a b made before after was is = one_more a b (made.part, made.made) before after was is

  more_further : (a b : PageView S) → WasMadeFurther c h g a b number values handle → (before after : ℕ) → HasChildren a.families
      number before
      → HasChildren b.families number after → after ≡ before + 1
  more_further a b made before after was is =
      let mid = made.mid in
      let took = made.taken.taken in
      let family = took.family in
      let wider : PageFamily = record family { parts = family.parts ++ made.part ∷ [] } in
      let had : before ≡ family.children = children_is a.families number before family took.it was in
      let there : slice_get mid.families number ≡ Some wider =
      subst (λ (l : List PageFamily). slice_get l number ≡ Some wider) (sym took.families) (set_at a.families number family wider
      took.it) in
      one_more mid b (made.part, made.made) before after
      (subst (λ (o : Option PageFamily). MatchOption o (before ≡ 0) (λ (f : PageFamily). before ≡ f.children)) (sym there) had) is

  module _ (a b : PageView S) (before after : ℕ) (was : HasChildren a.families number before) (is : HasChildren b.families number
      after) where
    -- it has as many as before, so the child was there
    pub was_found : after ≡ before → IsGivenOnPage c h g a b number values handle → WasFound c h g a b number values handle
    was_found same (inl found) = found
    was_found same (inr (inl there)) = absurd (let more = more_there a b there before after was is in omega (arith, same, more))
    was_found same (inr (inr further)) = absurd (let more = more_further a b further before after was is in omega (
      arith,
      same,
      more,
    ))

    -- it has others, so it was made
    pub was_made : after ≢ before → IsGivenOnPage c h g a b number values handle
        → WasMadeThere c h g a b number values handle ⊎ WasMadeFurther c h g a b number values handle
    was_made differ (inl found) = absurd (differ (counts a.families before after was
        (subst (λ (p : PageView S). HasChildren p.families number after) found.same is)))
      where
        counts : (families : List PageFamily) (m n : ℕ) → HasChildren families number m → HasChildren families number n → n ≡ m
        counts families m n one two = same_count (slice_get families number) m n one two
          where
            same_count : (o : Option PageFamily) (m n : ℕ) → MatchOption o (m ≡ 0) (λ (f : PageFamily). m ≡ f.children)
                → MatchOption o (n ≡ 0) (λ (f : PageFamily). n ≡ f.children) → n ≡ m
            same_count None m n one two = two ∙ sym one
            same_count (Some f) m n one two = two ∙ sym one
    was_made differ (inr made) = made

-- where the page is as it was, the child was there
found_still : {S : Type 0} (c h g : ℕ) (number : ℕ) (values : List (List ℕ)) (handle : Handle) (a : PageView S)
    → IsGivenOnPage c h g a a number values handle → WasFound c h g a a number values handle
found_still c h g number values handle a (inl found) = found
found_still c h g number values handle a (inr (inl there)) =
    let has = has_children a.families number there.made.family there.made.it in
    absurd (let more = more_there c h g number values handle a a there there.made.family.children there.made.family.children has
    has in
    omega (arith, more))
found_still c h g number values handle a (inr (inr further)) =
    let took = further.taken.taken in
    let has = has_children a.families number took.family took.it in
    absurd (let more = more_further c h g number values handle a a further took.family.children took.family.children has has in
    omega (arith, more))

-- what a refusal leaves, memory may leave
may_leave : {S : Type 0} (c h g : ℕ) (a b : PageView S) (number : ℕ) (why : PageChildFault) → LeavesPage c h g a b number why
    → LeavesPage c h g a b number NoMemory
may_leave c h g a b number NoSuchFamily same = inl same
may_leave c h g a b number (LabelCount want got) same = inl same
may_leave c h g a b number TooManyChildren same = inl same
may_leave c h g a b number (Full kind many) same = inl same
may_leave c h g a b number NoMemory left = left

module _ {N C H G : ℕ} where
  -- the child was there, and nobody was told
  pub told_there : (crew : PageCrew N C H G) (number : ℕ) (values : List (List ℕ)) (r : Result Handle PageChildFault)
      → IfOk r (IsGivenOnPage C H G (page_of crew) (page_of crew) number values) → IfOk r (HasToldChild crew crew number values)
  told_there crew number values (Ok handle) given = inl (found_still C H G number values handle (page_of crew) given, refl)
  told_there crew number values (Err why) given = tt

  -- rings were given what was ready for them
  module _ (Says : PageNews N C H G → Type 0) (old was lent lent' new : List (NewsRing N C H G)) (news : List (Box (PageNews N C H
      G) Global))
      (was_is : was ≡ old) (lent_is : lent ≡ old) (new_is : new ≡ lent') (ready : AreReady Says was news) where
    pub may_tell : (length news ≡ length lent) × All (λ (p : NewsRing N C H G). 0 < known_free p) lent
    may_tell = (
      ready.many ∙ ap length (was_is ∙ sym lent_is),
      subst (λ (l : List (NewsRing N C H G)). All (λ (p : NewsRing N C H G). 0 < known_free p) l) (was_is ∙ sym lent_is)
          ready.room,
    )

    pub are_told : AreGiven lent lent' news → AreTold Says old new
    are_told given = record {
      news = news;
      given = subst (λ (l : List (NewsRing N C H G)). AreGiven old l news) (sym new_is)
          (subst (λ (l : List (NewsRing N C H G)). AreGiven l lent' news) lent_is given);
      says = ready.says;
    }

  pub as_many : (Says : PageNews N C H G → Type 0) (old new : List (NewsRing N C H G)) → AreTold Says old new → length old ≤ 3 →
      length new ≤ 3
  as_many Says old new told few = let many = told.given.many in omega (arith, many, few)

  module _ (old mid new : PageCrew N C H G) (same : IsUnchanged old mid) (news : news_of mid ≡ news_of old) where
    board_from : HasToldBoard mid new → HasToldBoard old new
    board_from told = record {
      board = told.board;
      page = told.page ∙ ap (λ (p : PageView (SharedScanner N C H G)). record p { boards = p.boards ++ told.board ∷ [] }) same.1;
      told = subst (λ (l : List (NewsRing N C H G)). AreTold (IsBoardNews (arc_value told.board.source.board)
          (first_of old + length (page_of old).boards)) l (news_of new)) news
          (subst (λ (p : PageView (SharedScanner N C H G)). AreTold (IsBoardNews (arc_value told.board.source.board)
          (first_of old + length p.boards)) (news_of mid) (news_of new)) same.1
          (subst (λ f. AreTold (IsBoardNews (arc_value told.board.source.board)
          (f + length (page_of mid).boards)) (news_of mid) (news_of new)) same.0.0 told.told));
    }

    grew_from : GrewAndTold mid new → GrewAndTold old new
    grew_from grew = record { grown = grown_from old mid new same grew.grown; told = board_from grew.told }

  -- a board came, and the page was asked again
  module _ (old mid new : PageCrew N C H G) (grew : GrewAndTold old mid) (number : ℕ) (values : List (List ℕ)) where
    pub told_further : (r : Result Handle PageChildFault) → IfOk r (HasToldChild mid new number values)
        → IfOk r (HasToldFurther old new number values)
    told_further (Ok handle) told = (mid, grew, told)
    told_further (Err why) told = tt

    pub untold_further : (r : Result Handle PageChildFault) → OnErr r (news_of new ≡ news_of mid)
        → IfErr r (λ why. PageDid mid new (λ a b. LeavesPage C H G a b number why)) → OnErr r (HasToldBoards old new number)
    untold_further (Ok handle) news leaves = tt
    untold_further (Err why) news leaves =
        inr (mid, grew, (leaves.0, may_leave C H G (page_of mid) (page_of new) number why leaves.1, leaves.2), news)

  module _ (old new : PageCrew N C H G) (number : ℕ) (values : List (List ℕ)) where
    -- the page alone was asked
    pub told_once : (r : Result Handle PageChildFault) → IfOk r (HasToldChild old new number values)
        → IfOk r (HasToldGiven old new number values)
    told_once (Ok handle) told = inl told
    told_once (Err why) told = tt

    pub untold_once : (r : Result Handle PageChildFault) → OnErr r (news_of new ≡ news_of old)
        → IfErr r (λ why. PageDid old new (λ a b. LeavesPage C H G a b number why)) → OnErr r (HasToldBoards old new number)
    untold_once (Ok handle) news leaves = tt
    untold_once (Err why) news leaves =
        inl ((child_keeps C H G (page_of old) (page_of new) number values (Err why) tt leaves.1).many, news)

  -- nothing had changed before
  module _ (old mid : PageCrew N C H G) (same : IsUnchanged old mid) (news : news_of mid ≡ news_of old) (new : PageCrew N C H G)
      (number : ℕ)
      (values : List (List ℕ)) where
    pub told_then : (r : Result Handle PageChildFault) → IfOk r (HasToldFurther mid new number values)
        → IfOk r (HasToldGiven old new number values)
    told_then (Ok handle) (far, grew, told) = inr (far, grew_from old mid far same news grew, told)
    told_then (Err why) told = tt

    pub untold_then : (r : Result Handle PageChildFault) → OnErr r (HasToldBoards mid new number) → OnErr r (HasToldBoards old new
        number)
    untold_then (Ok handle) told = tt
    untold_then (Err why) (inl none) =
        inl (none.0 ∙ ap (λ (p : PageView (SharedScanner N C H G)). length p.boards) same.1, none.1 ∙ news)
    untold_then (Err why) (inr (far, grew, many, none)) = inr (far, grew_from old mid far same news grew, many, none)
